-- Whether the entries of a map and the lanes' free blocks name each block of an arena once. UEFI 2.10, section 6.3: each internal
-- block belongs to a sector or is a lane's free block.
use Rattle.std.specs.Prelude.{◌≡◌, ℕ, ◌+◌, ◌<◌, ◌==◌, nat_lt, nat_le, List, [], ◌∷◌, ◌++◌, length, find, count_by, All, min, slice_index, Option, Result}
use Rattle.std.specs.List.{range_with_len}
use Rattle.std.specs.Option.{option_map}
use Rattle.nvd_words.specs.Checks.{first_fault, fault_if, value_unless}
use Rattle.map_table.specs.declared.check.BlockFault.{BlockFault}
use Rattle.map_table.specs.declared.check.BlockFault.TheVariants.{Range, Twice, Count}
use Rattle.map_table.specs.Entry.{entry_of}

-- the blocks of entries, the first of which is that of `sector`
abbrev pub blocks_from : ℕ → List ℕ → List ℕ
blocks_from sector [] = []
blocks_from sector (word ∷ words) = (entry_of word sector).block ∷ blocks_from (sector + 1) words

-- the blocks that a map and the lanes' free list name
abbrev pub blocks_of : List ℕ → List ℕ → List ℕ
blocks_of entries free = blocks_from 0 entries ++ free

-- how often a list names a block
abbrev pub count_of : ℕ → List ℕ → ℕ
count_of block blocks = count_by (λ b. b == block) blocks

-- each block below `internal` is named once, and no other is named
pub record NamesEachOnce (internal : ℕ) (blocks : List ℕ) : Type 0 where
  pub below : All (λ block. block < internal) blocks
  pub once : (block : ℕ) → block < internal → count_of block blocks ≡ 1

-- the first block that isn't below `internal`
unfoldable pub first_outside : ℕ → List ℕ → Option ℕ
first_outside internal blocks = find (nat_le internal) blocks

-- the least block below `internal` that is named more than once
unfoldable pub least_twice : ℕ → List ℕ → Option ℕ
least_twice internal blocks = find (λ block. nat_lt 1 (count_of block blocks)) (range_with_len 0 internal)

-- the checks, in their order
abbrev pub block_faults : ℕ → List ℕ → List (Option BlockFault)
block_faults internal blocks =
    option_map Range (first_outside internal blocks)
    ∷ option_map Twice (least_twice internal blocks)
    ∷ fault_if (nat_lt (length blocks) internal) (Count internal (length blocks))
    ∷ []

-- the result of the check
abbrev pub block_check : ℕ → List ℕ → Result Unit BlockFault
block_check internal blocks = value_unless tt (first_fault (block_faults internal blocks))

-- the counts of the blocks below `internal`, continued over a list; a count stops at 2
abbrev pub IsCounted : ℕ → List ℕ → List ℕ → List ℕ → Type 0
IsCounted internal before now blocks =
    (block : ℕ) → block < internal → min 2 (slice_index now block) ≡ min 2 (slice_index before block + count_of block blocks)
