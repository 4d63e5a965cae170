-- The first two index blocks of an area: UEFI 2.10, section 13.19 (Seq); their order is this project's rule.
use Rattle.std.specs.Prelude.{◌≡◌, ◌⊎◌, ℕ, ◌+◌, ◌*◌, ◌<◌, ◌≤◌, true, List, ◌++◌, length, replicate, None, Err}
use Rattle.label_index.specs.declared.index.IndexBlock.{IndexBlock}
use Rattle.label_index.specs.declared.index.Side.{Side}
use Rattle.label_index.specs.declared.index.Side.TheVariants as side
use Rattle.label_index.specs.Area.{IsAreaSize, block_size_of, slots_of}
use Rattle.cut_words.specs.Words.{Step, IsLeftAfter}
use Rattle.cut_words.specs.WordBytes.{bytes_of}
use Rattle.label_area.specs.declared.fault.AreaFault.TheVariants.{NoIndex}
use Rattle.label_area.specs.Area.{block_in, slots_in}
use Rattle.label_area.specs.Change.{with_block, block_steps, count_of_steps}
use Rattle.label_area.specs.Whole.{Shows}

-- a block with all slots free
abbrev pub empty_block : ℕ → ℕ → Side → ℕ → IndexBlock
empty_block size slots s seq = record { side = s; seq = seq; size = size; slots = slots; free = replicate slots true }

abbrev pub half_words : List ℕ → ℕ → ℕ → List ℕ
half_words words size slots = with_block (empty_block size slots side.One 2) words

abbrev pub full_words : List ℕ → ℕ → ℕ → List ℕ
full_words words size slots = with_block (empty_block size slots side.Zero 3) (half_words words size slots)

-- the block of side One with Seq 2 and all slots free, then that of side Zero with Seq 3
abbrev pub init_steps : List ℕ → ℕ → ℕ → List Step
init_steps words size slots = block_steps (half_words words size slots) size side.One ++ block_steps (full_words words size slots) size side.Zero

-- an area that is refused as NoIndex
pub record IsInit (words : List ℕ) (size slots : ℕ) : Type 0 where
  pub area : IsAreaSize (length (bytes_of words))
  pub size_is : size ≡ block_size_of (length (bytes_of words))
  pub slots_is : slots ≡ slots_of (length (bytes_of words))
  pub refused : block_in (bytes_of words) ≡ Err NoIndex

-- all slots are free
abbrev pub IsEmpty : List ℕ → ℕ → ℕ → Side → ℕ → Type 0
IsEmpty left size slots s seq = Shows left (empty_block size slots s seq) (replicate slots None)

abbrev pub IsNoIndex : List ℕ → Type 0
IsNoIndex left = slots_in (bytes_of left) ≡ Err NoIndex

-- the area after a crash that follows n steps
pub record IsInitCut (size slots n : ℕ) (left : List ℕ) : Type 0 where
  pub before : n + 1 < count_of_steps size None → IsNoIndex left
  pub either : n + 1 ≡ count_of_steps size None → IsNoIndex left ⊎ IsEmpty left size slots side.One 2
  pub half : count_of_steps size None ≤ n → n + 1 < 2 * count_of_steps size None → IsEmpty left size slots side.One 2
  pub either_again : n + 1 ≡ 2 * count_of_steps size None → IsEmpty left size slots side.One 2 ⊎ IsEmpty left size slots side.Zero 3
  pub after : 2 * count_of_steps size None ≤ n → IsEmpty left size slots side.Zero 3

-- a law: a crash during these steps leaves an area without a valid block, or an empty one
abbrev pub InitIsWhole : Type 0
InitIsWhole = (words : List ℕ) (size slots n : ℕ) (left : List ℕ) → IsInit words size slots → IsLeftAfter words (init_steps words size slots) n left → IsInitCut size slots n left
