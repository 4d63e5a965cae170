-- A lane's group in the log of an arena: UEFI 2.10, section 6.2, BTT Flog; groups of 64 bytes as in Linux's drivers/nvdimm/btt.h.
use Rattle.std.specs.Prelude.{◌≡◌, ℕ, ◌+◌, ◌*◌, ◌/◌, ◌%◌, ◌^◌, ◌<◌, ◌≤◌, ◌==◌, length, nat_le, Bool, not, IsTrue, ◌&&◌, ◌||◌, if◌then◌else◌, List, [], ◌∷◌, drop, slice_index, slice_set, Option, Some, None, Result, Ok}
use Rattle.std.specs.List.{list_all}
use Rattle.std.specs.Option.{option_map}
use Rattle.nvd_words.specs.Checks.{first_fault, fault_if, value_unless}
use Rattle.nvd_words.specs.Ring.{is_newer, successor_of}
use Rattle.flog.specs.declared.half.Half.{Half}
use Rattle.flog.specs.declared.group.Group.{Group}
use Rattle.flog.specs.declared.group.FlogFault.{FlogFault}
use Rattle.flog.specs.declared.group.FlogFault.TheVariants.{Padding, Sequences, Range}

-- ---- a half and its two words

-- the first word has Lba in its low and OldMap in its high half, the second NewMap and Seq; bits 30 and 31 of OldMap and NewMap
-- are flags and aren't read
abbrev pub half_of : ℕ → ℕ → Half
half_of a b = record { lba = a % 2 ^ 32; old = a / 2 ^ 32 % 2 ^ 30; new = b % 2 ^ 30; seq = b / 2 ^ 32 }

-- the two words of a half, with zero flags
abbrev pub words_of_half : Half → List ℕ
words_of_half half = (half.lba + 2 ^ 32 * half.old) ∷ (half.new + 2 ^ 32 * half.seq) ∷ []

-- the flags of OldMap and NewMap in two words are zero
pub record HasNoFlags (a b : ℕ) : Type 0 where
  pub old : a < 2 ^ 62
  pub new : b % 2 ^ 32 < 2 ^ 30

-- ---- a group of eight words

-- the first word of a side's half
unfoldable pub place_of : ℕ → ℕ
place_of side = if side == 0 then 0 else 2

-- the words after the second half
abbrev pub padding_of : List ℕ → List ℕ
padding_of words = drop 4 words

abbrev pub half_in : List ℕ → ℕ → Half
half_in words side = half_of (slice_index words (place_of side)) (slice_index words (place_of side + 1))

abbrev pub other_side : ℕ → ℕ
other_side side = if side == 0 then 1 else 0

-- the group with a half stored at a side
abbrev pub with_half : List ℕ → ℕ → Half → List ℕ
with_half words side half =
    slice_set (slice_set words (place_of side) (half.lba + 2 ^ 32 * half.old)) (place_of side + 1) (half.new + 2 ^ 32 * half.seq)

-- ---- reading a group

unfoldable pub is_padded : List ℕ → Bool
is_padded words = list_all (λ word. word == 0) (padding_of words)

-- both numbers are at most 3, and one is newer than the other
unfoldable pub are_ordered : ℕ → ℕ → Bool
are_ordered a b = nat_le a 3 && nat_le b 3 && (is_newer a b || is_newer b a)

-- the first of OldMap, NewMap and Lba that is out of range; Lba is checked only if the half makes a move
unfoldable pub out_of_range : ℕ → ℕ → Half → Option ℕ
out_of_range external internal half =
    if nat_le internal half.old then Some half.old
    else if nat_le internal half.new then Some half.new
    else if not (half.old == half.new) && nat_le external half.lba then Some half.lba
    else None

-- the side of the newer half
unfoldable pub current_side : List ℕ → ℕ
current_side words = if is_newer (half_in words 0).seq (half_in words 1).seq then 1 else 0

-- the current half and its side
abbrev pub group_in : List ℕ → Group
group_in words = record { side = current_side words; half = half_in words (current_side words) }

-- the checks of a group, in their order
abbrev pub group_faults : List ℕ → ℕ → ℕ → List (Option FlogFault)
group_faults words external internal =
    fault_if (not (is_padded words)) Padding
    ∷ fault_if (not (are_ordered (half_in words 0).seq (half_in words 1).seq)) (Sequences (half_in words 0).seq (half_in words 1).seq)
    ∷ option_map Range (out_of_range external internal (group_in words).half)
    ∷ []

-- the decoded group, or the first check that fails
abbrev pub group_reading : List ℕ → ℕ → ℕ → Result Group FlogFault
group_reading words external internal = value_unless (group_in words) (first_fault (group_faults words external internal))

-- the words encode the group
abbrev pub StandsFor : List ℕ → ℕ → ℕ → Group → Type 0
StandsFor words external internal group = group_reading words external internal ≡ Ok group

-- the group's half is newer than the other one in the words
abbrev pub IsNewerHalf : List ℕ → Group → Type 0
IsNewerHalf words group = IsTrue (is_newer (half_in words (other_side group.side)).seq group.half.seq)

-- if the flags in its words are zero, the group's current half encodes to those words
abbrev pub PacksBack : List ℕ → Group → Type 0
PacksBack words group =
    let a = slice_index words (place_of group.side) in
    let b = slice_index words (place_of group.side + 1) in
    HasNoFlags a b → words_of_half group.half ≡ a ∷ b ∷ []

-- a half that may follow a group's current one
pub record IsNext (external internal : ℕ) (group : Group) (half : Half) : Type 0 where
  pub seq : half.seq ≡ successor_of group.half.seq
  pub lba : half.lba < 2 ^ 32
  pub old : half.old < 2 ^ 30
  pub new : half.new < 2 ^ 30
  pub in_range : out_of_range external internal half ≡ None

-- stored over the other half, it becomes the current one
abbrev pub BecomesCurrent : Group → Half → Type 0
BecomesCurrent group half =
    (words : List ℕ) (external internal : ℕ) → 4 ≤ length words → StandsFor words external internal group → IsNext external internal group half
    → StandsFor (with_half words (other_side group.side) half) external internal (record { side = other_side group.side; half = half })
