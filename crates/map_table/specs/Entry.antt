-- A map entry: UEFI 2.10, section 6.2, BTT Map Entry.
use Rattle.std.specs.Prelude.{ℕ, ◌+◌, ◌*◌, ◌/◌, ◌%◌, ◌^◌, ◌==◌, Bool, true, false, if◌then◌else◌}
use Rattle.map_table.specs.declared.kinds.MapEntry.{MapEntry}
use Rattle.map_table.specs.declared.kinds.Kind.{Kind}
use Rattle.map_table.specs.declared.kinds.Kind.TheVariants as kind

-- ---- one entry of 32 bits

-- bits 0 to 29 are the block's number, bit 30 is Error, bit 31 is Zero
abbrev pub block_bits : ℕ → ℕ
block_bits word = word % 2 ^ 30

abbrev pub has_error : ℕ → Bool
has_error word = word / 2 ^ 30 % 2 == 1

abbrev pub has_zero : ℕ → Bool
has_zero word = word / 2 ^ 31 % 2 == 1

-- the table of the two flags, Zero and Error
abbrev pub kind_of : Bool → Bool → Kind
kind_of false false = kind.Initial
kind_of true false = kind.Zero
kind_of false true = kind.Bad
kind_of true true = kind.Normal

-- an initial entry's block has the sector's own number
abbrev pub block_of : Kind → ℕ → ℕ → ℕ
block_of kind.Initial word sector = sector
block_of kind.Zero word sector = block_bits word
block_of kind.Bad word sector = block_bits word
block_of kind.Normal word sector = block_bits word

-- decodes the entry of a sector
unfoldable pub entry_of : ℕ → ℕ → MapEntry
entry_of word sector =
    let k = kind_of (has_zero word) (has_error word) in
    record { kind = k; block = block_of k word sector }

-- the normal entry of a block: both flags
abbrev pub normal_of : ℕ → ℕ
normal_of block = 2 ^ 31 + 2 ^ 30 + block

-- the entry of a block that reads as zeros
abbrev pub zero_of : ℕ → ℕ
zero_of block = 2 ^ 31 + block

-- ---- a map word of 64 bits has two entries, the even sector's in the low half

-- the weight of a sector's entry in its word
abbrev pub weight_of : ℕ → ℕ
weight_of sector = if sector % 2 == 0 then 1 else 2 ^ 32

-- the entry of a sector in its word
unfoldable pub entry_in : ℕ → ℕ → ℕ
entry_in word sector = word / weight_of sector % 2 ^ 32

-- the word with another entry for a sector
unfoldable pub with_entry : ℕ → ℕ → ℕ → ℕ
with_entry word sector entry = if sector % 2 == 0 then word / 2 ^ 32 * 2 ^ 32 + entry else entry * 2 ^ 32 + word % 2 ^ 32
