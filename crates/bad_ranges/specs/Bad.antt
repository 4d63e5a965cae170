-- The bad ranges of modules (ACPI 6.5, section 9.20.7, Address Range Scrub), and the words of a namespace that they meet.
use Rattle.std.specs.Prelude.{ℕ, ◌+◌, ◌*◌, ◌/◌, nat_lt, nat_le, min, max, Bool, false, ◌&&◌, List, [], length, map, slice_index_or, Option, Some, None}
use Rattle.std.specs.List.{list_any, range_with_len}
use Rattle.std.specs.Int.{w64}
use Rattle.nvd_words.specs.Bytes.{number_at}
use Rattle.power_cut.specs.Namespace.{Namespace, byte_at, count_of, place_of}
use Rattle.bad_ranges.specs.declared.ranges.BadRange.{BadRange}

-- ---- the records of an object

-- the record at a byte of an object: its start and its length, little-endian
abbrev pub range_at : List ℕ → ℕ → BadRange
range_at bytes at = record { start = number_at w64 bytes at; length = number_at w64 bytes (at + 8) }

-- the records of a module's object; without an object there are none
unfoldable pub records_of : Option (List ℕ) → List BadRange
records_of None = []
records_of (Some bytes) = map (λ i. range_at bytes (16 * i)) (range_with_len 0 (length bytes / 16))

-- an object has a record
abbrev pub has_record : Option (List ℕ) → Bool
has_record None = false
has_record (Some bytes) = nat_le 16 (length bytes)

-- ---- device addresses

-- a range has bytes at addresses from `from` on, below `to`; a range of length 0 has none
abbrev pub has_bytes : ℕ → ℕ → BadRange → Bool
has_bytes from to range = nat_lt (max from range.start) (min to (range.start + range.length))

-- a range has bytes in the word at an address
abbrev pub meets : ℕ → BadRange → Bool
meets address range = has_bytes address (address + 8) range

-- ---- words of a namespace

-- a record of the module has bytes in the word at a place
abbrev pub is_met : List (Option (List ℕ)) → Option (ℕ × ℕ) → Bool
is_met objects None = false
is_met objects (Some place) = list_any (meets place.1) (records_of (slice_index_or objects place.0 None))

-- word i of a namespace is bad, by the objects of all modules
unfoldable pub bad_words : Namespace → List (Option (List ℕ)) → ℕ → Bool
bad_words n objects i = nat_lt i (count_of n) && is_met objects (place_of n.set (byte_at n i))

-- where a namespace lies, and the objects of all modules by number
pub record Reported : Type 0 where
  pub extent : Namespace
  pub objects : List (Option (List ℕ))
