-- The content of an NFIT: ACPI 6.5, section 5.2.25.
use Rattle.std.specs.Prelude.{ℕ, ◌+◌, ◌%◌, min, max, ◌==◌, nat_lt, Bool, false, not, ◌&&◌, ◌||◌, if◌then◌else◌, List, [], ◌∷◌, length, take, drop, map, filter, sum, find, codes, Option, Some, None, is_none, unwrap_or, Result, Ok, Err}
use Rattle.std.specs.Option.{option_map}
use Rattle.std.specs.List.{position_from, filter_map, list_any}
use Rattle.std.specs.Int.{w32}
use Rattle.std.specs.Str.{bytes_eq}
use Rattle.nvd_words.specs.Bytes.{number_at}
use Rattle.nvd_words.specs.Checks.{first_fault, fault_if, value_unless}
use Rattle.nfit_reader.specs.declared.table.Nfit.{Nfit}
use Rattle.nfit_reader.specs.declared.table.Region.{Region}
use Rattle.nfit_reader.specs.declared.table.Mapping.{Mapping}
use Rattle.nfit_reader.specs.declared.table.Lines.{Lines}
use Rattle.nfit_reader.specs.declared.table.Identity.{Identity}
use Rattle.nfit_reader.specs.declared.table.NfitFault.{NfitFault}
use Rattle.nfit_reader.specs.declared.table.NfitFault.TheVariants as fault
use Rattle.nfit_reader.specs.declared.structures.Structure.{Structure}
use Rattle.nfit_reader.specs.declared.structures.Structure.TheVariants as structure
use Rattle.nfit_reader.specs.declared.structures.Range.{Range}
use Rattle.nfit_reader.specs.declared.structures.Link.{Link}
use Rattle.nfit_reader.specs.declared.structures.Interleave.{Interleave}
use Rattle.nfit_reader.specs.declared.structures.Control.{Control}
use Rattle.nfit_reader.specs.declared.alias.DpaRange.{DpaRange}
use Rattle.nfit_reader.specs.Structures.{spans_from, structures_of}

-- ---- selections from the list of structures

abbrev pub as_range : Structure → Option Range
as_range (structure.Range r) = Some r
as_range (structure.Mapping m) = None
as_range (structure.Interleave i) = None
as_range (structure.Control c) = None
as_range structure.PassedOver = None

abbrev pub as_link : Structure → Option Link
as_link (structure.Range r) = None
as_link (structure.Mapping m) = Some m
as_link (structure.Interleave i) = None
as_link (structure.Control c) = None
as_link structure.PassedOver = None

abbrev pub as_interleave : Structure → Option Interleave
as_interleave (structure.Range r) = None
as_interleave (structure.Mapping m) = None
as_interleave (structure.Interleave i) = Some i
as_interleave (structure.Control c) = None
as_interleave structure.PassedOver = None

abbrev pub as_control : Structure → Option Control
as_control (structure.Range r) = None
as_control (structure.Mapping m) = None
as_control (structure.Interleave i) = None
as_control (structure.Control c) = Some c
as_control structure.PassedOver = None

abbrev pub ranges_of : List Structure → List Range
ranges_of structures = filter_map as_range structures

abbrev pub links_of : List Structure → List Link
links_of structures = filter_map as_link structures

-- what an index names
abbrev pub range_named : List Structure → ℕ → Option Range
range_named structures index = find (λ r. r.index == index) (ranges_of structures)

abbrev pub lines_named : List Structure → ℕ → Option Lines
lines_named structures index = option_map (λ i. i.lines) (find (λ i. i.index == index) (filter_map as_interleave structures))

abbrev pub identity_named : List Structure → ℕ → Option Identity
identity_named structures index = option_map (λ c. c.identity) (find (λ c. c.index == index) (filter_map as_control structures))

-- ---- modules

-- the numbers in the order of first appearance, without repetition and without those already seen
unfoldable pub distinct_after : List ℕ → List ℕ → List ℕ
distinct_after seen [] = []
distinct_after seen (x ∷ xs) = if list_any (λ y. y == x) seen then distinct_after seen xs else x ∷ distinct_after (x ∷ seen) xs

-- the device handles by module number
abbrev pub modules_of : List Structure → List ℕ
modules_of structures = distinct_after [] (map (λ m. m.handle) (links_of structures))

-- a number's first place in a list
abbrev pub place_of : ℕ → List ℕ → Option ℕ
place_of x xs = position_from (λ y. y == x) 0 xs

-- ---- regions

abbrev pub is_persistent : Option Range → Bool
is_persistent None = false
is_persistent (Some r) = r.persistent

-- the identity of a missing control region
abbrev pub no_identity : Identity
no_identity = record { vendor = 0; date = 0; location = 0; serial = 0 }

unfoldable pub mapping_of : List Structure → Link → Mapping
mapping_of structures m = record {
  «module» = unwrap_or (place_of m.handle (modules_of structures)) 0;
  size = m.size;
  offset = m.offset;
  start = m.start;
  ways = m.ways;
  lines = lines_named structures m.interleave;
  identity = unwrap_or (identity_named structures m.control) no_identity;
}

-- the mappings into the range with an index
abbrev pub links_into : List Structure → ℕ → List Link
links_into structures index = filter (λ m. m.range == index) (links_of structures)

unfoldable pub region_of : List Structure → Range → Region
region_of structures r = record { index = r.index; base = r.base; length = r.length; mappings = map (mapping_of structures) (links_into structures r.index) }

-- a persistent-memory range with at least one mapping
abbrev pub is_region : List Structure → Range → Bool
is_region structures r = r.persistent && list_any (λ m. m.range == r.index) (links_of structures)

unfoldable pub regions_of : List Structure → List Region
regions_of structures = map (region_of structures) (filter (is_region structures) (ranges_of structures))

abbrev pub nfit_of : List Structure → Nfit
nfit_of structures = record { modules = modules_of structures; regions = regions_of structures }

-- ---- faults in order

-- Type and index of a structure that has an index
abbrev pub name_of : Structure → Option (ℕ × ℕ)
name_of (structure.Range r) = Some (0, r.index)
name_of (structure.Mapping m) = None
name_of (structure.Interleave i) = Some (2, i.index)
name_of (structure.Control c) = Some (4, c.index)
name_of structure.PassedOver = None

-- the first name that occurs again later
unfoldable pub twice_in : List (ℕ × ℕ) → Option NfitFault
twice_in [] = None
twice_in (n ∷ names) =
    if list_any (λ other. (other.0 == n.0) && (other.1 == n.1)) names then Some (fault.TwiceIndex n.0 n.1) else twice_in names

-- a mapping is into a range of persistent memory
abbrev pub is_into_persistent : List Structure → Link → Bool
is_into_persistent structures m = is_persistent (range_named structures m.range)

-- a structure that a mapping must name but that the table lacks: a range, unless the index is 0; and if that is persistent
-- memory, a control region, and an interleave structure, unless its index is 0
unfoldable pub lacks_range : List Structure → Link → Bool
lacks_range structures m = not (m.range == 0) && is_none (range_named structures m.range)

unfoldable pub lacks_identity : List Structure → Link → Bool
lacks_identity structures m = is_into_persistent structures m && is_none (identity_named structures m.control)

unfoldable pub lacks_lines : List Structure → Link → Bool
lacks_lines structures m = is_into_persistent structures m && not (m.interleave == 0) && is_none (lines_named structures m.interleave)

-- the first index of a mapping that names nothing
unfoldable pub missing_of : List Structure → Link → Option NfitFault
missing_of structures m = first_fault (
    fault_if (lacks_range structures m) (fault.MissingIndex 0 m.range)
    ∷ fault_if (lacks_identity structures m) (fault.MissingIndex 4 m.control)
    ∷ fault_if (lacks_lines structures m) (fault.MissingIndex 2 m.interleave)
    ∷ [])

-- the bytes of its module that a mapping into a region takes
unfoldable pub dpa_range_of : List Structure → Link → Option DpaRange
dpa_range_of structures m = option_map
    (λ region. record { «module» = unwrap_or (place_of m.handle (modules_of structures)) 0; region = region; start = m.start; size = m.size })
    (position_from (λ r. r.index == m.range) 0 (regions_of structures))

abbrev pub dpa_ranges_of : List Structure → List DpaRange
dpa_ranges_of structures = filter_map (dpa_range_of structures) (links_of structures)

-- two DPA ranges share a byte
abbrev pub meets : DpaRange → DpaRange → Bool
meets a b = nat_lt (max a.start b.start) (min (a.start + a.size) (b.start + b.size))

-- they are of one module, in two regions, and share a byte
unfoldable pub is_alias : DpaRange → DpaRange → Bool
is_alias a b = (a.«module» == b.«module») && not (a.region == b.region) && meets a b

-- the first DPA range that shares bytes with a later one, and the first such later one
unfoldable pub alias_in : List DpaRange → Option NfitFault
alias_in [] = None
alias_in (a ∷ dpa_ranges) =
    unwrap_or (option_map (λ b. Some (fault.Alias a.«module» a.region b.region)) (find (is_alias a) dpa_ranges)) (alias_in dpa_ranges)

abbrev pub too_large : List Structure → Option NfitFault
too_large structures = fault_if (nat_lt 64 (length (modules_of structures))) (fault.TooLarge (length (modules_of structures)))

abbrev pub aliasing : List Structure → Option NfitFault
aliasing structures = alias_in (dpa_ranges_of structures)

abbrev pub table_faults : List Structure → List (Option NfitFault)
table_faults structures =
    twice_in (filter_map name_of structures)
    ∷ first_fault (map (missing_of structures) (links_of structures))
    ∷ too_large structures
    ∷ aliasing structures
    ∷ []

unfoldable pub table_reading : List Structure → Result Nfit NfitFault
table_reading structures = value_unless (nfit_of structures) (first_fault (table_faults structures))

-- ---- the whole

-- the Length field, at byte 4; a missing byte of it counts as zero
unfoldable pub said_of : List ℕ → ℕ
said_of bytes = number_at w32 bytes 4

-- the checks of the header
unfoldable pub header_fault : List ℕ → Option NfitFault
header_fault bytes = first_fault (
    fault_if (not (bytes_eq (take 4 bytes) (codes "NFIT"))) fault.Signature
    ∷ fault_if (nat_lt (length bytes) (said_of bytes) || nat_lt (said_of bytes) 40) (fault.Length (said_of bytes) (length bytes))
    ∷ fault_if (not (sum (take (said_of bytes) bytes) % 256 == 0)) (fault.Checksum (sum (take (said_of bytes) bytes) % 256))
    ∷ [])

-- the spans of a table whose header is sound
abbrev pub spans_of : List ℕ → Result (List (List ℕ)) NfitFault
spans_of bytes = spans_from (said_of bytes) 40 (drop 40 (take (said_of bytes) bytes))

abbrev pub structures_reading : Result (List Structure) NfitFault → Result Nfit NfitFault
structures_reading (Ok structures) = table_reading structures
structures_reading (Err f) = Err f

abbrev pub reading_after : List ℕ → Option NfitFault → Result Nfit NfitFault
reading_after bytes None = structures_reading (structures_of (spans_of bytes))
reading_after bytes (Some f) = Err f

-- the table that the bytes encode, or the first fault
abbrev pub nfit_reading : List ℕ → Result Nfit NfitFault
nfit_reading bytes = reading_after bytes (header_fault bytes)
