-- A namespace whose bytes are changed, each by itself, while the contents of modules are copied: ACPI 6.5, section 5.2.25.4, by the formula of the
-- places of an interleave set.
use Rattle.std.specs.Prelude.{◌≡◌, ⊤, ℕ, ◌+◌, ◌-◌, ◌*◌, ◌%◌, ◌<◌, ◌≤◌, ◌==◌, nat_le, nat_lt, Bool, ◌&&◌, if◌then◌else◌, List, [], ◌∷◌, length, map, slice_index, slice_index_or, find, Option, Some, None}
use Rattle.std.specs.Option.{option_map}
use Rattle.std.specs.List.{All, range_with_len}
use Rattle.nfit_reader.specs.declared.table.Mapping.{Mapping}
use Rattle.interleave.specs.Places.{LiesAt, region_byte, unit_of}
use Rattle.interleave.specs.Sound.{span_of}
use Rattle.cut_words.specs.Words.{Words, settled}
use Rattle.cut_words.specs.WordBytes.{words_in}
use Rattle.image_set.specs.Patches.{patched_contents}
use Rattle.power_cut.specs.Namespace.{IsLaid, beside_of, over, place_of, words_of}
use Rattle.namespace_areas.specs.Finding.{set_at}
use Rattle.sector_namespaces.specs.View.{rows_of}
use Rattle.namespace_bytes.specs.declared.new_bytes.NewBytes.{NewBytes}
use Rattle.namespace_bytes.specs.declared.new_bytes.NewBytes.TheVariants.{Raw, Runs, Sectors}
use Rattle.namespace_bytes.specs.declared.patch.NamespacePatch.{NamespacePatch}
use Rattle.namespace_bytes.specs.Changed.{changed_from}
use Rattle.namespace_bytes.specs.Runs.{runs_byte}
use Rattle.namespace_bytes.specs.SectorBytes.{sector_byte}

-- ---- the new bytes of a namespace

-- the new value of a byte, by its number in the namespace and its old value
abbrev pub new_of : NewBytes → ℕ → ℕ → ℕ
new_of (Raw bytes) i old = slice_index bytes i
new_of (Sectors put) i old = sector_byte put.links put.bytes i old
new_of (Runs runs) i old = runs_byte runs i old

-- they are those of a namespace of so many bytes
abbrev pub IsFor : NewBytes → ℕ → Type 0
IsFor (Raw bytes) size = length bytes ≡ size
IsFor (Sectors put) size = ⊤
IsFor (Runs runs) size = ⊤

-- ---- their places

-- A set's mappings in order of position; the namespace's address in each mapping, relative to the mapping's start, and its size there in
-- bytes; and its new bytes.
pub record BytePatch : Type 0 where
  pub set : List Mapping
  pub offset : ℕ
  pub raw : ℕ
  pub bytes : NewBytes

-- the mapping of a module
abbrev pub mapping_of : List Mapping → ℕ → Option Mapping
mapping_of set which = find (λ m. m.«module» == which) set

-- the address of the namespace's first byte in a module, if it lies there
abbrev pub start_in : BytePatch → ℕ → Option ℕ
start_in p which = option_map (λ m. m.start + p.offset) (mapping_of p.set which)

-- an address lies in the namespace's extent in this mapping
abbrev pub is_within : BytePatch → Mapping → ℕ → Bool
is_within p m address = nat_le (m.start + p.offset) address && nat_lt address (m.start + p.offset + p.raw)

-- the number in the namespace of the byte at an address of this mapping
abbrev pub byte_number : BytePatch → Mapping → ℕ → ℕ
byte_number p m address = region_byte (length p.set) m (address - m.start) - length p.set * p.offset

abbrev pub patched_by : BytePatch → ℕ → ℕ → Option Mapping → ℕ
patched_by p address old None = old
patched_by p address old (Some m) = if is_within p m address then new_of p.bytes (byte_number p m address) old else old

-- the new value of a byte of a module's contents
unfoldable pub byte_patched : BytePatch → ℕ → ℕ → ℕ → ℕ
byte_patched p which address old = patched_by p address old (mapping_of p.set which)

-- the new value of a byte after these, one after another
abbrev pub all_patched : List BytePatch → ℕ → ℕ → ℕ → ℕ
all_patched [] = λ which address old. old
all_patched (p ∷ ps) = λ which address old. all_patched ps which address (byte_patched p which address old)

-- the namespace lies in the set
pub record IsBytePatch (p : BytePatch) : Type 0 where
  pub laid : (modules : List Words) → IsLaid (over p.set p.offset p.raw modules)

-- ---- namespaces of the sets of a list

-- a namespace's new bytes, on its set
abbrev pub patch_on : List Mapping → NamespacePatch → BytePatch
patch_on set part = record { set = set; offset = part.offset; raw = part.raw; bytes = part.bytes }

abbrev pub patch_in : List (List Mapping) → NamespacePatch → BytePatch
patch_in sets part = patch_on (set_at sets part.region) part

-- the namespace lies in whole units of its set, and a raw one gets as many bytes as it has
pub record IsPart (sets : List (List Mapping)) (part : NamespacePatch) : Type 0 where
  pub region : part.region < length sets
  pub from : part.offset % unit_of (set_at sets part.region) ≡ 0
  pub to : part.raw % unit_of (set_at sets part.region) ≡ 0
  pub inside : part.offset + part.raw ≤ span_of (set_at sets part.region)
  pub long : IsFor part.bytes (length (set_at sets part.region) * part.raw)

-- what a SetPatch keeps of that
pub record IsLaidPart (sets : List (List Mapping)) (part : NamespacePatch) : Type 0 where
  pub region : part.region < length sets
  pub laid : IsBytePatch (patch_in sets part)
  pub long : IsFor part.bytes (length (set_at sets part.region) * part.raw)

-- ---- places

-- `count` bytes of a module from an address on are those of the namespace from number `from` on
abbrev pub AreBytesAt : BytePatch → ℕ → ℕ → ℕ → ℕ → Type 0
AreBytesAt p which address from count = (j : ℕ) → j < count → LiesAt p.set (length p.set * p.offset + (from + j)) which (address + j)

-- ---- contents, patched

-- the byte of modules' contents at a place
abbrev pub byte_in : List (List ℕ) → Option (ℕ × ℕ) → ℕ
byte_in contents None = 0
byte_in contents (Some place) = slice_index (slice_index_or contents place.0 []) place.1

-- the bytes of a namespace, by place
abbrev pub bytes_by_place : List Mapping → ℕ → ℕ → List (List ℕ) → List ℕ
bytes_by_place set offset raw contents = map (λ i. byte_in contents (place_of set (length set * offset + i))) (range_with_len 0 (length set * raw))

-- Contents, patched: the namespace has its new bytes, and nothing beside it has changed.
pub record ArePatched (p : BytePatch) (contents : List (List ℕ)) : Type 0 where
  pub was : words_of (over p.set p.offset p.raw (rows_of contents)) ≡ settled (words_in (bytes_by_place p.set p.offset p.raw contents))
  pub words : words_of (over p.set p.offset p.raw (rows_of (patched_contents (byte_patched p) contents))) ≡ settled (words_in (changed_from (new_of p.bytes) 0 (bytes_by_place p.set p.offset p.raw contents)))
  pub beside : beside_of (over p.set p.offset p.raw (rows_of (patched_contents (byte_patched p) contents))) ≡ beside_of (over p.set p.offset p.raw (rows_of contents))

-- contents are whole words
abbrev pub AreWhole : List (List ℕ) → Type 0
AreWhole contents = All (λ row. length row % 8 ≡ 0) contents
