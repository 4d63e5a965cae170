-- The words of a namespace as words of the modules: ACPI 6.5, section 5.2.25.4, by the formula of the places of an interleave
-- set.
use Rattle.std.specs.Prelude.{◌≡◌, ℕ, ◌+◌, ◌*◌, ◌/◌, ◌%◌, ◌^◌, ◌<◌, ◌≤◌, ◌==◌, nat_le, nat_lt, Bool, false, ◌&&◌, if◌then◌else◌, List, [], ◌∷◌, length, map, find, slice_index, slice_index_or, Contains, Option, Some, None}
use Rattle.std.specs.List.{All, list_any, range_with_len}
use Rattle.cut_words.specs.Words.{Words}
use Rattle.nfit_reader.specs.declared.table.Mapping.{Mapping}
use Rattle.interleave.specs.Places.{LiesAt, region_byte, unit_of}
use Rattle.interleave.specs.Sound.{AreWords, IsPlacing, PartsAlike, span_of}
use Rattle.interleave.specs.Sound as set

-- ---- the place of a byte of a region

-- the first byte of a mapping that the formula maps to byte y of a region
abbrev pub byte_of : ℕ → Mapping → ℕ → Option ℕ
byte_of ways m y = find (λ x. region_byte ways m x == y) (range_with_len 0 m.size)

-- the module and the device address of a mapping's byte, if there is one, else the other
abbrev pub or_place : Mapping → Option ℕ → Option (ℕ × ℕ) → Option (ℕ × ℕ)
or_place m (Some x) other = Some (m.«module», m.start + x)
or_place m None other = other

-- the module and the device address of byte y, by the first mapping that has it
abbrev pub place_by : ℕ → ℕ → List Mapping → Option (ℕ × ℕ)
place_by ways y [] = None
place_by ways y (m ∷ ms) = or_place m (byte_of ways m y) (place_by ways y ms)

abbrev pub place_of : List Mapping → ℕ → Option (ℕ × ℕ)
place_of set y = place_by (length set) y set

-- ---- words of modules

-- the words of a module, an empty row past the last one
abbrev pub row_of : List Words → ℕ → Words
row_of modules which = slice_index_or modules which (record { kept = []; stored = [] })

-- the kept value of the word at an address of a module, and the value stored since
abbrev pub kept_at : List Words → ℕ → ℕ → ℕ
kept_at modules which address = slice_index (row_of modules which).kept (address / 8)

abbrev pub stored_at : List Words → ℕ → ℕ → Option ℕ
stored_at modules which address = slice_index_or (row_of modules which).stored (address / 8) None

-- ---- a namespace

-- A set's mappings in order of position; the namespace's address in each mapping, relative to the mapping's start, and its size
-- there in bytes; and the words of all modules by number.
pub record Namespace : Type 0 where
  pub set : List Mapping
  pub offset : ℕ
  pub raw : ℕ
  pub modules : List Words

-- the number of its words
abbrev pub count_of : Namespace → ℕ
count_of n = length n.set * n.raw / 8

-- its size in all modules, in bytes, and the byte of the region that is its byte `byte`
abbrev pub raw_bytes : Namespace → ℕ
raw_bytes n = length n.set * n.raw

abbrev pub raw_byte : Namespace → ℕ → ℕ
raw_byte n byte = length n.set * n.offset + byte

-- the byte of the region at which word i begins
abbrev pub byte_at : Namespace → ℕ → ℕ
byte_at n i = length n.set * n.offset + 8 * i

abbrev pub kept_by : List Words → Option (ℕ × ℕ) → ℕ
kept_by modules None = 0
kept_by modules (Some place) = kept_at modules place.0 place.1

abbrev pub stored_by : List Words → Option (ℕ × ℕ) → Option ℕ
stored_by modules None = None
stored_by modules (Some place) = stored_at modules place.0 place.1

-- its words, each from the place of its first byte
unfoldable pub words_of : Namespace → Words
words_of n = record {
  kept = map (λ i. kept_by n.modules (place_of n.set (byte_at n i))) (range_with_len 0 (count_of n));
  stored = map (λ i. stored_by n.modules (place_of n.set (byte_at n i))) (range_with_len 0 (count_of n));
}

-- an address of a module lies in the namespace's extent there
abbrev pub is_inside : Namespace → ℕ → ℕ → Bool
is_inside n which address = list_any (λ m. (m.«module» == which) && nat_le (m.start + n.offset) address && nat_lt address (m.start + n.offset + n.raw)) n.set

-- the words of a module, with 0 in place of the namespace's words
abbrev pub row_beside : Namespace → ℕ → Words
row_beside n which = record {
  kept = map (λ k. if is_inside n which (8 * k) then 0 else slice_index (row_of n.modules which).kept k) (range_with_len 0 (length (row_of n.modules which).kept));
  stored = map (λ k. if is_inside n which (8 * k) then None else slice_index_or (row_of n.modules which).stored k None) (range_with_len 0 (length (row_of n.modules which).stored));
}

-- the words that aren't the namespace's, module by module
unfoldable pub beside_of : Namespace → List Words
beside_of n = map (row_beside n) (range_with_len 0 (length n.modules))

-- ---- conditions and laws

-- a row has a slot for a stored value for each word, as every CutWords has
abbrev pub IsRow : Words → Type 0
IsRow words = length words.stored ≡ length words.kept

-- a module has the words of `bytes` bytes from a device address on
pub record HasBytes (modules : List Words) (which start bytes : ℕ) : Type 0 where
  pub there : which < length modules
  pub reaches : start + bytes ≤ 8 * length (row_of modules which).kept

-- the modules have the words of all mappings, up to their ends
abbrev pub ReachEnds : List Mapping → List Words → Type 0
ReachEnds set modules = (m : Mapping) → Contains set m → HasBytes modules m.«module» m.start m.size

-- what a namespace needs of the places of its set
pub record IsLaid (n : Namespace) : Type 0 where
  pub places : IsPlacing n.set (length n.set * span_of n.set)
  pub words : AreWords n.set
  pub parts : PartsAlike n.set
  pub apart : set.AreApart n.set
  pub each : (m : Mapping) → Contains n.set m → m.size ≡ span_of n.set
  pub fits : length n.set * span_of n.set < 2 ^ 64
  pub from : n.offset % unit_of n.set ≡ 0
  pub to : n.raw % unit_of n.set ≡ 0
  pub eights : unit_of n.set % 8 ≡ 0
  pub inside : n.offset + n.raw ≤ span_of n.set

-- the modules have the words of all mappings
pub record HasRows (set : List Mapping) (modules : List Words) : Type 0 where
  pub rows : All IsRow modules
  pub reach : ReachEnds set modules

-- Each word of the namespace is the word of the module at its place.
pub record IsOver (n : Namespace) (modules : List Words) (words : Words) : Type 0 where
  pub count : length words.kept ≡ count_of n
  pub kept : (i which address : ℕ) → i < count_of n → LiesAt n.set (byte_at n i) which address → slice_index words.kept i ≡ kept_at modules which address
  pub stored : (i which address : ℕ) → i < count_of n → LiesAt n.set (byte_at n i) which address → slice_index_or words.stored i None ≡ stored_at modules which address

-- `count` words of the namespace from word i on are the words of a module from its word k on
abbrev pub IsWordRun : Namespace → ℕ → ℕ → ℕ → ℕ → Type 0
IsWordRun n i which k count = (j : ℕ) → j < count → LiesAt n.set (byte_at n (i + j)) which (8 * (k + j))

-- no two words of the namespace lie at the same word of a module
abbrev pub AreApart : Namespace → Type 0
AreApart n = (i j which address address' : ℕ) → i < count_of n → j < count_of n → LiesAt n.set (byte_at n i) which address → LiesAt n.set (byte_at n j) which address'
    → address / 8 ≡ address' / 8 → i ≡ j

-- the namespace with this extent, over these modules
abbrev pub over : List Mapping → ℕ → ℕ → List Words → Namespace
over set offset raw modules = record { set = set; offset = offset; raw = raw; modules = modules }

-- the words of a namespace and those beside it are all words
abbrev pub AreAll : List Mapping → ℕ → ℕ → Type 0
AreAll set offset raw = (modules modules' : List Words) → words_of (over set offset raw modules) ≡ words_of (over set offset raw modules')
    → beside_of (over set offset raw modules) ≡ beside_of (over set offset raw modules') → modules ≡ modules'

-- if the words beside a namespace are the same, so are all words outside its extents
abbrev pub AreSameOutside : List Mapping → ℕ → ℕ → Type 0
AreSameOutside set offset raw = (modules modules' : List Words) → beside_of (over set offset raw modules) ≡ beside_of (over set offset raw modules')
    → (which address : ℕ) → address % 8 ≡ 0 → is_inside (over set offset raw modules) which address ≡ false
    → (kept_at modules which address ≡ kept_at modules' which address) × (stored_at modules which address ≡ stored_at modules' which address)
