-- What holds of a loaded image set, whatever its source reveals.
use Rattle.std.specs.Prelude.{◌≡◌, ℕ, ◌+◌, ◌*◌, ◌%◌, ◌^◌, ◌<◌, ◌≤◌, List, length, map, sum, slice_index, slice_index_or, Option, Some, Ok}
use Rattle.std.specs.List.{All}
use Rattle.cut_words.specs.Words.{Words, settled}
use Rattle.nfit_reader.specs.declared.table.Region.{Region}
use Rattle.nfit_reader.specs.declared.table.Mapping.{Mapping}
use Rattle.nfit_reader.specs.Table.{nfit_reading}
use Rattle.nfit_reader.specs.Counted.{AreCounted, NamesItsModules}
use Rattle.label_index.specs.Area.{IsAreaSize}
use Rattle.image_set.specs.Limits.{most_contents}
use Rattle.image_set.specs.declared.loading.Loaded.{Loaded}

-- the size of words, in bytes
abbrev pub size_of : Words → ℕ
size_of words = 8 * length words.kept

-- each number is one of 64 bits
pub record AreWords (values : List ℕ) : Type 0 where
  pub each : (i : ℕ) → slice_index values i < 2 ^ 64

-- no word is pending, and each is one of 64 bits
pub record IsSettled (words : Words) : Type 0 where
  pub kept : words ≡ settled words.kept
  pub fit : AreWords words.kept

-- a label area, if there is one, has a label area's size, and no word of it is pending
pub record IsArea (area : Option Words) : Type 0 where
  pub sized : (words : Words) → area ≡ Some words → IsAreaSize (size_of words)
  pub kept : (words : Words) → area ≡ Some words → words ≡ settled words.kept
  pub fit : (words : Words) → area ≡ Some words → AreWords words.kept

-- contents are a positive multiple of 4,096 bytes, and no word of them is pending
pub record IsContents (words : Words) : Type 0 where
  pub some : 0 < length words.kept
  pub multiple : size_of words % 4096 ≡ 0
  pub kept : words ≡ settled words.kept
  pub fit : AreWords words.kept

-- a list of bad ranges, if there is one, has a multiple of 16 bytes and at most 64 KiB
pub record IsBadRanges (ranges : Option (List ℕ)) : Type 0 where
  pub multiple : (bytes : List ℕ) → ranges ≡ Some bytes → length bytes % 16 ≡ 0
  pub few : (bytes : List ℕ) → ranges ≡ Some bytes → length bytes ≤ 65536

-- a mapping is of an existing module, and inside its contents
pub record IsMapped (sizes : List ℕ) (m : Mapping) : Type 0 where
  pub there : m.«module» < length sizes
  pub inside : m.start + m.size ≤ slice_index_or sizes m.«module» 0

abbrev pub AreMapped : List ℕ → Region → Type 0
AreMapped sizes region = All (IsMapped sizes) region.mappings

pub record IsSound (loaded : Loaded) : Type 0 where
  -- the table is the decoding of the bytes
  pub table : nfit_reading loaded.nfit_bytes ≡ Ok loaded.nfit
  pub counted : AreCounted loaded.nfit
  pub few : length loaded.nfit.regions < 2 ^ 32
  pub modules : NamesItsModules loaded.nfit
  -- one of each for each module
  pub labels : length loaded.labels ≡ length loaded.nfit.modules
  pub contents : length loaded.contents ≡ length loaded.nfit.modules
  pub bad : length loaded.bad ≡ length loaded.nfit.modules
  -- within their limits
  pub areas : All IsArea loaded.labels
  pub words : All IsContents loaded.contents
  pub ranges : All IsBadRanges loaded.bad
  pub total : sum (map size_of loaded.contents) ≤ most_contents
  pub mapped : All (AreMapped (map size_of loaded.contents)) loaded.nfit.regions
