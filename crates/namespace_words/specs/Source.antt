-- A namespace whose contents stay in an image source: ACPI 6.5, section 5.2.25.4, by the formula of the places of an interleave set; its arenas:
-- UEFI 2.10, section 6.2 (BTT data structures).
use Rattle.std.specs.Prelude.{◌≡◌, ℕ, ◌+◌, ◌*◌, ◌/◌, ◌<◌, ◌≤◌, List, length, take, drop, slice_index, sum_by, Option, Some}
use Rattle.std.specs.Option.{ForSome}
use Rattle.std.specs.List.{All}
use Rattle.nvd_media.specs.Images.{Images}
use Rattle.nfit_reader.specs.declared.table.Mapping.{Mapping}
use Rattle.cut_words.specs.WordBytes.{words_in}
use Rattle.arena_layout.specs.declared.layout.Layout.{Layout}
use Rattle.arena_open.specs.Chain.{Link}
use Rattle.image_set.specs.Outline.{contents_in}
use Rattle.power_cut.specs.Namespace.{Namespace, ReachEnds, over, words_of}
use Rattle.sector_namespaces.specs.View.{rows_of}
use Rattle.namespace_bytes.specs.Patching.{bytes_by_place}

-- ---- the source

-- if the source reveals what it holds, its contents reach the end of each mapping
abbrev pub HasEnds : Option Images → List Mapping → Type 0
HasEnds held set = ForSome held (λ source. (count : ℕ) × ReachEnds set (rows_of (contents_in source count)))

-- The source reveals these contents, which reach the end of each mapping.
pub record Reveals (held : Option Images) (set : List Mapping) (contents : List (List ℕ)) : Type 0 where
  pub source : Images
  pub told : held ≡ Some source
  pub are : contents ≡ contents_in source (length contents)
  pub reach : ReachEnds set (rows_of contents)

-- ---- the namespace

-- its bytes, by place; its own modules hold nothing
abbrev pub bytes_by : Namespace → List (List ℕ) → List ℕ
bytes_by e contents = bytes_by_place e.set e.offset e.raw contents

-- its words
abbrev pub words_by : Namespace → List (List ℕ) → List ℕ
words_by e contents = (words_of (over e.set e.offset e.raw (rows_of contents))).kept

-- these words are the first ones of all
abbrev pub IsFront : List ℕ → List ℕ → Type 0
IsFront words all = words ≡ take (length words) all

-- ---- its arenas

-- these bytes are those of words, from word `at` on
abbrev pub AreBytesOf : List ℕ → ℕ → List ℕ → Type 0
AreBytesOf words at bytes = words_in bytes ≡ take (length bytes / 8) (drop at words)

-- the bytes of a map's words; two entries make a word
abbrev pub map_bytes : Layout → ℕ
map_bytes l = 8 * ((l.external + 1) / 2)

-- the numbers in the map of an arena of this layout, whose first word is `at`, are bytes
abbrev pub IsMapOfBytes : List ℕ → ℕ → Layout → Type 0
IsMapOfBytes row at l = (i : ℕ) → l.map_off ≤ i → i < l.map_off + map_bytes l → slice_index row (8 * at + i) < 256

-- so many numbers of a list, from a place on, are bytes
abbrev pub AreBytesFrom : List ℕ → ℕ → ℕ → Type 0
AreBytesFrom row from count = (i : ℕ) → from ≤ i → i < from + count → slice_index row i < 256

-- an arena ends in a namespace of so many bytes
abbrev pub IsWithin : ℕ → Link → Type 0
IsWithin bytes link = 8 * link.at + link.opened.info.layout.size ≤ bytes

-- so do all of these
abbrev pub AreWithin : ℕ → List Link → Type 0
AreWithin bytes links = All (IsWithin bytes) links

-- how many bytes these have together
abbrev pub size_of : Link → ℕ
size_of link = link.opened.info.layout.size

abbrev pub sizes_of : List Link → ℕ
sizes_of links = sum_by size_of links
