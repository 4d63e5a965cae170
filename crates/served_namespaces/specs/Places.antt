-- Where namespaces that are open at once lie, and the words of their arenas: ACPI 6.5, section 5.2.25.4 (the place of a byte of an
-- interleave set), and UEFI 2.10, section 6.2 (NextOff of the BTT Info Block).
use Rattle.std.specs.Prelude.{◌≡◌, ◌≢◌, ℕ, ◌*◌, ◌/◌, ◌%◌, ◌^◌, ◌<◌, Bool, true, false, List, [], length, drop, map, slice_get, slice_index, sum_by, Contains, Some}
use Rattle.cut_words.specs.Words.{Words}
use Rattle.nfit_reader.specs.declared.table.Mapping.{Mapping}
use Rattle.interleave.specs.Places.{LiesAt, unit_of}
use Rattle.interleave.specs.Sound.{AreWords, IsPlacing, PartsAlike, span_of}
use Rattle.interleave.specs.Sound as set
use Rattle.label_codec.specs.declared.mode.Mode.TheVariants as mode
use Rattle.arena_open.specs.declared.state.ArenaState.{ArenaState}
use Rattle.power_cut.specs.Namespace.{Namespace, byte_at, is_inside, over, row_of, words_of}
use Rattle.namespace_areas.specs.declared.found.Found.{Found}
use Rattle.namespace_areas.specs.Finding.{LiesInSet, set_at}
use Rattle.served_namespaces.specs.declared.places.FoundNamespace.{FoundNamespace}
use Rattle.served_namespaces.specs.declared.places.OpenedNamespace.{OpenedNamespace}

-- ---- a namespace of an image set

-- a namespace that was found, over these words of the modules
abbrev pub place_in : List (List Mapping) → Found → List Words → Namespace
place_in sets found rows = over (set_at sets found.region) found.offset found.raw rows

-- its words, in order
abbrev pub words_at : List (List Mapping) → Found → List Words → List ℕ
words_at sets found rows = (words_of (place_in sets found rows)).kept

-- an address of a module lies in one of its extents
abbrev pub has_address : List (List Mapping) → Found → ℕ → ℕ → Bool
has_address sets found which address = is_inside (place_in sets found []) which address

-- it is one of sectors, and lies in its region's set in whole units
pub record CanOpen (sets : List (List Mapping)) (place : FoundNamespace) : Type 0 where
  pub lies : LiesInSet sets place.found
  pub sector : place.found.mode ≡ mode.Sector

-- ---- several

-- no address of a module lies in extents of both
abbrev pub ShareNoAddress : List (List Mapping) → Found → Found → Type 0
ShareNoAddress sets a b = (which address : ℕ) → has_address sets a which address ≡ true → has_address sets b which address ≡ false

-- the same for any two of a list
abbrev pub AreDisjoint : List (List Mapping) → List FoundNamespace → Type 0
AreDisjoint sets places = (i j : ℕ) (a b : FoundNamespace) → i ≢ j → slice_get places i ≡ Some a → slice_get places j ≡ Some b → ShareNoAddress sets a.found b.found

-- no two UUIDs of a list are the same
abbrev pub AreDifferent : List (List ℕ) → Type 0
AreDifferent uuids = (i j : ℕ) (u v : List ℕ) → i ≢ j → slice_get uuids i ≡ Some u → slice_get uuids j ≡ Some v → u ≢ v

-- ---- the words of arenas

-- The arenas of a namespace stand one behind another, from its first word on: NextOff of each is its own size, but for the last. So they have
-- this many of its words.
abbrev pub arena_words : List ArenaState → ℕ
arena_words states = sum_by (λ state. state.info.layout.size / 8) states

-- the words of a namespace behind these arenas, its arenas, are as they were
abbrev pub KeepsBehind : List ℕ → List ℕ → List ArenaState → Type 0
KeepsBehind was now states = drop (arena_words states) now ≡ drop (arena_words states) was

-- Word k of a module is a word of an arena of a namespace.
pub record IsArenaWord (sets : List (List Mapping)) (which k : ℕ) (o : OpenedNamespace) : Type 0 where
  -- its number in the namespace
  pub word : ℕ
  pub below : word < arena_words o.states
  pub at : LiesAt (set_at sets o.place.found.region) (byte_at (place_in sets o.place.found []) word) which (8 * k)

-- Each module has as many words as it had. A word of a module is as it was, if it is no word of an arena of these namespaces.
pub record KeepsBeside (sets : List (List Mapping)) (opened : List OpenedNamespace) (rows now : List Words) : Type 0 where
  pub sizes : map (λ (w : Words). length w.kept) now ≡ map (λ (w : Words). length w.kept) rows
  pub same : (which k : ℕ) → ((o : OpenedNamespace) → Contains opened o → IsArenaWord sets which k o → ⊥)
      → slice_index (row_of now which).kept k ≡ slice_index (row_of rows which).kept k

-- ---- interleave sets

-- what an interleave set promises of its bytes
pub record PlacesBytes (mappings : List Mapping) : Type 0 where
  pub places : IsPlacing mappings (length mappings * span_of mappings)
  pub words : AreWords mappings
  pub parts : PartsAlike mappings
  pub apart : set.AreApart mappings
  pub each : (m : Mapping) → Contains mappings m → m.size ≡ span_of mappings
  pub fits : length mappings * span_of mappings < 2 ^ 64
  pub eights : unit_of mappings % 8 ≡ 0

-- the same for the sets of all regions
abbrev pub PlaceBytes : List (List Mapping) → Type 0
PlaceBytes sets = (region : ℕ) → region < length sets → PlacesBytes (set_at sets region)
