-- Namespaces whose arenas are read from an image source: ACPI 6.5, section 5.2.25.4 (the place of a byte of an interleave set), and UEFI 2.10,
-- section 6.2 (BTT data structures).
use Rattle.std.specs.Prelude.{◌≡◌, ◌≢◌, ℕ, ◌*◌, ◌%◌, ◌^◌, ◌<◌, ◌≤◌, List, length, map, sum_by, Option, Result, Ok, Err, Contains}
use Rattle.nvd_media.specs.Images.{Images}
use Rattle.cut_words.specs.Words.{Words}
use Rattle.nfit_reader.specs.declared.table.Mapping.{Mapping}
use Rattle.interleave.specs.Places.{unit_of}
use Rattle.interleave.specs.Sound.{span_of}
use Rattle.arena_open.specs.declared.chain_refused.ChainRefused.{ChainRefused}
use Rattle.arena_open.specs.declared.refused.OpenRefused.TheVariants as open_refused
use Rattle.arena_open.specs.declared.state.ArenaState.{ArenaState}
use Rattle.arena_open.specs.Chain.{found_again, state_at}
use Rattle.arena_open.specs.ChainCells.{AreOpen}
use Rattle.namespace_areas.specs.Finding.{set_at}
use Rattle.namespace_bytes.specs.Patching.{bytes_by_place}
use Rattle.namespace_bytes.specs.Putting.{AreAll}
use Rattle.namespace_bytes.specs.SectorBytes.{HaveMapsOfBytes}
use Rattle.namespace_bytes.specs.SectorPut.{AreSized}
use Rattle.namespace_words.specs.Source.{AreWithin, HasEnds, Reveals, sizes_of}
use Rattle.sector_namespaces.specs.View.{opened_view, rows_of}
use Rattle.served_namespaces.specs.declared.places.NotOpened.{NotOpened}
use Rattle.served_namespaces.specs.declared.places.NotOpened.TheVariants.{Broken}
use Rattle.served_namespaces.specs.declared.places.OpenedNamespace.{OpenedNamespace}
use Rattle.served_namespaces.specs.declared.places.ReadNamespace.{ReadNamespace}
use Rattle.served_namespaces.specs.Places.{CanOpen, KeepsBehind, arena_words, words_at}

-- ---- the source

-- The arenas of a set's namespaces can be read: its unit is whole pages, and it has at most 2^55 bytes.
pub record IsReadable (set : List Mapping) : Type 0 where
  pub pages : unit_of set % 4096 ≡ 0
  pub few : length set * span_of set ≤ 2 ^ 55

-- the same for the sets of all regions
abbrev pub AreReadable : List (List Mapping) → Type 0
AreReadable sets = (region : ℕ) → region < length sets → IsReadable (set_at sets region)

-- if the source reveals what it holds, its contents reach the end of each mapping of all sets
abbrev pub HaveEnds : Option Images → List (List Mapping) → Type 0
HaveEnds held sets = (region : ℕ) → region < length sets → HasEnds held (set_at sets region)

-- the source reveals these contents, which reach the end of each mapping of all sets
abbrev pub RevealsAll : Option Images → List (List Mapping) → List (List ℕ) → Type 0
RevealsAll held sets contents = (region : ℕ) → region < length sets → Reveals held (set_at sets region) contents

-- ---- namespaces whose arenas were read

-- Whatever the source reveals, the arenas are sound, are no larger than the namespace together, and each lies in it.
pub record IsSoundRead (sets : List (List Mapping)) (n : ReadNamespace) : Type 0 where
  pub can : CanOpen sets n.place
  pub sized : AreSized n.arenas
  pub within : AreWithin (length (set_at sets n.place.found.region) * n.place.found.raw) n.arenas
  pub total : sizes_of n.arenas ≤ 2 ^ 55

-- With these contents they are all arenas of the namespace.
pub record IsReadIn (sets : List (List Mapping)) (contents : List (List ℕ)) (n : ReadNamespace) : Type 0 where
  pub all : AreAll (words_at sets n.place.found (rows_of contents)) n.place.uuid n.arenas
  pub maps : HaveMapsOfBytes (bytes_by_place (set_at sets n.place.found.region) n.place.found.offset n.place.found.raw contents) n.arenas

-- the namespace, opened in these contents
abbrev pub opened_in : List (List Mapping) → List (List ℕ) → ReadNamespace → OpenedNamespace
opened_in sets contents n = record { place = n.place; states = map (state_at (words_at sets n.place.found (rows_of contents))) n.arenas }

abbrev pub opened_all : List (List Mapping) → List (List ℕ) → List ReadNamespace → List OpenedNamespace
opened_all sets contents read = map (opened_in sets contents) read

-- how many bytes the arenas of these have together
abbrev pub read_bytes : List ReadNamespace → ℕ
read_bytes read = sum_by (λ (n : ReadNamespace). sizes_of n.arenas) read

-- the same of namespaces that are opened
abbrev pub states_bytes : List ArenaState → ℕ
states_bytes states = sum_by (λ (s : ArenaState). s.info.layout.size) states

abbrev pub opened_bytes : List OpenedNamespace → ℕ
opened_bytes opened = sum_by (λ (o : OpenedNamespace). states_bytes o.states) opened

-- ---- namespaces that are open

-- Whatever the source reveals, the arenas are open, and there are words for them in a namespace.
pub record IsOpened (sets : List (List Mapping)) (o : OpenedNamespace) : Type 0 where
  pub can : CanOpen sets o.place
  pub are_open : AreOpen o.states
  pub few : arena_words o.states ≤ 2 ^ 52

-- In these words of the modules a namespace holds its arenas, once all pending moves are made.
pub record IsHeld (sets : List (List Mapping)) (rows : List Words) (o : OpenedNamespace) : Type 0 where
  -- its words then
  pub moved : List ℕ
  pub long : length moved ≡ length (words_at sets o.place.found rows)
  pub found : opened_view moved o.place.uuid ≡ Ok (map found_again o.states)
  pub behind : KeepsBehind (words_at sets o.place.found rows) moved o.states

abbrev pub AreHeld : List (List Mapping) → List Words → List OpenedNamespace → Type 0
AreHeld sets rows opened = (o : OpenedNamespace) → Contains opened o → IsHeld sets rows o

-- no arena breaks the format
abbrev pub IsUnbroken : {T : Type 0} → Result T NotOpened → Type 0
IsUnbroken {T} result = (uuid : List ℕ) (fault : ChainRefused) → result ≢ Err (Broken uuid fault)

-- no arena is refused because power was cut
abbrev pub IsUncut : {T : Type 0} → Result T NotOpened → Type 0
IsUncut {T} result = (uuid : List ℕ) (fault : ChainRefused) → result ≡ Err (Broken uuid fault) → fault.fault ≢ open_refused.PowerCut
