-- Opening namespaces one after another: this project's rules over UEFI 2.10, section 6.3 (BTT theory of operation).
use Rattle.std.specs.Prelude.{ℕ, not, List, [], ◌∷◌, filter, filter_map, Option, Some, None, Result, Ok, Err}
use Rattle.std.specs.Str.{bytes_eq}
use Rattle.cut_words.specs.Words.{Words}
use Rattle.nfit_reader.specs.declared.table.Mapping.{Mapping}
use Rattle.arena_open.specs.declared.chain_refused.ChainRefused.{ChainRefused}
use Rattle.arena_open.specs.declared.state.ArenaState.{ArenaState}
use Rattle.namespace_map.specs.Namespaces.{Namespaces, lookup}
use Rattle.namespace_map.specs.declared.refused.OpRefused.{OpRefused}
use Rattle.namespace_areas.specs.declared.found.Found.{Found}
use Rattle.namespace_areas.specs.Finding.{found_of}
use Rattle.sector_namespaces.specs.View.{opened_view}
use Rattle.served_namespaces.specs.declared.places.FoundNamespace.{FoundNamespace}
use Rattle.served_namespaces.specs.declared.places.OpenedNamespace.{OpenedNamespace}
use Rattle.served_namespaces.specs.Places.{words_at}

-- ---- which are found

-- each of these UUIDs once, in order of its first place
unfoldable pub firsts : List (List ℕ) → List (List ℕ)
firsts [] = []
firsts (uuid ∷ uuids) = uuid ∷ filter (λ u. not (bytes_eq u uuid)) (firsts uuids)

abbrev pub found_as : List ℕ → Result Found OpRefused → Option FoundNamespace
found_as uuid (Ok found) = Some (record { uuid = uuid; found = found })
found_as uuid (Err refused) = None

-- those of these UUIDs that are complete sector namespaces, in order
abbrev pub found_each : List (List Mapping) → Namespaces → List (List ℕ) → List FoundNamespace
found_each sets ns uuids = filter_map (λ uuid. found_as uuid (found_of sets (lookup uuid ns.entries))) uuids

-- ---- with their arenas

-- an arena that breaks the format, and of which namespace it is
pub record Broken : Type 0 where
  pub uuid : List ℕ
  pub fault : ChainRefused

abbrev pub and_opened : OpenedNamespace → Result (List OpenedNamespace) Broken → Result (List OpenedNamespace) Broken
and_opened o (Ok opened) = Ok (o ∷ opened)
and_opened o (Err broken) = Err broken

abbrev pub on_states : FoundNamespace → Result (List ArenaState) ChainRefused → Result (List OpenedNamespace) Broken → Result (List OpenedNamespace) Broken
on_states place (Ok states) rest = and_opened (record { place = place; states = states }) rest
on_states place (Err fault) rest = Err (record { uuid = place.uuid; fault = fault })

-- the arenas in the words of each, all over the same words of the modules, or the first namespace of which an arena breaks the format
abbrev pub opened_each : List (List Mapping) → List Words → List FoundNamespace → Result (List OpenedNamespace) Broken
opened_each sets rows [] = Ok []
opened_each sets rows (place ∷ places) = on_states place (opened_view (words_at sets place.found rows) place.uuid) (opened_each sets rows places)
