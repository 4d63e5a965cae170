-- Namespaces are found and opened, and their words are put: the steps of the calls of this crate.
use Rattle.std.specs.Prelude.{◌≡◌, ℕ, ◌+◌, ◌*◌, ◌<◌, Bool, if◌then◌else◌, List, [], ◌∷◌, ◌++◌, length, map}
use Rattle.std.specs.List.{All, list_any}
use Rattle.std.specs.Str.{bytes_eq}
use Rattle.cut_words.specs.WordBytes.{words_in}
use Rattle.nfit_reader.specs.declared.table.Mapping.{Mapping}
use Rattle.arena_open.specs.declared.chain_refused.ChainRefused.{ChainRefused}
use Rattle.power_cut.specs.Namespace.{ReachEnds}
use Rattle.namespace_areas.specs.Finding.{set_at}
use Rattle.namespace_bytes.specs.declared.new_bytes.NewBytes.TheVariants.{Runs}
use Rattle.namespace_bytes.specs.declared.patch.NamespacePatch.{NamespacePatch}
use Rattle.namespace_bytes.specs.declared.runs.Run.{Run}
use Rattle.sector_namespaces.specs.Changing.{IsFinding}
use Rattle.sector_namespaces.specs.View.{rows_of}
use Rattle.served_namespaces.specs.declared.places.FoundNamespace.{FoundNamespace}
use Rattle.served_namespaces.specs.declared.places.NotOpened.{NotOpened}
use Rattle.served_namespaces.specs.declared.places.NotOpened.TheVariants.{Broken, OutOfMemory}
use Rattle.served_namespaces.specs.declared.places.OpenedNamespace.{OpenedNamespace}
use Rattle.served_namespaces.specs.Places.{AreDisjoint}
use Rattle.served_namespaces.specs.Reading.{IsOpened}
use Rattle.served_namespaces.specs.Serving.{AllFit}

-- ---- finding

-- a UUID is added to a list, if it isn't there
abbrev pub is_among : List (List ℕ) → List ℕ → Bool
is_among ones uuid = list_any (λ one. bytes_eq one uuid) ones

abbrev pub added : List (List ℕ) → List ℕ → List (List ℕ)
added ones uuid = if is_among ones uuid then ones else ones ++ uuid ∷ []

-- ---- opening

-- why a namespace isn't opened: memory ran out, or an arena breaks the format
abbrev pub IsRefused : FoundNamespace → ChainRefused → NotOpened → Type 0
IsRefused place refused (Broken uuid fault) = (uuid ≡ place.uuid) × (fault ≡ refused) × IsFinding refused
IsRefused place refused OutOfMemory = Unit {0}

-- ---- putting

-- these runs put parts one behind another, from a word of the namespace on
abbrev pub ArePartRuns : ℕ → List (List ℕ) → List Run → Type 0
ArePartRuns at [] [] = Unit {0}
ArePartRuns at [] (run ∷ runs) = ⊥
ArePartRuns at (part ∷ parts) [] = ⊥
ArePartRuns at (part ∷ parts) (run ∷ runs) = (run.first ≡ 8 * at) × (length run.bytes ≡ 8 * length part) × (words_in run.bytes ≡ part) × ArePartRuns (at + length part) parts runs

-- the runs of a namespace at its place
pub record IsPartOf (place : FoundNamespace) (parts : List (List ℕ)) (patch : NamespacePatch) : Type 0 where
  pub region : patch.region ≡ place.found.region
  pub offset : patch.offset ≡ place.found.offset
  pub raw : patch.raw ≡ place.found.raw
  pub runs : List Run
  pub bytes : patch.bytes ≡ Runs runs
  pub are : ArePartRuns 0 parts runs

-- these namespaces are open, and these words may be put back
pub record IsReady (sets : List (List Mapping)) (places : List FoundNamespace) (opened : List OpenedNamespace) (words : List (List (List ℕ))) : Type 0 where
  pub places_are : map (λ (o : OpenedNamespace). o.place) opened ≡ places
  pub each : All (IsOpened sets) opened
  pub disjoint : AreDisjoint sets places
  pub fit : AllFit opened words

-- contents reach the end of each mapping of all sets
abbrev pub ReachAll : List (List Mapping) → List (List ℕ) → Type 0
ReachAll sets contents = (region : ℕ) → region < length sets → ReachEnds (set_at sets region) (rows_of contents)
