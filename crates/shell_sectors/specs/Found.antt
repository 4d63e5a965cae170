-- A sector namespace that was found in a loaded set, and what a command on its arenas may come to: this project's rules over UEFI 2.10, chapter 6.
use Rattle.std.specs.Prelude.{◌≡◌, ◌⊎◌, ℕ, List, length, map, None, Some, Result, Ok, Err, MatchOption}
use Rattle.cut_words.specs.Words.{Words, settled}
use Rattle.cut_words.specs.WordBytes.{bytes_of, words_in}
use Rattle.arena_open.specs.declared.chain_refused.ChainRefused.{ChainRefused}
use Rattle.arena_open.specs.declared.state.ArenaState.{ArenaState}
use Rattle.power_cut.specs.Namespace.{Namespace, beside_of, over, words_of}
use Rattle.image_set.specs.Changed.{objects_of}
use Rattle.image_set.specs.Load.{ImageSet}
use Rattle.namespace_map.specs.declared.refused.OpRefused.{OpRefused}
use Rattle.namespace_areas.specs.declared.found.Found.{Found}
use Rattle.namespace_areas.specs.Finding.{set_at}
use Rattle.namespace_ops.specs.declared.registry.OpenFault.{OpenFault}
use Rattle.namespace_ops.specs.Opening.{sets_of}
use Rattle.sector_namespaces.specs.View.{rows_of}
use Rattle.shell_reports.specs.declared.status.Ending.{Ending}
use Rattle.shell_reports.specs.Causes.{fault_in, found_in, opened_in}
use Rattle.shell_reports.specs.Faults.{arena_outcome, refusal_text, refused_outcome}
use Rattle.shell_reports.specs.List.{open_outcome}
use Rattle.shell_reports.specs.Outcome.{Outcome}
use Rattle.shell_reports.specs.Saved.{IsSaving}

-- ---- a namespace that isn't found

-- The set or its labels have a fault, or they have no such namespace.
abbrev pub IsUnfound : ImageSet → List ℕ → Outcome → Type 0
IsUnfound loaded uuid outcome =
    ((fault : OpenFault) × (fault_in loaded ≡ Some fault) × (outcome ≡ open_outcome fault))
    ⊎ ((fault_in loaded ≡ None) × ((refusal : OpRefused) × (found_in loaded uuid ≡ Err refusal) × (outcome ≡ refused_outcome (refusal_text refusal))))

-- ---- a command on its arenas

-- on the arenas, or why they aren't opened
abbrev pub OnArenas : (List ArenaState → Type 0) → List ℕ → Outcome → Result (List ArenaState) ChainRefused → Type 0
OnArenas on uuid outcome (Ok states) = on states
OnArenas on uuid outcome (Err fault) = outcome ≡ arena_outcome uuid fault

-- on the namespace, or why it isn't found
abbrev pub OnFound : (Found → List ArenaState → Type 0) → List ℕ → ImageSet → Outcome → Result Found OpRefused → Type 0
OnFound on uuid loaded outcome (Ok found) = OnArenas (on found) uuid outcome (opened_in loaded uuid found)
OnFound on uuid loaded outcome (Err refusal) = outcome ≡ refused_outcome (refusal_text refusal)

-- What a command on the arenas of a namespace may come to: the table and the labels are checked, then the namespace is found, and
-- then all of its arenas are opened.
abbrev pub OnSet : (Found → List ArenaState → Type 0) → List ℕ → ImageSet → Outcome → Type 0
OnSet on uuid loaded outcome = MatchOption (fault_in loaded) (OnFound on uuid loaded outcome (found_in loaded uuid)) (λ fault. outcome ≡ open_outcome fault)

-- ---- the set that it saves

-- a namespace over these words of the modules
abbrev pub place_of : ImageSet → Found → List Words → Namespace
place_of loaded found rows = over (set_at (sets_of loaded.nfit) found.region) found.offset found.raw rows

-- an image set with these words as the modules' contents
abbrev pub with_contents : ImageSet → List (List ℕ) → ImageSet
with_contents loaded rows = record { nfit = loaded.nfit; nfit_bytes = loaded.nfit_bytes; labels = loaded.labels; contents = map bytes_of rows; bad = loaded.bad }

-- The loaded set is saved with other words in the namespace. They are like this.
pub record SavesNamespace (found : Found) (loaded : ImageSet) (Like : List ℕ → Type 0) (ending : Ending) (text : List ℕ) (outcome : Outcome) : Type 0 where
  pub rows : List (List ℕ)
  -- each module has as many words as it had
  pub sizes : map (λ (row : List ℕ). length row) rows ≡ map (λ (bytes : List ℕ). length (words_in bytes)) loaded.contents
  -- all words outside the namespace's extents are as loaded
  pub beside : beside_of (place_of loaded found (map settled rows)) ≡ beside_of (place_of loaded found (rows_of loaded.contents))
  pub words : Like (words_of (place_of loaded found (map settled rows))).kept
  pub saves : IsSaving ending text (objects_of (with_contents loaded rows)) outcome
