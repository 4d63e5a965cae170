-- The ways in which a command on the arenas of a namespace ends.
use Rattle.std.proofs.Common.{◌≡◌, ℕ, List, Option, Some, None, Result, Ok, Err, refl}
use Rattle.arena_open.specs.declared.state.ArenaState.{ArenaState}
use Rattle.arena_open.specs.declared.chain_refused.ChainRefused.{ChainRefused}
use Rattle.namespace_map.specs.declared.refused.OpRefused.{OpRefused}
use Rattle.namespace_areas.specs.declared.found.Found.{Found}
use Rattle.namespace_ops.specs.declared.registry.OpenFault.{OpenFault}
use Rattle.namespace_ops.specs.Opening.{sets_of}
use Rattle.image_set.specs.Load.{ImageSet}
use Rattle.shell_reports.specs.Outcome.{Outcome}
use Rattle.shell_reports.specs.List.{open_outcome}
use Rattle.shell_reports.specs.Faults.{arena_outcome, refusal_text, refused_outcome}
use Rattle.shell_reports.specs.Sectors.{on_arenas, on_found, on_sectors, unless_fault}
use Rattle.shell_reports.specs.Causes.{fault_in, found_in, opened_in}

pub data SectorsCase (f : List ArenaState → Outcome) (loaded : ImageSet) (uuid : List ℕ) (o : Outcome) : Type 0 where
  faulty : (fault : OpenFault) → fault_in loaded ≡ Some fault → o ≡ open_outcome fault → SectorsCase f loaded uuid o
  unfound : (refusal : OpRefused) → fault_in loaded ≡ None → found_in loaded uuid ≡ Err refusal → o ≡ refused_outcome (refusal_text refusal) → SectorsCase f loaded uuid o
  broken : (found : Found) (fault : ChainRefused) → found_in loaded uuid ≡ Ok found → opened_in loaded uuid found ≡ Err fault → o ≡ arena_outcome uuid fault → SectorsCase f loaded uuid o
  opened : (found : Found) (states : List ArenaState) → fault_in loaded ≡ None → found_in loaded uuid ≡ Ok found → opened_in loaded uuid found ≡ Ok states → o ≡ f states → SectorsCase f loaded uuid o

module _ (f : List ArenaState → Outcome) (loaded : ImageSet) (uuid : List ℕ) where
  arenas_case : (found : Found) (o : Outcome) → fault_in loaded ≡ None → found_in loaded uuid ≡ Ok found → (read : Result (List ArenaState) ChainRefused) → opened_in loaded uuid found ≡ read
      → o ≡ on_arenas uuid f read → SectorsCase f loaded uuid o
  arenas_case found o none is (Ok states) read e = opened found states none is read e
  arenas_case found o none is (Err fault) read e = broken found fault is read e

  found_case : (o : Outcome) → fault_in loaded ≡ None → (found : Result Found OpRefused) → found_in loaded uuid ≡ found
      → o ≡ on_found uuid f (sets_of loaded.nfit) loaded.contents found → SectorsCase f loaded uuid o
  found_case o none (Ok found) is e = arenas_case found o none is (opened_in loaded uuid found) refl e
  found_case o none (Err refusal) is e = unfound refusal none is e

  fault_case : (o : Outcome) (fault : Option OpenFault) → fault_in loaded ≡ fault
      → o ≡ unless_fault fault (on_found uuid f (sets_of loaded.nfit) loaded.contents (found_in loaded uuid)) → SectorsCase f loaded uuid o
  fault_case o (Some fault) is e = faulty fault is e
  fault_case o None is e = found_case o is (found_in loaded uuid) refl e

  pub sectors_case : (o : Outcome) → o ≡ on_sectors f loaded uuid → SectorsCase f loaded uuid o
  unfolding on_sectors
  sectors_case o e = fault_case o (fault_in loaded) refl e
