-- The ways in which a command that changes the arenas of a namespace ends.
use Rattle.std.proofs.Common.{◌≡◌, ℕ, List, Option, Some, None, Result, Ok, Err, refl}
use Rattle.std.specs.Prelude.{MatchOption}
use Rattle.arena_open.specs.declared.state.ArenaState.{ArenaState}
use Rattle.arena_open.specs.declared.chain_refused.ChainRefused.{ChainRefused}
use Rattle.namespace_map.specs.declared.refused.OpRefused.{OpRefused}
use Rattle.namespace_areas.specs.declared.found.Found.{Found}
use Rattle.namespace_ops.specs.declared.registry.OpenFault.{OpenFault}
use Rattle.image_set.specs.Load.{ImageSet}
use Rattle.shell_reports.specs.Outcome.{Outcome}
use Rattle.shell_reports.specs.List.{open_outcome}
use Rattle.shell_reports.specs.Faults.{arena_outcome, refusal_text, refused_outcome}
use Rattle.shell_reports.specs.Causes.{fault_in, found_in, opened_in}
use Rattle.shell_sectors.specs.Found.{OnArenas, OnFound, OnSet}

pub data SetCase (on : Found → List ArenaState → Type 0) (loaded : ImageSet) (uuid : List ℕ) (o : Outcome) : Type 0 where
  set_faulty : (fault : OpenFault) → fault_in loaded ≡ Some fault → o ≡ open_outcome fault → SetCase on loaded uuid o
  set_unfound : (refusal : OpRefused) → fault_in loaded ≡ None → found_in loaded uuid ≡ Err refusal → o ≡ refused_outcome (refusal_text refusal) → SetCase on loaded uuid o
  set_broken : (found : Found) (fault : ChainRefused) → found_in loaded uuid ≡ Ok found → opened_in loaded uuid found ≡ Err fault → o ≡ arena_outcome uuid fault → SetCase on loaded uuid o
  set_opened : (found : Found) (states : List ArenaState) → fault_in loaded ≡ None → found_in loaded uuid ≡ Ok found → opened_in loaded uuid found ≡ Ok states → on found states → SetCase on loaded uuid o

module _ (on : Found → List ArenaState → Type 0) (loaded : ImageSet) (uuid : List ℕ) (o : Outcome) where
  arenas_case : (found : Found) → fault_in loaded ≡ None → found_in loaded uuid ≡ Ok found → (read : Result (List ArenaState) ChainRefused) → opened_in loaded uuid found ≡ read
      → OnArenas (on found) uuid o read → SetCase on loaded uuid o
  arenas_case found none is (Ok states) read e = set_opened found states none is read e
  arenas_case found none is (Err fault) read e = set_broken found fault is read e

  found_case : fault_in loaded ≡ None → (found : Result Found OpRefused) → found_in loaded uuid ≡ found → OnFound on uuid loaded o found → SetCase on loaded uuid o
  found_case none (Ok found) is e = arenas_case found none is (opened_in loaded uuid found) refl e
  found_case none (Err refusal) is e = set_unfound refusal none is e

  fault_case : (fault : Option OpenFault) → fault_in loaded ≡ fault → MatchOption fault (OnFound on uuid loaded o (found_in loaded uuid)) (λ fault. o ≡ open_outcome fault) → SetCase on loaded uuid o
  fault_case (Some fault) is e = set_faulty fault is e
  fault_case None is e = found_case is (found_in loaded uuid) refl e

  pub set_case : OnSet on uuid loaded o → SetCase on loaded uuid o
  set_case e = fault_case (fault_in loaded) refl e
