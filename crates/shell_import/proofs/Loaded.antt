-- From what was found in a set to what the command comes to.
use Rattle.std.proofs.Common.{◌≡◌, ◌⊎◌, ℕ, List, Option, None, Some, Result, Ok, Err, sym, subst, inl, inr}
use Rattle.std.specs.Prelude.{MatchOption}
use Rattle.image_set.specs.Load.{ImageSet}
use Rattle.namespace_map.specs.declared.refused.OpRefused.{OpRefused}
use Rattle.namespace_areas.specs.declared.found.Found.{Found}
use Rattle.namespace_ops.specs.declared.registry.OpenFault.{OpenFault}
use Rattle.shell_reports.specs.Causes.{fault_in}
use Rattle.shell_reports.specs.Faults.{refusal_text, refused_outcome}
use Rattle.shell_reports.specs.List.{open_outcome}
use Rattle.shell_reports.specs.Outcome.{Outcome}
use Rattle.shell_import.specs.Import.{ImportComes, OnPlace, place_in}

-- ---- the relation

module _ (uuid bytes : List ℕ) (loaded : ImageSet) (outcome : Outcome) where
  abbrev OnFault : Option OpenFault → Type 0
  OnFault f = MatchOption f (OnPlace uuid bytes loaded outcome (place_in loaded uuid)) (λ fault. outcome ≡ open_outcome fault)

  -- the set or its labels have a fault, or they have no such namespace
  abbrev IsUnplaced : Type 0
  IsUnplaced =
      ((fault : OpenFault) × (fault_in loaded ≡ Some fault) × (outcome ≡ open_outcome fault))
      ⊎ ((fault_in loaded ≡ None) × ((refusal : OpRefused) × (place_in loaded uuid ≡ Err refusal) × (outcome ≡ refused_outcome (refusal_text refusal))))

  pub unplaced_comes : IsUnplaced → ImportComes uuid bytes loaded outcome
  unplaced_comes (inl (fault, e, said)) = subst (λ (f : Option OpenFault). OnFault f) (sym e) said
  unplaced_comes (inr (none, (refusal, e, said))) =
      subst (λ (f : Option OpenFault). OnFault f) (sym none) (subst (λ (r : Result Found OpRefused). OnPlace uuid bytes loaded outcome r) (sym e) said)

  pub placed_comes : (found : Found) → fault_in loaded ≡ None → place_in loaded uuid ≡ Ok found → OnPlace uuid bytes loaded outcome (Ok found) → ImportComes uuid bytes loaded outcome
  placed_comes found none e on =
      subst (λ (f : Option OpenFault). OnFault f) (sym none) (subst (λ (r : Result Found OpRefused). OnPlace uuid bytes loaded outcome r) (sym e) on)
