-- Opening in two steps.
use Rattle.std.proofs.Common.{◌≡◌, ◌≢◌, List, [], ◌∷◌, Option, Some, None, Result, Ok, Err, refl, ap, ◌∙◌}
use Rattle.nvd_words.specs.Checks.{first_fault, value_unless}
use Rattle.nfit_reader.specs.declared.table.Mapping.{Mapping}
use Rattle.nfit_reader.specs.declared.table.Nfit.{Nfit}
use Rattle.namespace_areas.specs.declared.area.Area.{Area}
use Rattle.namespace_areas.specs.Areas.{labels_of}
use Rattle.namespace_ops.specs.declared.registry.OpenFault.{OpenFault}
use Rattle.namespace_ops.specs.declared.registry.OpenFault.TheVariants.{OutOfMemory}
use Rattle.namespace_ops.specs.Registered.{Registered, opened_on}
use Rattle.namespace_ops.specs.Opening.{registry_opening, sets_of, set_fault_from, overlap_fault}

module _ (nfit : Nfit) (areas : List Area) where
  abbrev all : Registered
  all = opened_on (sets_of nfit) areas

  -- by the first of the two checks
  abbrev over : Option OpenFault → Result Registered OpenFault
  over fault = value_unless all (first_fault (fault ∷ overlap_fault (labels_of areas) ∷ []))

  refused : (o : Option OpenFault) (f : OpenFault) → Err f ≡ value_unless (sets_of nfit) o → Err f ≡ over o
  unfolding first_fault
  refused None f is = absurd (let e = is in cc)
  refused (Some g) f is = ap (λ (x : OpenFault). Err x) (let e = is in cc)

  accepted : (o : Option OpenFault) (sets : List (List Mapping)) → Ok sets ≡ value_unless (sets_of nfit) o → value_unless (opened_on sets areas) (overlap_fault (labels_of areas)) ≡ over o
  unfolding first_fault
  accepted None sets is = by (overlap_fault (labels_of areas)) (let e = is in cc)
    where
      by : (p : Option OpenFault) → sets ≡ sets_of nfit → value_unless (opened_on sets areas) p ≡ value_unless all (first_fault (None ∷ p ∷ []))
      by None same = ap (λ (xs : List (List Mapping)). Ok (opened_on xs areas)) same
      by (Some f) same = refl
  accepted (Some f) sets is = absurd (let e = is in cc)

  -- a region is no set
  pub set_refused : (f : OpenFault) → (f ≢ OutOfMemory → Err f ≡ value_unless (sets_of nfit) (set_fault_from 0 nfit.regions)) → f ≢ OutOfMemory → Err f ≡ registry_opening nfit areas
  unfolding registry_opening
  set_refused f told other = refused (set_fault_from 0 nfit.regions) f (told other)

  -- all regions are sets
  pub set_accepted : (sets : List (List Mapping)) (r : Result Registered OpenFault) → Ok sets ≡ value_unless (sets_of nfit) (set_fault_from 0 nfit.regions)
      → (r ≢ Err OutOfMemory → r ≡ value_unless (opened_on sets areas) (overlap_fault (labels_of areas))) → r ≢ Err OutOfMemory → r ≡ registry_opening nfit areas
  unfolding registry_opening
  set_accepted sets r sets_are told other = told other ∙ accepted (set_fault_from 0 nfit.regions) sets sets_are
