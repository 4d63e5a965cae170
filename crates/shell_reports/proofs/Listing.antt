-- The answer of `list`, from the registry.
use Rattle.std.proofs.Common.{◌≡◌, ◌≢◌, List, [], ◌∷◌, Option, Some, None, Result, Ok, Err, map, sym, ap, ◌∙◌}
use Rattle.std.specs.Prelude.{IfOk}
use Rattle.nvd_words.specs.Checks.{first_fault, value_unless}
use Rattle.nfit_reader.specs.declared.table.Nfit.{Nfit}
use Rattle.namespace_map.specs.declared.listed.Namespace.{Namespace}
use Rattle.namespace_map.specs.Namespaces.{entries_of, listed, namespace_of}
use Rattle.namespace_areas.specs.declared.area.Area.{Area}
use Rattle.label_set.specs.declared.placed.Placed.{Placed}
use Rattle.namespace_areas.specs.Areas.{labels_of}
use Rattle.namespace_areas.specs.Seen.{AreHeld}
use Rattle.namespace_areas.proofs.Seen.{seen_labels}
use Rattle.namespace_ops.specs.declared.registry.OpenFault.{OpenFault}
use Rattle.namespace_ops.specs.declared.registry.OpenFault.TheVariants.{OutOfMemory}
use Rattle.namespace_ops.specs.Opening.{registry_opening, overlap_fault, set_fault_from, sets_of}
use Rattle.namespace_ops.specs.Counted.{namespaces_in}
use Rattle.namespace_ops.specs.Registered.{Registered, opened_on, state_of}
use Rattle.shell_reports.specs.declared.outcome.Report.{Report}
use Rattle.shell_reports.specs.Outcome.{Outcome}
use Rattle.shell_reports.specs.Saved.{outcome_of}
use Rattle.shell_reports.specs.List.{listed_by, open_outcome}

module _ (nfit : Nfit) (areas : List Area) where
  abbrev fault : Option OpenFault
  fault = first_fault (set_fault_from 0 nfit.regions ∷ overlap_fault (labels_of areas) ∷ [])

  abbrev all : Registered
  all = opened_on (sets_of nfit) areas

  abbrev names : List Namespace
  names = map (λ e. namespace_of e 0) (entries_of (sets_of nfit) (labels_of areas))

  listed_here : AreHeld areas → names ≡ listed (namespaces_in (state_of all))
  listed_here held = ap (λ (ls : List Placed). map (λ e. namespace_of e 0) (entries_of (sets_of nfit) ls)) (sym (seen_labels areas held))

  lists_by : AreHeld areas → (o : Option OpenFault) (r : Registered) → Ok r ≡ value_unless all o → value_unless names o ≡ Ok (listed (namespaces_in (state_of r)))
  lists_by held None r is =
      let same : r ≡ all = (let e = is in cc) in
      ap (λ (ns : List Namespace). Ok ns) (listed_here held) ∙ ap (λ (x : Registered). Ok (listed (namespaces_in (state_of x)))) (sym same)
  lists_by held (Some f) r is = absurd (let e = is in cc)

  refuses_by : (o : Option OpenFault) (f : OpenFault) → Err f ≡ value_unless all o → value_unless names o ≡ Err f
  refuses_by None f is = absurd (let e = is in cc)
  refuses_by (Some g) f is = ap (λ (x : OpenFault). Err x) (let e = is in cc)

  -- an open registry lists the namespaces of the labels
  pub lists : AreHeld areas → (r : Registered) → Ok r ≡ registry_opening nfit areas → listed_by nfit (labels_of areas) ≡ Ok (listed (namespaces_in (state_of r)))
  unfolding registry_opening
  lists held r is = lists_by held fault r is

  -- a registry that isn't opened is refused for the same fault
  pub refuses : (f : OpenFault) → Err f ≡ registry_opening nfit areas → listed_by nfit (labels_of areas) ≡ Err f
  unfolding registry_opening
  refuses f is = refuses_by fault f is

-- the answer on a registry that isn't opened
pub fault_said : {E X : Type 0} (r : Result Report E) (f : OpenFault) (due : X → Outcome) → (f ≢ OutOfMemory → (x : X) → open_outcome f ≡ due x) → IfOk r (λ answer. outcome_of answer ≡ open_outcome f)
    → IfOk r (λ _. f ≢ OutOfMemory) → IfOk r (λ answer. (x : X) → outcome_of answer ≡ due x)
fault_said (Ok answer) f due is said finding = λ x. said ∙ is finding x
fault_said (Err e) f due is said finding = tt
