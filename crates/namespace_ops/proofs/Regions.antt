-- The sets of a registry that is opened are regions that share no bytes.
use Rattle.std.proofs.Common.{◌≡◌, ℕ, zero, suc, ◌+◌, List, [], ◌∷◌, map, Option, Some, None, Result, Ok, Err, refl, sym, ap, ◌∙◌, subst}
use Rattle.std.specs.Result.{result_err}
use Rattle.std.proofs.lemmas.Option.{none-some}
use Rattle.nvd_words.specs.Checks.{first_fault, value_unless}
use Rattle.nfit_reader.specs.declared.table.Mapping.{Mapping}
use Rattle.nfit_reader.specs.declared.table.Nfit.{Nfit}
use Rattle.nfit_reader.specs.declared.table.Region.{Region}
use Rattle.nfit_reader.specs.Counted.{AreCounted}
use Rattle.interleave.specs.declared.set.SetFault.{SetFault}
use Rattle.interleave.specs.Sets.{set_reading}
use Rattle.namespace_areas.specs.declared.area.Area.{Area}
use Rattle.namespace_areas.specs.Areas.{labels_of}
use Rattle.namespace_ops.specs.Opening.{WasRead, registry_opening, overlap_fault, set_as, set_fault_from, set_in, set_or_fault, sets_of}
use Rattle.namespace_ops.specs.Registered.{Registered, opened_on}
use Rattle.namespace_map.specs.Left.{AreRegions}
use Rattle.namespace_laws.specs.Regions.{AreSetsOf}
use Rattle.namespace_laws.proofs.TableRegions.{gives_regions}

pub no_first : {F : Type 0} (o : Option F) (os : List (Option F)) → first_fault (o ∷ os) ≡ None → (o ≡ None) × (first_fault os ≡ None)
unfolding first_fault
no_first None os e = (refl, e)
no_first (Some f) os e = absurd (none-some f (sym e))

read_by : (number : ℕ) (r : Result (List Mapping) SetFault) → result_err (set_as number r) ≡ None → r ≡ Ok (set_in r)
read_by number (Ok set) e = refl
read_by number (Err f) e = absurd (none-some _ (sym e))

-- where no region has a fault, each set is what its region is read as
pub sets_are : (regions : List Region) (number : ℕ) → set_fault_from number regions ≡ None → AreSetsOf regions (map (λ r. set_in (set_reading r)) regions)
unfolding set_fault_from
sets_are [] number none i set at_it = absurd (none-some set at_it)
sets_are (r ∷ rs) number none zero set at_it =
    let here = no_first (result_err (set_or_fault number r)) (set_fault_from (number + 1) rs ∷ []) none in
    let same : set_in (set_reading r) ≡ set = (let e = at_it in cc) in
    (r, refl, read_by number (set_reading r) here.0 ∙ ap (λ (s : List Mapping). Ok s) same)
sets_are (r ∷ rs) number none (suc i) set at_it =
    let here = no_first (result_err (set_or_fault number r)) (set_fault_from (number + 1) rs ∷ []) none in
    sets_are rs (number + 1) (no_first (set_fault_from (number + 1) rs) [] here.1).0 i set at_it

pub parts_of : {A F : Type 0} (v w : A) (o : Option F) → Ok w ≡ value_unless v o → (o ≡ None) × (v ≡ w)
parts_of v w None e = (refl, let e' = e in cc)
parts_of v w (Some f) e = absurd (let e' = e in cc)

-- sets that are answered are those of all regions
pub sets_read : (nfit : Nfit) (sets : List (List Mapping)) → Ok sets ≡ value_unless (sets_of nfit) (set_fault_from 0 nfit.regions) → (set_fault_from 0 nfit.regions ≡ None) × (sets_of nfit ≡ sets)
sets_read nfit sets is = parts_of (sets_of nfit) sets (set_fault_from 0 nfit.regions) is

-- and no two of them meet
pub regions_read : (nfit : Nfit) (sets : List (List Mapping)) → WasRead nfit → AreCounted nfit → Ok sets ≡ value_unless (sets_of nfit) (set_fault_from 0 nfit.regions) → AreRegions sets
regions_read nfit sets (bytes, read) counted is =
    let parts = sets_read nfit sets is in
    subst AreRegions parts.1 (gives_regions bytes nfit (sets_of nfit) read counted (sets_are nfit.regions 0 parts.0))

-- what a registry was opened on
pub record WasOpened (nfit : Nfit) (areas : List Area) (opened : Registered) : Type 0 where
  pub sound : set_fault_from 0 nfit.regions ≡ None
  pub clear : overlap_fault (labels_of areas) ≡ None
  pub is : opened ≡ opened_on (sets_of nfit) areas
  pub sets : sets_of nfit ≡ opened.sets
  pub areas_are : areas ≡ opened.areas

pub was_opened : (nfit : Nfit) (areas : List Area) (opened : Registered) → Ok opened ≡ registry_opening nfit areas → WasOpened nfit areas opened
unfolding registry_opening
was_opened nfit areas opened is =
    let parts = parts_of (opened_on (sets_of nfit) areas) opened (first_fault (set_fault_from 0 nfit.regions ∷ overlap_fault (labels_of areas) ∷ [])) is in
    let one = no_first (set_fault_from 0 nfit.regions) (overlap_fault (labels_of areas) ∷ []) parts.0 in
    record {
      sound = one.0;
      clear = (no_first (overlap_fault (labels_of areas)) [] one.1).0;
      is = sym parts.1;
      sets = ap (λ (r : Registered). r.sets) parts.1;
      areas_are = ap (λ (r : Registered). r.areas) parts.1;
    }
