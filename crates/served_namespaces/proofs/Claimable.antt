-- A namespace that may be claimed is found.
use Rattle.std.proofs.Common.{◌≡◌, ℕ, Bool, true, false, List, [], ◌∷◌, Option, Some, None, Ok, refl, sym, ap, ◌∙◌}
use Rattle.std.specs.Prelude.{not, slice_get, if◌then◌else◌}
use Rattle.std.specs.Option.{option_map}
use Rattle.std.specs.List.{list_any}
use Rattle.std.proofs.lemmas.Bool.{false≢true}
use Rattle.std.proofs.lemmas.Option.{none-some}
use Rattle.nvd_words.specs.Checks.{first_fault, fault_if}
use Rattle.nfit_reader.specs.declared.table.Mapping.{Mapping}
use Rattle.label_set.specs.declared.placed.Placed.{Placed}
use Rattle.label_set.specs.declared.placed.SetStatus.TheVariants.{Local, Incomplete}
use Rattle.label_set.specs.declared.placed.Why.TheVariants.{Outside}
use Rattle.label_set.specs.Rules.{is_local}
use Rattle.label_set.specs.Status.{status_of}
use Rattle.namespace_map.specs.Changes.{namespaces_of, placed_in_all}
use Rattle.namespace_map.specs.Commands.{entry_refusal, is_complete, is_sector}
use Rattle.namespace_map.specs.declared.refused.OpRefused.{OpRefused}
use Rattle.namespace_map.specs.declared.refused.OpRefused.TheVariants.{NoSuch, NotComplete, NotSector}
use Rattle.namespace_map.specs.Namespaces.{NamespaceEntry, entry_at, entry_with, labels_with, lookup, region_of, status_in}
use Rattle.namespace_map.proofs.Entries.{lookup_entries}
use Rattle.namespace_areas.specs.declared.found.Found.{Found}
use Rattle.namespace_areas.specs.Finding.{found_at, found_by, found_of}
use Rattle.served_namespaces.specs.Laws.{ClaimableIsFound}

-- the labels of a complete entry have a region
pub record HasRegion (sets : List (List Mapping)) (p : Placed) (rest : List Placed) : Type 0 where
  pub number : ℕ
  pub set : List Mapping
  pub here : region_of sets p ≡ Some (number, set)
  pub complete : is_complete (status_of set (p ∷ rest)) ≡ true

pub has_region : (sets : List (List Mapping)) (p : Placed) (rest : List Placed) → is_complete (entry_with sets (p ∷ rest) p).status ≡ true → HasRegion sets p rest
has_region sets p rest e = by (region_of sets p) refl e
  where
    neither : (b : Bool) → is_complete (if b then Local else Incomplete (Outside p.«module»)) ≡ false
    neither true = refl
    neither false = refl

    by : (o : Option (ℕ × List Mapping)) → region_of sets p ≡ o → is_complete (status_in o (p ∷ rest) p) ≡ true → HasRegion sets p rest
    by None is f = absurd (false≢true (sym (neither (list_any is_local (p ∷ rest))) ∙ f))
    by (Some (number, set)) is f = record { number = number; set = set; here = is; complete = f }

-- what isn't refused
passed : (b : Bool) (fault : OpRefused) (os : List (Option OpRefused)) → first_fault (fault_if (not b) fault ∷ os) ≡ None → (b ≡ true) × (first_fault os ≡ None)
unfolding first_fault
passed true fault os e = (refl, e)
passed false fault os e = absurd (none-some fault (sym e))

pub record MayClaim (e : NamespaceEntry) : Type 0 where
  pub complete : is_complete e.status ≡ true
  pub sector : is_sector e.mode ≡ true

pub may_claim : (e : NamespaceEntry) → entry_refusal (Some e) (λ e. fault_if (not (is_sector e.mode)) NotSector ∷ []) ≡ None → MayClaim e
may_claim e f =
    let first = passed (is_complete e.status) NotComplete (fault_if (not (is_sector e.mode)) NotSector ∷ []) f in
    let second = passed (is_sector e.mode) NotSector [] first.1 in
    record { complete = first.0; sector = second.0 }

-- by the labels of a UUID
by_labels : (sets : List (List Mapping)) (own : List Placed) → entry_refusal (option_map (entry_with sets own) (slice_get own 0)) (λ e. fault_if (not (is_sector e.mode)) NotSector ∷ []) ≡ None
    → (found : Found) × (found_of sets (option_map (entry_with sets own) (slice_get own 0)) ≡ Ok found)
by_labels sets [] f = absurd (none-some NoSuch (sym f))
by_labels sets (p ∷ rest) f =
    let may : MayClaim (entry_with sets (p ∷ rest) p) = may_claim (entry_with sets (p ∷ rest) p) f in
    let r : HasRegion sets p rest = has_region sets p rest may.complete in
    let e : NamespaceEntry = entry_with sets (p ∷ rest) p in
    let region : (entry_with sets (p ∷ rest) p).region ≡ Some r.number = ap (λ (o : Option (ℕ × List Mapping)). option_map (λ (x : ℕ × List Mapping). x.0) o) r.here in (
      found_at sets (entry_with sets (p ∷ rest) p).mode r.number (record { owner = p.label.uuid; «module» = p.«module»; start = p.label.dpa; length = p.label.raw }),
      rw (may.complete, may.sector) (ap (λ (o : Option ℕ). found_by sets (entry_with sets (p ∷ rest) p).mode o (entry_with sets (p ∷ rest) p).parts) region),
    )

pub claimable_is_found : ClaimableIsFound
claimable_is_found sets areas uuid f =
    let is : lookup uuid (namespaces_of sets areas).entries ≡ entry_at sets (placed_in_all areas) uuid = lookup_entries sets (placed_in_all areas) uuid in
    let r = by_labels sets (labels_with uuid (placed_in_all areas)) (ap (λ (o : Option NamespaceEntry). entry_refusal o (λ e. fault_if (not (is_sector e.mode)) NotSector ∷ [])) (sym is) ∙ f) in
    (r.0, ap (found_of sets) is ∙ r.1)
