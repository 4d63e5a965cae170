-- What may be claimed is what is found.
use Rattle.std.proofs.Common.{◌≡◌, ℕ, Bool, true, false, List, [], ◌∷◌, Option, Some, None, Result, Ok, Err, is_ok, refl, sym, ap, ◌∙◌, subst, inl, inr}
use Rattle.std.specs.Prelude.{not, map, slice_get}
use Rattle.std.specs.Option.{option_map}
use Rattle.std.specs.List.{list_any}
use Rattle.std.proofs.lemmas.Bool.{cases_Bool, false≢true}
use Rattle.nvd_words.specs.Checks.{value_unless, first_fault, fault_if}
use Rattle.nfit_reader.specs.declared.table.Mapping.{Mapping}
use Rattle.label_set.specs.declared.placed.Placed.{Placed}
use Rattle.label_set.specs.Rules.{is_local}
use Rattle.namespace_map.specs.Namespaces.{NamespaceEntry, region_of, status_in, entry_with, entry_at, entries_of, labels_with, lookup, part_of, Namespaces}
use Rattle.namespace_map.proofs.Entries.{lookup_entries}
use Rattle.namespace_areas.specs.declared.area.Area.{Area}
use Rattle.namespace_areas.specs.Areas.{labels_of}
use Rattle.namespace_map.specs.declared.refused.OpRefused.{OpRefused}
use Rattle.namespace_map.specs.declared.refused.OpRefused.TheVariants.{NotComplete, NotSector}
use Rattle.namespace_map.specs.Commands.{is_complete, is_sector, entry_refusal, claim_refusal}
use Rattle.namespace_map.specs.Changes.{placed_in_all}
use Rattle.namespace_areas.specs.Groups.{HasGroupsOf}
use Rattle.namespace_areas.specs.Refusals.{shown}
use Rattle.namespace_areas.specs.declared.found.Found.{Found}
use Rattle.namespace_areas.specs.Finding.{found_of, found_by}
use Rattle.namespace_areas.specs.Seen.{AreHeld, areas_seen}
use Rattle.namespace_areas.specs.Went.{Went}
use Rattle.namespace_areas.proofs.Seen.{seen_labels}
use Rattle.namespace_areas.proofs.Went.{went_none}
use Rattle.namespace_ops.specs.Carried.{Carried, is_cut}
use Rattle.namespace_map.specs.declared.commands.Command.TheVariants.{Claim, Unclaim}
use Rattle.std.proofs.lemmas.Option.{none-some}

-- whether something is found, without it
abbrev pub unit_of : Result Found OpRefused → Result (Unit {0}) OpRefused
unit_of (Ok found) = Ok tt
unit_of (Err refused) = Err refused

abbrev refusal : Option NamespaceEntry → Option OpRefused
refusal o = entry_refusal o (λ e. fault_if (not (is_sector e.mode)) NotSector ∷ [])

no_region : (labels : List Placed) (first : Placed) → is_complete (status_in None labels first) ≡ false
no_region labels first = elim (cases_Bool (list_any is_local labels)) [ inl it ↦ rw it refl | inr not_it ↦ rw not_it refl ]

entry_claimed : (sets : List (List Mapping)) (p : Placed) (ps : List Placed) → unit_of (found_of sets (Some (entry_with sets (p ∷ ps) p))) ≡ value_unless tt (refusal (Some (entry_with sets (p ∷ ps) p)))
unfolding first_fault
entry_claimed sets p ps =
    let e : NamespaceEntry = entry_with sets (p ∷ ps) p in
    elim (cases_Bool (is_complete e.status)) [
      | inr not_it ↦ rw not_it refl
      | inl it ↦ rw it (elim (cases_Bool (is_sector e.mode)) [
        | inr other ↦ rw other refl
        | inl sector ↦ rw sector (by (region_of sets p) refl it)
      ])
    ]
  where
    by : (o : Option (ℕ × List Mapping)) → region_of sets p ≡ o → is_complete (status_in o (p ∷ ps) p) ≡ true
        → unit_of (found_by sets (entry_with sets (p ∷ ps) p).mode (option_map (λ r. r.0) o) (map part_of (p ∷ ps))) ≡ Ok tt
    by None is complete = absurd (false≢true (sym (no_region (p ∷ ps) p) ∙ complete))
    by (Some r) is complete = refl

own_claimed : (sets : List (List Mapping)) (own : List Placed)
    → unit_of (found_of sets (option_map (entry_with sets own) (slice_get own 0))) ≡ value_unless tt (refusal (option_map (entry_with sets own) (slice_get own 0)))
own_claimed sets [] = refl
own_claimed sets (p ∷ ps) = entry_claimed sets p ps

pub claimed : (sets : List (List Mapping)) (areas : List Area) (sorted : List Placed) (uuid : List ℕ) → AreHeld areas → HasGroupsOf sorted (labels_of areas)
    → unit_of (found_of sets (entry_at sets sorted uuid)) ≡ value_unless tt (claim_refusal (shown sets areas) uuid)
claimed sets areas sorted uuid held same =
    let labels : List Placed = placed_in_all (areas_seen areas) in
    let own : labels_with uuid sorted ≡ labels_with uuid labels = same uuid ∙ ap (labels_with uuid) (sym (seen_labels areas held)) in
    let entry : lookup uuid (entries_of sets labels) ≡ option_map (entry_with sets (labels_with uuid labels)) (slice_get (labels_with uuid labels) 0) = lookup_entries sets labels uuid in
    ap (λ (xs : List Placed). unit_of (found_of sets (option_map (entry_with sets xs) (slice_get xs 0)))) own
    ∙ own_claimed sets (labels_with uuid labels)
    ∙ ap (λ (o : Option NamespaceEntry). value_unless tt (refusal o)) (sym entry)

-- ---- as a command

unless_ok : (r : Result (Unit {0}) OpRefused) (o : Option OpRefused) (f : OpRefused) → r ≡ value_unless tt o → o ≡ Some f → r ≡ Err f
unless_ok r o f is at = is ∙ ap (value_unless tt) at

pub claim_carried : (sets : List (List Mapping)) (areas : List Area) → AreHeld areas → (uuid : List ℕ) (r : Result (Unit {0}) OpRefused) → r ≡ value_unless tt (claim_refusal (shown sets areas) uuid)
    → (fuse : Option ℕ) → Carried sets areas areas fuse fuse (Claim uuid) r
claim_carried sets areas held uuid r is fuse = record {
  refused = λ f at. (unless_ok r (claim_refusal (shown sets areas) uuid) f is at, refl, refl);
  went = λ none.
      let ok : r ≡ Ok tt = is ∙ ap (value_unless tt) none in
      subst (λ (b : Bool). Went areas areas fuse fuse [] b) (sym (ap (λ (x : Result (Unit {0}) OpRefused). is_ok x) ok)) (went_none areas fuse held);
  cut = λ none f at. absurd (let ok : r ≡ Ok tt = is ∙ ap (value_unless tt) none in let both : Ok tt ≡ Err f = sym ok ∙ at in cc);
}

pub unclaim_carried : (sets : List (List Mapping)) (areas : List Area) → AreHeld areas → (uuid : List ℕ) (fuse : Option ℕ) → Carried sets areas areas fuse fuse (Unclaim uuid) (Ok tt)
unclaim_carried sets areas held uuid fuse = record {
  refused = λ f at. absurd (none-some f at);
  went = λ none. went_none areas fuse held;
  cut = λ none f at. absurd (let both : Ok tt ≡ Err f = at in cc);
}

pub claim_uncut : (ns : Namespaces) (uuid : List ℕ) → is_cut (value_unless tt (claim_refusal ns uuid)) ≡ false
unfolding first_fault
claim_uncut ns uuid = by (lookup uuid ns.entries)
  where
    tests : (a b : Bool) → is_cut (value_unless tt (first_fault (fault_if a NotComplete ∷ fault_if b NotSector ∷ []))) ≡ false
    tests true b = refl
    tests false true = refl
    tests false false = refl

    by : (o : Option NamespaceEntry) → is_cut (value_unless tt (refusal o)) ≡ false
    by None = refl
    by (Some e) = tests (not (is_complete e.status)) (not (is_sector e.mode))
