-- The labels of a UUID that no module has twice, in the order of their positions.
use Rattle.std.proofs.Common.{◌≡◌, ◌≢◌, ℕ, ◌+◌, Bool, true, false, List, ◌∷◌, length, Option, Some, None, refl, sym, ap, ◌∙◌, subst, arith, inl, inr}
use Rattle.std.specs.Prelude.{filter, slice_get, unwrap_or}
use Rattle.std.specs.Option.{option_map}
use Rattle.std.specs.List.{AllByRecursion, Contains, list_any, range_with_len}
use Rattle.std.proofs.lemmas.Bool.{cases_Bool, eq-eqb}
use Rattle.std.proofs.lemmas.Option.{none-some, same_Some}
use Rattle.nvd_words.specs.Checks.{first_fault, fault_if}
use Rattle.nfit_reader.specs.declared.table.Mapping.{Mapping}
use Rattle.label_codec.specs.declared.label.Label.{Label}
use Rattle.label_set.specs.declared.placed.Placed.{Placed}
use Rattle.label_set.specs.declared.placed.Why.TheVariants.{Twice, Outside, Differs}
use Rattle.label_set.specs.declared.placed.SetStatus.{SetStatus}
use Rattle.label_set.specs.declared.placed.SetStatus.TheVariants.{Complete, Unfinished, Local, Incomplete}
use Rattle.label_set.specs.declared.placed.Field.TheVariants.{Names}
use Rattle.label_set.specs.Rules.{module_of, is_local, is_updating, is_twice, is_marked, least_where, least_twice, agreed_name}
use Rattle.label_set.specs.Status.{local_finding, twice_finding, findings, half_named, named_by, naming_of, status_of}
use Rattle.namespace_map.specs.Namespaces.{NamespaceEntry, entry_with, region_of, status_in}
use Rattle.namespace_map.proofs.Rising.{all_pass_to}
use Rattle.namespace_map.specs.Areas.{Area}
use Rattle.namespace_map.specs.Changes.{own_labels, by_position}
use Rattle.namespace_map.proofs.Areas.{Proper}
use Rattle.namespace_map.specs.Left.{LabelsAreRead}
use Rattle.namespace_map.proofs.Labels.{placed_at}
use Rattle.namespace_laws.proofs.Whole.{AllLab, own_of, IsBy, slot_on, all_by, any_of}
use Rattle.namespace_laws.proofs.Agree.{own_by, placed_by}
use Rattle.namespace_laws.proofs.Standing.{all_contained}
use Rattle.namespace_laws.proofs.Apart.{on_module, own_apart}
use Rattle.namespace_laws.proofs.Staged.{Apart, names, all_map}
use Rattle.namespace_laws.proofs.Sets.{unmapped}
use Rattle.namespace_laws.proofs.Position.{by_position_all, by_position_any, by_position_apart, pair_of, pairs_apart, pairs_named}
use Rattle.namespace_laws.proofs.Proper.{lab_of, proper_of, slots_of_lab}
use Rattle.namespace_laws.proofs.Shaped.{least_nothing, lies_there, in_filter, in_range}

-- no module has two
abbrev pub IsOnce : List Placed → Type 0
IsOnce own = AllByRecursion (λ q. is_twice own q ≡ false) own

module _ (uuid : List ℕ) (areas : List (Option Area)) (read : LabelsAreRead areas) (once : IsOnce (own_of uuid areas)) where
  abbrev pub lab : ℕ → Option Label
  lab = lab_of uuid areas

  pub proper : Proper uuid lab areas
  proper = proper_of uuid areas read once

  pub labels : AllByRecursion (λ p. lab p.0 ≡ Some p.1) (own_labels areas uuid)
  labels =
      all_map (λ p. lab p.0 ≡ Some p.1) pair_of (by_position (own_of uuid areas))
      (by_position_all (λ (p : Placed). lab p.«module» ≡ Some p.label) (own_of uuid areas)
      (all_pass_to (IsBy lab (slot_on uuid areas)) (λ (p : Placed). lab p.«module» ≡ Some p.label)
      (λ p by. by.is_given ∙ ap Some (slots_of_lab uuid areas read once p.«module» by.given by.is_given ∙ sym by.label_is)) (own_of uuid areas) (all_by uuid lab areas proper)))

  pub only : (m : ℕ) (l : Label) → lab m ≡ Some l → names (own_labels areas uuid) m ≡ true
  only m l here =
      pairs_named (by_position (own_of uuid areas)) m
      (by_position_any (on_module m) (own_of uuid areas) (any_of uuid lab areas m l (on_module m) proper (lies_there uuid lab areas proper m l here) here (λ s. eq-eqb m m refl)))

  -- a property of each label in the list holds of the label on each module
  pub each_lab : (Q : ℕ → Label → Type 0) → AllByRecursion (λ p. Q p.«module» p.label) (own_of uuid areas) → AllLab Q lab
  each_lab Q all m l here =
      subst (λ (x : Label). Q m x) (sym (slots_of_lab uuid areas read once m l here))
      (all_contained (λ p. Q p.«module» p.label) (own_of uuid areas) (placed_at m (slot_on uuid areas m) (record l { slot = slot_on uuid areas m })) all
      (subst (λ (xs : List Placed). Contains xs (placed_at m (slot_on uuid areas m) (record l { slot = slot_on uuid areas m }))) (sym (own_by uuid lab areas proper))
      (in_filter (placed_by lab (slot_on uuid areas)) (range_with_len 0 (length areas)) m _
      (subst (Contains (range_with_len 0 (length areas))) (zero_more m) (in_range (length areas) 0 m (lies_there uuid lab areas proper m l here)))
      (ap (option_map (λ k. placed_at m (slot_on uuid areas m) (record k { slot = slot_on uuid areas m }))) here))))
    where
      zero_more : (m : ℕ) → 0 + m ≡ m
      zero_more m = omega arith

  pub apart : Apart (own_labels areas uuid)
  apart = pairs_apart (by_position (own_of uuid areas)) (by_position_apart (own_of uuid areas) (own_apart uuid lab areas proper))

-- ---- with an unfinished status no module has two

twice_none : (own : List Placed) → twice_finding own ≡ None → IsOnce own
twice_none own e = least_nothing module_of (is_twice own) own (unmapped module_of (least_where module_of (is_twice own) own) (unmapped (λ number. Incomplete (Twice number)) (least_twice own) e))

second_of : (os : List (Option SetStatus)) (a b : Option SetStatus) (s : SetStatus) → first_fault (a ∷ b ∷ os) ≡ Some s → ((x : SetStatus) → a ≡ Some x → x ≢ s) → ((x : SetStatus) → b ≡ Some x → x ≢ s) → b ≡ None
unfolding first_fault
second_of os None None s e not_a not_b = refl
second_of os None (Some y) s e not_a not_b = absurd (not_b y refl (same_Some y s e))
second_of os (Some x) b s e not_a not_b = absurd (not_a x refl (same_Some x s e))

pub not_unfinished : (own : List Placed) → naming_of own ≡ Unfinished → ⊥
not_unfinished own e = by (agreed_name own) e
  where
    half : (a b : Option (List ℕ)) → half_named a b ≡ Unfinished → ⊥
    half (Some old) (Some new) e = let g : Complete old true ≡ Unfinished = e in cc
    half (Some old) None e = let g : Incomplete (Differs Names) ≡ Unfinished = e in cc
    half None b e = let g : Incomplete (Differs Names) ≡ Unfinished = e in cc

    by : (o : Option (List ℕ)) → named_by own o ≡ Unfinished → ⊥
    by (Some name) e = let g : Complete name (list_any is_updating own) ≡ Unfinished = e in cc
    by None e = half (agreed_name (filter (is_marked false) own)) (agreed_name (filter (is_marked true) own)) e

pub unfinished_once : (set : List Mapping) (own : List Placed) → status_of set own ≡ Unfinished → IsOnce own
unfolding status_of
unfinished_once set own e = by (first_fault (findings set own)) refl e
  where
    local_not : (b : Bool) (x : SetStatus) → fault_if b Local ≡ Some x → x ≢ Unfinished
    local_not true x is same = let g : Local ≡ Unfinished = same_Some Local x is ∙ same in cc
    local_not false x is same = none-some x is

    twice_not : (o : Option ℕ) (x : SetStatus) → option_map (λ number. Incomplete (Twice number)) o ≡ Some x → x ≢ Unfinished
    twice_not None x is same = none-some x is
    twice_not (Some n) x is same = let g : Incomplete (Twice n) ≡ Unfinished = same_Some (Incomplete (Twice n)) x is ∙ same in cc

    by : (o : Option SetStatus) → first_fault (findings set own) ≡ o → unwrap_or o (naming_of own) ≡ Unfinished → IsOnce own
    by None is f = absurd (not_unfinished own f)
    by (Some s) is f =
        twice_none own (second_of _ (local_finding own) (twice_finding own) Unfinished (is ∙ ap Some f)
        (λ x a. local_not (list_any is_local own) x a) (λ x b. twice_not (least_twice own) x b))

-- the same for an unfinished entry
pub entry_once : (sets : List (List Mapping)) (own : List Placed) (e : NamespaceEntry) → option_map (entry_with sets own) (slice_get own 0) ≡ Some e → e.status ≡ Unfinished → IsOnce own
entry_once sets own e is status = by (slice_get own 0) refl
  where
    region : (p : Placed) (o : Option (ℕ × List Mapping)) → status_in o own p ≡ Unfinished → IsOnce own
    region p None f = elim (cases_Bool (list_any is_local own)) [
      | inl it ↦ absurd (let g : Local ≡ Unfinished = rw it at f in cc)
      | inr not_it ↦ absurd (let g : Incomplete (Outside p.«module») ≡ Unfinished = rw not_it at f in cc)
    ]
    region p (Some r) f = unfinished_once r.1 own f

    by : (o : Option Placed) → slice_get own 0 ≡ o → IsOnce own
    by None at = absurd (none-some e (sym (ap (option_map (entry_with sets own)) at) ∙ is))
    by (Some p) at =
        let same : entry_with sets own p ≡ e = same_Some (entry_with sets own p) e (sym (ap (option_map (entry_with sets own)) at) ∙ is) in
        region p (region_of sets p) (ap (λ (x : NamespaceEntry). x.status) same ∙ status)
