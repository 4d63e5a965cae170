-- A delete and a rename of a namespace with one label: one change.
use Rattle.std.proofs.Common.{◌≡◌, ◌≢◌, ℕ, zero, suc, ◌<◌, Bool, true, false, List, [], ◌∷◌, length, Option, Some, None, refl, sym, ap, ◌∙◌, subst, arith, inl, inr, ◌⊎◌}
use Rattle.std.specs.Prelude.{map}
use Rattle.std.specs.List.{AllByRecursion, list_any}
use Rattle.std.proofs.lemmas.Bool.{cases_eq, eq-eqb, ne_eqb, false≢true}
use Rattle.std.proofs.lemmas.Option.{none-some, same_Some}
use Rattle.nfit_reader.specs.declared.table.Mapping.{Mapping}
use Rattle.label_codec.specs.declared.label.Label.{Label}
use Rattle.label_area.specs.Area.{SlotState}
use Rattle.label_set.specs.declared.placed.Placed.{Placed}
use Rattle.label_set.specs.declared.placed.SetStatus.TheVariants.{Complete}
use Rattle.label_set.specs.Rules.{is_updating}
use Rattle.namespace_map.proofs.Rising.{all_pass_to}
use Rattle.namespace_map.specs.Areas.{Area, Change, slots_of, slots_on, changed_areas, all_changed, after_steps, replaced, slot_of}
use Rattle.namespace_map.specs.Changes.{change_to, in_two}
use Rattle.namespace_map.proofs.Slots.{IsOwn, remove_own}
use Rattle.namespace_map.proofs.Areas.{Proper, moved, moved_all, proper_after, slots_of_changed, area_of_other}
use Rattle.namespace_map.proofs.Fronts.{cut_is_front, IsFront}
use Rattle.namespace_laws.proofs.Whole.{none_passes, any_of, AllLab, own_of, own_each}
use Rattle.namespace_laws.proofs.Sound.{IsWhole}
use Rattle.namespace_laws.proofs.Staged.{names, moved_hit, IsGiven, stage_fits}
use Rattle.namespace_laws.proofs.Table.{Model, SoundAs, changes_now, updated_doesnt, own_complete}
use Rattle.namespace_laws.proofs.Two.{length_kept, lab_keeps}
use Rattle.namespace_laws.proofs.Delete.{Stands, IsComplete, own_empty, to_updating, to_nothing}
use Rattle.namespace_laws.proofs.Rename.{to_renamed, to_updated, keeps_updated, sound_updated}
use Rattle.namespace_laws.proofs.Shaped.{lies_there}

pub one_of : {X : Type 0} (xs : List X) → length xs ≡ 1 → (x : X) × (xs ≡ x ∷ [])
one_of [] e = absurd (omega arith)
one_of (x ∷ []) e = (x, refl)
one_of (x ∷ y ∷ xs) e = absurd (omega arith)

-- one change is made, or not
pub cut_of_one : (areas : List (Option Area)) (c : Change) (n : ℕ) (stays : Bool) → (after_steps areas (c ∷ []) n stays ≡ areas) ⊎ (after_steps areas (c ∷ []) n stays ≡ changed_areas areas c)
unfolding all_changed
cut_of_one areas c n stays = by (cut_is_front (c ∷ []) areas n stays)
  where
    by : IsFront areas (c ∷ []) (after_steps areas (c ∷ []) n stays) → (after_steps areas (c ∷ []) n stays ≡ areas) ⊎ (after_steps areas (c ∷ []) n stays ≡ changed_areas areas c)
    by (zero, below, is) = inl is
    by (suc zero, below, is) = inr is
    by (suc (suc k), below, is) = absurd (omega arith)

-- ---- delete

module _ (uuid : List ℕ) (areas : List (Option Area)) (lab : ℕ → Option Label) (proper : Proper uuid lab areas) (p : ℕ × Label) (at : lab p.0 ≡ Some p.1) where
  abbrev gone : Change
  gone = change_to to_nothing p

  of_uuid : p.1.uuid ≡ uuid
  of_uuid = proper.named p.0 p.1 at

  -- removing a label needs no free slot
  pub proper_gone : Proper uuid (moved lab gone) (changed_areas areas gone)
  proper_gone = record { own = own; named = named }
    where
      here : slots_on (changed_areas areas gone) p.0 ≡ replaced (slot_of (slots_on areas p.0) uuid) None (slots_on areas p.0)
      here =
          slots_of_changed areas gone (lies_there uuid lab areas proper p.0 p.1 at)
          ∙ ap (λ (u : List ℕ). replaced (slot_of (slots_on areas p.0) u) None (slots_on areas p.0)) of_uuid

      own : (m : ℕ) → IsOwn uuid (moved lab gone m) (slots_on (changed_areas areas gone) m)
      own m = elim (cases_eq m p.0) [
        | inl same ↦ rw (eq-eqb m p.0 same) (subst (λ (k : ℕ). IsOwn uuid None (slots_on (changed_areas areas gone) k)) (sym same)
            (subst (λ (slots : List SlotState). IsOwn uuid None slots) (sym here) (remove_own uuid (lab p.0) (slots_on areas p.0) (proper.named p.0) (proper.own p.0))))
        | inr apart ↦ rw (ne_eqb m p.0 apart) (subst (λ (a : Option Area). IsOwn uuid (lab m) (slots_of a)) (sym (area_of_other areas gone m apart)) (proper.own m))
      ]

      named : (m : ℕ) (l : Label) → moved lab gone m ≡ Some l → l.uuid ≡ uuid
      named m l is = elim (cases_eq m p.0) [
        | inl same ↦ absurd (none-some l (rw (eq-eqb m p.0 same) at is))
        | inr apart ↦ proper.named m l (rw (ne_eqb m p.0 apart) at is)
      ]

pub delete_cut_one : (uuid : List ℕ) (areas : List (Option Area)) (lab : ℕ → Option Label) (ps : List (ℕ × Label)) → Proper uuid lab areas
    → ((m : ℕ) (l : Label) → lab m ≡ Some l → names ps m ≡ true) → AllByRecursion (λ p. lab p.0 ≡ Some p.1) ps → length ps ≡ 1 → (n : ℕ) (stays : Bool)
    → (after_steps areas (in_two to_updating to_nothing ps) n stays ≡ areas) ⊎ (own_of uuid (after_steps areas (in_two to_updating to_nothing ps) n stays) ≡ [])
delete_cut_one uuid areas lab ps proper only labels one n stays = by (one_of ps one)
  where
    by : (p : ℕ × Label) × (ps ≡ p ∷ []) → (after_steps areas (in_two to_updating to_nothing ps) n stays ≡ areas) ⊎ (own_of uuid (after_steps areas (in_two to_updating to_nothing ps) n stays) ≡ [])
    by (p, is) =
        let at : lab p.0 ≡ Some p.1 = (subst (AllByRecursion (λ p. lab p.0 ≡ Some p.1)) is labels).0 in
        subst (λ (qs : List (ℕ × Label)). (after_steps areas (in_two to_updating to_nothing qs) n stays ≡ areas) ⊎ (own_of uuid (after_steps areas (in_two to_updating to_nothing qs) n stays) ≡ [])) (sym is)
        (left (cut_of_one areas (change_to to_nothing p) n stays) (own_empty uuid (moved lab (change_to to_nothing p)) (changed_areas areas (change_to to_nothing p)) (proper_gone uuid areas lab proper p at) (λ m. none m (lab m) refl)))
      where
        left : (after_steps areas (change_to to_nothing p ∷ []) n stays ≡ areas) ⊎ (after_steps areas (change_to to_nothing p ∷ []) n stays ≡ changed_areas areas (change_to to_nothing p))
            → own_of uuid (changed_areas areas (change_to to_nothing p)) ≡ []
            → (after_steps areas (change_to to_nothing p ∷ []) n stays ≡ areas) ⊎ (own_of uuid (after_steps areas (change_to to_nothing p ∷ []) n stays) ≡ [])
        left (inl before) empty = inl before
        left (inr after) empty = inr (ap (own_of uuid) after ∙ empty)

        none : (m : ℕ) (o : Option Label) → lab m ≡ o → moved lab (change_to to_nothing p) m ≡ None
        none m o e = elim (cases_eq m p.0) [
          | inl same ↦ rw (eq-eqb m p.0 same) refl
          | inr apart ↦ rw (ne_eqb m p.0 apart) (other apart o e)
        ]
          where
            other : m ≢ p.0 → (o : Option Label) → lab m ≡ o → lab m ≡ None
            other apart None e = e
            other apart (Some l) e =
                absurd (false≢true (sym (rw (ne_eqb p.0 m (λ s. apart (sym s))) refl) ∙ subst (λ (qs : List (ℕ × Label)). names qs m ≡ true) is (only m l e)))

-- ---- rename

module _ (uuid : List ℕ) (set : List Mapping) (c : Model) (whole : IsWhole set c.shared) (old new : List ℕ) (areas : List (Option Area)) (lab : ℕ → Option Label) where
  abbrev one_changes : List (ℕ × Label) → List Change
  one_changes ps = in_two (to_renamed new) (to_updated new) ps

  module _ (p : ℕ × Label) (proper : Proper uuid lab areas) (given : AllByRecursion (IsGiven uuid lab areas) (p ∷ [])) (is : IsComplete uuid set c old lab (p ∷ [])) where
    abbrev lab_then : ℕ → Option Label
    lab_then = moved_all lab (map (change_to (to_updated new)) (p ∷ []))

    abbrev areas_then : List (Option Area)
    areas_then = all_changed areas (map (change_to (to_updated new)) (p ∷ []))

    proper_then : Proper uuid lab_then areas_then
    proper_then = proper_after (map (change_to (to_updated new)) (p ∷ [])) uuid lab areas proper (stage_fits uuid lab areas (to_updated new) (keeps_updated new) (p ∷ []) given)

    hit : (m : ℕ) → names (p ∷ []) m ≡ true → (m < length areas_then) × ((l : Label) × (lab_then m ≡ Some l) × (l.name ≡ new))
    hit m named =
        moved_hit (λ n o. (n < length areas_then) × ((l : Label) × (o ≡ Some l) × (l.name ≡ new))) (to_updated new) (p ∷ []) lab m named
        ((let there = given.0.1.there in omega (arith, length_kept (map (change_to (to_updated new)) (p ∷ [])) areas), (_, refl, refl)), tt)

    sound_then : AllLab (λ m l. SoundAs set c m l × (changes_now l ≡ false)) lab_then
    sound_then =
        lab_keeps (λ m l. SoundAs set c m l × (changes_now l ≡ false)) (to_updated new) (p ∷ []) lab (λ m l e. (is.sound m l e, is.quiet m l e)) (
          (λ l e. subst (λ (x : Label). SoundAs set c p.0 x × (changes_now x ≡ false)) (same_Some _ l e) (sound_updated set c new p.0 p.1 (is.sound p.0 p.1 is.labels.0), updated_doesnt p.1)),
          tt,
        )

    only_then : (m : ℕ) (l : Label) → lab_then m ≡ Some l → names (p ∷ []) m ≡ true
    only_then m l e = elim (cases_eq m p.0) [
      | inl same ↦ rw (eq-eqb p.0 m (sym same)) refl
      | inr apart ↦ is.only m l (rw (ne_eqb m p.0 apart) at e)
    ]

    named_then : AllLab (λ m l. l.name ≡ new) lab_then
    named_then m l e = let h = hit m (only_then m l e) in subst (λ (x : Label). x.name ≡ new) (same_Some h.1.0 l (sym h.1.1 ∙ e)) h.1.2

    some_then : list_any (λ (q : Placed). true) (own_of uuid areas_then) ≡ true
    some_then = let h = hit p.0 (rw (eq-eqb p.0 p.0 refl) refl) in any_of uuid lab_then areas_then p.0 h.1.0 (λ q. true) proper_then h.0 h.1.1 (λ s. refl)

    stands_then : Stands uuid set c (Complete new false) areas_then
    stands_then = record {
      lab = lab_then;
      proper = proper_then;
      sound = λ m l e. (sound_then m l e).0;
      has_status =
          own_complete uuid set c whole lab_then areas_then proper_then (λ m l e. (sound_then m l e).0)
          (all_pass_to (λ (m : Mapping). names (p ∷ []) m.«module» ≡ true) (λ (m : Mapping). (m.«module» < length areas_then) × ((l : Label) × (lab_then m.«module» ≡ Some l)))
          (λ m named. let h = hit m.«module» named in (h.0, (h.1.0, h.1.1))) set is.covers)
          new named_then some_then
          ∙ ap (λ (b : Bool). Complete new b) (none_passes is_updating (own_of uuid areas_then) (own_each uuid lab_then areas_then proper_then (λ m l. changes_now l ≡ false) (λ m l e n. (sound_then m l e).1)));
      some = some_then;
    }

    pub renamed_or_not : (n : ℕ) (stays : Bool) → (after_steps areas (one_changes (p ∷ [])) n stays ≡ areas) ⊎ Stands uuid set c (Complete new false) (after_steps areas (one_changes (p ∷ [])) n stays)
    unfolding all_changed
    renamed_or_not n stays = by (cut_of_one areas (change_to (to_updated new) p) n stays)
      where
        by : (after_steps areas (one_changes (p ∷ [])) n stays ≡ areas) ⊎ (after_steps areas (one_changes (p ∷ [])) n stays ≡ changed_areas areas (change_to (to_updated new) p))
            → (after_steps areas (one_changes (p ∷ [])) n stays ≡ areas) ⊎ Stands uuid set c (Complete new false) (after_steps areas (one_changes (p ∷ [])) n stays)
        by (inl before) = inl before
        by (inr after) = inr (subst (Stands uuid set c (Complete new false)) (sym after) stands_then)

  pub rename_cut_one : (ps : List (ℕ × Label)) → Proper uuid lab areas → AllByRecursion (IsGiven uuid lab areas) ps → IsComplete uuid set c old lab ps → length ps ≡ 1 → (n : ℕ) (stays : Bool)
      → (after_steps areas (one_changes ps) n stays ≡ areas) ⊎ Stands uuid set c (Complete new false) (after_steps areas (one_changes ps) n stays)
  rename_cut_one ps proper given is one n stays = by (one_of ps one)
    where
      by : (p : ℕ × Label) × (ps ≡ p ∷ []) → (after_steps areas (one_changes ps) n stays ≡ areas) ⊎ Stands uuid set c (Complete new false) (after_steps areas (one_changes ps) n stays)
      by (p, same) =
          subst (λ (qs : List (ℕ × Label)). (after_steps areas (one_changes qs) n stays ≡ areas) ⊎ Stands uuid set c (Complete new false) (after_steps areas (one_changes qs) n stays)) (sym same)
          (renamed_or_not p proper (subst (AllByRecursion (IsGiven uuid lab areas)) same given) (subst (IsComplete uuid set c old lab) same is) n stays)
