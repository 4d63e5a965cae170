-- A create on a set of one module: nothing, or all of it.
use Rattle.std.proofs.Common.{◌≡◌, ℕ, zero, suc, ◌<◌, Bool, true, false, List, [], ◌∷◌, length, Option, Some, None, refl, sym, ap, ◌∙◌, subst, arith, inl, inr, ◌⊎◌}
use Rattle.std.specs.Prelude.{map}
use Rattle.std.specs.List.{AllByRecursion, list_any}
use Rattle.std.proofs.lemmas.Bool.{eq-eqb}
use Rattle.std.proofs.lemmas.Option.{none-some, same_Some}
use Rattle.nfit_reader.specs.declared.table.Mapping.{Mapping}
use Rattle.label_codec.specs.declared.label.Label.{Label}
use Rattle.label_set.specs.declared.placed.Placed.{Placed}
use Rattle.label_set.specs.declared.placed.SetStatus.TheVariants.{Complete}
use Rattle.label_set.specs.Rules.{is_updating}
use Rattle.namespace_map.proofs.Rising.{all_pass_to}
use Rattle.namespace_map.specs.Areas.{Area, Change, all_changed, after_steps}
use Rattle.namespace_map.specs.Changes.{change_to, in_two}
use Rattle.label_codec.specs.Flags.{updating, updated}
use Rattle.namespace_map.proofs.Areas.{Proper, moved_all, proper_after}
use Rattle.namespace_map.proofs.Fronts.{cut_is_front, IsFront}
use Rattle.namespace_laws.proofs.Whole.{none_passes, any_of, AllLab, own_of, own_each}
use Rattle.namespace_laws.proofs.Sound.{IsWhole}
use Rattle.namespace_laws.proofs.Staged.{names, moved_hit, IsGiven, KeepsUuid, stage_fits}
use Rattle.namespace_laws.proofs.Table.{Model, SoundAs, changes_now, updated_doesnt, sound_like, like_updated, own_complete}
use Rattle.namespace_laws.proofs.Create.{StandsAs, IsNew}
use Rattle.namespace_laws.proofs.Two.{length_kept, lab_keeps}

module _ (uuid : List ℕ) (set : List Mapping) (c : Model) (whole : IsWhole set c.shared) (name : List ℕ) (areas : List (Option Area)) (lab : ℕ → Option Label) (p : ℕ × Label)
    (proper : Proper uuid lab areas) (none : (m : ℕ) → lab m ≡ None) (given : IsGiven uuid lab areas p) (new : IsNew set c name p)
    (covers : AllByRecursion (λ (m : Mapping). names (p ∷ []) m.«module» ≡ true) set) where
  abbrev to_updated : Label → Option Label
  to_updated l = Some (updated l)

  keeps : KeepsUuid to_updated
  keeps l l' is = ap (λ (k : Label). k.uuid) (sym (same_Some (updated l) l' is))

  abbrev changes : List Change
  changes = in_two (λ l. Some (updating l)) to_updated (p ∷ [])

  abbrev lab_then : ℕ → Option Label
  lab_then = moved_all lab (map (change_to to_updated) (p ∷ []))

  abbrev areas_then : List (Option Area)
  areas_then = all_changed areas (map (change_to to_updated) (p ∷ []))

  proper_then : Proper uuid lab_then areas_then
  proper_then = proper_after (map (change_to to_updated) (p ∷ [])) uuid lab areas proper (stage_fits uuid lab areas to_updated keeps (p ∷ []) (given, tt))

  each_then : AllLab (λ m l. SoundAs set c m l × (l.name ≡ name) × (changes_now l ≡ false)) lab_then
  each_then =
      lab_keeps (λ m l. SoundAs set c m l × (l.name ≡ name) × (changes_now l ≡ false)) to_updated (p ∷ []) lab (λ m l e. absurd (none-some l (sym (none m) ∙ e))) (
        (λ l e. subst (λ (x : Label). SoundAs set c p.0 x × (x.name ≡ name) × (changes_now x ≡ false)) (same_Some (updated p.1) l e)
            (sound_like set c p.0 p.1 (updated p.1) new.sound (like_updated p.1), new.named, updated_doesnt p.1)),
        tt,
      )

  has_then : (m : ℕ) → names (p ∷ []) m ≡ true → (m < length areas_then) × ((l : Label) × (lab_then m ≡ Some l))
  has_then m named =
      moved_hit (λ n o. (n < length areas_then) × ((l : Label) × (o ≡ Some l))) to_updated (p ∷ []) lab m named
      ((let there = given.1.there in omega (arith, length_kept (map (change_to to_updated) (p ∷ [])) areas), (updated p.1, refl)), tt)

  some_then : list_any (λ (q : Placed). true) (own_of uuid areas_then) ≡ true
  some_then = by (has_then p.0 (rw (eq-eqb p.0 p.0 refl) refl))
    where
      by : (p.0 < length areas_then) × ((l : Label) × (lab_then p.0 ≡ Some l)) → list_any (λ (q : Placed). true) (own_of uuid areas_then) ≡ true
      by (below, (l, is)) = any_of uuid lab_then areas_then p.0 l (λ q. true) proper_then below is (λ s. refl)

  stands : StandsAs uuid set c name (Complete name false) areas_then
  stands = record {
    lab = lab_then;
    proper = proper_then;
    sound = λ m l e. (each_then m l e).0;
    named = λ m l e. (each_then m l e).1;
    has_status =
        own_complete uuid set c whole lab_then areas_then proper_then (λ m l e. (each_then m l e).0)
        (all_pass_to (λ (m : Mapping). names (p ∷ []) m.«module» ≡ true) (λ (m : Mapping). (m.«module» < length areas_then) × ((l : Label) × (lab_then m.«module» ≡ Some l))) (λ m named. has_then m.«module» named) set covers)
        name (λ m l e. (each_then m l e).1) some_then
        ∙ ap (λ (b : Bool). Complete name b) (none_passes is_updating (own_of uuid areas_then) (own_each uuid lab_then areas_then proper_then (λ m l. changes_now l ≡ false) (λ m l e n. (each_then m l e).2)));
    some = some_then;
  }

  pub create_cut_one : (n : ℕ) (stays : Bool) → (after_steps areas changes n stays ≡ areas) ⊎ StandsAs uuid set c name (Complete name false) (after_steps areas changes n stays)
  unfolding all_changed
  create_cut_one n stays = by (cut_is_front changes areas n stays)
    where
      by : IsFront areas changes (after_steps areas changes n stays) → (after_steps areas changes n stays ≡ areas) ⊎ StandsAs uuid set c name (Complete name false) (after_steps areas changes n stays)
      by (zero, below, is) = inl is
      by (suc zero, below, is) = inr (subst (λ (left : List (Option Area)). StandsAs uuid set c name (Complete name false) left) (sym is) stands)
      by (suc (suc k), below, is) = absurd (omega arith)
