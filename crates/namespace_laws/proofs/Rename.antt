-- The areas after a crash during a rename.
use Rattle.std.proofs.Common.{◌≡◌, ℕ, ◌<◌, ◌≤◌, Bool, true, false, List, length, take, get_or, Option, Some, refl, sym, ap, ◌∙◌, subst, arith, inl, inr, ◌⊎◌}
use Rattle.std.specs.List.{AllByRecursion, list_any}
use Rattle.std.proofs.lemmas.Bool.{cases_Bool, false≢true, cases_lt}
use Rattle.std.proofs.lemmas.Option.{same_Some}
use Rattle.nfit_reader.specs.declared.table.Mapping.{Mapping}
use Rattle.label_codec.specs.declared.label.Label.{Label}
use Rattle.namespace_map.specs.Areas.{Area, after_steps}
use Rattle.label_set.specs.declared.placed.Placed.{Placed}
use Rattle.label_set.specs.declared.placed.SetStatus.TheVariants.{Complete}
use Rattle.label_set.specs.Rules.{is_updating}
use Rattle.namespace_map.specs.Changes.{in_two}
use Rattle.label_codec.specs.Flags.{updating, updated}
use Rattle.namespace_map.proofs.Areas.{Proper, all_of_front}
use Rattle.namespace_map.proofs.Rising.{all_pass_to}
use Rattle.namespace_laws.proofs.Whole.{none_passes, any_of, AllLab, own_of, own_each}
use Rattle.namespace_laws.proofs.Sound.{IsWhole}
use Rattle.namespace_laws.proofs.Statuses.{still}
use Rattle.namespace_laws.proofs.Staged.{Apart, names, named_in_front, IsGiven, KeepsUuid, all_at}
use Rattle.namespace_laws.proofs.Table.{changes_now, updating_changes, updated_doesnt, sound_like, like_named, like_updating, like_updated, own_complete, own_halved, Model, SoundAs}
use Rattle.namespace_laws.proofs.Two as stage
use Rattle.namespace_laws.proofs.Two.{length_kept, lab_keeps}
use Rattle.namespace_laws.proofs.Delete.{Stands, IsComplete, at_name}

abbrev pub to_renamed : List ℕ → Label → Option Label
to_renamed new l = Some (record (updating l) { name = new })

abbrev pub to_updated : List ℕ → Label → Option Label
to_updated new l = Some (record (updated l) { name = new })

pub keeps_renamed : (new : List ℕ) → KeepsUuid (to_renamed new)
keeps_renamed new l l' is = ap (λ (k : Label). k.uuid) (sym (same_Some (record (updating l) { name = new }) l' is))

pub keeps_updated : (new : List ℕ) → KeepsUuid (to_updated new)
keeps_updated new l l' is = ap (λ (k : Label). k.uuid) (sym (same_Some (record (updated l) { name = new }) l' is))

sound_renamed : (set : List Mapping) (c : Model) (new : List ℕ) (m : ℕ) (l : Label) → SoundAs set c m l → SoundAs set c m (record (updating l) { name = new })
sound_renamed set c new m l s = sound_like set c m (updating l) (record (updating l) { name = new }) (sound_like set c m l (updating l) s (like_updating l)) (like_named (updating l) new)

pub sound_updated : (set : List Mapping) (c : Model) (new : List ℕ) (m : ℕ) (l : Label) → SoundAs set c m l → SoundAs set c m (record (updated l) { name = new })
sound_updated set c new m l s = sound_like set c m (updated l) (record (updated l) { name = new }) (sound_like set c m l (updated l) s (like_updated l)) (like_named (updated l) new)

-- the table's line: the old name; complete and pending with the old or the new name; the new name
abbrev pub RenameLeft : List ℕ → List Mapping → Model → List ℕ → List ℕ → List (Option Area) → List (Option Area) → Type 0
RenameLeft uuid set c name new areas left =
    (left ≡ areas)
    ⊎ Stands uuid set c (Complete name true) left
    ⊎ Stands uuid set c (Complete new true) left
    ⊎ Stands uuid set c (Complete new false) left

module _ (uuid : List ℕ) (set : List Mapping) (c : Model) (whole : IsWhole set c.shared) (name new : List ℕ) (areas : List (Option Area)) (lab : ℕ → Option Label) (ps : List (ℕ × Label)) (d : ℕ × Label)
    (proper : Proper uuid lab areas) (given : AllByRecursion (IsGiven uuid lab areas) ps) (apart : Apart ps) (many : 2 ≤ length ps) (is : IsComplete uuid set c name lab ps) where
  some_of : (left : List (Option Area)) (own : ℕ → Option Label) (m : ℕ) (l : Label) → Proper uuid own left → own m ≡ Some l → m < length left → list_any (λ (p : Placed). true) (own_of uuid left) ≡ true
  some_of left own m l proper' e below = any_of uuid own left m l (λ p. true) proper' below e (λ s. refl)

  sound_of_label : (p : ℕ × Label) → lab p.0 ≡ Some p.1 → SoundAs set c p.0 p.1
  sound_of_label p e = is.sound p.0 p.1 e

  abbrev one : ℕ → List (Option Area)
  one k = stage.areas_one uuid areas lab ps d (to_renamed new) (to_updated new) (keeps_renamed new) (keeps_updated new) proper given apart many k

  abbrev lab_one : ℕ → ℕ → Option Label
  lab_one k = stage.lab_one uuid areas lab ps d (to_renamed new) (to_updated new) (keeps_renamed new) (keeps_updated new) proper given apart many k

  abbrev gone : ℕ → List (Option Area)
  gone j = stage.areas_two uuid areas lab ps d (to_renamed new) (to_updated new) (keeps_renamed new) (keeps_updated new) proper given apart many j

  abbrev lab_two : ℕ → ℕ → Option Label
  lab_two j = stage.lab_two uuid areas lab ps d (to_renamed new) (to_updated new) (keeps_renamed new) (keeps_updated new) proper given apart many j

  abbrev at : ℕ → ℕ
  at i = stage.at uuid areas lab ps d (to_renamed new) (to_updated new) (keeps_renamed new) (keeps_updated new) proper given apart many i

  abbrev IsSoundAs : ℕ → Label → Type 0
  IsSoundAs m l = SoundAs set c m l × (changes_now l ≡ false → l.name ≡ name) × (changes_now l ≡ true → l.name ≡ new)

  sound_one : (k : ℕ) → AllLab IsSoundAs (lab_one k)
  sound_one k =
      lab_keeps IsSoundAs (to_renamed new) (take k ps) lab (λ m l e. (is.sound m l e, (λ q. is.named m l e), (λ q. absurd (false≢true (sym (is.quiet m l e) ∙ q)))))
      (all_of_front (λ p. (l : Label) → to_renamed new p.1 ≡ Some l → IsSoundAs p.0 l) k ps
      (all_pass_to (λ p. lab p.0 ≡ Some p.1) (λ p. (l : Label) → to_renamed new p.1 ≡ Some l → IsSoundAs p.0 l)
      (λ p e l e'. subst (λ (x : Label). IsSoundAs p.0 x) (same_Some (record (updating p.1) { name = new }) l e')
      (sound_renamed set c new p.0 p.1 (is.sound p.0 p.1 e), (λ q. absurd (false≢true (sym q ∙ updating_changes p.1))), (λ q. refl))) ps is.labels))

  abbrev HasChanged : Option Label → Type 0
  HasChanged o = (l : Label) × (o ≡ Some l) × (changes_now l ≡ true) × (l.name ≡ new)

  hits_one : AllByRecursion (λ p. HasChanged (to_renamed new p.1)) ps
  hits_one = all_pass_to (λ p. lab p.0 ≡ Some p.1) (λ p. HasChanged (to_renamed new p.1)) (λ p e. (record (updating p.1) { name = new }, refl, updating_changes p.1, refl)) ps is.labels

  changed_one : (k m : ℕ) → names (take k ps) m ≡ true → HasChanged (lab_one k m)
  changed_one k m named = stage.hit_one uuid areas lab ps d (to_renamed new) (to_updated new) (keeps_renamed new) (keeps_updated new) proper given apart many (λ n o. HasChanged o) hits_one k m named

  has_before : (m : ℕ) → names ps m ≡ true → (l : Label) × (lab m ≡ Some l)
  has_before m named = at_name (λ n. (l : Label) × (lab n ≡ Some l)) ps m named (all_pass_to (λ p. lab p.0 ≡ Some p.1) (λ p. (l : Label) × (lab p.0 ≡ Some l)) (λ p e. (p.1, e)) ps is.labels)

  has_one : (k m : ℕ) → names ps m ≡ true → (l : Label) × (lab_one k m ≡ Some l)
  has_one k m named =
      elim (cases_Bool (names (take k ps) m)) [
        | inl it ↦ let h = changed_one k m it in (h.0, h.1)
        | inr not_it ↦ rw (stage.miss_one uuid areas lab ps d (to_renamed new) (to_updated new) (keeps_renamed new) (keeps_updated new) proper given apart many k m not_it) (has_before m named)
      ]

  all_one : (k : ℕ) → AllByRecursion (λ (m : Mapping). (m.«module» < length (one k)) × ((l : Label) × (lab_one k m.«module» ≡ Some l))) set
  all_one k =
      all_pass_to (λ (m : Mapping). names ps m.«module» ≡ true) (λ (m : Mapping). (m.«module» < length (one k)) × ((l : Label) × (lab_one k m.«module» ≡ Some l)))
      (λ m named. (stage.there_one uuid areas lab ps d (to_renamed new) (to_updated new) (keeps_renamed new) (keeps_updated new) proper given apart many k m.«module» named, has_one k m.«module» named)) set is.covers

  -- after the first stage each label has UPDATING and the new name
  all_change : AllLab (λ m l. (changes_now l ≡ true) × (l.name ≡ new)) (lab_one (length ps))
  all_change m l e =
      elim (cases_Bool (names (take (length ps) ps) m)) [
        | inl it ↦ by (changed_one (length ps) m it)
        | inr not_it ↦
            absurd (false≢true (sym not_it ∙ ap (λ (qs : List (ℕ × Label)). names qs m) (stage.all_taken uuid areas lab ps d (to_renamed new) (to_updated new) (keeps_renamed new) (keeps_updated new) proper given apart many) ∙ is.only m l (sym (stage.miss_one uuid areas lab ps d (to_renamed new) (to_updated new) (keeps_renamed new) (keeps_updated new) proper given apart many (length ps) m not_it) ∙ e)))
      ]
    where
      by : HasChanged (lab_one (length ps) m) → (changes_now l ≡ true) × (l.name ≡ new)
      by (k, e', changes, named) = subst (λ (x : Label). (changes_now x ≡ true) × (x.name ≡ new)) (same_Some k l (sym e' ∙ e)) (changes, named)

  there : (k i : ℕ) → i < length ps → at i < length (one k)
  there k i below = stage.there_one uuid areas lab ps d (to_renamed new) (to_updated new) (keeps_renamed new) (keeps_updated new) proper given apart many k (at i) (stage.named_at uuid areas lab ps d (to_renamed new) (to_updated new) (keeps_renamed new) (keeps_updated new) proper given apart many i below)

  -- some labels have the new name and UPDATING: complete and pending, with the old name
  rename_one : (k : ℕ) → 0 < k → k < length ps → Stands uuid set c (Complete name true) (one k)
  rename_one k more less = by (changed_one k (at 0) (named_in_front ps 0 k d more (omega arith)))
    where
      old : lab_one k (at k) ≡ Some (get_or ps k d).1
      old = stage.later_one uuid areas lab ps d (to_renamed new) (to_updated new) (keeps_renamed new) (keeps_updated new) proper given apart many k less ∙ all_at (λ p. lab p.0 ≡ Some p.1) ps k d less is.labels

      quiet : changes_now (get_or ps k d).1 ≡ false
      quiet = is.quiet (at k) (get_or ps k d).1 (all_at (λ p. lab p.0 ≡ Some p.1) ps k d less is.labels)

      by : HasChanged (lab_one k (at 0)) → Stands uuid set c (Complete name true) (one k)
      by (l, e, changes, named) =
          record {
            lab = lab_one k;
            proper = stage.proper_one uuid areas lab ps d (to_renamed new) (to_updated new) (keeps_renamed new) (keeps_updated new) proper given apart many k;
            sound = λ m l e. (sound_one k m l e).0;
            has_status =
                own_halved uuid set c whole (lab_one k) (one k) (stage.proper_one uuid areas lab ps d (to_renamed new) (to_updated new) (keeps_renamed new) (keeps_updated new) proper given apart many k) (λ m l e. (sound_one k m l e).0) (all_one k) name new
                (λ m l e. (sound_one k m l e).1) (λ m l e. (sound_one k m l e).2)
                (any_of uuid (lab_one k) (one k) (at k) (get_or ps k d).1 still (stage.proper_one uuid areas lab ps d (to_renamed new) (to_updated new) (keeps_renamed new) (keeps_updated new) proper given apart many k) (there k k less) old (λ s. rw quiet refl))
                (any_of uuid (lab_one k) (one k) (at 0) l is_updating (stage.proper_one uuid areas lab ps d (to_renamed new) (to_updated new) (keeps_renamed new) (keeps_updated new) proper given apart many k) (there k 0 (omega arith)) e (λ s. changes));
            some = some_of (one k) (lab_one k) (at 0) l (stage.proper_one uuid areas lab ps d (to_renamed new) (to_updated new) (keeps_renamed new) (keeps_updated new) proper given apart many k) e (there k 0 (omega arith));
          }

  -- all have the new name and UPDATING: complete and pending, with the new name
  rename_whole : Stands uuid set c (Complete new true) (one (length ps))
  rename_whole = by (has_one (length ps) (at 0) (stage.named_at uuid areas lab ps d (to_renamed new) (to_updated new) (keeps_renamed new) (keeps_updated new) proper given apart many 0 (omega arith)))
    where
      by : (l : Label) × (lab_one (length ps) (at 0) ≡ Some l) → Stands uuid set c (Complete new true) (one (length ps))
      by (l, e) =
          let some = some_of (one (length ps)) (lab_one (length ps)) (at 0) l (stage.proper_one uuid areas lab ps d (to_renamed new) (to_updated new) (keeps_renamed new) (keeps_updated new) proper given apart many (length ps)) e (there (length ps) 0 (omega arith)) in
          record {
            lab = lab_one (length ps);
            proper = stage.proper_one uuid areas lab ps d (to_renamed new) (to_updated new) (keeps_renamed new) (keeps_updated new) proper given apart many (length ps);
            sound = λ m l e. (sound_one (length ps) m l e).0;
            has_status =
                own_complete uuid set c whole (lab_one (length ps)) (one (length ps)) (stage.proper_one uuid areas lab ps d (to_renamed new) (to_updated new) (keeps_renamed new) (keeps_updated new) proper given apart many (length ps)) (λ m l e. (sound_one (length ps) m l e).0) (all_one (length ps)) new
                (λ m l e. (all_change m l e).1) some
                ∙ ap (λ (b : Bool). Complete new b)
                (any_of uuid (lab_one (length ps)) (one (length ps)) (at 0) l is_updating (stage.proper_one uuid areas lab ps d (to_renamed new) (to_updated new) (keeps_renamed new) (keeps_updated new) proper given apart many (length ps)) (there (length ps) 0 (omega arith)) e (λ s. (all_change (at 0) l e).0));
            some = some;
          }

  -- ---- the second stage

  sound_two : (j : ℕ) → AllLab (λ m l. SoundAs set c m l × (l.name ≡ new)) (lab_two j)
  sound_two j =
      lab_keeps (λ m l. SoundAs set c m l × (l.name ≡ new)) (to_updated new) (take j ps) (lab_one (length ps)) (λ m l e. ((sound_one (length ps) m l e).0, (all_change m l e).1))
      (all_of_front (λ p. (l : Label) → to_updated new p.1 ≡ Some l → SoundAs set c p.0 l × (l.name ≡ new)) j ps
      (all_pass_to (λ p. lab p.0 ≡ Some p.1) (λ p. (l : Label) → to_updated new p.1 ≡ Some l → SoundAs set c p.0 l × (l.name ≡ new))
      (λ p e l e'. subst (λ (x : Label). SoundAs set c p.0 x × (x.name ≡ new)) (same_Some (record (updated p.1) { name = new }) l e')
      (sound_updated set c new p.0 p.1 (is.sound p.0 p.1 e), refl)) ps is.labels))

  abbrev IsQuiet : Option Label → Type 0
  IsQuiet o = (l : Label) × (o ≡ Some l) × (changes_now l ≡ false)

  hits_two : AllByRecursion (λ p. IsQuiet (to_updated new p.1)) ps
  hits_two = all_pass_to (λ p. lab p.0 ≡ Some p.1) (λ p. IsQuiet (to_updated new p.1)) (λ p e. (record (updated p.1) { name = new }, refl, updated_doesnt p.1)) ps is.labels

  has_two : (j m : ℕ) → names ps m ≡ true → (l : Label) × (lab_two j m ≡ Some l)
  has_two j m named =
      elim (cases_Bool (names (take j ps) m)) [
        | inl it ↦ let h = stage.hit_two uuid areas lab ps d (to_renamed new) (to_updated new) (keeps_renamed new) (keeps_updated new) proper given apart many (λ n o. IsQuiet o) hits_two j m it in (h.0, h.1)
        | inr not_it ↦ rw (stage.miss_two uuid areas lab ps d (to_renamed new) (to_updated new) (keeps_renamed new) (keeps_updated new) proper given apart many j m not_it) (has_one (length ps) m named)
      ]

  all_two : (j : ℕ) → AllByRecursion (λ (m : Mapping). (m.«module» < length (gone j)) × ((l : Label) × (lab_two j m.«module» ≡ Some l))) set
  all_two j =
      all_pass_to (λ (m : Mapping). names ps m.«module» ≡ true) (λ (m : Mapping). (m.«module» < length (gone j)) × ((l : Label) × (lab_two j m.«module» ≡ Some l)))
      (λ m named. (stage.there_two uuid areas lab ps d (to_renamed new) (to_updated new) (keeps_renamed new) (keeps_updated new) proper given apart many j m.«module» named, has_two j m.«module» named)) set is.covers

  there_two : (j i : ℕ) → i < length ps → at i < length (gone j)
  there_two j i below = stage.there_two uuid areas lab ps d (to_renamed new) (to_updated new) (keeps_renamed new) (keeps_updated new) proper given apart many j (at i) (stage.named_at uuid areas lab ps d (to_renamed new) (to_updated new) (keeps_renamed new) (keeps_updated new) proper given apart many i below)

  stands_two : (j : ℕ) (pending : Bool) → list_any is_updating (own_of uuid (gone j)) ≡ pending → Stands uuid set c (Complete new pending) (gone j)
  stands_two j pending e = by (has_two j (at 0) (stage.named_at uuid areas lab ps d (to_renamed new) (to_updated new) (keeps_renamed new) (keeps_updated new) proper given apart many 0 (omega arith)))
    where
      by : (l : Label) × (lab_two j (at 0) ≡ Some l) → Stands uuid set c (Complete new pending) (gone j)
      by (l, e') =
          let some = some_of (gone j) (lab_two j) (at 0) l (stage.proper_two uuid areas lab ps d (to_renamed new) (to_updated new) (keeps_renamed new) (keeps_updated new) proper given apart many j) e' (there_two j 0 (omega arith)) in
          record {
            lab = lab_two j;
            proper = stage.proper_two uuid areas lab ps d (to_renamed new) (to_updated new) (keeps_renamed new) (keeps_updated new) proper given apart many j;
            sound = λ m l e. (sound_two j m l e).0;
            has_status =
                own_complete uuid set c whole (lab_two j) (gone j) (stage.proper_two uuid areas lab ps d (to_renamed new) (to_updated new) (keeps_renamed new) (keeps_updated new) proper given apart many j) (λ m l e. (sound_two j m l e).0) (all_two j) new (λ m l e. (sound_two j m l e).1) some
                ∙ ap (λ (b : Bool). Complete new b) e;
            some = some;
          }

  rename_two : (j : ℕ) → j < length ps → Stands uuid set c (Complete new true) (gone j)
  rename_two j less = stands_two j true (by (changed_one (length ps) (at j) (named_in_front ps j (length ps) d less less)))
    where
      by : HasChanged (lab_one (length ps) (at j)) → list_any is_updating (own_of uuid (gone j)) ≡ true
      by (l, e, changes, named) =
          any_of uuid (lab_two j) (gone j) (at j) l is_updating (stage.proper_two uuid areas lab ps d (to_renamed new) (to_updated new) (keeps_renamed new) (keeps_updated new) proper given apart many j) (there_two j j less) (stage.later_two uuid areas lab ps d (to_renamed new) (to_updated new) (keeps_renamed new) (keeps_updated new) proper given apart many j less ∙ e) (λ s. changes)

  rename_all : Stands uuid set c (Complete new false) (gone (length ps))
  rename_all =
      stands_two (length ps) false (none_passes is_updating (own_of uuid (gone (length ps)))
      (own_each uuid (lab_two (length ps)) (gone (length ps)) (stage.proper_two uuid areas lab ps d (to_renamed new) (to_updated new) (keeps_renamed new) (keeps_updated new) proper given apart many (length ps)) (λ m l. changes_now l ≡ false) (λ m l e n. quiet m l e)))
    where
      quiet : (m : ℕ) (l : Label) → lab_two (length ps) m ≡ Some l → changes_now l ≡ false
      quiet m l e =
          elim (cases_Bool (names (take (length ps) ps) m)) [
            | inl it ↦ by (stage.hit_two uuid areas lab ps d (to_renamed new) (to_updated new) (keeps_renamed new) (keeps_updated new) proper given apart many (λ n o. IsQuiet o) hits_two (length ps) m it)
            | inr not_it ↦ is.quiet m l (sym (stage.miss_one uuid areas lab ps d (to_renamed new) (to_updated new) (keeps_renamed new) (keeps_updated new) proper given apart many (length ps) m not_it) ∙ sym (stage.miss_two uuid areas lab ps d (to_renamed new) (to_updated new) (keeps_renamed new) (keeps_updated new) proper given apart many (length ps) m not_it) ∙ e)
          ]
        where
          by : IsQuiet (lab_two (length ps) m) → changes_now l ≡ false
          by (k, e', q) = subst (λ (x : Label). changes_now x ≡ false) (same_Some k l (sym e' ∙ e)) q

  pub rename_cut : (n : ℕ) (stays : Bool) → (RenameLeft uuid set c name new areas) (after_steps areas (in_two (to_renamed new) (to_updated new) ps) n stays)
  rename_cut =
      stage.cut_by_stages uuid areas lab ps d (to_renamed new) (to_updated new) (keeps_renamed new) (keeps_updated new) proper given apart many (RenameLeft uuid set c name new areas) (inl refl)
      (λ k more less. elim (cases_lt k (length ps)) [
        | inl some ↦ inr (inl (rename_one k more some))
        | inr all ↦ let e : length ps ≡ k = omega arith in inr (inr (inl (subst (λ (i : ℕ). Stands uuid set c (Complete new true) (one i)) e rename_whole)))
      ])
      (λ j more less. elim (cases_lt j (length ps)) [
        | inl some ↦ inr (inr (inl (rename_two j some)))
        | inr all ↦ let e : length ps ≡ j = omega arith in inr (inr (inr (subst (λ (i : ℕ). Stands uuid set c (Complete new false) (gone i)) e rename_all)))
      ])
