-- The areas after a crash during a delete or a rename.
use Rattle.std.proofs.Common.{◌≡◌, ℕ, ◌<◌, ◌≤◌, Bool, true, false, List, [], ◌∷◌, length, take, get_or, Option, Some, None, refl, sym, ap, ◌∙◌, subst, arith, inl, inr, ◌⊎◌}
use Rattle.std.specs.List.{AllByRecursion, list_any}
use Rattle.std.proofs.lemmas.Bool.{cases_Bool, false≢true, cases_lt}
use Rattle.std.proofs.lemmas.Option.{none-some, same_Some}
use Rattle.nfit_reader.specs.declared.table.Mapping.{Mapping}
use Rattle.label_codec.specs.declared.label.Label.{Label}
use Rattle.namespace_map.specs.Areas.{Area, after_steps}
use Rattle.label_set.specs.declared.placed.Placed.{Placed}
use Rattle.label_set.specs.declared.placed.SetStatus.{SetStatus}
use Rattle.label_set.specs.declared.placed.SetStatus.TheVariants.{Complete, Unfinished}
use Rattle.label_set.specs.Rules.{is_updating}
use Rattle.label_set.specs.Status.{status_of}
use Rattle.namespace_map.specs.Changes.{in_two}
use Rattle.label_codec.specs.Flags.{updating}
use Rattle.namespace_map.proofs.Areas.{Proper, all_of_front}
use Rattle.namespace_map.proofs.Rising.{all_pass_to}
use Rattle.namespace_laws.proofs.Whole.{any_of, AllLab, own_of, own_each}
use Rattle.namespace_laws.proofs.Sound.{IsWhole}
use Rattle.namespace_laws.proofs.Staged.{Apart, names, named_in_front, moved_hit, IsGiven, KeepsUuid, all_at}
use Rattle.namespace_laws.proofs.Table.{changes_now, updating_changes, sound_like, like_updating, own_unfinished, own_complete, Model, SoundAs}
use Rattle.namespace_laws.proofs.Two as stage
use Rattle.namespace_laws.proofs.Two.{length_kept, lab_keeps}

-- an entry of valid labels has this status
pub record Stands (uuid : List ℕ) (set : List Mapping) (c : Model) (status : SetStatus) (left : List (Option Area)) : Type 0 where
  pub lab : ℕ → Option Label
  pub proper : Proper uuid lab left
  pub sound : AllLab (SoundAs set c) lab
  pub has_status : status_of set (own_of uuid left) ≡ status
  pub some : list_any (λ (p : Placed). true) (own_of uuid left) ≡ true

-- a complete entry without updating labels, with its labels in the order of the changes
pub record IsComplete (uuid : List ℕ) (set : List Mapping) (c : Model) (name : List ℕ) (lab : ℕ → Option Label) (ps : List (ℕ × Label)) : Type 0 where
  pub sound : AllLab (SoundAs set c) lab
  pub named : AllLab (λ m l. l.name ≡ name) lab
  pub quiet : AllLab (λ m l. changes_now l ≡ false) lab
  pub only : (m : ℕ) (l : Label) → lab m ≡ Some l → names ps m ≡ true
  pub labels : AllByRecursion (λ p. lab p.0 ≡ Some p.1) ps
  pub covers : AllByRecursion (λ (m : Mapping). names ps m.«module» ≡ true) set

abbrev pub to_updating : Label → Option Label
to_updating l = Some (updating l)

abbrev pub to_nothing : Label → Option Label
to_nothing l = None

pub keeps_updating : KeepsUuid to_updating
keeps_updating l l' is = ap (λ (k : Label). k.uuid) (sym (same_Some (updating l) l' is))

pub keeps_nothing : KeepsUuid to_nothing
keeps_nothing l l' is = absurd (none-some l' is)

-- a property of each named module
pub at_name : (P : ℕ → Type 0) (ps : List (ℕ × Label)) (m : ℕ) → names ps m ≡ true → AllByRecursion (λ p. P p.0) ps → P m
at_name P ps m named each = moved_hit (λ n o. P n) to_updating ps (λ n. None) m named each

empty_of : (xs : List Placed) → AllByRecursion (λ (p : Placed). ⊥) xs → xs ≡ []
empty_of [] all = refl
empty_of (x ∷ xs) (one, rest) = absurd one

-- a UUID without a label
pub own_empty : (uuid : List ℕ) (lab : ℕ → Option Label) (areas : List (Option Area)) → Proper uuid lab areas → ((m : ℕ) → lab m ≡ None) → own_of uuid areas ≡ []
own_empty uuid lab areas proper none = empty_of (own_of uuid areas) (own_each uuid lab areas proper (λ m l. ⊥) (λ m l is n. none-some l (sym (none m) ∙ is)))

-- the table's line: complete as before; complete and pending; unfinished; absent
abbrev pub DeleteLeft : List ℕ → List Mapping → Model → List ℕ → List (Option Area) → List (Option Area) → Type 0
DeleteLeft uuid set c name areas left =
    (left ≡ areas)
    ⊎ Stands uuid set c (Complete name true) left
    ⊎ Stands uuid set c Unfinished left
    ⊎ (own_of uuid left ≡ [])

module _ (uuid : List ℕ) (set : List Mapping) (c : Model) (whole : IsWhole set c.shared) (name : List ℕ) (areas : List (Option Area)) (lab : ℕ → Option Label) (ps : List (ℕ × Label)) (d : ℕ × Label)
    (proper : Proper uuid lab areas) (given : AllByRecursion (IsGiven uuid lab areas) ps) (apart : Apart ps) (many : 2 ≤ length ps) (is : IsComplete uuid set c name lab ps) where
  some_of : (left : List (Option Area)) (own : ℕ → Option Label) (m : ℕ) (l : Label) → Proper uuid own left → own m ≡ Some l → m < length left → list_any (λ (p : Placed). true) (own_of uuid left) ≡ true
  some_of left own m l proper' e below = any_of uuid own left m l (λ p. true) proper' below e (λ s. refl)

  sound_of_label : (p : ℕ × Label) → lab p.0 ≡ Some p.1 → SoundAs set c p.0 p.1
  sound_of_label p e = is.sound p.0 p.1 e

  -- ---- delete

  abbrev one : ℕ → List (Option Area)
  one k = stage.areas_one uuid areas lab ps d to_updating to_nothing keeps_updating keeps_nothing proper given apart many k

  abbrev lab_one : ℕ → ℕ → Option Label
  lab_one k = stage.lab_one uuid areas lab ps d to_updating to_nothing keeps_updating keeps_nothing proper given apart many k

  abbrev gone : ℕ → List (Option Area)
  gone j = stage.areas_two uuid areas lab ps d to_updating to_nothing keeps_updating keeps_nothing proper given apart many j

  abbrev lab_two : ℕ → ℕ → Option Label
  lab_two j = stage.lab_two uuid areas lab ps d to_updating to_nothing keeps_updating keeps_nothing proper given apart many j

  abbrev at : ℕ → ℕ
  at i = stage.at uuid areas lab ps d to_updating to_nothing keeps_updating keeps_nothing proper given apart many i

  sound_one : (k : ℕ) → AllLab (λ m l. SoundAs set c m l × (l.name ≡ name)) (lab_one k)
  sound_one k =
      lab_keeps (λ m l. SoundAs set c m l × (l.name ≡ name)) to_updating (take k ps) lab (λ m l e. (is.sound m l e, is.named m l e))
      (all_of_front (λ p. (l : Label) → to_updating p.1 ≡ Some l → SoundAs set c p.0 l × (l.name ≡ name)) k ps
      (all_pass_to (λ p. lab p.0 ≡ Some p.1) (λ p. (l : Label) → to_updating p.1 ≡ Some l → SoundAs set c p.0 l × (l.name ≡ name))
      (λ p e l e'. subst (λ (x : Label). SoundAs set c p.0 x × (x.name ≡ name)) (same_Some (updating p.1) l e')
      (sound_like set c p.0 p.1 (updating p.1) (is.sound p.0 p.1 e) (like_updating p.1), is.named p.0 p.1 e)) ps is.labels))

  hits_one : AllByRecursion (λ p. (l : Label) × (to_updating p.1 ≡ Some l) × (changes_now l ≡ true)) ps
  hits_one = all_pass_to (λ p. lab p.0 ≡ Some p.1) (λ p. (l : Label) × (to_updating p.1 ≡ Some l) × (changes_now l ≡ true)) (λ p e. (updating p.1, refl, updating_changes p.1)) ps is.labels

  changed_one : (k m : ℕ) → names (take k ps) m ≡ true → (l : Label) × (lab_one k m ≡ Some l) × (changes_now l ≡ true)
  changed_one k m named = stage.hit_one uuid areas lab ps d to_updating to_nothing keeps_updating keeps_nothing proper given apart many (λ n o. (l : Label) × (o ≡ Some l) × (changes_now l ≡ true)) hits_one k m named

  has_before : (m : ℕ) → names ps m ≡ true → (l : Label) × (lab m ≡ Some l)
  has_before m named = at_name (λ n. (l : Label) × (lab n ≡ Some l)) ps m named (all_pass_to (λ p. lab p.0 ≡ Some p.1) (λ p. (l : Label) × (lab p.0 ≡ Some l)) (λ p e. (p.1, e)) ps is.labels)

  has_one : (k m : ℕ) → names ps m ≡ true → (l : Label) × (lab_one k m ≡ Some l)
  has_one k m named =
      elim (cases_Bool (names (take k ps) m)) [
        | inl it ↦ let h = changed_one k m it in (h.0, h.1)
        | inr not_it ↦ rw (stage.miss_one uuid areas lab ps d to_updating to_nothing keeps_updating keeps_nothing proper given apart many k m not_it) (has_before m named)
      ]

  all_one : (k : ℕ) → AllByRecursion (λ (m : Mapping). (m.«module» < length (one k)) × ((l : Label) × (lab_one k m.«module» ≡ Some l))) set
  all_one k =
      all_pass_to (λ (m : Mapping). names ps m.«module» ≡ true) (λ (m : Mapping). (m.«module» < length (one k)) × ((l : Label) × (lab_one k m.«module» ≡ Some l)))
      (λ m named. (stage.there_one uuid areas lab ps d to_updating to_nothing keeps_updating keeps_nothing proper given apart many k m.«module» named, has_one k m.«module» named)) set is.covers

  -- some labels have UPDATING, none is removed: complete and pending
  delete_one : (k : ℕ) → 0 < k → k ≤ length ps → Stands uuid set c (Complete name true) (one k)
  delete_one k more less = by (changed_one k (at 0) (named_in_front ps 0 k d more (omega arith)))
    where
      by : (l : Label) × (lab_one k (at 0) ≡ Some l) × (changes_now l ≡ true) → Stands uuid set c (Complete name true) (one k)
      by (l, e, changes) =
          let below : at 0 < length (one k) = stage.there_one uuid areas lab ps d to_updating to_nothing keeps_updating keeps_nothing proper given apart many k (at 0) (stage.named_at uuid areas lab ps d to_updating to_nothing keeps_updating keeps_nothing proper given apart many 0 (omega arith)) in
          let some = some_of (one k) (lab_one k) (at 0) l (stage.proper_one uuid areas lab ps d to_updating to_nothing keeps_updating keeps_nothing proper given apart many k) e below in
          record {
            lab = lab_one k;
            proper = stage.proper_one uuid areas lab ps d to_updating to_nothing keeps_updating keeps_nothing proper given apart many k;
            sound = λ m l e. (sound_one k m l e).0;
            has_status =
                own_complete uuid set c whole (lab_one k) (one k) (stage.proper_one uuid areas lab ps d to_updating to_nothing keeps_updating keeps_nothing proper given apart many k) (λ m l e. (sound_one k m l e).0) (all_one k) name (λ m l e. (sound_one k m l e).1) some
                ∙ ap (λ (b : Bool). Complete name b) (any_of uuid (lab_one k) (one k) (at 0) l is_updating (stage.proper_one uuid areas lab ps d to_updating to_nothing keeps_updating keeps_nothing proper given apart many k) below e (λ s. changes));
            some = some;
          }

  -- after the first stage each label has UPDATING
  all_change : AllLab (λ m l. changes_now l ≡ true) (lab_one (length ps))
  all_change m l e =
      elim (cases_Bool (names (take (length ps) ps) m)) [
        | inl it ↦ by (changed_one (length ps) m it)
        | inr not_it ↦
            absurd (false≢true (sym not_it ∙ ap (λ (qs : List (ℕ × Label)). names qs m) (stage.all_taken uuid areas lab ps d to_updating to_nothing keeps_updating keeps_nothing proper given apart many) ∙ is.only m l (sym (stage.miss_one uuid areas lab ps d to_updating to_nothing keeps_updating keeps_nothing proper given apart many (length ps) m not_it) ∙ e)))
      ]
    where
      by : (k : Label) × (lab_one (length ps) m ≡ Some k) × (changes_now k ≡ true) → changes_now l ≡ true
      by (k, e', changes) = subst (λ (x : Label). changes_now x ≡ true) (same_Some k l (sym e' ∙ e)) changes

  left_two : (j : ℕ) → AllLab (λ m l. SoundAs set c m l × (changes_now l ≡ true)) (lab_two j)
  left_two j =
      lab_keeps (λ m l. SoundAs set c m l × (changes_now l ≡ true)) to_nothing (take j ps) (lab_one (length ps)) (λ m l e. ((sound_one (length ps) m l e).0, all_change m l e))
      (all_of_front (λ p. (l : Label) → to_nothing p.1 ≡ Some l → SoundAs set c p.0 l × (changes_now l ≡ true)) j ps
      (all_pass_to (λ p. lab p.0 ≡ Some p.1) (λ p. (l : Label) → to_nothing p.1 ≡ Some l → SoundAs set c p.0 l × (changes_now l ≡ true)) (λ p e l e'. absurd (none-some l e')) ps is.labels))

  nothings : AllByRecursion (λ p. to_nothing p.1 ≡ None) ps
  nothings = all_pass_to (λ p. lab p.0 ≡ Some p.1) (λ p. to_nothing p.1 ≡ None) (λ p e. refl) ps is.labels

  -- some are removed, not all: unfinished
  delete_two : (j : ℕ) → 0 < j → j < length ps → Stands uuid set c Unfinished (gone j)
  delete_two j more less = by (has_one (length ps) (at j) (stage.named_at uuid areas lab ps d to_updating to_nothing keeps_updating keeps_nothing proper given apart many j less))
    where
      by : (l : Label) × (lab_one (length ps) (at j) ≡ Some l) → Stands uuid set c Unfinished (gone j)
      by (l, e) =
          let s = sound_of_label (get_or ps 0 d) (all_at (λ p. lab p.0 ≡ Some p.1) ps 0 d (omega arith) is.labels) in
          record {
            lab = lab_two j;
            proper = stage.proper_two uuid areas lab ps d to_updating to_nothing keeps_updating keeps_nothing proper given apart many j;
            sound = λ m l e. (left_two j m l e).0;
            has_status =
                own_unfinished uuid set c whole (lab_two j) (gone j) (stage.proper_two uuid areas lab ps d to_updating to_nothing keeps_updating keeps_nothing proper given apart many j) (λ m l e. (left_two j m l e).0) (at 0) s.sound.mapping s.sound.found
                (stage.hit_two uuid areas lab ps d to_updating to_nothing keeps_updating keeps_nothing proper given apart many (λ n o. o ≡ None) nothings j (at 0) (named_in_front ps 0 j d more (omega arith))) (λ m l e. (left_two j m l e).1);
            some = some_of (gone j) (lab_two j) (at j) l (stage.proper_two uuid areas lab ps d to_updating to_nothing keeps_updating keeps_nothing proper given apart many j) (stage.later_two uuid areas lab ps d to_updating to_nothing keeps_updating keeps_nothing proper given apart many j less ∙ e) (stage.there_two uuid areas lab ps d to_updating to_nothing keeps_updating keeps_nothing proper given apart many j (at j) (stage.named_at uuid areas lab ps d to_updating to_nothing keeps_updating keeps_nothing proper given apart many j less));
          }

  -- all are removed
  delete_all : own_of uuid (gone (length ps)) ≡ []
  delete_all = own_empty uuid (lab_two (length ps)) (gone (length ps)) (stage.proper_two uuid areas lab ps d to_updating to_nothing keeps_updating keeps_nothing proper given apart many (length ps)) none
    where
      was_none : (m : ℕ) (o : Option Label) → lab m ≡ o → names ps m ≡ false → o ≡ None
      was_none m None e not_it = refl
      was_none m (Some l) e not_it = absurd (false≢true (sym not_it ∙ is.only m l e))

      none : (m : ℕ) → lab_two (length ps) m ≡ None
      none m =
          elim (cases_Bool (names (take (length ps) ps) m)) [
            | inl it ↦ stage.hit_two uuid areas lab ps d to_updating to_nothing keeps_updating keeps_nothing proper given apart many (λ n o. o ≡ None) nothings (length ps) m it
            | inr not_it ↦
                stage.miss_two uuid areas lab ps d to_updating to_nothing keeps_updating keeps_nothing proper given apart many (length ps) m not_it ∙ stage.miss_one uuid areas lab ps d to_updating to_nothing keeps_updating keeps_nothing proper given apart many (length ps) m not_it
                ∙ was_none m (lab m) refl (ap (λ (qs : List (ℕ × Label)). names qs m) (sym (stage.all_taken uuid areas lab ps d to_updating to_nothing keeps_updating keeps_nothing proper given apart many)) ∙ not_it)
          ]

  pub delete_cut : (n : ℕ) (stays : Bool) → (DeleteLeft uuid set c name areas) (after_steps areas (in_two to_updating to_nothing ps) n stays)
  delete_cut =
      stage.cut_by_stages uuid areas lab ps d to_updating to_nothing keeps_updating keeps_nothing proper given apart many (DeleteLeft uuid set c name areas) (inl refl) (λ k more less. inr (inl (delete_one k more less)))
      (λ j more less. elim (cases_lt j (length ps)) [
        | inl some ↦ inr (inr (inl (delete_two j more some)))
        | inr all ↦ let e : length ps ≡ j = omega arith in inr (inr (inr (subst (λ (i : ℕ). own_of uuid (gone i) ≡ []) e delete_all)))
      ])
