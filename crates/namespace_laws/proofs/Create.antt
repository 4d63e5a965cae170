-- The areas after a crash during a create.
use Rattle.std.proofs.Common.{◌≡◌, ℕ, zero, suc, ◌<◌, ◌≤◌, Bool, true, false, List, [], ◌∷◌, ◌++◌, length, take, get_or, Option, Some, None, refl, sym, ap, ◌∙◌, subst, arith, inl, inr, ◌⊎◌}
use Rattle.std.proofs.Math.ListN.{length-set}
use Rattle.std.specs.Prelude.{map}
use Rattle.std.specs.List.{AllByRecursion, list_any}
use Rattle.std.proofs.lemmas.Bool.{cases_Bool, cases_lt}
use Rattle.std.proofs.lemmas.Option.{none-some, same_Some}
use Rattle.std.proofs.lemmas.List.{take_all, append-nil}
use Rattle.nfit_reader.specs.declared.table.Mapping.{Mapping}
use Rattle.label_codec.specs.declared.label.Label.{Label}
use Rattle.namespace_map.specs.Areas.{Area, Change, changed_areas, after_steps, all_changed}
use Rattle.label_set.specs.declared.placed.Placed.{Placed}
use Rattle.label_set.specs.declared.placed.SetStatus.{SetStatus}
use Rattle.label_set.specs.declared.placed.SetStatus.TheVariants.{Complete, Unfinished}
use Rattle.label_set.specs.Rules.{is_updating}
use Rattle.label_set.specs.Status.{status_of}
use Rattle.namespace_map.specs.Changes.{change_to, in_two}
use Rattle.label_codec.specs.Flags.{updating, updated}
use Rattle.namespace_map.specs.CommandLaws.{IsOf}
use Rattle.namespace_map.proofs.Areas.{Proper, HasRoom, Fitting, moved_all, proper_after, moved_keeps, all_of_front}
use Rattle.namespace_map.proofs.Rising.{all_pass_to}
use Rattle.namespace_laws.proofs.Whole.{all_append, none_passes, any_of, AllLab, own_of, own_each}
use Rattle.namespace_laws.proofs.Sound.{IsWhole}
use Rattle.namespace_laws.proofs.Staged.{in_two_many, front_of_two, FrontOfTwo, Apart, names, not_before, named_in_front, moved_hit, moved_miss, unnamed, IsGiven, KeepsUuid, stage_fits, moved_all_append, all_map, all_at}
use Rattle.namespace_laws.proofs.Table.{changes_now, updating_changes, updated_doesnt, sound_like, like_updating, like_updated, own_unfinished, own_complete, Model, SoundAs}
use Rattle.namespace_map.proofs.Fronts.{cut_is_front, IsFront}

-- a property that holds before, and of each new label, holds after
pub lab_keeps : (Q : ℕ → Label → Type 0) (f : Label → Option Label) (ps : List (ℕ × Label)) (lab : ℕ → Option Label) → AllLab Q lab
    → AllByRecursion (λ p. (l : Label) → f p.1 ≡ Some l → Q p.0 l) ps → AllLab Q (moved_all lab (map (change_to f) ps))
lab_keeps Q f ps lab before each m l is =
    moved_keeps (λ n o. (k : Label) → o ≡ Some k → Q n k) (map (change_to f) ps) lab before (all_map (λ c. (k : Label) → c.label ≡ Some k → Q c.number k) (change_to f) ps each) m l is

-- an entry of valid labels with one name has this status
pub record StandsAs (uuid : List ℕ) (set : List Mapping) (c : Model) (name : List ℕ) (status : SetStatus) (left : List (Option Area)) : Type 0 where
  pub lab : ℕ → Option Label
  pub proper : Proper uuid lab left
  pub sound : AllLab (SoundAs set c) lab
  pub named : AllLab (λ m l. l.name ≡ name) lab
  pub has_status : status_of set (own_of uuid left) ≡ status
  pub some : list_any (λ (p : Placed). true) (own_of uuid left) ≡ true

abbrev put_updating : Label → Option Label
put_updating l = Some (updating l)

abbrev put_updated : Label → Option Label
put_updated l = Some (updated l)

keeps_updating : KeepsUuid put_updating
keeps_updating l l' is = ap (λ (k : Label). k.uuid) (sym (same_Some (updating l) l' is))

keeps_updated : KeepsUuid put_updated
keeps_updated l l' is = ap (λ (k : Label). k.uuid) (sym (same_Some (updated l) l' is))

-- what each new label of a namespace is
pub record IsNew (set : List Mapping) (c : Model) (name : List ℕ) (p : ℕ × Label) : Type 0 where
  pub sound : SoundAs set c p.0 p.1
  pub named : p.1.name ≡ name

-- the possible states: nothing, a part, all of it with some label still updating, all of it
abbrev pub CreateLeft : List ℕ → List Mapping → Model → List ℕ → List (Option Area) → List (Option Area) → Type 0
CreateLeft uuid set c name areas left =
    (left ≡ areas)
    ⊎ StandsAs uuid set c name Unfinished left
    ⊎ StandsAs uuid set c name (Complete name true) left
    ⊎ StandsAs uuid set c name (Complete name false) left

module _ (uuid : List ℕ) (set : List Mapping) (c : Model) (whole : IsWhole set c.shared) (name : List ℕ) (areas : List (Option Area)) (lab : ℕ → Option Label) (ps : List (ℕ × Label)) (d : ℕ × Label)
    (proper : Proper uuid lab areas) (none : (m : ℕ) → lab m ≡ None) (given : AllByRecursion (IsGiven uuid lab areas) ps) (apart : Apart ps)
    (new : AllByRecursion (IsNew set c name) ps) (covers : AllByRecursion (λ (m : Mapping). names ps m.«module» ≡ true) set) (many : 2 ≤ length ps) where
  abbrev first : List (ℕ × Label) → List Change
  first qs = map (change_to put_updating) qs

  abbrev second : List (ℕ × Label) → List Change
  second qs = map (change_to put_updated) qs

  abbrev lab_one : ℕ → ℕ → Option Label
  lab_one k = moved_all lab (first (take k ps))

  fit_one : (k : ℕ) → Fitting uuid lab areas (first (take k ps))
  fit_one k = stage_fits uuid lab areas put_updating keeps_updating (take k ps) (all_of_front (IsGiven uuid lab areas) k ps given)

  proper_one : (k : ℕ) → Proper uuid (lab_one k) (all_changed areas (first (take k ps)))
  proper_one k = proper_after (first (take k ps)) uuid lab areas proper (fit_one k)

  -- each label during the first stage
  each_one : (k : ℕ) → AllLab (λ m l. SoundAs set c m l × (l.name ≡ name) × (changes_now l ≡ true)) (lab_one k)
  each_one k =
      lab_keeps (λ m l. SoundAs set c m l × (l.name ≡ name) × (changes_now l ≡ true)) put_updating (take k ps) lab (λ m l is. absurd (none-some l (sym (none m) ∙ is)))
      (all_of_front (λ p. (l : Label) → put_updating p.1 ≡ Some l → SoundAs set c p.0 l × (l.name ≡ name) × (changes_now l ≡ true)) k ps
      (all_pass_to (IsNew set c name) (λ p. (l : Label) → put_updating p.1 ≡ Some l → SoundAs set c p.0 l × (l.name ≡ name) × (changes_now l ≡ true))
      (λ p is l e. subst (λ (x : Label). SoundAs set c p.0 x × (x.name ≡ name) × (changes_now x ≡ true)) (same_Some (updating p.1) l e)
      (sound_like set c p.0 p.1 (updating p.1) is.sound (like_updating p.1), is.named, updating_changes p.1)) ps new))

  abbrev at : ℕ → ℕ
  at i = (get_or ps i d).0

  place_there : (i : ℕ) → i < length ps → at i < length areas
  place_there i below = (all_at (IsGiven uuid lab areas) ps i d below given).1.there

  -- a change of a module's label was made
  given_one : (k i : ℕ) → i < k → i < length ps → (l : Label) × (lab_one k (at i) ≡ Some l) × (changes_now l ≡ true)
  given_one k i below there =
      moved_hit (λ m o. (l : Label) × (o ≡ Some l) × (changes_now l ≡ true)) put_updating (take k ps) lab (at i) (named_in_front ps i k d below there)
      (all_of_front (λ p. (l : Label) × (put_updating p.1 ≡ Some l) × (changes_now l ≡ true)) k ps (all_pass_to (IsNew set c name) (λ p. (l : Label) × (put_updating p.1 ≡ Some l) × (changes_now l ≡ true))
      (λ p is. (updating p.1, refl, updating_changes p.1)) ps new))

  length_kept : (cs : List Change) (as' : List (Option Area)) → length (all_changed as' cs) ≡ length as'
  unfolding all_changed
  length_kept [] as' = refl
  length_kept (e ∷ cs) as' = length_kept cs (changed_areas as' e) ∙ length-set as' e.number _

  some_one : (k : ℕ) → 0 < k → list_any (λ (p : Placed). true) (own_of uuid (all_changed areas (first (take k ps)))) ≡ true
  some_one k more = by (given_one k 0 more (omega arith))
    where
      by : (l : Label) × (lab_one k (at 0) ≡ Some l) × (changes_now l ≡ true) → list_any (λ (p : Placed). true) (own_of uuid (all_changed areas (first (take k ps)))) ≡ true
      by (l, is, changes) =
          any_of uuid (lab_one k) (all_changed areas (first (take k ps))) (at 0) l (λ p. true) (proper_one k)
          (let there : at 0 < length areas = place_there 0 (omega arith) in omega (arith, length_kept (first (take k ps)) areas)) is (λ s. refl)

  -- between the first and the last put: unfinished
  part_made : (k : ℕ) → 0 < k → k < length ps → StandsAs uuid set c name Unfinished (all_changed areas (first (take k ps)))
  part_made k more less = record {
    lab = lab_one k;
    proper = proper_one k;
    sound = λ m l is. (each_one k m l is).0;
    named = λ m l is. (each_one k m l is).1;
    has_status =
        let s = (all_at (IsNew set c name) ps k d less new).sound in
        own_unfinished uuid set c whole (lab_one k) (all_changed areas (first (take k ps))) (proper_one k) (λ m l is. (each_one k m l is).0) (at k) s.sound.mapping s.sound.found
        (moved_miss put_updating (take k ps) lab (at k) (not_before ps k d less apart) ∙ none (at k))
        (λ m l is. (each_one k m l is).2);
    some = some_one k more;
  }

  -- ---- the second stage

  abbrev whole_first : List Change
  whole_first = first (take (length ps) ps)

  abbrev both : ℕ → List Change
  both j = whole_first ++ second (take j ps)

  abbrev lab_two : ℕ → ℕ → Option Label
  lab_two j = moved_all (lab_one (length ps)) (second (take j ps))

  proper_two : (j : ℕ) → Proper uuid (lab_two j) (all_changed areas (both j))
  proper_two j =
      subst (λ (f : ℕ → Option Label). Proper uuid f (all_changed areas (both j))) (moved_all_append whole_first (second (take j ps)) lab)
      (proper_after (both j) uuid lab areas proper
      (all_append (λ c. IsOf uuid c × HasRoom lab areas c.number) whole_first (second (take j ps)) (fit_one (length ps))
      (stage_fits uuid lab areas put_updated keeps_updated (take j ps) (all_of_front (IsGiven uuid lab areas) j ps given))))

  each_two : (j : ℕ) → AllLab (λ m l. SoundAs set c m l × (l.name ≡ name)) (lab_two j)
  each_two j =
      lab_keeps (λ m l. SoundAs set c m l × (l.name ≡ name)) put_updated (take j ps) (lab_one (length ps)) (λ m l is. ((each_one (length ps) m l is).0, (each_one (length ps) m l is).1))
      (all_of_front (λ p. (l : Label) → put_updated p.1 ≡ Some l → SoundAs set c p.0 l × (l.name ≡ name)) j ps
      (all_pass_to (IsNew set c name) (λ p. (l : Label) → put_updated p.1 ≡ Some l → SoundAs set c p.0 l × (l.name ≡ name))
      (λ p is l e. subst (λ (x : Label). SoundAs set c p.0 x × (x.name ≡ name)) (same_Some (updated p.1) l e)
      (sound_like set c p.0 p.1 (updated p.1) is.sound (like_updated p.1), is.named)) ps new))

  all_taken : take (length ps) ps ≡ ps
  all_taken = take_all (length ps) ps (omega arith)

  has_one : (m : ℕ) → names ps m ≡ true → (l : Label) × (lab_one (length ps) m ≡ Some l)
  has_one m named =
      moved_hit (λ n o. (l : Label) × (o ≡ Some l)) put_updating (take (length ps) ps) lab m (ap (λ (qs : List (ℕ × Label)). names qs m) all_taken ∙ named)
      (all_of_front (λ p. (l : Label) × (put_updating p.1 ≡ Some l)) (length ps) ps (all_pass_to (IsNew set c name) (λ p. (l : Label) × (put_updating p.1 ≡ Some l)) (λ p is. (updating p.1, refl)) ps new))

  has_two : (j m : ℕ) → names ps m ≡ true → (l : Label) × (lab_two j m ≡ Some l)
  has_two j m named =
      elim (cases_Bool (names (take j ps) m)) [
        | inl it ↦ moved_hit (λ n o. (l : Label) × (o ≡ Some l)) put_updated (take j ps) (lab_one (length ps)) m it
            (all_of_front (λ p. (l : Label) × (put_updated p.1 ≡ Some l)) j ps (all_pass_to (IsNew set c name) (λ p. (l : Label) × (put_updated p.1 ≡ Some l)) (λ p is. (updated p.1, refl)) ps new))
        | inr not_it ↦ rw (moved_miss put_updated (take j ps) (lab_one (length ps)) m (unnamed (take j ps) m not_it)) (has_one m named)
      ]

  there_two : (j m : ℕ) → names ps m ≡ true → m < length (all_changed areas (both j))
  there_two j m named =
      rw (length_kept (both j) areas)
      (moved_hit (λ n o. n < length areas) put_updating ps lab m named (all_pass_to (IsGiven uuid lab areas) (λ p. p.0 < length areas) (λ p g. g.1.there) ps given))

  all_two : (j : ℕ) → AllByRecursion (λ (m : Mapping). (m.«module» < length (all_changed areas (both j))) × ((l : Label) × (lab_two j m.«module» ≡ Some l))) set
  all_two j =
      all_pass_to (λ (m : Mapping). names ps m.«module» ≡ true) (λ (m : Mapping). (m.«module» < length (all_changed areas (both j))) × ((l : Label) × (lab_two j m.«module» ≡ Some l)))
      (λ m named. (there_two j m.«module» named, has_two j m.«module» named)) set covers

  named_at : (i : ℕ) → i < length ps → names ps (at i) ≡ true
  named_at i below = ap (λ (qs : List (ℕ × Label)). names qs (at i)) (sym all_taken) ∙ named_in_front ps i (length ps) d below below

  some_two : (j : ℕ) → list_any (λ (p : Placed). true) (own_of uuid (all_changed areas (both j))) ≡ true
  some_two j = by (has_two j (at 0) (named_at 0 (omega arith)))
    where
      by : (l : Label) × (lab_two j (at 0) ≡ Some l) → list_any (λ (p : Placed). true) (own_of uuid (all_changed areas (both j))) ≡ true
      by (l, is) = any_of uuid (lab_two j) (all_changed areas (both j)) (at 0) l (λ p. true) (proper_two j) (there_two j (at 0) (named_at 0 (omega arith))) is (λ s. refl)

  stands_two : (j : ℕ) (pending : Bool) → list_any is_updating (own_of uuid (all_changed areas (both j))) ≡ pending → StandsAs uuid set c name (Complete name pending) (all_changed areas (both j))
  stands_two j pending is = record {
    lab = lab_two j;
    proper = proper_two j;
    sound = λ m l is. (each_two j m l is).0;
    named = λ m l is. (each_two j m l is).1;
    has_status =
        own_complete uuid set c whole (lab_two j) (all_changed areas (both j)) (proper_two j) (λ m l is. (each_two j m l is).0) (all_two j) name (λ m l is. (each_two j m l is).1) (some_two j)
        ∙ ap (λ (b : Bool). Complete name b) is;
    some = some_two j;
  }

  -- all put, but not all settled: complete and pending
  part_settled : (j : ℕ) → j < length ps → StandsAs uuid set c name (Complete name true) (all_changed areas (both j))
  part_settled j less = stands_two j true (by (given_one (length ps) j less less))
    where
      by : (l : Label) × (lab_one (length ps) (at j) ≡ Some l) × (changes_now l ≡ true) → list_any is_updating (own_of uuid (all_changed areas (both j))) ≡ true
      by (l, is, changes) =
          any_of uuid (lab_two j) (all_changed areas (both j)) (at j) l is_updating (proper_two j) (there_two j (at j) (named_at j less))
          (moved_miss put_updated (take j ps) (lab_one (length ps)) (at j) (not_before ps j d less apart) ∙ is) (λ s. changes)

  -- all settled: complete
  all_settled : StandsAs uuid set c name (Complete name false) (all_changed areas (both (length ps)))
  all_settled =
      stands_two (length ps) false (none_passes is_updating (own_of uuid (all_changed areas (both (length ps))))
      (own_each uuid (lab_two (length ps)) (all_changed areas (both (length ps))) (proper_two (length ps)) (λ m l. changes_now l ≡ false) (λ m l is n. still_there m l is)))
    where
      still_there : (m : ℕ) (l : Label) → lab_two (length ps) m ≡ Some l → changes_now l ≡ false
      still_there m l is =
          elim (cases_Bool (names (take (length ps) ps) m)) [
            | inl it ↦ moved_hit (λ n o. (k : Label) → o ≡ Some k → changes_now k ≡ false) put_updated (take (length ps) ps) (lab_one (length ps)) m it
                (all_of_front (λ p. (k : Label) → put_updated p.1 ≡ Some k → changes_now k ≡ false) (length ps) ps
                (all_pass_to (IsNew set c name) (λ p. (k : Label) → put_updated p.1 ≡ Some k → changes_now k ≡ false)
                (λ p q k e. subst (λ (x : Label). changes_now x ≡ false) (same_Some (updated p.1) k e) (updated_doesnt p.1)) ps new)) l is
            | inr not_it ↦
                let others = unnamed (take (length ps) ps) m not_it in
                absurd (none-some l (sym (none m) ∙ sym (moved_miss put_updating (take (length ps) ps) lab m others) ∙ sym (moved_miss put_updated (take (length ps) ps) (lab_one (length ps)) m others) ∙ is))
          ]

  -- ---- the table's line

  abbrev pub create_changes : List Change
  create_changes = in_two put_updating put_updated ps

  both_is : (j : ℕ) → first ps ++ second (take j ps) ≡ both j
  both_is j = ap (λ (qs : List (ℕ × Label)). first qs ++ second (take j ps)) (sym all_taken)

  by_front : (k : ℕ) → (CreateLeft uuid set c name areas) (all_changed areas (take k create_changes))
  unfolding all_changed
  by_front k = rw (in_two_many put_updating put_updated ps many) (by k (front_of_two (change_to put_updating) (change_to put_updated) ps ps k))
    where
      by : (k : ℕ) → FrontOfTwo (change_to put_updating) (change_to put_updated) ps ps k → (CreateLeft uuid set c name areas) (all_changed areas (take k (first ps ++ second ps)))
      by zero front = inl refl
      by (suc k) (inl (below, is)) =
          elim (cases_lt (suc k) (length ps)) [
            | inl less ↦ subst (λ (cs : List Change). (CreateLeft uuid set c name areas) (all_changed areas cs)) (sym is) (inr (inl (part_made (suc k) (omega arith) less)))
            | inr all ↦
                let same : length ps ≡ suc k = omega arith in
                subst (λ (cs : List Change). (CreateLeft uuid set c name areas) (all_changed areas cs)) (append-nil whole_first ∙ ap (λ (n : ℕ). first (take n ps)) same ∙ sym is)
                (inr (inr (inl (part_settled 0 (omega arith)))))
          ]
      by (suc k) (inr (j, k_is, is)) =
          elim (cases_lt j (length ps)) [
            | inl less ↦ subst (λ (cs : List Change). (CreateLeft uuid set c name areas) (all_changed areas cs)) (sym (both_is j) ∙ sym is) (inr (inr (inl (part_settled j less))))
            | inr all ↦
                subst (λ (cs : List Change). (CreateLeft uuid set c name areas) (all_changed areas cs))
                (ap (λ (qs : List (ℕ × Label)). whole_first ++ second qs) (all_taken ∙ sym (take_all j ps all)) ∙ sym (both_is j) ∙ sym is)
                (inr (inr (inr all_settled)))
          ]

  -- after a crash that follows any number of steps
  pub create_cut : (n : ℕ) (stays : Bool) → (CreateLeft uuid set c name areas) (after_steps areas create_changes n stays)
  create_cut n stays = by (cut_is_front create_changes areas n stays)
    where
      by : IsFront areas create_changes (after_steps areas create_changes n stays) → (CreateLeft uuid set c name areas) (after_steps areas create_changes n stays)
      by (k, below, is) = rw is (by_front k)
      -- ---- the labels of a complete create
