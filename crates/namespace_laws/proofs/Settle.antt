-- The label changes that settle one complete entry.
use Rattle.std.proofs.Common.{◌≡◌, ◌≤◌, ◌≢◌, ℕ, ◌%◌, ◌<◌, Bool, true, false, cond, List, [], ◌∷◌, Option, Some, None, refl, sym, ap, ◌∙◌, subst, arith, inl, inr, ◌⊎◌}
use Rattle.std.specs.Prelude.{◌==◌, ◌&&◌, not, nat_le, map, filter, find}
use Rattle.std.specs.Option.{option_map}
use Rattle.std.specs.List.{AllByRecursion, list_any, filter_map}
use Rattle.std.proofs.lemmas.Bool.{cases_Bool, cases_eq, false≢true, eq-eqb, ne_eqb, and_parts, leb-true, leb-false, or_parts, and_right}
use Rattle.std.proofs.lemmas.Option.{none-some, same_Some}
use Rattle.label_codec.specs.declared.label.Label.{Label}
use Rattle.label_set.specs.declared.placed.Placed.{Placed}
use Rattle.label_set.specs.declared.placed.Why.TheVariants.{Differs}
use Rattle.label_set.specs.declared.placed.Field.TheVariants.{Names}
use Rattle.label_set.specs.declared.placed.SetStatus.TheVariants.{Complete, Incomplete}
use Rattle.label_set.specs.Rules.{module_of, is_updating, is_marked, agreed_name}
use Rattle.label_set.specs.Status.{naming_of, named_by, half_named}
use Rattle.namespace_map.specs.Namespaces.{is_read_only}
use Rattle.namespace_map.proofs.Rising.{all_pass_to}
use Rattle.namespace_map.specs.Areas.{Area, Change, slots_on, free_in, all_changed}
use Rattle.namespace_map.specs.Changes.{own_labels, change_to, with_name, is_unsettled}
use Rattle.label_codec.specs.Flags.{updated}
use Rattle.namespace_map.specs.CommandLaws.{IsOf}
use Rattle.namespace_map.proofs.Slots.{owned}
use Rattle.namespace_map.proofs.Areas.{Proper, moved_all, proper_after, sum_kept}
use Rattle.namespace_laws.proofs.Whole.{AllLab, own_of, IsBy, slot_on, all_by, any_of, all_from_none, own_each}
use Rattle.namespace_laws.proofs.Agree.{placed_by}
use Rattle.namespace_laws.proofs.Staged.{names, IsGiven, KeepsUuid, stage_fits, moved_hit, moved_miss, unnamed, all_map}
use Rattle.namespace_laws.proofs.Statuses.{agreed_names, one_name, two_names, still}
use Rattle.namespace_laws.proofs.Table.{IsLike, like_like, like_self, like_named, like_updated, updated_doesnt, changes_now}
use Rattle.namespace_laws.proofs.Shaped.{lies_there}
use Rattle.namespace_laws.proofs.GoneLists.{PutsBytes}

-- ---- lists

all_filter : {X : Type 0} (P : X → Type 0) (t : X → Bool) (xs : List X) → AllByRecursion P xs → AllByRecursion (λ x. P x × (t x ≡ true)) (filter t xs)
all_filter P t [] all = tt
all_filter P t (x ∷ xs) (one, rest) = elim (cases_Bool (t x)) [
  | inl it ↦ rw it ((one, it), all_filter P t xs rest)
  | inr not_it ↦ rw not_it (all_filter P t xs rest)
]

unfilter : {X : Type 0} (P : X → Type 0) (t : X → Bool) (xs : List X) → AllByRecursion P (filter t xs) → AllByRecursion (λ x. t x ≡ true → P x) xs
unfilter P t [] all = tt
unfilter P t (x ∷ xs) all = elim (cases_Bool (t x)) [
  | inl it ↦ let both : AllByRecursion P (x ∷ filter t xs) = rw it at all in ((λ e. both.0), unfilter P t xs both.1)
  | inr not_it ↦ ((λ e. absurd (false≢true (sym not_it ∙ e))), unfilter P t xs (rw not_it at all))
]

any_gives : {X : Type 0} (P : X → Type 0) (t : X → Bool) (xs : List X) → list_any t xs ≡ true → AllByRecursion P xs → (x : X) × (t x ≡ true) × P x
any_gives P t [] e all = absurd (false≢true e)
any_gives P t (x ∷ xs) e (one, rest) = elim (cases_Bool (t x)) [
  | inl it ↦ (x, it, one)
  | inr not_it ↦ any_gives P t xs (rw not_it at e) rest
]

some_filtered : (t : Placed → Bool) (xs : List Placed) (name : List ℕ) → agreed_name (filter t xs) ≡ Some name → list_any t xs ≡ true
some_filtered t [] name e = absurd (none-some name e)
some_filtered t (x ∷ xs) name e = elim (cases_Bool (t x)) [
  | inl it ↦ rw it refl
  | inr not_it ↦ rw not_it (some_filtered t xs name (rw not_it at e))
]

-- a module that a filter of labels doesn't name
filter_unnamed : (t : ℕ × Label → Bool) (lab : ℕ → Option Label) (m : ℕ) (l : Label) → lab m ≡ Some l → (ps : List (ℕ × Label)) → AllByRecursion (λ p. lab p.0 ≡ Some p.1) ps → names ps m ≡ true
    → names (filter t ps) m ≡ false → t (m, l) ≡ false
filter_unnamed t lab m l at [] labels named none = absurd (false≢true named)
filter_unnamed t lab m l at (p ∷ ps) (here, labels) named none = by (cases_eq p.0 m) (cases_Bool (t p)) (filter_unnamed t lab m l at ps labels)
  where
    by : (p.0 ≡ m) ⊎ (p.0 ≢ m) → (t p ≡ true) ⊎ (t p ≡ false) → (names ps m ≡ true → names (filter t ps) m ≡ false → t (m, l) ≡ false) → t (m, l) ≡ false
    by (inl same) (inl it) later = absurd (false≢true (sym none ∙ rw (it, eq-eqb p.0 m same) refl))
    by (inl same) (inr not_it) later =
        let label : p.1 ≡ l = same_Some p.1 l (sym here ∙ ap lab same ∙ at) in
        ap (λ (k : ℕ). t (k, l)) (sym same) ∙ ap (λ (x : Label). t (p.0, x)) (sym label) ∙ not_it
    by (inr apart) (inl it) later = later (rw (ne_eqb p.0 m apart) at named) (or_parts (p.0 == m) (names (filter t ps) m) (rw it at none)).1
    by (inr apart) (inr not_it) later = later (rw (ne_eqb p.0 m apart) at named) (rw not_it at none)

-- ---- what is said of labels by module

abbrev pub upd : Option Label → Bool
upd None = false
upd (Some l) = changes_now l

abbrev pub locked : Option Label → Bool
locked None = false
locked (Some l) = l.flags % 2 == 1

pub updating_by : (lab : ℕ → Option Label) (slots : ℕ → ℕ) (ns : List ℕ) → map module_of (filter is_updating (filter_map (placed_by lab slots) ns)) ≡ filter (λ m. upd (lab m)) ns
updating_by lab slots [] = refl
updating_by lab slots (n ∷ ns) = by (lab n) refl (updating_by lab slots ns)
  where
    by : (o : Option Label) → lab n ≡ o → map module_of (filter is_updating (filter_map (placed_by lab slots) ns)) ≡ filter (λ m. upd (lab m)) ns
        → map module_of (filter is_updating (filter_map (placed_by lab slots) (n ∷ ns))) ≡ filter (λ m. upd (lab m)) (n ∷ ns)
    by None is later = rw is later
    by (Some l) is later = rw is (elim (cases_Bool (changes_now l)) [ inl it ↦ rw it (ap (λ (xs : List ℕ). n ∷ xs) later) | inr not_it ↦ rw not_it later ])

pub locked_by : (lab : ℕ → Option Label) (slots : ℕ → ℕ) (ns : List ℕ) → option_map module_of (find is_read_only (filter_map (placed_by lab slots) ns)) ≡ find (λ m. locked (lab m)) ns
locked_by lab slots [] = refl
locked_by lab slots (n ∷ ns) = by (lab n) refl (locked_by lab slots ns)
  where
    by : (o : Option Label) → lab n ≡ o → option_map module_of (find is_read_only (filter_map (placed_by lab slots) ns)) ≡ find (λ m. locked (lab m)) ns
        → option_map module_of (find is_read_only (filter_map (placed_by lab slots) (n ∷ ns))) ≡ find (λ m. locked (lab m)) (n ∷ ns)
    by None is later = rw is later
    by (Some l) is later = rw is (elim (cases_Bool (l.flags % 2 == 1)) [ inl it ↦ rw it refl | inr not_it ↦ rw not_it later ])

pub find_same : (s t : ℕ → Bool) → ((n : ℕ) → s n ≡ t n) → (ns : List ℕ) → find s ns ≡ find t ns
find_same s t same [] = refl
find_same s t same (n ∷ ns) = ap (λ (b : Bool). cond b (Some n) (find s ns)) (same n) ∙ ap (λ (o : Option ℕ). cond (t n) (Some n) o) (find_same s t same ns)

pub filter_both : (s t u : ℕ → Bool) → ((n : ℕ) → (t n && s n) ≡ u n) → (ns : List ℕ) → filter s (filter t ns) ≡ filter u ns
filter_both s t u same [] = refl
filter_both s t u same (n ∷ ns) = by (cases_Bool (t n)) (cases_Bool (s n)) (filter_both s t u same ns)
  where
    by : (t n ≡ true) ⊎ (t n ≡ false) → (s n ≡ true) ⊎ (s n ≡ false) → filter s (filter t ns) ≡ filter u ns → filter s (filter t (n ∷ ns)) ≡ filter u (n ∷ ns)
    by (inl a) (inl b) later = let c : u n ≡ true = sym (same n) ∙ rw (a, b) refl in rw (a, b, c) (ap (λ (xs : List ℕ). n ∷ xs) later)
    by (inl a) (inr b) later = let c : u n ≡ false = sym (same n) ∙ rw (a, b) refl in rw (a, b, c) later
    by (inr a) which later = let c : u n ≡ false = sym (same n) ∙ rw a refl in rw (a, c) later

-- ---- the labels after

module _ (uuid name : List ℕ) (areas : List (Option Area)) (lab : ℕ → Option Label) (proper : Proper uuid lab areas) (labels : AllByRecursion (λ p. lab p.0 ≡ Some p.1) (own_labels areas uuid))
    (only : (m : ℕ) (l : Label) → lab m ≡ Some l → names (own_labels areas uuid) m ≡ true)
    -- which of the unsettled labels are settled
    (t : ℕ × Label → Bool) (may : (p : ℕ × Label) → t p ≡ true → is_unsettled areas p ≡ true) where
  abbrev pub to_named : Label → Option Label
  to_named l = Some (with_name name (updated l))

  abbrev pub qs : List (ℕ × Label)
  qs = filter t (own_labels areas uuid)

  abbrev pub cs : List Change
  cs = map (change_to to_named) qs

  abbrev pub lab_then : ℕ → Option Label
  lab_then = moved_all lab cs

  -- the new label of a module
  abbrev pub step_of : ℕ → Label → Label
  step_of m l = cond (t (m, l)) (with_name name (updated l)) l

  keeps : KeepsUuid to_named
  keeps l l' is = ap (λ (k : Label). k.uuid) (sym (same_Some (with_name name (updated l)) l' is))

  unsettled : AllByRecursion (λ q. (lab q.0 ≡ Some q.1) × (t q ≡ true)) qs
  unsettled = all_filter (λ p. lab p.0 ≡ Some p.1) t (own_labels areas uuid) labels

  given : AllByRecursion (IsGiven uuid lab areas) qs
  given =
      all_pass_to (λ q. (lab q.0 ≡ Some q.1) × (t q ≡ true)) (IsGiven uuid lab areas)
      (λ q both. (
        proper.named q.0 q.1 both.0,
        record {
          there = lies_there uuid lab areas proper q.0 q.1 both.0;
          room = let free = leb-true 1 (free_in (slots_on areas q.0)) (and_parts (changes_now q.1) (nat_le 1 (free_in (slots_on areas q.0))) (may q both.1)).1 in let o = ap owned both.0 in omega (arith, free, o);
        },
      )) qs unsettled

  pub of : AllByRecursion (IsOf uuid) cs
  of = all_map (IsOf uuid) (change_to to_named) qs (all_pass_to (IsGiven uuid lab areas) (λ q. IsOf uuid (change_to to_named q)) (λ q g. record { of_uuid = g.0; label_of_uuid = λ l is. keeps q.1 l is ∙ g.0 }) qs given)

  pub bytes : AllLab (λ m l. 0 < l.raw) lab → AllByRecursion PutsBytes cs
  bytes some =
      all_map PutsBytes (change_to to_named) qs
      (all_pass_to (λ q. (lab q.0 ≡ Some q.1) × (t q ≡ true)) (λ q. PutsBytes (change_to to_named q))
      (λ q both l is. subst (λ (x : Label). 0 < x.raw) (same_Some (with_name name (updated q.1)) l is) (some q.0 q.1 both.0)) qs unsettled)

  pub proper_then : Proper uuid lab_then (all_changed areas cs)
  proper_then = proper_after cs uuid lab areas proper (stage_fits uuid lab areas to_named keeps qs given)

  pub lab_is : (m : ℕ) → lab_then m ≡ option_map (step_of m) (lab m)
  lab_is m = elim (cases_Bool (names qs m)) [
    | inl it ↦
        by (moved_hit (λ n o. (l : Label) × (lab n ≡ Some l) × (t (n, l) ≡ true) × (o ≡ Some (with_name name (updated l)))) to_named qs lab m it
        (all_pass_to (λ q. (lab q.0 ≡ Some q.1) × (t q ≡ true)) (λ q. (l : Label) × (lab q.0 ≡ Some l) × (t (q.0, l) ≡ true) × (to_named q.1 ≡ Some (with_name name (updated l))))
        (λ q both. (q.1, both.0, both.1, refl)) qs unsettled))
    | inr not_it ↦ moved_miss to_named qs lab m (unnamed qs m not_it) ∙ stays (lab m) refl not_it
  ]
    where
      by : (l : Label) × (lab m ≡ Some l) × (t (m, l) ≡ true) × (lab_then m ≡ Some (with_name name (updated l))) → lab_then m ≡ option_map (step_of m) (lab m)
      by (l, at, t, is) = is ∙ sym (ap (option_map (step_of m)) at ∙ ap (λ (b : Bool). Some (cond b (with_name name (updated l)) l)) t)

      stays : (o : Option Label) → lab m ≡ o → names qs m ≡ false → lab m ≡ option_map (step_of m) (lab m)
      stays None at none = at ∙ sym (ap (option_map (step_of m)) at)
      stays (Some l) at none =
          at ∙ sym (ap (option_map (step_of m)) at
          ∙ ap (λ (b : Bool). Some (cond b (with_name name (updated l)) l)) (filter_unnamed t lab m l at (own_labels areas uuid) labels (only m l at) none))

  -- as many slots are free as before
  pub free_same : (i : ℕ) → free_in (slots_on (all_changed areas cs) i) ≡ free_in (slots_on areas i)
  free_same i =
      let a = sum_kept cs uuid lab areas proper (stage_fits uuid lab areas to_named keeps qs given) i in
      let b : owned (lab_then i) ≡ owned (lab i) = ap owned (lab_is i) ∙ same (lab i) in omega (arith, a, b)
    where
      same : (o : Option Label) → owned (option_map (step_of i) o) ≡ owned o
      same None = refl
      same (Some l) = refl

  step_like : (m : ℕ) (l : Label) → IsLike l (step_of m l)
  step_like m l = elim (cases_Bool (t (m, l))) [
    | inl it ↦ rw it (like_like l (updated l) (with_name name (updated l)) (like_updated l) (like_named (updated l) name))
    | inr not_it ↦ rw not_it (like_self l)
  ]

  -- a label comes from a previous one
  pub from_lab : (m : ℕ) (k : Label) → lab_then m ≡ Some k → (l : Label) × (lab m ≡ Some l) × (k ≡ step_of m l)
  from_lab m k is = by (lab m) refl
    where
      by : (o : Option Label) → lab m ≡ o → (l : Label) × (lab m ≡ Some l) × (k ≡ step_of m l)
      by None at = absurd (none-some k (sym (lab_is m ∙ ap (option_map (step_of m)) at) ∙ is))
      by (Some l) at = (l, at, sym (same_Some (step_of m l) k (sym (lab_is m ∙ ap (option_map (step_of m)) at) ∙ is)))

  pub like_lab : (m : ℕ) (k : Label) → lab_then m ≡ Some k → (l : Label) × (lab m ≡ Some l) × IsLike l k
  like_lab m k is = let f = from_lab m k is in (f.0, f.1, subst (IsLike f.0) (sym f.2) (step_like m f.0))

  -- it isn't updating any more, if it is settled
  upd_step : (m : ℕ) (l : Label) → changes_now (step_of m l) ≡ (changes_now l && not (t (m, l)))
  upd_step m l = elim (cases_Bool (t (m, l))) [
    | inl it ↦ rw it (updated_doesnt l ∙ sym (and_right (changes_now l) false refl))
    | inr not_it ↦ rw not_it (sym (and_true (changes_now l)))
  ]
    where
      and_true : (b : Bool) → (b && true) ≡ b
      and_true true = refl
      and_true false = refl

  -- if a module has a free slot, it doesn't matter whether it is in the list
  pub upd_full : (m : ℕ) (z : Bool) → (1 ≤ free_in (slots_on areas m) → z ≡ false) → (upd (lab_then m) && z) ≡ (upd (lab m) && z)
  upd_full m z full = ap (λ (b : Bool). b && z) (ap upd (lab_is m)) ∙ by (lab m)
    where
      step : (l : Label) → (changes_now (step_of m l) && z) ≡ (changes_now l && z)
      step l = elim (cases_Bool (t (m, l))) [
        | inl it ↦
            let none : z ≡ false = full (leb-true 1 (free_in (slots_on areas m)) (and_parts (changes_now l) (nat_le 1 (free_in (slots_on areas m))) (may (m, l) it)).1) in
            and_right (changes_now (step_of m l)) z none ∙ sym (and_right (changes_now l) z none)
        | inr not_it ↦ rw not_it refl
      ]

      by : (o : Option Label) → (upd (option_map (step_of m) o) && z) ≡ (upd o && z)
      by None = refl
      by (Some l) = step l

  -- if all unsettled ones are settled, those on modules without a free slot remain
  pub upd_whole : ((p : ℕ × Label) → t p ≡ is_unsettled areas p) → (m : ℕ) → (upd (lab m) && (free_in (slots_on areas m) == 0)) ≡ upd (lab_then m)
  upd_whole all m = by (lab m) ∙ ap upd (sym (lab_is m))
    where
      step : (l : Label) → (changes_now l && (free_in (slots_on areas m) == 0)) ≡ changes_now (step_of m l)
      step l = which (cases_Bool (changes_now l)) (cases_Bool (nat_le 1 (free_in (slots_on areas m)))) ∙ sym (upd_step m l ∙ ap (λ (b : Bool). changes_now l && not b) (all (m, l)))
        where
          which : (changes_now l ≡ true) ⊎ (changes_now l ≡ false) → (nat_le 1 (free_in (slots_on areas m)) ≡ true) ⊎ (nat_le 1 (free_in (slots_on areas m)) ≡ false)
              → (changes_now l && (free_in (slots_on areas m) == 0)) ≡ (changes_now l && not (is_unsettled areas (m, l)))
          which (inl a) (inl b) =
              let some : (free_in (slots_on areas m) == 0) ≡ false = ne_eqb (free_in (slots_on areas m)) 0 (λ z. let f = leb-true 1 (free_in (slots_on areas m)) b in omega arith) in
              rw (a, b, some) refl
          which (inl a) (inr b) =
              let none : (free_in (slots_on areas m) == 0) ≡ true = eq-eqb (free_in (slots_on areas m)) 0 (let f = leb-false 1 (free_in (slots_on areas m)) b in omega (arith, f)) in
              rw (a, b, none) refl
          which (inr a) other = rw a refl

      by : (o : Option Label) → (upd o && (free_in (slots_on areas m) == 0)) ≡ upd (option_map (step_of m) o)
      by None = refl
      by (Some l) = step l

  pub locked_then : (m : ℕ) → locked (lab_then m) ≡ locked (lab m)
  locked_then m = ap locked (lab_is m) ∙ by (lab m)
    where
      by : (o : Option Label) → locked (option_map (step_of m) o) ≡ locked o
      by None = refl
      by (Some l) = ap (λ (n : ℕ). n == 1) (step_like m l).read_only

  -- ---- the names

  abbrev own : List Placed
  own = own_of uuid areas

  abbrev own_then : List Placed
  own_then = own_of uuid (all_changed areas cs)

  one_then : AllLab (λ m l. l.name ≡ name) lab → list_any (λ (p : Placed). true) own_then ≡ true → naming_of own_then ≡ Complete name (list_any is_updating own_then)
  one_then all some =
      one_name own_then name (own_each uuid lab_then (all_changed areas cs) proper_then (λ m l. l.name ≡ name) (λ m k is n. let f = from_lab m k is in ap (λ (x : Label). x.name) f.2 ∙ stepped m f.0 (all m f.0 f.1))) some
    where
      stepped : (m : ℕ) (l : Label) → l.name ≡ name → (step_of m l).name ≡ name
      stepped m l e = elim (cases_Bool (t (m, l))) [ inl it ↦ rw it refl | inr not_it ↦ rw not_it e ]

  half_then : (new : List ℕ) → AllLab (λ m l. changes_now l ≡ false → l.name ≡ name) lab → AllLab (λ m l. changes_now l ≡ true → l.name ≡ new) lab → list_any still own ≡ true
      → list_any (λ (p : Placed). true) own_then ≡ true → naming_of own_then ≡ Complete name (list_any is_updating own_then)
  half_then new olds news some some_then = by (cases_Bool (list_any is_updating own_then))
    where
      old_step : (m : ℕ) (l : Label) → (changes_now l ≡ false → l.name ≡ name) → changes_now (step_of m l) ≡ false → (step_of m l).name ≡ name
      old_step m l e = elim (cases_Bool (t (m, l))) [ inl it ↦ rw it (λ q. refl) | inr not_it ↦ rw not_it e ]

      new_step : (m : ℕ) (l : Label) → (changes_now l ≡ true → l.name ≡ new) → changes_now (step_of m l) ≡ true → (step_of m l).name ≡ new
      new_step m l e = elim (cases_Bool (t (m, l))) [ inl it ↦ rw it (λ q. absurd (false≢true (sym (updated_doesnt l) ∙ q))) | inr not_it ↦ rw not_it e ]

      old_each : AllByRecursion (λ (p : Placed). changes_now p.label ≡ false → p.label.name ≡ name) own_then
      old_each = own_each uuid lab_then (all_changed areas cs) proper_then (λ m l. changes_now l ≡ false → l.name ≡ name)
          (λ m k is n. let f = from_lab m k is in subst (λ (x : Label). changes_now x ≡ false → x.name ≡ name) (sym f.2) (old_step m f.0 (olds m f.0 f.1)))

      new_each : AllByRecursion (λ (p : Placed). changes_now p.label ≡ true → p.label.name ≡ new) own_then
      new_each = own_each uuid lab_then (all_changed areas cs) proper_then (λ m l. changes_now l ≡ true → l.name ≡ new)
          (λ m k is n. let f = from_lab m k is in subst (λ (x : Label). changes_now x ≡ true → x.name ≡ new) (sym f.2) (new_step m f.0 (news m f.0 f.1)))

      not_is : (b : Bool) → not b ≡ true → b ≡ false
      not_is true e = absurd (false≢true e)
      not_is false e = refl

      some_still : list_any still own_then ≡ true
      some_still = from (any_gives (IsBy lab (slot_on uuid areas)) still own some (all_by uuid lab areas proper))
        where
          from : (p : Placed) × (still p ≡ true) × IsBy lab (slot_on uuid areas) p → list_any still own_then ≡ true
          from (p, quiet, by) =
              let calm : changes_now by.given ≡ false = ap (λ (x : Label). changes_now x) (sym (ap (λ (x : Label). record x { slot = by.given.slot }) by.label_is)) ∙ not_is (is_updating p) quiet in
              let there : lab_then p.«module» ≡ Some (step_of p.«module» by.given) = lab_is p.«module» ∙ ap (option_map (step_of p.«module»)) by.is_given in
              any_of uuid lab_then (all_changed areas cs) p.«module» (step_of p.«module» by.given) still proper_then (lies_there uuid lab_then (all_changed areas cs) proper_then p.«module» (step_of p.«module» by.given) there) there
              (λ s. ap (λ (b : Bool). not b) (upd_step p.«module» by.given ∙ ap (λ (b : Bool). b && not (t (p.«module», by.given))) calm))

      by : (list_any is_updating own_then ≡ true) ⊎ (list_any is_updating own_then ≡ false) → naming_of own_then ≡ Complete name (list_any is_updating own_then)
      by (inl it) =
          two_names own_then name new (all_pass_to (λ (p : Placed). changes_now p.label ≡ false → p.label.name ≡ name) (λ p. still p ≡ true → p.label.name ≡ name) (λ p h e. h (not_is (is_updating p) e)) own_then old_each) new_each some_still it
          ∙ ap (λ (b : Bool). Complete name b) (sym it)
      by (inr not_it) =
          one_name own_then name (both own_then old_each (all_from_none is_updating own_then not_it)) some_then
        where
          both : (xs : List Placed) → AllByRecursion (λ (p : Placed). changes_now p.label ≡ false → p.label.name ≡ name) xs → AllByRecursion (λ p. is_updating p ≡ false) xs → AllByRecursion (λ (p : Placed). p.label.name ≡ name) xs
          both [] a b = tt
          both (x ∷ xs) (a, as') (b, bs) = (a b, both xs as' bs)

  -- what held of each label in the list
  module _ (each_lab : (Q : ℕ → Label → Type 0) → AllByRecursion (λ p. Q p.«module» p.label) own → AllLab Q lab) where
    pub naming_then : (pending : Bool) → naming_of own ≡ Complete name pending → list_any (λ (p : Placed). true) own_then ≡ true → naming_of own_then ≡ Complete name (list_any is_updating own_then)
    naming_then pending e some = by (agreed_name own) refl e
      where
        halves : (a b : Option (List ℕ)) → agreed_name (filter (is_marked false) own) ≡ a → agreed_name (filter (is_marked true) own) ≡ b → half_named a b ≡ Complete name pending
            → naming_of own_then ≡ Complete name (list_any is_updating own_then)
        halves (Some old) (Some new) is_old is_new f =
            let same : old ≡ name = (let g : Complete old true ≡ Complete name pending = f in cc) in
            half_then new
            (each_lab (λ m l. changes_now l ≡ false → l.name ≡ name)
            (all_pass_to (λ p. is_marked false p ≡ true → p.label.name ≡ old) (λ p. changes_now p.label ≡ false → p.label.name ≡ name) (λ p h q. h (ap (λ (b : Bool). not b) q) ∙ same) own
            (unfilter (λ (p : Placed). p.label.name ≡ old) (is_marked false) own (agreed_names (filter (is_marked false) own) old is_old))))
            (each_lab (λ m l. changes_now l ≡ true → l.name ≡ new) (unfilter (λ (p : Placed). p.label.name ≡ new) (is_marked true) own (agreed_names (filter (is_marked true) own) new is_new)))
            (some_filtered (is_marked false) own old is_old) some
        halves (Some old) None is_old is_new f = absurd (let g : Incomplete (Differs Names) ≡ Complete name pending = f in cc)
        halves None b is_old is_new f = absurd (let g : Incomplete (Differs Names) ≡ Complete name pending = f in cc)

        by : (o : Option (List ℕ)) → agreed_name own ≡ o → named_by own o ≡ Complete name pending → naming_of own_then ≡ Complete name (list_any is_updating own_then)
        by (Some n) is f =
            let same : n ≡ name = (let g : Complete n (list_any is_updating own) ≡ Complete name pending = f in cc) in
            one_then (each_lab (λ m l. l.name ≡ name) (agreed_names own name (is ∙ ap Some same))) some
        by None is f = halves (agreed_name (filter (is_marked false) own)) (agreed_name (filter (is_marked true) own)) refl refl f
