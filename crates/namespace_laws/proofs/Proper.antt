-- The label of a UUID on each module, where no module has two.
use Rattle.std.proofs.Common.{◌≡◌, ◌≢◌, ℕ, zero, suc, ◌+◌, ◌<◌, ◌≤◌, Bool, true, false, cond, List, [], ◌∷◌, ◌++◌, length, get_or, Option, Some, None, refl, sym, ap, ◌∙◌, subst, arith, inl, inr, ◌⊎◌}
use Rattle.std.specs.Prelude.{count_by, slice_get, unwrap_or}
use Rattle.std.specs.List.{AllByRecursion, list_any, position, position_from}
use Rattle.std.specs.Str.{bytes_eq}
use Rattle.std.proofs.lemmas.Bool.{cases_Bool, false≢true, eq-eqb, ltb-false, false_from_ne_true, cases_lt, eqb-true}
use Rattle.std.proofs.lemmas.Option.{none-some, same_Some, unwrap_or-slice_get}
use Rattle.std.proofs.lemmas.Slice.Eq.{bytes_eq-Decides}
use Rattle.std.proofs.lemmas.List.Sums.{sum_by-cons}
use Rattle.std.proofs.lemmas.List.{get_or_past}
use Rattle.std.proofs.lemmas.Iterator.Adapters.{position_from-zero}
use Rattle.namespace_map.proofs.Rising.{all_pass_to}
use Rattle.std.proofs.lemmas.List.Quantifiers.{position-Some}
use Rattle.label_codec.specs.declared.label.Label.{Label}
use Rattle.label_area.specs.Area.{SlotState, label_in}
use Rattle.label_set.specs.declared.placed.Placed.{Placed}
use Rattle.label_set.specs.Rules.{is_twice}
use Rattle.namespace_map.specs.Areas.{Area, slots_of, slots_on, has_uuid, slot_of}
use Rattle.namespace_map.proofs.Slots.{slot, IsOwn}
use Rattle.namespace_map.proofs.Areas.{Proper}
use Rattle.namespace_map.proofs.Labels.{part, placed_at, own_from, labels_of_areas}
use Rattle.namespace_map.specs.Left.{LabelsAreRead}
use Rattle.namespace_laws.proofs.Whole.{own_of, AllLab, slot_on}
use Rattle.namespace_laws.proofs.Apart.{on_module, count_none}
use Rattle.namespace_laws.proofs.Statuses.{some_gives}

-- ---- how many labels of the UUID a module has

pub count_cons : {X : Type 0} (test : X → Bool) (x : X) (xs : List X) → count_by test (x ∷ xs) ≡ cond (test x) 1 0 + count_by test xs
count_cons test x xs = sum_by-cons (λ y. cond (test y) 1 0) x xs

count_append : (test : Placed → Bool) (xs ys : List Placed) → count_by test (xs ++ ys) ≡ count_by test xs + count_by test ys
count_append test [] ys = omega arith
count_append test (x ∷ xs) ys =
    let a = count_cons test x (xs ++ ys) in let b = count_cons test x xs in let h = count_append test xs ys in
    omega (arith, a, b, h)

-- on its own module a part counts its slots, on others none
part_count : (slots : List SlotState) (uuid : List ℕ) (m k : ℕ) → count_by (on_module m) (part uuid m k slots) ≡ count_by (has_uuid uuid) slots
part_count [] uuid m k = refl
part_count (None ∷ slots) uuid m k = let h = part_count slots uuid m (k + 1) in let a = count_cons (has_uuid uuid) None slots in omega (arith, a, h)
part_count (Some None ∷ slots) uuid m k = let h = part_count slots uuid m (k + 1) in let a = count_cons (has_uuid uuid) (Some None) slots in omega (arith, a, h)
part_count (Some (Some l) ∷ slots) uuid m k = by (cases_Bool (bytes_eq l.uuid uuid)) (part_count slots uuid m (k + 1))
  where
    by : (bytes_eq l.uuid uuid ≡ true) ⊎ (bytes_eq l.uuid uuid ≡ false) → count_by (on_module m) (part uuid m (k + 1) slots) ≡ count_by (has_uuid uuid) slots
        → count_by (on_module m) (part uuid m k (Some (Some l) ∷ slots)) ≡ count_by (has_uuid uuid) (Some (Some l) ∷ slots)
    by (inl it) h =
        let a : count_by (has_uuid uuid) (Some (Some l) ∷ slots) ≡ 1 + count_by (has_uuid uuid) slots = count_cons (has_uuid uuid) (Some (Some l)) slots ∙ rw it refl in
        let b : count_by (on_module m) (placed_at m k l ∷ part uuid m (k + 1) slots) ≡ 1 + count_by (on_module m) (part uuid m (k + 1) slots) =
        count_cons (on_module m) (placed_at m k l) (part uuid m (k + 1) slots) ∙ rw (eq-eqb m m refl) refl in
        ap (λ (c : Bool). count_by (on_module m) (cond c (placed_at m k l ∷ part uuid m (k + 1) slots) (part uuid m (k + 1) slots))) it ∙ b ∙ ap (λ (n : ℕ). 1 + n) h ∙ sym a
    by (inr not_it) h =
        let a : count_by (has_uuid uuid) (Some (Some l) ∷ slots) ≡ count_by (has_uuid uuid) slots = count_cons (has_uuid uuid) (Some (Some l)) slots ∙ rw not_it (omega arith) in
        ap (λ (c : Bool). count_by (on_module m) (cond c (placed_at m k l ∷ part uuid m (k + 1) slots) (part uuid m (k + 1) slots))) not_it ∙ h ∙ sym a

own_count : (areas : List (Option Area)) (uuid : List ℕ) (k i : ℕ) → count_by (has_uuid uuid) (slots_of (get_or areas i None)) ≤ count_by (on_module (k + i)) (own_from uuid k areas)
own_count [] uuid k i = omega arith
own_count (a ∷ areas) uuid k zero =
    let zero_is : k + 0 ≡ k = omega arith in
    let here : count_by (on_module (k + 0)) (part uuid k 0 (slots_of a)) ≡ count_by (has_uuid uuid) (slots_of a) = ap (λ (n : ℕ). count_by (on_module n) (part uuid k 0 (slots_of a))) zero_is ∙ part_count (slots_of a) uuid k 0 in
    let all = count_append (on_module (k + 0)) (part uuid k 0 (slots_of a)) (own_from uuid (k + 1) areas) in
    omega (arith, here, all)
own_count (a ∷ areas) uuid k (suc i) =
    let next : k + suc i ≡ k + 1 + i = omega arith in
    let h = own_count areas uuid (k + 1) i in
    let same : count_by (on_module (k + suc i)) (own_from uuid (k + 1) areas) ≡ count_by (on_module (k + 1 + i)) (own_from uuid (k + 1) areas) = ap (λ (n : ℕ). count_by (on_module n) (own_from uuid (k + 1) areas)) next in
    let all = count_append (on_module (k + suc i)) (part uuid k 0 (slots_of a)) (own_from uuid (k + 1) areas) in
    omega (arith, h, same, all)

pub count_here : (uuid : List ℕ) (areas : List (Option Area)) (m : ℕ) → count_by (has_uuid uuid) (slots_on areas m) ≤ count_by (on_module m) (own_of uuid areas)
count_here uuid areas m =
    let h = own_count areas uuid 0 m in
    let a : count_by (has_uuid uuid) (slots_on areas m) ≡ count_by (has_uuid uuid) (slots_of (get_or areas m None)) = ap (λ (x : Option Area). count_by (has_uuid uuid) (slots_of x)) (unwrap_or-slice_get areas m None) in
    let b : count_by (on_module (0 + m)) (own_from uuid 0 areas) ≡ count_by (on_module m) (own_of uuid areas) =
    ap (λ (n : ℕ). count_by (on_module n) (own_from uuid 0 areas)) (omega arith) ∙ ap (count_by (on_module m)) (sym (labels_of_areas uuid areas)) in
    omega (arith, h, a, b)

-- ---- one of several

count_passes : {X : Type 0} (test : X → Bool) (d : X) (xs : List X) (s : ℕ) → s < length xs → test (get_or xs s d) ≡ true → 1 ≤ count_by test xs
count_passes test d [] s below e = absurd (omega arith)
count_passes test d (x ∷ xs) zero below e = let a : count_by test (x ∷ xs) ≡ 1 + count_by test xs = count_cons test x xs ∙ rw e refl in omega (arith, a)
count_passes test d (x ∷ xs) (suc s) below e = let h = count_passes test d xs s (omega arith) e in let a = count_cons test x xs in omega (arith, a, h)

-- if at most one passes, the others don't
only_one : {X : Type 0} (test : X → Bool) (d : X) → test d ≡ false → (xs : List X) (s j : ℕ) → count_by test xs ≤ 1 → s < length xs → test (get_or xs s d) ≡ true → j ≢ s → test (get_or xs j d) ≡ false
only_one test d none [] s j few below e ne = absurd (omega arith)
only_one test d none (x ∷ xs) zero zero few below e ne = absurd (ne refl)
only_one test d none (x ∷ xs) zero (suc j) few below e ne = elim (cases_lt j (length xs)) [
  | inl there ↦ false_from_ne_true _ (λ passes.
      let a : count_by test (x ∷ xs) ≡ 1 + count_by test xs = count_cons test x xs ∙ rw e refl in
      let b = count_passes test d xs j there passes in absurd (omega (arith, a, b)))
  | inr past ↦ ap test (get_or_past xs j d past) ∙ none
]
only_one test d none (x ∷ xs) (suc s) zero few below e ne = false_from_ne_true _ (λ passes.
    let a : count_by test (x ∷ xs) ≡ 1 + count_by test xs = count_cons test x xs ∙ rw passes refl in
    let b = count_passes test d xs s (omega arith) e in absurd (omega (arith, a, b)))
only_one test d none (x ∷ xs) (suc s) (suc j) few below e ne =
    only_one test d none xs s j (let a = count_cons test x xs in omega (arith, a)) (omega arith) e (λ same. ne (ap suc same))

from_none : {X : Type 0} (test : X → Bool) (d : X) → test d ≡ false → (xs : List X) (k : ℕ) → position_from test k xs ≡ None → (j : ℕ) → test (get_or xs j d) ≡ false
from_none test d none [] k e j = none
from_none test d none (x ∷ xs) k e j = by (cases_Bool (test x)) (from_none test d none xs (k + 1)) j
  where
    by : (test x ≡ true) ⊎ (test x ≡ false) → (position_from test (k + 1) xs ≡ None → (j : ℕ) → test (get_or xs j d) ≡ false) → (j : ℕ) → test (get_or (x ∷ xs) j d) ≡ false
    by (inl it) rest j = absurd (none-some k (sym (rw it at e)))
    by (inr not_it) rest zero = not_it
    by (inr not_it) rest (suc j) = rest (rw not_it at e) j

nowhere_all : {X : Type 0} (test : X → Bool) (d : X) → test d ≡ false → (xs : List X) → position test xs ≡ None → (j : ℕ) → test (get_or xs j d) ≡ false
nowhere_all test d none xs e = from_none test d none xs 0 (sym (position_from-zero test xs) ∙ e)

-- ---- the label of a UUID

abbrev pub lab_at : List ℕ → List SlotState → Option ℕ → Option Label
lab_at uuid slots None = None
lab_at uuid slots (Some s) = label_in (slot slots s)

-- the label of a UUID on each module, in its first slot
abbrev pub lab_of : List ℕ → List (Option Area) → ℕ → Option Label
lab_of uuid areas m = lab_at uuid (slots_on areas m) (slot_of (slots_on areas m) uuid)

there_is : (slots : List SlotState) (s : ℕ) (x : SlotState) → s < length slots → slot slots s ≡ x → slice_get slots s ≡ Some x
there_is [] s x below e = absurd (omega arith)
there_is (y ∷ ys) zero x below e = ap Some e
there_is (y ∷ ys) (suc s) x below e = there_is ys s x (omega arith) e

module _ (uuid : List ℕ) (areas : List (Option Area)) (read : LabelsAreRead areas) (once : AllByRecursion (λ q. is_twice (own_of uuid areas) q ≡ false) (own_of uuid areas)) where
  few_on : (m : ℕ) → count_by (on_module m) (own_of uuid areas) ≤ 1
  few_on m = elim (cases_Bool (list_any (on_module m) (own_of uuid areas))) [
    | inl some ↦ some_gives (on_module m) (count_by (on_module m) (own_of uuid areas) ≤ 1) (own_of uuid areas) some
        (all_pass_to (λ q. is_twice (own_of uuid areas) q ≡ false) (λ q. on_module m q ≡ true → count_by (on_module m) (own_of uuid areas) ≤ 1)
        (λ q e at. subst (λ (n : ℕ). count_by (on_module n) (own_of uuid areas) ≤ 1) (eqb-true q.«module» m at) (ltb-false 1 (count_by (on_module q.«module») (own_of uuid areas)) e)) (own_of uuid areas) once)
    | inr none ↦ let z = count_none (on_module m) (own_of uuid areas) none in omega (arith, z)
  ]

  -- what a slot with the UUID is
  holds : (x : SlotState) → has_uuid uuid x ≡ true → (l : Label) × (x ≡ Some (Some l)) × (l.uuid ≡ uuid)
  holds None e = absurd (false≢true e)
  holds (Some None) e = absurd (false≢true e)
  holds (Some (Some l)) e = (l, refl, (bytes_eq-Decides l.uuid uuid).0 e)

  -- the label that is found, and where
  found : (m s : ℕ) → slot_of (slots_on areas m) uuid ≡ Some s → (l : Label) × (slot (slots_on areas m) s ≡ Some (Some l)) × (l.uuid ≡ uuid) × (l.slot ≡ s) × (s < length (slots_on areas m))
  found m s at = by (position-Some (has_uuid uuid) (slots_on areas m) s None at)
    where
      by : (s < length (slots_on areas m)) × (has_uuid uuid (slot (slots_on areas m) s) ≡ true) × ((k : ℕ) → k < s → has_uuid uuid (slot (slots_on areas m) k) ≡ false)
          → (l : Label) × (slot (slots_on areas m) s ≡ Some (Some l)) × (l.uuid ≡ uuid) × (l.slot ≡ s) × (s < length (slots_on areas m))
      by (below, has, before) =
          let h = holds (slot (slots_on areas m) s) has in
          (h.0, h.1, h.2, read.number m s h.0 (there_is (slots_on areas m) s (Some (Some h.0)) below h.1), below)

  own_at : (m : ℕ) (o : Option ℕ) → slot_of (slots_on areas m) uuid ≡ o → IsOwn uuid (lab_at uuid (slots_on areas m) o) (slots_on areas m)
  own_at m None at = nowhere_all (has_uuid uuid) None refl (slots_on areas m) at
  own_at m (Some s) at = by (found m s at)
    where
      by : (l : Label) × (slot (slots_on areas m) s ≡ Some (Some l)) × (l.uuid ≡ uuid) × (l.slot ≡ s) × (s < length (slots_on areas m)) → IsOwn uuid (label_in (slot (slots_on areas m) s)) (slots_on areas m)
      by (l, is, of, number, below) =
          subst (λ (o : Option Label). IsOwn uuid o (slots_on areas m)) (sym (ap label_in is)) (
            s,
            is ∙ ap (λ (n : ℕ). Some (Some (record l { slot = n }))) number,
            λ j ne. only_one (has_uuid uuid) None refl (slots_on areas m) s j (let a = count_here uuid areas m in let b = few_on m in omega (arith, a, b)) below
                (ap (has_uuid uuid) is ∙ ((bytes_eq-Decides l.uuid uuid).1 of)) ne,
          )

  named_at : (m : ℕ) (o : Option ℕ) (l : Label) → slot_of (slots_on areas m) uuid ≡ o → lab_at uuid (slots_on areas m) o ≡ Some l → l.uuid ≡ uuid
  named_at m None l at is = absurd (none-some l is)
  named_at m (Some s) l at is = let f = found m s at in subst (λ (x : Label). x.uuid ≡ uuid) (same_Some f.0 l (sym (ap label_in f.1) ∙ is)) f.2

  -- each module has at most the one label
  pub proper_of : Proper uuid (lab_of uuid areas) areas
  proper_of = record {
    own = λ m. own_at m (slot_of (slots_on areas m) uuid) refl;
    named = λ m l is. named_at m (slot_of (slots_on areas m) uuid) l refl is;
  }

  -- it names its slot
  slot_at : (m : ℕ) (o : Option ℕ) (l : Label) → slot_of (slots_on areas m) uuid ≡ o → lab_at uuid (slots_on areas m) o ≡ Some l → l.slot ≡ unwrap_or o 0
  slot_at m None l at is = absurd (none-some l is)
  slot_at m (Some s) l at is = let f = found m s at in subst (λ (x : Label). x.slot ≡ s) (same_Some f.0 l (sym (ap label_in f.1) ∙ is)) f.3

  pub slots_of_lab : AllLab (λ m l. l ≡ record l { slot = slot_on uuid areas m }) (lab_of uuid areas)
  slots_of_lab m l is = ap (λ (n : ℕ). record l { slot = n }) (slot_at m (slot_of (slots_on areas m) uuid) l refl is)

  -- and has some bytes
  pub bytes_of_lab : AllLab (λ m l. 0 < l.raw) (lab_of uuid areas)
  bytes_of_lab m l is = by (slot_of (slots_on areas m) uuid) refl is
    where
      by : (o : Option ℕ) → slot_of (slots_on areas m) uuid ≡ o → lab_at uuid (slots_on areas m) o ≡ Some l → 0 < l.raw
      by None at e = absurd (none-some l e)
      by (Some s) at e =
          let f = found m s at in
          subst (λ (x : Label). 0 < x.raw) (same_Some f.0 l (sym (ap label_in f.1) ∙ e)) (read.bytes m s f.0 (there_is (slots_on areas m) s (Some (Some f.0)) f.4 f.1))
