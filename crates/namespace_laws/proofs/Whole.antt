-- The list of a UUID's labels and its label on each module.
use Rattle.std.proofs.Common.{◌≡◌, ℕ, zero, suc, ◌+◌, ◌<◌, Bool, true, false, List, [], ◌∷◌, ◌++◌, length, get_or, Option, Some, None, refl, sym, ap, ◌∙◌, subst, arith}
use Rattle.std.specs.Prelude.{◌==◌, unwrap_or}
use Rattle.std.specs.List.{AllByRecursion, list_any}
use Rattle.std.proofs.lemmas.Bool.{or_right, or_parts, eqb-true, false_from_ne_true}
use Rattle.std.proofs.lemmas.Option.{none-some, unwrap_or-slice_get}
use Rattle.std.proofs.lemmas.List.Folds.{list_any-append}
use Rattle.label_codec.specs.declared.label.Label.{Label}
use Rattle.label_area.specs.Area.{SlotState}
use Rattle.namespace_map.specs.Areas.{Area, slots_of, slots_on, slot_of}
use Rattle.label_set.specs.declared.placed.Placed.{Placed}
use Rattle.namespace_map.specs.Namespaces.{labels_with}
use Rattle.namespace_map.specs.Changes.{placed_in_all}
use Rattle.namespace_map.proofs.Slots.{IsOwn, own_place}
use Rattle.namespace_map.proofs.Rising.{all_pass_to}
use Rattle.namespace_map.proofs.Areas.{Proper}
use Rattle.namespace_map.proofs.Labels.{part, placed_at, part_none, part_one, own_from, labels_of_areas}

-- the labels of a UUID in areas
abbrev pub own_of : List ℕ → List (Option Area) → List Placed
own_of uuid areas = labels_with uuid (placed_in_all areas)

-- the slot of the UUID's label on a module
abbrev pub slot_on : List ℕ → List (Option Area) → ℕ → ℕ
slot_on uuid areas m = unwrap_or (slot_of (slots_on areas m) uuid) 0

-- p is the UUID's label on its module
pub record IsBy (lab : ℕ → Option Label) (slots : ℕ → ℕ) (p : Placed) : Type 0 where
  pub given : Label
  pub is_given : lab p.«module» ≡ Some given
  pub label_is : p.label ≡ record given { slot = slots p.«module» }
  pub slot_is : p.slot ≡ slots p.«module»

pub all_append : {X : Type 0} (P : X → Type 0) (xs ys : List X) → AllByRecursion P xs → AllByRecursion P ys → AllByRecursion P (xs ++ ys)
all_append P [] ys all more = more
all_append P (x ∷ xs) ys (one, rest) more = (one, all_append P xs ys rest more)

-- the labels of one module
part_by : (uuid : List ℕ) (own : Option Label) (m : ℕ) (slots : List SlotState) → ((l : Label) → own ≡ Some l → l.uuid ≡ uuid) → IsOwn uuid own slots
    → (P : Placed → Type 0) → ((s : ℕ) (l : Label) → own ≡ Some l → slot_of slots uuid ≡ Some s → P (placed_at m s (record l { slot = s })))
    → AllByRecursion P (part uuid m 0 slots)
part_by uuid None m slots os is P each = rw (part_none slots uuid m 0 is) tt
part_by uuid (Some l) m slots os (s, here, others) P each =
    let e : part uuid m 0 slots ≡ placed_at m s (record l { slot = s }) ∷ [] =
    part_one slots uuid m 0 s (record l { slot = s }) here (os l refl) others ∙ ap (λ (n : ℕ). placed_at m n (record l { slot = s }) ∷ []) (omega arith) in
    rw e (each s l refl (own_place uuid l slots s (os l refl) here others), tt)

own_from_all : (areas : List (Option Area)) (uuid : List ℕ) (k : ℕ) (lab : ℕ → Option Label) (P : Placed → Type 0)
    → ((m : ℕ) (l : Label) → lab m ≡ Some l → l.uuid ≡ uuid)
    → ((i : ℕ) → IsOwn uuid (lab (k + i)) (slots_of (get_or areas i None)))
    → ((i s : ℕ) (l : Label) → lab (k + i) ≡ Some l → slot_of (slots_of (get_or areas i None)) uuid ≡ Some s → P (placed_at (k + i) s (record l { slot = s })))
    → AllByRecursion P (own_from uuid k areas)
own_from_all [] uuid k lab P named own each = tt
own_from_all (a ∷ areas) uuid k lab P named own each =
    let zero_is : k + 0 ≡ k = omega arith in
    all_append P (part uuid k 0 (slots_of a)) (own_from uuid (k + 1) areas)
    (part_by uuid (lab k) k (slots_of a) (named k) (subst (λ (n : ℕ). IsOwn uuid (lab n) (slots_of a)) zero_is (own 0)) P
    (λ s l is at. subst (λ (n : ℕ). P (placed_at n s (record l { slot = s }))) zero_is (each 0 s l (ap lab zero_is ∙ is) at)))
    (own_from_all areas uuid (k + 1) lab P named
    (λ i. subst (λ (n : ℕ). IsOwn uuid (lab n) (slots_of (get_or areas i None))) (further k i) (own (suc i)))
    (λ i s l is at. subst (λ (n : ℕ). P (placed_at n s (record l { slot = s }))) (further k i) (each (suc i) s l (ap lab (further k i) ∙ is) at)))
  where
    further : (k i : ℕ) → k + suc i ≡ k + 1 + i
    further k i = omega arith

-- each label in the list is the label on its module
pub all_by : (uuid : List ℕ) (lab : ℕ → Option Label) (areas : List (Option Area)) → Proper uuid lab areas → AllByRecursion (IsBy lab (slot_on uuid areas)) (labels_with uuid (placed_in_all areas))
all_by uuid lab areas proper =
    rw (labels_of_areas uuid areas)
    (own_from_all areas uuid 0 lab (IsBy lab (slot_on uuid areas)) proper.named
    (λ i. subst (λ (n : ℕ). IsOwn uuid (lab n) (slots_of (get_or areas i None))) (zero_more i) (subst (λ (a : Option Area). IsOwn uuid (lab i) (slots_of a)) (unwrap_or-slice_get areas i None) (proper.own i)))
    (λ i s l is at. subst (λ (n : ℕ). IsBy lab (slot_on uuid areas) (placed_at n s (record l { slot = s }))) (zero_more i)
    (let there : slot_on uuid areas i ≡ s = rw (unwrap_or-slice_get areas i None, at) refl in
    record { given = l; is_given = ap lab (zero_more i) ∙ is; label_is = ap (λ (n : ℕ). record l { slot = n }) (sym there); slot_is = sym there })))
  where
    zero_more : (i : ℕ) → i ≡ 0 + i
    zero_more i = omega arith

-- and each module's label is in the list
own_from_any : (areas : List (Option Area)) (uuid : List ℕ) (k i : ℕ) (l : Label) (test : Placed → Bool) → i < length areas → l.uuid ≡ uuid
    → IsOwn uuid (Some l) (slots_of (get_or areas i None)) → ((s : ℕ) → test (placed_at (k + i) s (record l { slot = s })) ≡ true)
    → list_any test (own_from uuid k areas) ≡ true
own_from_any [] uuid k i l test below e own passes = absurd (omega arith)
own_from_any (a ∷ areas) uuid k zero l test below e (s, here, others) passes =
    let first : part uuid k 0 (slots_of a) ≡ placed_at k s (record l { slot = s }) ∷ [] =
    part_one (slots_of a) uuid k 0 s (record l { slot = s }) here e others ∙ ap (λ (n : ℕ). placed_at k n (record l { slot = s }) ∷ []) (omega arith) in
    let passes' : test (placed_at k s (record l { slot = s })) ≡ true = ap (λ (n : ℕ). test (placed_at n s (record l { slot = s }))) (omega arith) ∙ passes s in
    rw (first, passes') refl
own_from_any (a ∷ areas) uuid k (suc i) l test below e own passes =
    list_any-append test (part uuid k 0 (slots_of a)) (own_from uuid (k + 1) areas)
    ∙ or_right (list_any test (part uuid k 0 (slots_of a))) (list_any test (own_from uuid (k + 1) areas))
    (own_from_any areas uuid (k + 1) i l test (omega arith) e own (λ s. ap (λ (n : ℕ). test (placed_at n s (record l { slot = s }))) (omega arith) ∙ passes s))

pub any_of : (uuid : List ℕ) (lab : ℕ → Option Label) (areas : List (Option Area)) (m : ℕ) (l : Label) (test : Placed → Bool) → Proper uuid lab areas → m < length areas → lab m ≡ Some l
    → ((s : ℕ) → test (placed_at m s (record l { slot = s })) ≡ true) → list_any test (labels_with uuid (placed_in_all areas)) ≡ true
any_of uuid lab areas m l test proper below is passes =
    rw (labels_of_areas uuid areas)
    (own_from_any areas uuid 0 m l test below (proper.named m l is)
    (subst (λ (o : Option Label). IsOwn uuid o (slots_of (get_or areas m None))) is (subst (λ (a : Option Area). IsOwn uuid (lab m) (slots_of a)) (unwrap_or-slice_get areas m None) (proper.own m)))
    (λ s. ap (λ (n : ℕ). test (placed_at n s (record l { slot = s }))) (omega arith) ∙ passes s))

-- ---- tests of all, of a list

pub none_passes : {X : Type 0} (test : X → Bool) (xs : List X) → AllByRecursion (λ x. test x ≡ false) xs → list_any test xs ≡ false
none_passes test [] all = refl
none_passes test (x ∷ xs) (one, rest) = rw one (none_passes test xs rest)

-- a module without a label has none in the list
pub any_none : (uuid : List ℕ) (lab : ℕ → Option Label) (areas : List (Option Area)) (m : ℕ) → Proper uuid lab areas → lab m ≡ None
    → list_any (λ p. p.«module» == m) (labels_with uuid (placed_in_all areas)) ≡ false
any_none uuid lab areas m proper is =
    none_passes (λ (p : Placed). p.«module» == m) (labels_with uuid (placed_in_all areas))
    (all_pass_to (IsBy lab (slot_on uuid areas)) (λ p. (p.«module» == m) ≡ false) (λ p by. false_from_ne_true _ (λ same. none-some _ (sym is ∙ ap lab (sym (eqb-true p.«module» m same)) ∙ by.is_given)))
    (labels_with uuid (placed_in_all areas)) (all_by uuid lab areas proper))

pub all_from_none : {X : Type 0} (test : X → Bool) (xs : List X) → list_any test xs ≡ false → AllByRecursion (λ x. test x ≡ false) xs
all_from_none test [] e = tt
all_from_none test (x ∷ xs) e = let both = or_parts (test x) (list_any test xs) e in (both.0, all_from_none test xs both.1)

-- a property of the label on each module
abbrev pub AllLab : (ℕ → Label → Type 0) → (ℕ → Option Label) → Type 0
AllLab Q lab = (m : ℕ) (l : Label) → lab m ≡ Some l → Q m l

-- a property of each module's label holds of each label in the list
pub own_each : (uuid : List ℕ) (lab : ℕ → Option Label) (areas : List (Option Area)) → Proper uuid lab areas → (Q : ℕ → Label → Type 0) → AllLab (λ m l. (n : ℕ) → Q m (record l { slot = n })) lab
    → AllByRecursion (λ p. Q p.«module» p.label) (own_of uuid areas)
own_each uuid lab areas proper Q each =
    all_pass_to (IsBy lab (slot_on uuid areas)) (λ p. Q p.«module» p.label)
    (λ p by. subst (λ (l : Label). Q p.«module» l) (sym by.label_is) (each p.«module» by.given by.is_given (slot_on uuid areas p.«module»)))
    (own_of uuid areas) (all_by uuid lab areas proper)
