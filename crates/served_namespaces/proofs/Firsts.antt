-- Each UUID once.
use Rattle.std.proofs.Common.{◌≡◌, ◌≢◌, ℕ, zero, suc, Bool, true, false, List, [], ◌∷◌, ◌++◌, Option, Some, None, refl, sym, ap, ◌∙◌, subst, inl, inr, append-nil}
use Rattle.std.specs.Prelude.{not, ◌&&◌, ◌||◌, filter, slice_get}
use Rattle.std.specs.List.{AllByRecursion, cons_option, list_any}
use Rattle.std.specs.Str.{bytes_eq}
use Rattle.std.proofs.lemmas.Bool.{cases_Bool, false≢true}
use Rattle.std.proofs.lemmas.List.{append_assoc}
use Rattle.std.proofs.lemmas.Option.{none-some, same_Some}
use Rattle.std.proofs.lemmas.Slice.Eq.{bytes_eq-Decides}
use Rattle.served_namespaces.specs.Opening.{firsts}
use Rattle.served_namespaces.specs.Places.{AreDifferent}
use Rattle.served_namespaces.specs.Steps.{added, is_among}

-- ---- an item more, if there is one

pub join_option : {X : Type 0} (xs ys : List X) (o : Option X) → (xs ++ cons_option o []) ++ ys ≡ xs ++ cons_option o ys
join_option xs ys None = ap (λ zs. zs ++ ys) (append-nil xs)
join_option xs ys (Some x) = append_assoc xs (x ∷ []) ys

-- ---- UUIDs

eq_turned : (a b : List ℕ) → bytes_eq a b ≡ bytes_eq b a
eq_turned a b = elim (cases_Bool (bytes_eq a b)) [
  | inl same ↦ same ∙ sym ((bytes_eq-Decides b a).1 (sym ((bytes_eq-Decides a b).0 same)))
  | inr other ↦ elim (cases_Bool (bytes_eq b a)) [
    | inl back ↦ absurd (false≢true (sym other ∙ (bytes_eq-Decides a b).1 (sym ((bytes_eq-Decides b a).0 back))))
    | inr neither ↦ other ∙ sym neither
  ]
]

abbrev pub fresh : List (List ℕ) → List ℕ → Bool
fresh ones uuid = not (is_among ones uuid)

any_push : {X : Type 0} (test : X → Bool) (xs : List X) (x : X) → list_any test (xs ++ x ∷ []) ≡ (list_any test xs || test x)
any_push test [] x = elim (cases_Bool (test x)) [ inl it ↦ rw it refl | inr not_it ↦ rw not_it refl ]
any_push test (y ∷ ys) x = elim (cases_Bool (test y)) [ inl it ↦ rw it refl | inr not_it ↦ rw not_it (any_push test ys x) ]

filter_both : {X : Type 0} (p q r : X → Bool) → ((x : X) → r x ≡ (q x && p x)) → (xs : List X) → filter p (filter q xs) ≡ filter r xs
filter_both p q r is [] = refl
filter_both p q r is (x ∷ xs) = elim (cases_Bool (q x)) [
  | inl passes ↦ elim (cases_Bool (p x)) [
    | inl both ↦ let h : r x ≡ true = is x ∙ rw (passes, both) refl in rw (passes, h) (rw both (ap (λ zs. x ∷ zs) (filter_both p q r is xs)))
    | inr one ↦ let h : r x ≡ false = is x ∙ rw (passes, one) refl in rw (passes, h) (rw one (filter_both p q r is xs))
  ]
  | inr fails ↦ let h : r x ≡ false = is x ∙ rw fails refl in rw (fails, h) (filter_both p q r is xs)
]

all_pass : {X : Type 0} (xs : List X) → filter (λ x. true) xs ≡ xs
all_pass [] = refl
all_pass (x ∷ xs) = ap (λ zs. x ∷ zs) (all_pass xs)

pub first_none : (uuids : List (List ℕ)) → [] ++ filter (fresh []) (firsts uuids) ≡ firsts uuids
first_none uuids = all_pass (firsts uuids)

-- one UUID more
pub first_next : (ones : List (List ℕ)) (u : List ℕ) (uuids : List (List ℕ)) → added ones u ++ filter (fresh (added ones u)) (firsts uuids) ≡ ones ++ filter (fresh ones) (firsts (u ∷ uuids))
unfolding firsts
first_next ones u uuids = elim (cases_Bool (is_among ones u)) [
  | inl among ↦
      let same : (v : List ℕ) → fresh ones v ≡ (not (bytes_eq v u) && fresh ones v) =
      λ v. elim (cases_Bool (bytes_eq v u)) [
        | inl is ↦ rw is (ap (fresh ones) ((bytes_eq-Decides v u).0 is) ∙ ap not among)
        | inr other ↦ rw other refl
      ] in
      rw among (ap (λ zs. ones ++ zs) (sym (filter_both (fresh ones) (λ v. not (bytes_eq v u)) (fresh ones) same (firsts uuids))))
  | inr new ↦
      let same : (v : List ℕ) → fresh (ones ++ u ∷ []) v ≡ (not (bytes_eq v u) && fresh ones v) =
      λ v. ap not (any_push (λ one. bytes_eq one v) ones u ∙ ap (λ (b : Bool). is_among ones v || b) (eq_turned u v)) ∙ turned (is_among ones v) (bytes_eq v u) in
      rw new (append_assoc ones (u ∷ []) (filter (fresh (ones ++ u ∷ [])) (firsts uuids))
      ∙ ap (λ zs. ones ++ (u ∷ zs)) (sym (filter_both (fresh ones) (λ v. not (bytes_eq v u)) (fresh (ones ++ u ∷ [])) same (firsts uuids))))
]
  where
    turned : (a b : Bool) → not (a || b) ≡ (not b && not a)
    turned true true = refl
    turned true false = refl
    turned false true = refl
    turned false false = refl

pub first_all : (ones uuids : List (List ℕ)) → uuids ≡ [] → ones ++ filter (fresh ones) (firsts uuids) ≡ ones
unfolding firsts
first_all ones uuids none = ap (λ (us : List (List ℕ)). ones ++ filter (fresh ones) (firsts us)) none ∙ append-nil ones

-- ---- no two are the same

abbrev Distinct : List (List ℕ) → Type 0
Distinct [] = Unit {0}
Distinct (u ∷ us) = AllByRecursion (λ v. u ≢ v) us × Distinct us

filter_all : (P : List ℕ → Type 0) (test : List ℕ → Bool) (us : List (List ℕ)) → AllByRecursion P us → AllByRecursion P (filter test us)
filter_all P test [] all = tt
filter_all P test (u ∷ us) (one, rest) = elim (cases_Bool (test u)) [ inl it ↦ rw it (one, filter_all P test us rest) | inr not_it ↦ rw not_it (filter_all P test us rest) ]

filter_distinct : (test : List ℕ → Bool) (us : List (List ℕ)) → Distinct us → Distinct (filter test us)
filter_distinct test [] d = tt
filter_distinct test (u ∷ us) (one, rest) = elim (cases_Bool (test u)) [
  | inl it ↦ rw it (filter_all (λ v. u ≢ v) test us one, filter_distinct test us rest)
  | inr not_it ↦ rw not_it (filter_distinct test us rest)
]

others : (u : List ℕ) (us : List (List ℕ)) → AllByRecursion (λ v. u ≢ v) (filter (λ v. not (bytes_eq v u)) us)
others u [] = tt
others u (v ∷ vs) = elim (cases_Bool (bytes_eq v u)) [
  | inl same ↦ rw same (others u vs)
  | inr other ↦ rw other ((λ e. false≢true (sym other ∙ (bytes_eq-Decides v u).1 (sym e))), others u vs)
]

distinct : (uuids : List (List ℕ)) → Distinct (firsts uuids)
unfolding firsts
distinct [] = tt
distinct (u ∷ us) = (others u (firsts us), filter_distinct (λ v. not (bytes_eq v u)) (firsts us) (distinct us))

at_all : (P : List ℕ → Type 0) (us : List (List ℕ)) (i : ℕ) (v : List ℕ) → AllByRecursion P us → slice_get us i ≡ Some v → P v
at_all P [] i v all at = absurd (none-some v at)
at_all P (u ∷ us) zero v (one, rest) at = subst P (same_Some u v at) one
at_all P (u ∷ us) (suc i) v (one, rest) at = at_all P us i v rest at

are_different : (us : List (List ℕ)) → Distinct us → AreDifferent us
are_different [] d i j u v ne at_u at_v = absurd (none-some u at_u)
are_different (x ∷ xs) d zero zero u v ne at_u at_v = absurd (ne refl)
are_different (x ∷ xs) (one, rest) zero (suc j) u v ne at_u at_v = subst (λ (y : List ℕ). y ≢ v) (same_Some x u at_u) (at_all (λ w. x ≢ w) xs j v one at_v)
are_different (x ∷ xs) (one, rest) (suc i) zero u v ne at_u at_v = λ e. subst (λ (y : List ℕ). y ≢ u) (same_Some x v at_v) (at_all (λ w. x ≢ w) xs i u one at_u) (sym e)
are_different (x ∷ xs) (one, rest) (suc i) (suc j) u v ne at_u at_v = are_different xs rest i j u v (λ e. ne (ap suc e)) at_u at_v

pub firsts_differ : (uuids : List (List ℕ)) → AreDifferent (firsts uuids)
firsts_differ uuids = are_different (firsts uuids) (distinct uuids)
