-- The reach with one more extent.
use Rattle.std.proofs.Common.{◌≡◌, ◌≢◌, ℕ, ◌<◌, ◌≤◌, max, Bool, true, false, cond, not, ◌&&◌, ◌||◌, List, [], ◌∷◌, ◌++◌, refl, sym, ◌∙◌, arith}
use Rattle.std.specs.Prelude.{nat_lt}
use Rattle.std.specs.List.{list_any}
use Rattle.std.specs.Str.{bytes_eq}
use Rattle.std.proofs.lemmas.List.Folds.{list_any-append}
use Rattle.std.proofs.lemmas.Bool.Decides.{nat_tests}
use Rattle.std.proofs.lemmas.Slice.Eq.{bytes_eq-Decides}
use Rattle.region_space.specs.declared.extent.Extent.{Extent}
use Rattle.region_space.specs.declared.reach.Reach.{Reach}
use Rattle.region_space.specs.Reach.{end_of, passes, passes_beside, reach_beside, IsReach}

or-false : (b : Bool) → (b || false) ≡ b
or-false true = refl
or-false false = refl

-- whether an element of a list with one more passes
any_more : {X : Type 0} (p : X → Bool) (xs : List X) (x : X) (a : Bool) → list_any p xs ≡ a → list_any p (xs ++ x ∷ []) ≡ (a || p x)
any_more p xs x a e = list_any-append p xs (x ∷ []) ∙ rw (e, or-false (p x)) refl

lt_max : (a x y : ℕ) → (nat_lt a x || nat_lt a y) ≡ nat_lt a (max x y)
lt_max a x y = grind (arith, nat_tests)

lt_left : (a x y : ℕ) → y ≤ x → (nat_lt a x || nat_lt a y) ≡ nat_lt a x
lt_left a x y h = grind (arith, nat_tests)

lt_right : (a x y : ℕ) → x ≤ y → (nat_lt a x || nat_lt a y) ≡ nat_lt a y
lt_right a x y h = grind (arith, nat_tests)

-- both owners can't be a third one
not_both : (x y o : List ℕ) → x ≢ y → bytes_eq x o ≡ true → bytes_eq y o ≡ true → ⊥
not_both x y o apart ex ey = apart ((bytes_eq-Decides x o).0 ex ∙ sym ((bytes_eq-Decides y o).0 ey))

by_same : (b : Bool) (a others end e : ℕ) → (nat_lt a (cond b others end) || (not b && nat_lt a e)) ≡ nat_lt a (cond b others (max end e))
by_same true a others end e = or-false (nat_lt a others)
by_same false a others end e = lt_max a end e

by_further : (be br : Bool) (a others end e : ℕ) → (be ≡ true → br ≡ true → ⊥) → others ≤ end → end < e
    → (nat_lt a (cond br others end) || (not be && nat_lt a e)) ≡ nat_lt a (cond be end e)
by_further true true a others end e apart below past = absurd (apart refl refl)
by_further true false a others end e apart below past = or-false (nat_lt a end)
by_further false true a others end e apart below past = lt_right a others e (omega arith)
by_further false false a others end e apart below past = lt_right a end e (omega arith)

by_nearer : (be br : Bool) (a others end e : ℕ) → (be ≡ true → br ≡ true → ⊥) → e ≤ end
    → (nat_lt a (cond br others end) || (not be && nat_lt a e)) ≡ nat_lt a (cond br (max others e) end)
by_nearer true true a others end e apart near = absurd (apart refl refl)
by_nearer true false a others end e apart near = or-false (nat_lt a end)
by_nearer false true a others end e apart near = lt_max a others e
by_nearer false false a others end e apart near = lt_left a end e near

-- an extent of the owner with the greatest end
pub with_same : (r : Reach) (e : Extent) → e.owner ≡ r.owner → (xs : List Extent) → IsReach xs r
    → IsReach (xs ++ e ∷ []) (record { end = max r.end (end_of e); owner = r.owner; others = r.others })
with_same r e same xs h = record {
  below = omega (arith, h.below);
  all = λ a. any_more (passes a) xs e (nat_lt a r.end) (h.all a) ∙ lt_max a r.end (end_of e);
  beside = λ o a. any_more (passes_beside o a) xs e (nat_lt a (reach_beside r o)) (h.beside o a) ∙ rw same (by_same (bytes_eq r.owner o) a r.others r.end (end_of e));
}

-- an extent of another owner that ends further on
pub with_further : (r : Reach) (e : Extent) → e.owner ≢ r.owner → r.end < end_of e → (xs : List Extent) → IsReach xs r
    → IsReach (xs ++ e ∷ []) (record { end = end_of e; owner = e.owner; others = r.end })
with_further r e apart past xs h = record {
  below = omega arith;
  all = λ a. any_more (passes a) xs e (nat_lt a r.end) (h.all a) ∙ lt_right a r.end (end_of e) (omega arith);
  beside = λ o a. any_more (passes_beside o a) xs e (nat_lt a (reach_beside r o)) (h.beside o a)
      ∙ by_further (bytes_eq e.owner o) (bytes_eq r.owner o) a r.others r.end (end_of e) (not_both e.owner r.owner o apart) h.below past;
}

-- an extent of another owner that ends no further on
pub with_nearer : (r : Reach) (e : Extent) → e.owner ≢ r.owner → end_of e ≤ r.end → (xs : List Extent) → IsReach xs r
    → IsReach (xs ++ e ∷ []) (record { end = r.end; owner = r.owner; others = max r.others (end_of e) })
with_nearer r e apart near xs h = record {
  below = omega (arith, h.below);
  all = λ a. any_more (passes a) xs e (nat_lt a r.end) (h.all a) ∙ lt_left a r.end (end_of e) near;
  beside = λ o a. any_more (passes_beside o a) xs e (nat_lt a (reach_beside r o)) (h.beside o a)
      ∙ by_nearer (bytes_eq e.owner o) (bytes_eq r.owner o) a r.others r.end (end_of e) (not_both e.owner r.owner o apart) near;
}
