-- What holds of the first items of a list and of the rest holds of the whole.
use Rattle.std.proofs.Common.{◌≡◌, ℕ, ◌+◌, ◌-◌, ◌<◌, List, ◌++◌, length, length-append, get_or, refl, sym, ap, ◌∙◌, subst, arith}
use mathlib.Core.Logic.{⊎_elim}
use Rattle.std.proofs.lemmas.List.{get_or_append_left, get_or-append_right}
use Rattle.std.proofs.lemmas.Bool.{cases_lt}
use Rattle.session_service.specs.Chunks.{EachChangesFrom, EachFrom}

pub each_parts : {X : Type 0} (P : ℕ → X → Type 0) (base size : ℕ) (all xs ys : List X) → all ≡ xs ++ ys → length xs ≡ size → EachFrom P base all → EachFrom P base xs × EachFrom P (base + size) ys
each_parts {X} P base size all xs ys e l h =
    let sum = ap (λ zs. length zs) e ∙ length-append xs ys in (
      λ k d below. subst (P (base + k)) (ap (λ (zs : List X). get_or zs k d) e ∙ get_or_append_left xs ys d k below) (h k d (omega (arith, sum))),
      λ k d below.
          let back : (size + k) - size ≡ k = omega arith in
          subst (λ n. P n (get_or ys k d)) {x = base + (size + k)} (omega arith)
          (subst (P (base + (size + k))) (ap (λ (zs : List X). get_or zs (size + k) d) e ∙ get_or-append_right xs ys size (size + k) d l (omega arith) ∙ ap (λ n. get_or ys n d) back) (h (size + k) d (omega (arith, sum, l)))),
    )

pub changes_both : {X : Type 0} (R : ℕ → X → X → Type 0) (base size : ℕ) (all xs ys xs' ys' : List X) → all ≡ xs ++ ys → length xs ≡ size → length xs' ≡ length xs → EachChangesFrom R base xs xs' → EachChangesFrom R (base + size) ys ys' → EachChangesFrom R base all (xs' ++ ys')
changes_both {X} R base size all xs ys xs' ys' e l l' first rest = record {
  each = λ k d below.
      let sum = ap (λ zs. length zs) e ∙ length-append xs ys in
      ⊎_elim
      (λ low.
      let is : k < length xs = omega (arith, l) in
      let old : get_or xs k d ≡ get_or all k d = sym (ap (λ (zs : List X). get_or zs k d) e ∙ get_or_append_left xs ys d k is) in
      let new : get_or xs' k d ≡ get_or (xs' ++ ys') k d = sym (get_or_append_left xs' ys' d k (omega (arith, l'))) in
      subst (λ x. R (base + k) x (get_or (xs' ++ ys') k d)) old (subst (R (base + k) (get_or xs k d)) new (first.each k d is)))
      (λ high.
      let m = k - size in
      let old : get_or ys m d ≡ get_or all k d = sym (ap (λ (zs : List X). get_or zs k d) e ∙ get_or-append_right xs ys size k d l high) in
      let new : get_or ys' m d ≡ get_or (xs' ++ ys') k d = sym (get_or-append_right xs' ys' size k d (l' ∙ l) high) in
      subst (λ n. R n (get_or all k d) (get_or (xs' ++ ys') k d)) {x = base + size + m} (omega arith)
      (subst (λ x. R (base + size + m) x (get_or (xs' ++ ys') k d)) old (subst (R (base + size + m) (get_or ys m d)) new (rest.each m d (omega (arith, sum, l))))))
      (cases_lt k size);
}
