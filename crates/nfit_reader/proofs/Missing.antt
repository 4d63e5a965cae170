-- The first fault among a list's items, item by item.
use Rattle.std.proofs.Common.{◌≡◌, ℕ, ◌+◌, ◌<◌, ◌≤◌, true, false, List, ◌∷◌, map, drop, length, get_or, Option, Some, None, refl, sym, ap, ◌∙◌}
use Rattle.std.specs.Option.{is_some}
use Rattle.std.proofs.lemmas.List.{at_drop_more, at_drop_all}
use Rattle.nvd_words.specs.Checks.{first_fault}

first_on : {F : Type 0} (o : Option F) (os : List (Option F)) → is_some o ≡ false → first_fault os ≡ first_fault (o ∷ os)
unfolding first_fault
first_on None os e = refl
first_on (Some x) os e = cc

first_is : {F : Type 0} (o : Option F) (os : List (Option F)) → is_some o ≡ true → first_fault (o ∷ os) ≡ o
unfolding first_fault
first_is None os e = cc
first_is (Some x) os e = refl

pub here : {A F : Type 0} (f : A → Option F) (xs : List A) (i : ℕ) (d : A) (o : Option F) → i < length xs → o ≡ f (get_or xs i d) → is_some o ≡ true
    → o ≡ first_fault (map f (drop i xs))
here f xs i d o h e some =
    let step : first_fault (map f (drop i xs)) ≡ first_fault (f (get_or xs i d) ∷ map f (drop (i + 1) xs)) = at_drop_more (λ ys. first_fault (map f ys)) xs i d h in
    sym (step ∙ ap (λ p. first_fault (p ∷ map f (drop (i + 1) xs))) (sym e) ∙ first_is o (map f (drop (i + 1) xs)) some)

pub more : {A F : Type 0} (f : A → Option F) (xs : List A) (i : ℕ) (d : A) (o : Option F) → i < length xs → o ≡ f (get_or xs i d) → is_some o ≡ false
    → first_fault (map f (drop (i + 1) xs)) ≡ first_fault (map f (drop i xs))
more f xs i d o h e none =
    let step : first_fault (map f (drop i xs)) ≡ first_fault (f (get_or xs i d) ∷ map f (drop (i + 1) xs)) = at_drop_more (λ ys. first_fault (map f ys)) xs i d h in
    first_on o (map f (drop (i + 1) xs)) none ∙ ap (λ p. first_fault (p ∷ map f (drop (i + 1) xs))) e ∙ sym step

pub ended : {A F : Type 0} (f : A → Option F) (xs : List A) (i : ℕ) → length xs ≤ i → None ≡ first_fault (map f (drop i xs))
unfolding first_fault
ended f xs i h = sym (at_drop_all (λ ys. first_fault (map f ys)) xs i h)
