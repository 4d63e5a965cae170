-- The lengths of scripts, added up.
use Rattle.std.proofs.Common.{ℕ, ◌+◌, ◌<◌, ◌≤◌, List, [], ◌∷◌, length, get_or, take, ap, arith}
use Rattle.std.specs.Prelude.{sum_by}
use Rattle.std.proofs.lemmas.List.{take_more}
use Rattle.std.proofs.lemmas.List.Sums.{sum_by-append, sum_by-take-le}

pub taken_more : {X : Type 0} (f : X → ℕ) (xs : List X) (i : ℕ) (d : X) → i < length xs → sum_by f (take i xs) + f (get_or xs i d) ≤ sum_by f xs
taken_more f xs i d h =
    let a = sum_by-append f (take i xs) (get_or xs i d ∷ []) in
    let b = ap (sum_by f) (take_more xs i d h) in
    let c = sum_by-take-le f xs (i + 1) in
    omega (arith, a, b, c)
