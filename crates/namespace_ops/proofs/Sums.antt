-- Sums of rooms.
use Rattle.std.proofs.Common.{◌≡◌, ℕ, ◌+◌, ◌-◌, ◌≤◌, ◌<◌, ◌++◌, List, [], ◌∷◌, suc, zero, length, arith}
use Rattle.std.specs.List.{sum}
use Rattle.std.proofs.lemmas.List.Sums.{sum_by-append, sum_by-set}
use Rattle.namespace_ops.specs.Room.{room_of, taken}

pub sum_more : (xs : List ℕ) (x : ℕ) → sum (xs ++ x ∷ []) ≡ sum xs + x
sum_more xs x = let e = sum_by-append (λ (n : ℕ). n) xs (x ∷ []) in omega (arith, e)

within : (room : List ℕ) (session : ℕ) → 1 ≤ room_of room session → session < length room
within [] session some = absurd (omega (arith, some))
within (x ∷ xs) zero some = omega arith
within (x ∷ xs) (suc n) some = let e : n < length xs = within xs n some in omega (arith, e)

pub sum_taken : (room : List ℕ) (session : ℕ) → 1 ≤ room_of room session → sum (taken room session) + 1 ≡ sum room
sum_taken room session some =
    let e = sum_by-set (λ (n : ℕ). n) room session (room_of room session - 1) 0 (within room session some) in omega (arith, e, some)
