-- Lists of tests.
use Rattle.std.proofs.Common.{◌≡◌, ℕ, zero, suc, ◌<◌, List, [], ◌∷◌, length, set, get_or, Bool, true, false, refl, arith}
use Rattle.std.specs.Prelude.{not, replicate}
use Rattle.turn_callers.specs.Power.{any_of, told_only}

pub any_set : (xs : List Bool) (i : ℕ) → i < length xs → any_of (set xs i true) ≡ true
any_set [] i h = absurd (omega arith)
any_set (x ∷ xs) zero h = refl
any_set (true ∷ xs) (suc i) h = refl
any_set (false ∷ xs) (suc i) h = any_set xs i (omega arith)

-- one of them passes
pub some_of : (xs : List Bool) → any_of xs ≡ true → (r : ℕ) × (get_or xs r false ≡ true)
some_of [] e = cc
some_of (true ∷ xs) e = (0, refl)
some_of (false ∷ xs) e = let s = some_of xs e in (suc s.0, s.1)

pub any_at : (xs : List Bool) (q : ℕ) → get_or xs q false ≡ true → any_of xs ≡ true
any_at [] q e = cc
any_at (true ∷ xs) q e = refl
any_at (false ∷ xs) zero e = cc
any_at (false ∷ xs) (suc q) e = any_at xs q e

pub off_if_told : (off : Bool) (told : List Bool) (q : ℕ) → told_only off told ≡ true → get_or told q false ≡ true → off ≡ true
off_if_told true told q rule e = refl
off_if_told false told q rule e = no_told (any_of told) rule (any_at told q e)
  where
    no_told : (b : Bool) → not b ≡ true → b ≡ true → false ≡ true
    no_told true h e = h
    no_told false h e = e

pub none_of : (n : ℕ) → any_of (replicate n false) ≡ false
none_of zero = refl
none_of (suc n) = none_of n
