-- What follows if all checks in a fixed order were passed.
use Rattle.std.proofs.Common.{◌≡◌, Bool, true, false, List, [], ◌∷◌, Ok, refl}
use Rattle.nvd_words.specs.Checks.{checked}

-- the first check was passed, and so were the others
pub passed : {A F : Type 0} (value r : A) (fault : F) (bad : Bool) (checks : List (F × Bool)) → checked value ((fault, bad) ∷ checks) ≡ Ok r → (bad ≡ false) × (checked value checks ≡ Ok r)
unfolding checked
passed value r fault true checks e = absurd (cc)
passed value r fault false checks e = (refl, e)

-- with no check left, the result is the value
pub nothing_left : {A F : Type 0} (value r : A) → checked {F = F} value [] ≡ Ok r → r ≡ value
unfolding checked
nothing_left value r e = cc
