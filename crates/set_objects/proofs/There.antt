-- An object that is read if its size is within its limits.
use Rattle.std.proofs.Common.{◌≡◌, ℕ, Bool, true, false, List, [], length, Option, Some, None, refl, sym, ap, ◌∙◌}
use Rattle.std.specs.Prelude.{unwrap_or}
use Rattle.std.specs.Option.{option_map}
use Rattle.set_objects.specs.Objects.{if_sized}

pub absent_there : (test : ℕ → Bool) (x : Option (List ℕ)) (found : Option ℕ) → found ≡ option_map length x → found ≡ None → None ≡ if_sized test x
absent_there test None found told is = refl
absent_there test (Some bytes) found told is = absurd (let e = sym told ∙ is in cc)

pub odd_there : (test : ℕ → Bool) (x : Option (List ℕ)) (found : Option ℕ) (n : ℕ) → found ≡ option_map length x → found ≡ Some n → test n ≡ false → None ≡ if_sized test x
odd_there test None found n told is odd = absurd (let e = sym told ∙ is in cc)
odd_there test (Some bytes) found n told is odd =
    let long : length bytes ≡ n = let e = sym told ∙ is in cc in
    rw (long, odd) refl

pub read_there : (test : ℕ → Bool) (x : Option (List ℕ)) (found : Option ℕ) (n : ℕ) (read : List ℕ) → found ≡ option_map length x → found ≡ Some n → test n ≡ true → read ≡ unwrap_or x []
    → Some read ≡ if_sized test x
read_there test None found n read told is fits same = absurd (let e = sym told ∙ is in cc)
read_there test (Some bytes) found n read told is fits same =
    let long : length bytes ≡ n = let e = sym told ∙ is in cc in
    rw (long, fits) (ap (λ (b : List ℕ). Some b) same)
