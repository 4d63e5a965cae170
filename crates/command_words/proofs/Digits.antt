-- Digits one by one, up to a limit.
use Rattle.std.proofs.Common.{◌≡◌, ℕ, ◌+◌, ◌-◌, ◌*◌, ◌<◌, List, [], ◌∷◌, None, refl, arith, inl, inr}
use Rattle.std.proofs.lemmas.Bool.{lt-leb, cases_Bool}
use Rattle.std.specs.Char.{is_ascii_digit}
use Rattle.command_words.specs.Numbers.{digits_after, limited}

-- past the limit the number only grows
pub limited_past : (cs : List ℕ) (limit n : ℕ) → limit < n → limited limit (digits_after n cs) ≡ None
limited_past [] limit n past = rw (lt-leb n limit past) refl
limited_past (c ∷ cs) limit n past =
    elim (cases_Bool (is_ascii_digit c)) [
      | inl digit ↦ rw digit (limited_past cs limit (n * 10 + (c - 48)) (omega arith))
      | inr other ↦ rw other refl
    ]
