-- Parts of a text by the number of bytes before a mark.
use Rattle.std.proofs.Common.{◌≡◌, ◌≢◌, ◌≤◌, ◌<◌, min, ℕ, suc, ◌+◌, ◌==◌, List, [], ◌∷◌, length, take, drop, Some, None, refl, inl, inr, arith}
use Rattle.std.proofs.lemmas.Bool.{cases_Bool}
use Rattle.std.proofs.lemmas.List.{drop_min}
use Rattle.session_script.specs.Lines.{before, after, lines_in, with_byte}

pub before_taken : (mark : ℕ) (xs : List ℕ) → take (length (before mark xs)) xs ≡ before mark xs
before_taken mark [] = refl
before_taken mark (c ∷ cs) =
    elim (cases_Bool (c == mark)) [
      | inl here ↦ rw here refl
      | inr other ↦ rw other (rw (before_taken mark cs) refl)
    ]

pub before_within : (mark : ℕ) (xs : List ℕ) → length (before mark xs) ≤ length xs
before_within mark [] = omega arith
before_within mark (c ∷ cs) =
    elim (cases_Bool (c == mark)) [
      | inl here ↦ rw here (omega arith)
      | inr other ↦ rw other (let less = before_within mark cs in omega arith)
    ]

drop_more : (n c : ℕ) (xs : List ℕ) → drop (suc n + 1) (c ∷ xs) ≡ drop (n + 1) xs
drop_more n c xs = let e : suc n + 1 ≡ suc (n + 1) = omega arith in rw e refl

pub after_none : (mark : ℕ) (xs : List ℕ) → length (before mark xs) ≡ length xs → after mark xs ≡ None
after_none mark [] e = refl
after_none mark (c ∷ cs) e =
    elim (cases_Bool (c == mark)) [
      | inl here ↦ absurd (let none : 0 ≡ suc (length cs) = rw here at e in omega arith)
      | inr other ↦ rw other (after_none mark cs (let more : suc (length (before mark cs)) ≡ suc (length cs) = rw other at e in omega arith))
    ]

pub after_some : (mark : ℕ) (xs : List ℕ) → length (before mark xs) ≢ length xs → after mark xs ≡ Some (drop (length (before mark xs) + 1) xs)
after_some mark [] other = absurd (other refl)
after_some mark (c ∷ cs) other =
    elim (cases_Bool (c == mark)) [
      | inl here ↦ rw here refl
      | inr next ↦ rw next (rw (drop_more (length (before mark cs)) c cs) (after_some mark cs (λ same. (let known : suc (length (before mark cs)) ≢ suc (length cs) = rw next at other in known (rw same refl)))))
    ]

-- lines after one byte more of a line that isn't at its end
line_more : (c : ℕ) (piece rest : List ℕ) (lines : List (List ℕ)) → lines ≡ piece ∷ lines_in (drop (length piece + 1) rest)
    → with_byte c lines ≡ (c ∷ piece) ∷ lines_in (drop (suc (length piece) + 1) (c ∷ rest))
line_more c piece rest lines e = rw (e, drop_more (length piece) c rest) refl

-- the first line of a text that isn't empty, and the lines after it
pub lines_step : (xs : List ℕ) → 0 < length xs → lines_in xs ≡ before 10 xs ∷ lines_in (drop (length (before 10 xs) + 1) xs)
lines_step [] some = absurd (let none : 0 < 0 = some in omega arith)
lines_step (c ∷ []) some =
    elim (cases_Bool (c == 10)) [
      | inl here ↦ rw here refl
      | inr next ↦ rw next refl
    ]
lines_step (c ∷ d ∷ cs) some =
    elim (cases_Bool (c == 10)) [
      | inl here ↦ rw here refl
      | inr next ↦ rw next (line_more c (before 10 (d ∷ cs)) (d ∷ cs) (lines_in (d ∷ cs)) (lines_step (d ∷ cs) (omega arith)))
    ]

-- what stands after the first line
pub line_after : (count : ℕ) (xs : List ℕ) → count ≡ length (before 10 xs) → drop (min (count + 1) (length xs)) xs ≡ drop (length (before 10 xs) + 1) xs
line_after count xs here = rw here (drop_min (length (before 10 xs) + 1) xs)

pub ruleset parts = (before_taken, after_none, after_some, line_after)
