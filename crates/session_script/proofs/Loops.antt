-- One line more of a text.
use Rattle.std.proofs.Common.{◌≡◌, ◌<◌, ℕ, ◌+◌, List, length, drop, Result, Ok, Err, refl, sym, subst, arith}
use Rattle.std.proofs.lemmas.List.{length-drop}
use Rattle.session_script.specs.Lines.{before, lines_in, lines_read}
use Rattle.session_script.proofs.Parts.{lines_step}

-- the first line counts as it is read
line_counts : {A F : Type 0} (step : A → ℕ → List ℕ → Result A F) (text : List ℕ) (number : ℕ) (read : A) (line : List ℕ) (r : Result A F) → 0 < length text → line ≡ before 10 text
    → step read number line ≡ r
    → lines_read step number (lines_in text) (Ok read) ≡ lines_read step (number + 1) (lines_in (drop (length (before 10 text) + 1) text)) r
line_counts step text number read line r some is said =
    subst (λ lines. lines_read step number lines (Ok read) ≡ lines_read step (number + 1) (lines_in (drop (length (before 10 text) + 1) text)) r)
    (sym (lines_step text some))
    (subst (λ x. lines_read step (number + 1) (lines_in (drop (length (before 10 text) + 1) text)) x ≡ lines_read step (number + 1) (lines_in (drop (length (before 10 text) + 1) text)) r)
    (sym (subst (λ l. step read number l ≡ r) is said)) refl)

pub line_read : {A F : Type 0} (step : A → ℕ → List ℕ → Result A F) (text : List ℕ) (number : ℕ) (read new : A) (line rest : List ℕ) → 0 < length text → line ≡ before 10 text
    → rest ≡ drop (length (before 10 text) + 1) text → step read number line ≡ Ok new
    → lines_read step (number + 1) (lines_in rest) (Ok new) ≡ lines_read step number (lines_in text) (Ok read)
line_read step text number read new line rest some is after said = rw after (sym (line_counts step text number read line (Ok new) some is said))

pub line_refused : {A F : Type 0} (step : A → ℕ → List ℕ → Result A F) (text : List ℕ) (number : ℕ) (read : A) (line : List ℕ) (fault : F) → 0 < length text → line ≡ before 10 text
    → step read number line ≡ Err fault → lines_read step number (lines_in text) (Ok read) ≡ Err fault
line_refused step text number read line fault some is said = line_counts step text number read line (Err fault) some is said

pub rest_less : (text rest : List ℕ) → 0 < length text → rest ≡ drop (length (before 10 text) + 1) text → length rest < length text
rest_less text rest some after = rw (after, length-drop (length (before 10 text) + 1) text) (omega arith)
