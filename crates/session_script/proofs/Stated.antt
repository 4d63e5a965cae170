-- The lines that a text states.
use Rattle.std.proofs.Common.{◌≡◌, ◌≤◌, ◌<◌, ℕ, suc, ◌+◌, ◌==◌, List, [], ◌∷◌, length, drop, Result, Ok, Err, refl, sym, ◌∙◌, ap, inl, inr, le_trans, arith}
use Rattle.session_script.specs.declared.fault.LineFault.{LineFault}
use Rattle.session_script.specs.declared.schedule.ReplayLine.{ReplayLine}
use Rattle.session_script.specs.Lines.{before, lines_in, with_byte}
use Rattle.session_script.specs.ScheduleLines.{before_lines, line_reading, lines_stated}
use Rattle.std.proofs.lemmas.Bool.{cases_Bool}
use Rattle.session_script.proofs.Parts.{lines_step}

-- ---- the next line

stated_step : (text : List ℕ) → 0 < length text
    → lines_stated (lines_in text) ≡ before_lines (line_reading (before 10 text)) (lines_stated (lines_in (drop (length (before 10 text) + 1) text)))
stated_step text some = ap lines_stated (lines_step text some)

pub none_left : (text : List ℕ) → length text ≡ 0 → lines_stated (lines_in text) ≡ []
none_left [] none = refl
none_left (c ∷ cs) none = absurd (let e : suc (length cs) ≡ 0 = none in omega arith)

pub line_next : (text first rest : List ℕ) (l : ReplayLine) → 0 < length text → first ≡ before 10 text → rest ≡ drop (length (before 10 text) + 1) text → line_reading first ≡ Ok l
    → lines_stated (lines_in text) ≡ l ∷ lines_stated (lines_in rest)
line_next text first rest l some is after reads =
    stated_step text some
    ∙ ap (λ r. before_lines r (lines_stated (lines_in (drop (length (before 10 text) + 1) text)))) (ap line_reading (sym is) ∙ reads)
    ∙ ap (λ t. l ∷ lines_stated (lines_in t)) (sym after)

pub line_ends : (text first : List ℕ) (fault : LineFault) → 0 < length text → first ≡ before 10 text → line_reading first ≡ Err fault → lines_stated (lines_in text) ≡ []
line_ends text first fault some is reads =
    stated_step text some ∙ ap (λ r. before_lines r (lines_stated (lines_in (drop (length (before 10 text) + 1) text)))) (ap line_reading (sym is) ∙ reads)

-- ---- how many there are

with_byte_few : (c n : ℕ) (lines : List (List ℕ)) → length lines ≤ n → length (with_byte c lines) ≤ suc n
with_byte_few c n [] few = omega arith
with_byte_few c n (line ∷ lines) few = omega (arith, few)

lines_few : (text : List ℕ) → length (lines_in text) ≤ length text
lines_few [] = omega arith
lines_few (c ∷ cs) =
    elim (cases_Bool (c == 10)) [
      | inl here ↦ rw here (omega (arith, lines_few cs))
      | inr other ↦ rw other (with_byte_few c (length cs) (lines_in cs) (lines_few cs))
    ]

before_few : (r : Result ReplayLine LineFault) (n : ℕ) (lines : List ReplayLine) → length lines ≤ n → length (before_lines r lines) ≤ suc n
before_few (Ok l) n lines few = omega (arith, few)
before_few (Err fault) n lines few = omega arith

stated_within : (texts : List (List ℕ)) → length (lines_stated texts) ≤ length texts
stated_within [] = omega arith
stated_within (text ∷ texts) = before_few (line_reading text) (length texts) (lines_stated texts) (stated_within texts)

pub stated_few : (text : List ℕ) → length (lines_stated (lines_in text)) ≤ length text
stated_few text = le_trans (stated_within (lines_in text)) (lines_few text)

pub ruleset stated = (none_left, line_next, line_ends, stated_few)
