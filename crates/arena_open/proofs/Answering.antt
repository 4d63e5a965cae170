-- The result of opening, and the words afterwards.
use Rattle.std.proofs.Common.{◌≡◌, ◌≢◌, ℕ, Bool, List, [], length, drop, Option, Result, Ok, Err, sym, ap, ◌∙◌, subst}
use Rattle.nvd_words.specs.Checks.{Answers}
use Rattle.cut_words.specs.Words.{Words}
use Rattle.cut_words.specs.Fuses.{Makes, lasts}
use Rattle.cut_words.proofs.Making.{makes_none}
use Rattle.arena_open.specs.declared.opened.Opened.{Opened}
use Rattle.arena_open.specs.declared.state.ArenaState.{ArenaState}
use Rattle.arena_open.specs.declared.refused.OpenRefused.{OpenRefused}
use Rattle.arena_open.specs.declared.refused.OpenRefused.TheVariants as refused
use Rattle.arena_open.specs.Reading.{opening}
use Rattle.arena_open.specs.Moves.{opened_steps, steps_if, answer_of, open_answer, Recovers}
use Rattle.arena_open.proofs.Opening.{err_same}

refused_is : (words parent : List ℕ) (r : Result ArenaState OpenRefused) (read : Result Opened OpenRefused) (fault : OpenRefused) → r ≡ Err fault
    → Answers refused.OutOfMemory read (opening words parent) → read ≡ Err fault → r ≢ Err refused.OutOfMemory → opening words parent ≡ Err fault
refused_is words parent r read fault is answer read_is ne =
    sym (answer (λ memory. ne (err_same fault refused.OutOfMemory read r read_is memory is))) ∙ read_is

pub open_refused : (fuse : Option ℕ) (words parent : List ℕ) (r : Result ArenaState OpenRefused) (read : Result Opened OpenRefused) (fault : OpenRefused) → r ≡ Err fault
    → Answers refused.OutOfMemory read (opening words parent) → read ≡ Err fault → Answers refused.OutOfMemory r (open_answer fuse words parent)
open_refused fuse words parent r read fault is answer read_is =
    λ ne. is ∙ sym (ap (answer_of fuse words) (refused_is words parent r read fault is answer read_is ne))

pub refused_recovers : (w : Words) (f : Option ℕ) (at : ℕ) (parent : List ℕ) (r : Result ArenaState OpenRefused) (read : Result Opened OpenRefused) (fault : OpenRefused) → r ≡ Err fault
    → Answers refused.OutOfMemory read (opening (drop at w.kept) parent) → read ≡ Err fault → r ≢ Err refused.OutOfMemory → Recovers w w f f at parent
refused_recovers w f at parent r read fault is answer read_is ne =
    let none : Makes w w f f [] (lasts f 0) = subst (λ (b : Bool). Makes w w f f [] b) (makes_none w f).all_made (makes_none w f) in
    subst (λ (o : Result Opened OpenRefused). Makes w w f f (steps_if at (drop at w.kept) o) (lasts f (length (steps_if at (drop at w.kept) o))))
    (sym (refused_is (drop at w.kept) parent r read fault is answer read_is ne)) none

pub opened_recovers : (w w1 : Words) (f f1 : Option ℕ) (at : ℕ) (parent : List ℕ) (opened : Opened) (made : Bool) → opening (drop at w.kept) parent ≡ Ok opened
    → Makes w w1 f f1 (opened_steps at (drop at w.kept) opened) made → Recovers w w1 f f1 at parent
opened_recovers w w1 f f1 at parent opened made is a =
    let whole : Makes w w1 f f1 (opened_steps at (drop at w.kept) opened) (lasts f (length (opened_steps at (drop at w.kept) opened))) =
    subst (λ (b : Bool). Makes w w1 f f1 (opened_steps at (drop at w.kept) opened) b) a.all_made a in
    subst (λ (o : Result Opened OpenRefused). Makes w w1 f f1 (steps_if at (drop at w.kept) o) (lasts f (length (steps_if at (drop at w.kept) o)))) (sym is) whole
