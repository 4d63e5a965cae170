use Rattle.std.proofs.Common.{◌≡◌, ℕ, List, ◌∙◌, ap, sym, subst}
use Rattle.cut_words.specs.Words.{Words, settled}
use Rattle.cut_words.specs.WordBytes.{bytes_of}
use Rattle.image_set.specs.Changed.{objects_of, with_area}
use Rattle.image_set.specs.Outline.{image_set_with}
use Rattle.image_set.proofs.Kept.{kept_row}
use Rattle.shell_reports.specs.declared.status.Ending.TheVariants as ending
use Rattle.shell_reports.specs.Cut.{done_text}
use Rattle.shell_reports.specs.Saved.{IsSaving}
use Rattle.shell_reports.proofs.More.{if_more}
use Rattle.shell_changes.specs.declared.answer.Answer.{Answer}
use Rattle.shell_changes.specs.declared.saving.Remains.TheVariants as kind
use Rattle.shell_changes.specs.Answers.{HasSizes, outcome_with}
use Rattle.shell_changes.specs.Remains.{AnswersDone}
use Rattle.shell_changes.proofs.Remains.{area_saves, area_sizes}
use Rattle.shell_changes.proofs.init.done_area_answer.Goals as goal

pub returns-clause-comes : goal.returns-clause-comes
returns-clause-comes g c =
    let picks = g.C.Chooser.picks in
    let rest = c.args.rest in
    let m = c.args.«module» in
    let set = λ (contents : List (List ℕ)) (left : List ℕ). objects_of (with_area (image_set_with rest contents) m (bytes_of left)) in
    let words : c.into_words.result ≡ c.args.area.words = c.into_words.ensures in
    let still : c.into_words.result ≡ settled c.into_words.result.kept = words ∙ c.requires.settled ∙ ap (λ (w : Words). settled w.kept) (sym words) in
    if_more (AnswersDone picks (kind.Area rest m c.into_words.result) c.args.choose.now)
    (λ (answer : Answer). (contents : List (List ℕ)) → IsSaving ending.Done done_text (set contents c.args.area.words.kept) (outcome_with answer contents))
    c.done_answer.result
    (λ answer done contents.
    let s = done.saved in
    let left = (kept_row picks c.into_words.result s.leaves.3.row c.args.choose.now done.after still s.leaves.3.asked).0 in
    subst (λ (row : List ℕ). IsSaving ending.Done done_text (set contents row) (outcome_with answer contents)) (left ∙ ap (λ (w : Words). w.kept) words)
    (area_saves picks ending.Done done_text answer c.args.choose.now done.after rest m c.into_words.result s contents))
    c.done_answer.ensures

pub returns-clause-sizes : goal.returns-clause-sizes
returns-clause-sizes g c =
    let picks = g.C.Chooser.picks in
    if_more (AnswersDone picks (kind.Area c.args.rest c.args.«module» c.into_words.result) c.args.choose.now) (HasSizes c.args.rest.sizes) c.done_answer.result
    (λ answer done. area_sizes picks ending.Done done_text answer c.args.choose.now done.after c.args.rest c.args.«module» c.into_words.result done.saved)
    c.done_answer.ensures
