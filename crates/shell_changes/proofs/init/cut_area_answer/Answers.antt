use Rattle.std.proofs.Common.{ℕ, List}
use Rattle.shell_reports.specs.declared.status.Ending.TheVariants as ending
use Rattle.label_area.specs.declared.fault.AreaFault.TheVariants.{PowerCut}
use Rattle.shell_reports.specs.Cut.{cut_text}
use Rattle.shell_reports.proofs.More.{if_more}
use Rattle.image_set.specs.Outline.{image_set_with}
use Rattle.shell_changes.specs.declared.answer.Answer.{Answer}
use Rattle.shell_changes.specs.declared.saving.Remains.TheVariants as kind
use Rattle.shell_changes.specs.Answers.{HasSizes, outcome_with}
use Rattle.shell_changes.specs.Init.{RefusedArea}
use Rattle.shell_changes.specs.Remains.{AnswersCut, LeavesBy}
use Rattle.shell_changes.proofs.Remains.{area_saves, area_sizes, one_row}
use Rattle.shell_changes.proofs.init.cut_area_answer.Goals as goal

pub returns-clause-comes : goal.returns-clause-comes
returns-clause-comes g c =
    let picks = g.C.Chooser.picks in
    if_more (AnswersCut g.C.Chooser.begins picks c.args.power (kind.Area c.args.rest c.args.«module» c.args.words) c.args.choose.now)
    (λ (answer : Answer). (contents : List (List ℕ)) → RefusedArea (LeavesBy g.C.Chooser.begins picks c.args.choose.now) c.args.«module» c.args.power (image_set_with c.args.rest contents) c.args.words PowerCut (outcome_with answer contents))
    c.cut_answer.result
    (λ answer cut contents.
    let s = cut.saved in (
      s.leaves.3.row,
      cut.steps,
      cut.given,
      (cut.begun, cut.after, cut.begins_so, one_row picks c.args.words s.leaves.3.row cut.begun cut.after s.leaves.3.asked),
      area_saves picks ending.PowerCut (cut_text cut.steps) answer cut.begun cut.after c.args.rest c.args.«module» c.args.words s contents,
    ))
    c.cut_answer.ensures

pub returns-clause-sizes : goal.returns-clause-sizes
returns-clause-sizes g c =
    let picks = g.C.Chooser.picks in
    if_more (AnswersCut g.C.Chooser.begins picks c.args.power (kind.Area c.args.rest c.args.«module» c.args.words) c.args.choose.now) (HasSizes c.args.rest.sizes) c.cut_answer.result
    (λ answer cut. area_sizes picks ending.PowerCut (cut_text cut.steps) answer cut.begun cut.after c.args.rest c.args.«module» c.args.words cut.saved)
    c.cut_answer.ensures
