use Rattle.std.proofs.Common.{ℕ, List, ◌∙◌, ap, sym}
use Rattle.label_area.specs.Initialise.{initialised}
use Rattle.image_set.specs.Outline.{image_set_with}
use Rattle.shell_changes.specs.Remains.{LeavesBy}
use Rattle.shell_changes.proofs.Parts.{area_settled, init_given, told_ok, told_err}
use Rattle.shell_changes.proofs.init.area_answer.Goals as goal

pub done_area_answer-requires-clause-settled : goal.done_area_answer-requires-clause-settled
done_area_answer-requires-clause-settled g c =
    area_settled c.args.words.kept c.fuse_of-fuse.result c.in-Ok.area (sym c.in-Ok.is ∙ c.init_area.ensures.answer (λ wanting. (let e = sym c.in-Ok.is ∙ wanting in cc)))

pub refused_answer-requires-clause-given : goal.refused_answer-requires-clause-given
refused_answer-requires-clause-given g c = λ cut none.
    init_given c.args.words.kept c.fuse_of-fuse.result c.args.words c.in-Err.refused c.init_area.result c.in-Err.is c.init_area.ensures.answer cut (c.fuse_of-fuse.ensures ∙ none)

pub returns-in-Ok-clause-comes : goal.returns-in-Ok-clause-comes
returns-in-Ok-clause-comes g c =
    told_ok (LeavesBy g.C.Chooser.begins g.C.Chooser.picks c.args.choose.now) c.args.«module» c.args.power (λ (contents : List (List ℕ)). image_set_with c.args.rest contents)
    c.done_area_answer.result c.args.words c.in-Ok.area c.init_area.result (initialised c.args.words.kept c.args.power.steps) c.in-Ok.is
    (λ found. c.init_area.ensures.answer found ∙ ap (initialised c.args.words.kept) c.fuse_of-fuse.ensures) c.done_area_answer.ensures.comes

pub returns-in-Err-clause-comes : goal.returns-in-Err-clause-comes
returns-in-Err-clause-comes g c =
    told_err (LeavesBy g.C.Chooser.begins g.C.Chooser.picks c.args.choose.now) c.args.«module» c.args.power (λ (contents : List (List ℕ)). image_set_with c.args.rest contents)
    c.refused_answer.result c.args.words c.in-Err.refused c.init_area.result (initialised c.args.words.kept c.args.power.steps) c.in-Err.is
    (λ found. c.init_area.ensures.answer found ∙ ap (initialised c.args.words.kept) c.fuse_of-fuse.ensures) c.refused_answer.ensures.comes c.refused_answer.ensures.finding
