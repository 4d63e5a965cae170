use Rattle.std.proofs.Common.{◌≡◌, ℕ, List, None, sym, subst}
use Rattle.std.specs.Prelude.{IfOk}
use Rattle.label_area.specs.declared.fault.AreaFault.{AreaFault}
use Rattle.image_set.specs.Outline.{image_set_with}
use Rattle.shell_changes.specs.Remains.{LeavesBy}
use Rattle.shell_changes.specs.declared.answer.Answer.{Answer}
use Rattle.shell_reports.proofs.More.{if_both, if_more}
use Rattle.shell_reports.specs.Labels.{fault_outcome}
use Rattle.shell_changes.specs.Init.{RefusedArea}
use Rattle.shell_changes.proofs.Parts.{kept_is}
use Rattle.shell_changes.proofs.Remains.{no_sizes}
use Rattle.shell_changes.specs.Answers.{HasSizes, outcome_with}
use Rattle.shell_changes.proofs.init.refused_answer.Goals as goal

pub kept_answer-requires : goal.kept_answer-requires
kept_answer-requires g c = c.in_default.not-PowerCut

pub cut_area_answer-requires-clause-given : goal.cut_area_answer-requires-clause-given
cut_area_answer-requires-clause-given g c = c.requires.given c.in-PowerCut.is

pub returns-in-PowerCut-clause-comes : goal.returns-in-PowerCut-clause-comes
returns-in-PowerCut-clause-comes g c =
    subst
    (λ (fault : AreaFault). IfOk c.cut_area_answer.result
    (λ (answer : Answer). (contents : List (List ℕ)) → RefusedArea (LeavesBy g.C.Chooser.begins g.C.Chooser.picks c.args.choose.now) c.args.«module» c.args.power (image_set_with c.args.rest contents)
    c.args.refused.words fault (outcome_with answer contents)))
    (sym c.in-PowerCut.is) c.cut_area_answer.ensures.comes

pub returns-in_default-clause-comes : goal.returns-in_default-clause-comes
returns-in_default-clause-comes g c =
    if_both (λ (answer : Answer). (contents : List (List ℕ)) → outcome_with answer contents ≡ fault_outcome c.args.«module» c.args.refused.fault) (λ (answer : Answer). answer.saved ≡ None)
    (λ (answer : Answer). (contents : List (List ℕ)) → RefusedArea (LeavesBy g.C.Chooser.begins g.C.Chooser.picks c.args.choose.now) c.args.«module» c.args.power (image_set_with c.args.rest contents)
    c.args.refused.words c.args.refused.fault (outcome_with answer contents)) c.kept_answer.result
    (λ answer said none contents. kept_is (LeavesBy g.C.Chooser.begins g.C.Chooser.picks c.args.choose.now) c.args.«module» c.args.power (image_set_with c.args.rest contents) c.args.refused.words (outcome_with answer contents) c.args.refused.fault
    c.in_default.not-PowerCut (said contents))
    c.kept_answer.ensures.text c.kept_answer.ensures.saved

pub returns-in_default-clause-sizes : goal.returns-in_default-clause-sizes
returns-in_default-clause-sizes g c =
    if_more (λ (answer : Answer). answer.saved ≡ None) (λ (answer : Answer). HasSizes c.args.rest.sizes answer) c.kept_answer.result (λ answer none. no_sizes c.args.rest.sizes answer none) c.kept_answer.ensures.saved
