use Rattle.std.proofs.Common.{◌≡◌, ◌∙◌, List, Option, None, ap, sym, subst}
use Rattle.std.specs.Prelude.{map, IfOk}
use Rattle.cut_words.specs.Words.{Words}
use Rattle.namespace_areas.specs.Seen.{words_of}
use Rattle.shell_reports.specs.declared.status.Ending.TheVariants as ending
use Rattle.shell_reports.specs.Cut.{cut_text}
use Rattle.shell_reports.proofs.More.{if_more}
use Rattle.shell_changes.specs.declared.saving.Remains.{Remains}
use Rattle.shell_changes.specs.Answers.{HasSizes}
use Rattle.shell_changes.specs.Remains.{AnswersCut, CanLeave, SavesLeft, remains_of}
use Rattle.shell_changes.proofs.Remains.{sizes_left}
use Rattle.shell_changes.proofs.changing.stopped_answer.Goals as goal

pub cut_answer-requires-clause-can : goal.cut_answer-requires-clause-can
cut_answer-requires-clause-can g c =
    let is : c.remaining-remains.result ≡ remains_of c.args.rest (map words_of c.args.areas.items) None = c.remaining-remains.ensures ∙ ap (λ (ls : List (Option Words)). remains_of c.args.rest ls None) c.in_ok-labels.ensures in
    subst CanLeave (sym is) c.requires.areas

pub returns-clause-cut : goal.returns-clause-cut
returns-clause-cut g c =
    let is : c.remaining-remains.result ≡ remains_of c.args.rest (map words_of c.args.areas.items) None = c.remaining-remains.ensures ∙ ap (λ (ls : List (Option Words)). remains_of c.args.rest ls None) c.in_ok-labels.ensures in
    subst (λ (r : Remains). IfOk c.cut_answer.result (AnswersCut g.C.Chooser.begins g.C.Chooser.picks c.args.power r c.args.choose.now)) is c.cut_answer.ensures

pub returns-clause-sizes : goal.returns-clause-sizes
returns-clause-sizes g c =
    let begins = g.C.Chooser.begins in
    let picks = g.C.Chooser.picks in
    let is : c.remaining-remains.result ≡ remains_of c.args.rest (map words_of c.args.areas.items) None = c.remaining-remains.ensures ∙ ap (λ (ls : List (Option Words)). remains_of c.args.rest ls None) c.in_ok-labels.ensures in
    if_more (AnswersCut begins picks c.args.power c.remaining-remains.result c.args.choose.now) (HasSizes c.args.rest.sizes) c.cut_answer.result
    (λ answer cut. sizes_left picks ending.PowerCut (cut_text cut.steps) answer cut.begun cut.after c.args.rest (map words_of c.args.areas.items) None
    (subst (λ (r : Remains). SavesLeft picks ending.PowerCut (cut_text cut.steps) r answer cut.begun cut.after) is cut.saved))
    c.cut_answer.ensures
