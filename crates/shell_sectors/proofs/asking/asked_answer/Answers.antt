use Rattle.std.proofs.Common.{sym, subst}
use Rattle.std.specs.Prelude.{IfOk}
use Rattle.shell_reports.proofs.More.{if_more}
use Rattle.shell_sectors.specs.declared.asking.Ask.{Ask}
use Rattle.shell_sectors.specs.declared.asking.Ask.TheVariants as ask
use Rattle.shell_sectors.specs.Asked.{AnswersOn, asked}
use Rattle.namespace_words.specs.Source.{words_by}
use Rattle.shell_sectors.proofs.Asked.{kept}
use Rattle.shell_sectors.proofs.asking.asked_answer.Goals as goal

pub returns-in-Arenas-clause-told : goal.returns-in-Arenas-clause-told
returns-in-Arenas-clause-told g c =
    let held = g.S.ImageSource.held c.args.images.now in
    subst (λ (a : Ask). IfOk c.reported.result (AnswersOn (asked a) held c.args.extent.now c.args.arenas.now)) (sym c.in-Arenas.is)
    (kept (AnswersOn (asked ask.Arenas) held c.args.extent.now c.args.arenas.now) c.lines_answer.result c.reported.result c.reported.ensures.same
    (if_more _ (AnswersOn (asked ask.Arenas) held c.args.extent.now c.args.arenas.now) c.lines_answer.result (λ answer lines contents shown uuid all. lines (words_by c.args.extent.now contents)) c.lines_answer.ensures))

pub returns-in-Sector-clause-told : goal.returns-in-Sector-clause-told
returns-in-Sector-clause-told g c =
    let held = g.S.ImageSource.held c.args.images.now in
    subst (λ (a : Ask). IfOk c.sector_answer.result (AnswersOn (asked a) held c.args.extent.now c.args.arenas.now)) (sym c.in-Sector.is) c.sector_answer.ensures.told
