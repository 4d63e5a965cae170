use Rattle.std.proofs.Common.{◌≡◌, Bool, List, map, ap, sym, subst}
use Rattle.std.specs.Prelude.{MatchBool}
use Rattle.namespace_areas.specs.declared.area.Area.{Area}
use Rattle.namespace_areas.specs.Seen.{words_of as area_words}
use Rattle.shell_reports.specs.Outcome.{Outcome}
use Rattle.shell_reports.proofs.More.{if_more}
use Rattle.shell_sectors.specs.Writing.{SavesRuns}
use Rattle.shell_sectors.proofs.Written.{areas_whole}
use Rattle.shell_check.specs.Saving.{PrintsCopied}
use Rattle.shell_check.proofs.command.saved_answer.Goals as goal

pub returns-then-repair : goal.returns-then-repair
returns-then-repair c =
    let text : c.printed_answer-report.result.text.items ≡ c.args.checked.text.items = ap (λ (o : Outcome). o.text) c.printed_answer-report.ensures in
    if_more _ _ c.save.result
    (λ answer saves outline uuid it.
    subst (λ (b : Bool). MatchBool b (SavesRuns c.args.checked.text.items it.registry c.args.place c.args.checked.runs answer) (PrintsCopied c.args.checked.text.items c.args.place.rest (map area_words it.registry.areas) answer)) (sym c.if-repair.true)
    (subst (λ (t : List _). SavesRuns t it.registry c.args.place c.args.checked.runs answer) text (saves outline uuid it)))
    c.save.ensures

pub copied_answer-requires-clause-settled : goal.copied_answer-requires-clause-settled
copied_answer-requires-clause-settled c = areas_whole c.requires.found.1.0 c.requires.found.0 c.args.place c.requires.found.1.1

pub returns : goal.returns
returns c =
    let text : c.printed_answer-report.result.text.items ≡ c.args.checked.text.items = ap (λ (o : Outcome). o.text) c.printed_answer-report.ensures in
    if_more _ _ c.copied_answer.result
    (λ answer prints outline uuid it.
    subst (λ (b : Bool). MatchBool b (SavesRuns c.args.checked.text.items it.registry c.args.place c.args.checked.runs answer) (PrintsCopied c.args.checked.text.items c.args.place.rest (map area_words it.registry.areas) answer)) (sym c.if-repair.false)
    (subst (λ (areas : List Area). PrintsCopied c.args.checked.text.items c.args.place.rest (map area_words areas) answer) it.areas
    (subst (λ (t : List _). PrintsCopied t c.args.place.rest (map area_words c.args.place.areas.items) answer) text prints)))
    c.copied_answer.ensures
