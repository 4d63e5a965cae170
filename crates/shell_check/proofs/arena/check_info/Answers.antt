use Rattle.std.proofs.Common.{◌≡◌, ◌/◌, [], ap, sym, ◌∙◌}
use Rattle.std.specs.List.{cons_option}
use Rattle.std.specs.Str.{bytes_eq}
use Rattle.arena_check.specs.Check.{backup_finding, info_findings, page_at, page_reading}
use Rattle.shell_reports.proofs.More.{if_more}
use Rattle.shell_check.proofs.arena.check_info.Goals as goal

pub returns-in-First-clause-told : goal.returns-in-First-clause-told
returns-in-First-clause-told g c = λ contents reveals words is same.
    let info = c.in-First.info in
    let at = info.layout.info_off / 8 in
    if_more _ (λ finding. cons_option finding [] ≡ info_findings words c.args.parent.now c.args.source.now) c.read_backup.result
    (λ finding told. ap (λ f. cons_option f []) (told ∙ ap (λ bytes. backup_finding (bytes_eq bytes (page_at at words)) (page_reading at words c.args.parent.now)) same)
    ∙ ap (info_findings words c.args.parent.now) (sym c.in-First.is))
    (c.read_backup.ensures.told contents reveals words is)
