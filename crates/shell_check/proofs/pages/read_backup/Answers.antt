use Rattle.std.proofs.Common.{◌≡◌, ℕ, ◌-◌, ◌*◌, ◌/◌, List, length, ◌∙◌, sym, ap, arith}
use Rattle.std.specs.Str.{bytes_eq}
use Rattle.std.proofs.lemmas.List.{length-drop}
use Rattle.arena_layout.specs.Info.{info_reading}
use Rattle.arena_check.specs.Check.{backup_finding, page_at}
use Rattle.namespace_words.specs.Source.{words_by}
use Rattle.namespace_words.proofs.HeldBytes.{words_long}
use Rattle.shell_check.proofs.PagesBehind.{page_behind}
use Rattle.shell_check.proofs.pages.read_backup.Goals as goal

pub returns-clause-told : goal.returns-clause-told
returns-clause-told g c = λ contents reveals words is.
    let at = c.args.at in
    let place : ℕ = c.args.info.now.layout.info_off / 8 in
    let backup : c.in_ok-backup.backup ≡ page_at place words =
    c.in_ok-backup.ensures.told contents reveals ∙ page_behind (words_by c.args.extent.now contents) c.args.at place ∙ ap (page_at place) (sym is) in
    let rest : c.bytes.result - 8 * c.args.at ≡ 8 * length words =
    omega (arith, c.bytes.ensures.bytes, ap (λ (ws : List ℕ). length ws) is, length-drop c.args.at (words_by c.args.extent.now contents), words_long c.args.extent.now contents, c.requires.pages, c.requires.inside) in
    c.backup_finding.ensures ∙ (λ i. backup_finding (bytes_eq c.args.first.now (backup i)) (info_reading (backup i) c.args.parent.now (rest i)))
