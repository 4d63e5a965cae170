use Rattle.std.proofs.Common.{◌≡◌, ◌∙◌, get_or, map, ap, subst}
use Rattle.std.specs.Prelude.{IfOk}
use Rattle.arena_open.specs.declared.cell.Cell.{Cell}
use Rattle.arena_open.specs.declared.cell.Cell.TheVariants as cell
use Rattle.arena_open.specs.Chain.{state_at}
use Rattle.arena_open.specs.ChainCells.{contents_of}
use Rattle.namespace_words.specs.Source.{words_by}
use Rattle.session_script.specs.Texts.{cell_text}
use Rattle.shell_reports.specs.Outcome.{printed}
use Rattle.shell_reports.proofs.More.{if_more}
use Rattle.shell_sectors.proofs.Asked.{kept}
use Rattle.shell_sectors.proofs.read.line_answer.Goals as goal

pub returns-in-Ok-Ok-clause-told : goal.returns-in-Ok-Ok-clause-told
returns-in-Ok-Ok-clause-told g c =
    kept _ c.cell_answer.result c.reported.result c.reported.ensures.same
    (if_more _ _ c.cell_answer.result
    (λ answer says contents shown uuid all.
    let due : Cell = get_or (contents_of (map (state_at (words_by c.args.extent.now contents)) c.args.arenas.now)) c.args.sector cell.Bad in
    let is : c.in-Ok-Ok.cell ≡ due = subst (λ r. IfOk r (λ (x : Cell). x ≡ due)) c.in-Ok-Ok.field-0-is (c.in-Ok-Ok.ensures.told contents shown uuid all) in
    says ∙ ap (λ (x : Cell). printed (cell_text x)) is)
    c.cell_answer.ensures)
