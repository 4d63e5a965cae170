use Rattle.std.proofs.Common.{◌≡◌, ◌∙◌, ℕ, List, map, ap, arith}
use Rattle.arena_open.specs.declared.state.ArenaState.{ArenaState}
use Rattle.arena_open.specs.Chain.{state_at}
use Rattle.arena_open.specs.ChainCells.{sectors_of}
use Rattle.namespace_words.specs.Source.{words_by}
use Rattle.shell_reports.specs.Faults.{range_text, refused_outcome}
use Rattle.shell_reports.proofs.More.{if_more}
use Rattle.shell_sectors.proofs.Asked.{kept, sector_past, sector_there}
use Rattle.shell_sectors.proofs.read.sector_answer.Goals as goal

pub returns-then-sector-sectors-clause-told : goal.returns-then-sector-sectors-clause-told
returns-then-sector-sectors-clause-told g c =
    if_more _ _ c.line_answer.result
    (λ answer on contents shown uuid all.
    let states : List ArenaState = map (state_at (words_by c.args.extent.now contents)) c.args.arenas.now in
    on contents shown uuid all
    ∙ sector_there c.args.sector (map (state_at (words_by c.args.extent.now contents)) c.args.arenas.now)
    (omega (arith, c.if-sector-sectors.true, c.sectors_of_all-sectors.ensures.states (words_by c.args.extent.now contents))))
    c.line_answer.ensures.told

pub returns-clause-told : goal.returns-clause-told
returns-clause-told g c =
    kept _ c.range_answer.result c.reported.result c.reported.ensures.same
    (if_more _ _ c.range_answer.result
    (λ answer says contents shown uuid all.
    let count : c.sectors_of_all-sectors.result ≡ sectors_of (map (state_at (words_by c.args.extent.now contents)) c.args.arenas.now) = c.sectors_of_all-sectors.ensures.states (words_by c.args.extent.now contents) in
    says
    ∙ ap (λ (n : ℕ). refused_outcome (range_text n)) count
    ∙ sector_past c.args.sector (map (state_at (words_by c.args.extent.now contents)) c.args.arenas.now) (omega (arith, c.if-sector-sectors.false, count)))
    c.range_answer.ensures)
