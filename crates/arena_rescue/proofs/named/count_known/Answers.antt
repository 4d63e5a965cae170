use Rattle.std.proofs.Common.{◌∙◌, sym, ap, length}
use Rattle.arena_check.specs.Check.{in_arena}
use Rattle.arena_rescue.proofs.Counts.{known_on, known_past}
use Rattle.arena_rescue.proofs.named.count_known.Goals as goal
use Rattle.arena_rescue.proofs.named.count_known.Goals.{then-is_known, else-is_known}

pub loop-sector-preserved : goal.loop-sector-preserved
loop-sector-preserved g c = elim c.if-is_known.branch [
  | then-is_known w ↦ (
    ap length w.counts-is ∙ w.count_block.ensures.sized ∙ c.loop-sector.invariant.0,
    known_on c.args.layout.now (in_arena c.args.at (g.B.BadWords.bad c.args.bad.now)) c.args.entries.now c.loop-sector.sector c.args.counts.now c.loop-sector.counts _ _
        w.entry.result (sym c.is_known.ensures ∙ w.if-is_known.true) w.entry.ensures c.loop-sector.invariant.0 c.loop-sector.invariant.1 w.count_block.ensures.counted w.counts-is,
  )
  | else-is_known w ↦ (
    ap length w.counts-is ∙ c.loop-sector.invariant.0,
    known_past c.args.layout.now (in_arena c.args.at (g.B.BadWords.bad c.args.bad.now)) c.args.entries.now c.loop-sector.sector c.args.counts.now c.loop-sector.counts _
        (sym c.is_known.ensures ∙ w.if-is_known.false) c.loop-sector.invariant.0 c.loop-sector.invariant.1 w.counts-is,
  )
]
