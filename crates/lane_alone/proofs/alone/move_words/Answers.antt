use Rattle.std.proofs.Common.{ap, arith}
use Rattle.flog.specs.declared.half.Half.{Half}
use Rattle.lane_alone.proofs.Facts.{block_small, free_small}
use Rattle.lane_alone.proofs.alone.move_words.Goals as goal

pub half_words-requires-clause-old : goal.half_words-requires-clause-old
half_words-requires-clause-old c =
    let old = ap (λ (f : Half). f.old) c.move_half.ensures.half in
    omega (arith, old, block_small c.args.state.now c.requires.state c.args.sector c.requires.sector)

pub half_words-requires-clause-new : goal.half_words-requires-clause-new
half_words-requires-clause-new c =
    let new = ap (λ (f : Half). f.new) c.move_half.ensures.half in
    omega (arith, new, free_small c.args.state.now c.requires.state)
