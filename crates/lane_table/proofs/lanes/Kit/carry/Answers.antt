use Rattle.std.proofs.Common.{ap}
use Rattle.lane_table.specs.Law.{opening_of, words_of}
use Rattle.lane_table.proofs.PassMoves.{some_words}
use Rattle.lane_table.proofs.Splits.{joins}
use Rattle.lane_table.proofs.lanes.Kit.carry.Goals as goal

pub join_seat-requires : goal.join_seat-requires
join_seat-requires c =
    let a = c.args.arena.now in
    let k = a.table.shared.key in
    (c.requires.arena, c.requires.pass, ap (λ m. m.1) c.args.pass.alone, some_words a, joins k.shape (opening_of k) (words_of k) _ _ _ _)
