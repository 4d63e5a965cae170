use Rattle.std.proofs.Common.{ap}
use Rattle.lane_core.specs.Invariant.{is_reading}
use Rattle.lane_table.specs.Law.{opening_of, words_of}
use Rattle.lane_table.proofs.PassMoves.{gives_pass, some_words, holds_one}
use Rattle.lane_table.proofs.lanes.Lane.give_pass.Goals as goal

pub split_seat-seat-requires : goal.split_seat-seat-requires
split_seat-seat-requires c =
    let a = c.args.arena.now in
    let k = a.table.shared.key in
    let lane = c.args.self.now in
    let one = holds_one lane.kit.seat.me.0.held c.args.session c.requires.holds in
    (c.requires.arena.0, some_words a, gives_pass k.shape (opening_of k) (words_of k) _ lane.kit.seat.me.0 one.0 lane.kit.live one.1 (ap is_reading lane.idle))
