use Rattle.std.proofs.Common.{ap, refl}
use Rattle.lane_core.specs.Invariant.{is_reading}
use Rattle.lane_table.specs.Law.{opening_of, words_of, entries_of, steps_of}
use Rattle.lane_table.proofs.PassMoves.{takes_pass, some_words, pass_is}
use Rattle.lane_table.proofs.lanes.Lane.take_pass.Goals as goal

pub join_seat-requires : goal.join_seat-requires
join_seat-requires c =
    let a = c.args.arena.now in
    let k = a.table.shared.key in
    let lane = c.args.self.now in
    let p = c.args.pass in (
      c.requires.arena.0,
      c.requires.pass,
      ap (λ m. m.1) p.alone,
      some_words a,
      takes_pass k.shape (opening_of k) (words_of k) _ lane.kit.seat.me.0 _ p.seat.me.0 (record { session = p.session; unmade = _; steps = steps_of p.seat.me.0.loose; entries = entries_of p.seat.me.0.loose }) lane.kit.live c.requires.none (ap is_reading lane.idle) (pass_is p) refl,
    )
