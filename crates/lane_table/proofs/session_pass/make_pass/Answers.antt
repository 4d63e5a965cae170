use Rattle.lane_table.specs.Law.{opening_of, words_of, others}
use Rattle.lane_table.proofs.PassMoves.{makes_pass, some_words}
use Rattle.lane_table.proofs.session_pass.make_pass.Goals as goal

pub split_seat-right-requires : goal.split_seat-right-requires
split_seat-right-requires c =
    let a = c.args.arena.now in
    let k = a.table.shared.key in
    (c.requires.arena, some_words a, makes_pass k.shape (opening_of k) (words_of k) _ c.args.seat.now.me.0 c.args.made.now (others c.args.seat.now.me.0.loose) c.requires.makes)
