use Rattle.std.proofs.Common.{arith, refl}
use Rattle.lane_table.proofs.Addresses.{lock_fits, spots_are}
use Rattle.lane_table.proofs.spots.commit_words.Goals as goal

pub lock_word-requires-clause-word : goal.lock_word-requires-clause-word
lock_word-requires-clause-word c = lock_fits c.args.shape.now c.requires.shape c.args.sector (omega (arith, c.requires.lane))

pub returns : goal.returns
returns c =
    spots_are c.args.shape.now c.requires.shape c.args.mine.number c.args.mine.side c.args.sector c.requires.lane c.requires.side c.requires.sector _
    c.lock_word.ensures c.map_word-map.ensures c.kept.ensures c.log_word-log_a.ensures c.kept-2.ensures refl c.kept-3.ensures
