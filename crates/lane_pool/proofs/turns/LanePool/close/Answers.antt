use Rattle.turn_lock.specs.Passes.{callers_of, first_of}
use Rattle.lane_pool.proofs.Closing.{closes, nobody_out}
use Rattle.lane_pool.proofs.turns.LanePool.close.Goals as goal

pub into_sets-requires : goal.into_sets-requires
into_sets-requires c =
    let t = c.args.self.turn in
    nobody_out c.close.result (first_of t) (callers_of t) c.args.self.few c.args.passes.items c.close.ensures.callers c.requires.every c.close.ensures.strangers c.requires.none

pub returns : goal.returns
returns c =
    let t = c.args.self.turn in
    record {
      closed =
          closes c.close.result (first_of t) (callers_of t) c.args.self.few c.args.passes.items c.close.ensures.callers c.requires.every c.close.ensures.strangers c.requires.none c.into_sets.ensures.is_pool c.into_sets.result c.into_sets.ensures.sets;
    }
