use Rattle.std.proofs.Common.{refl, sym, arith}
use Rattle.turn_callers.proofs.Any.{any_set}
use Rattle.turn_callers.proofs.desk.Desk.stop.Goals as goal

pub invariant_of-self : goal.invariant_of-self
invariant_of-self c = record { stopped_by_one = sym (any_set c.args.self.now.stopped.items c.args.q (omega arith)); told_when_off = refl }
