use Rattle.std.proofs.Common.{vec_len, ap, arith}
use Rattle.turn_callers.proofs.Scripts.{taken_more}
use Rattle.turn_callers.proofs.register.Register.new.Goals as goal

pub overflow_add-total : goal.overflow_add-total
overflow_add-total g c =
    let more = taken_more vec_len c.args.scripts.now c.loop-script.script-index c.script-item.result (omega arith) in
    omega (arith, more, c.loop-script.invariant.2, c.len-total.ensures, ap vec_len c.script-item.is, c.requires)
