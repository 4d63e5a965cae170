use Rattle.std.proofs.Common.{◌≡◌, ◌++◌, drop}
use Rattle.shell_rescue.specs.Lost.{loss_lines}
use Rattle.shell_rescue.proofs.text.push_losses.Given as goal

-- the lines so far and those still to come
abbrev pub invariant-loop-loss : goal.invariant-loop-loss
invariant-loop-loss l = l.text.items ++ loss_lines l.k (drop l.loss-index l.losses) ≡ l.fn.text.items ++ loss_lines l.k l.losses
