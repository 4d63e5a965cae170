use Rattle.std.proofs.Common.{◌≡◌, ◌++◌, drop}
use Rattle.shell_rescue.specs.Lost.{move_lines}
use Rattle.shell_rescue.proofs.text.push_moves.Given as goal

-- the lines so far and those still to come
abbrev pub invariant-loop-half : goal.invariant-loop-half
invariant-loop-half l = l.text.items ++ move_lines l.k (drop l.half-index l.halves) ≡ l.fn.text.items ++ move_lines l.k l.halves
