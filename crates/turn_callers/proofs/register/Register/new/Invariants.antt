use Rattle.std.proofs.Common.{◌≡◌, map, take, vec_len, sum, sum_by}
use Rattle.turn_callers.proofs.register.Register.new.Given as goal

abbrev pub invariant-loop-script : goal.invariant-loop-script
invariant-loop-script g l = (l.rooms.items ≡ map vec_len (take l.script-index l.scripts)) × (l.total ≡ sum l.rooms.items) × (l.total ≡ sum_by vec_len (take l.script-index l.scripts))
