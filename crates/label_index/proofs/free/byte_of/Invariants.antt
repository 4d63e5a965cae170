use Rattle.std.proofs.Common.{◌≡◌, ◌≤◌, length, drop}
use Rattle.label_index.specs.Spelling.{number_of_bits}
use Rattle.label_index.proofs.free.byte_of.Given as goal

abbrev pub invariant-loop-at : goal.invariant-loop-at
invariant-loop-at l = record { within : l.at ≤ length l.bits; so_far : l.byte ≡ number_of_bits (drop l.at l.bits) }

abbrev pub decreases-loop-at : goal.decreases-loop-at
decreases-loop-at l = l.at
