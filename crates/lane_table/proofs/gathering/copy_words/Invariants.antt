use Rattle.std.proofs.Common.{◌≡◌, take, drop}
use Rattle.std.specs.Prelude.{vec_capacity}
use Rattle.std.specs.Mem.Slots.{slots_items}
use Rattle.lane_table.proofs.gathering.copy_words.Given as goal

abbrev pub invariant-loop-i : goal.invariant-loop-i
invariant-loop-i l = record {
  copied : l.words.items ≡ take l.i (drop l.first (slots_items l.closed.words));
  room : vec_capacity l.words ≡ vec_capacity l.initial.words;
}
