use Rattle.std.proofs.Common.{◌≡◌, ◌≢◌, ℕ, false, ◌<◌, ◌≤◌, get_or}
use Rattle.std.specs.Prelude.{IsTrue}
use Rattle.std.specs.Mem.Slots.{slots_items, slots_filled, slots_len}
use Rattle.turn_lock.proofs.freeing.take_value.Given as goal

abbrev pub invariant-loop-i : goal.invariant-loop-i
invariant-loop-i g l = record {
  items : slots_items l.closed.slots ≡ slots_items l.fn.closed.slots;
  count : slots_len l.closed.slots ≡ slots_len l.fn.closed.slots;
  end : l.i-end ≡ slots_len l.fn.closed.slots;
  value : get_or (slots_filled l.closed.slots) 4 false ≡ false;
  taken : (k : ℕ) → k < l.i → get_or (slots_filled l.closed.slots) k false ≡ false;
  left : (k : ℕ) → k ≢ 4 → l.i ≤ k → k < slots_len l.closed.slots → IsTrue (get_or (slots_filled l.closed.slots) k false);
}
