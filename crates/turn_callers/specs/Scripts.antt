-- A session at one register, before and after its calls.
use Rattle.std.specs.Prelude.{◌≡◌, ℕ, ◌<◌, ◌≤◌, List, [], length, Some, None, map, slice_index_or, vec_len, vec_capacity, Vec}
use Rattle.atomic_table.specs.Seated.{TableId}
use Rattle.turn_lock.specs.Passes.{lock_of, number_of, part_of, out_of}
use Rattle.turn_callers.specs.declared.register.RegisterCall.{RegisterCall}
use Rattle.turn_callers.specs.declared.register.Register.{Register}
use Rattle.turn_callers.specs.declared.script.ScriptSession.{ScriptSession}
use Rattle.turn_lock.specs.Rows.{items_at}
use Rattle.turn_callers.specs.Replay.{made}
use Rattle.turn_callers.specs.Shares.{share}

-- a register without calls yet, with room for the calls of these scripts
abbrev pub IsNewFor : {X Z : Type 0} → List (Vec X Z) → Register → Type 0
IsNewFor scripts r = (r.journal.items ≡ []) × (r.rooms.items ≡ map vec_len scripts)

-- session q of this lock has made no call, and has room for those of its script
abbrev pub IsScriptReady : TableId → List RegisterCall → ℕ → ScriptSession → Type 0
IsScriptReady lock calls q s =
    (lock_of s.pass ≡ lock) × (number_of s.pass ≡ q) × (out_of s.pass ≡ None) × (part_of s.pass ≡ Some (share [] (length calls)))
    × (s.replies.items ≡ []) × (length calls ≤ vec_capacity s.replies)

-- it has made the calls of its script, and its replies are those in its entries
abbrev pub IsScriptDone : TableId → List RegisterCall → ℕ → ScriptSession → Type 0
IsScriptDone lock calls q s =
    (lock_of s.pass ≡ lock) × (number_of s.pass ≡ q) × (out_of s.pass ≡ None) × (part_of s.pass ≡ Some (share (made q calls s.replies.items) 0))
    × (length s.replies.items ≡ length calls)

-- each session q is ready, or done, with the script q
abbrev pub AreScriptsReady : {Z : Type 0} → TableId → List (Vec RegisterCall Z) → List ScriptSession → Type 0
AreScriptsReady lock scripts ss = (q : ℕ) (d : ScriptSession) → q < length ss → IsScriptReady lock (items_at scripts q) q (slice_index_or ss q d)

abbrev pub AreScriptsDone : {Z : Type 0} → TableId → List (Vec RegisterCall Z) → List ScriptSession → Type 0
AreScriptsDone lock scripts ss = (q : ℕ) (d : ScriptSession) → q < length ss → IsScriptDone lock (items_at scripts q) q (slice_index_or ss q d)
