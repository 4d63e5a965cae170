-- The scripts, the sessions and the passes, each by its number.
use Rattle.std.proofs.Common.{◌≡◌, ℕ, ◌≤◌, List, [], ◌∷◌, ◌++◌, length, get_or, map, Some, ap, ◌∙◌, subst}
use Rattle.std.specs.Prelude.{Vec, vec_len, vec_capacity}
use Rattle.atomic_table.specs.Seated.{TableId}
use Rattle.turn_lock.specs.Passes.{IsFresh}
use Rattle.turn_lock.proofs.Places.{each_push, length_at}
use Rattle.turn_callers.specs.declared.register.RegisterCall.{RegisterCall}
use Rattle.turn_callers.specs.declared.register.RegisterEntry.{RegisterEntry}
use Rattle.turn_callers.specs.declared.register.Register.{Register}
use Rattle.turn_callers.specs.declared.script.ScriptSession.{ScriptSession}
use Rattle.turn_lock.specs.Rows.{items_at}
use Rattle.turn_callers.specs.Replay.{entries_by}
use Rattle.turn_callers.specs.Shares.{share}
use Rattle.turn_callers.specs.Scripts.{IsScriptReady, IsScriptDone, AreScriptsReady}

pub done_same : (lock : TableId) (cs cs' : List RegisterCall) (q q' : ℕ) (s : ScriptSession) → cs ≡ cs' → q ≡ q' → IsScriptDone lock cs q s → IsScriptDone lock cs' q' s
done_same lock cs cs' q q' s c_is q_is h = subst (λ (z : List RegisterCall × ℕ). IsScriptDone lock z.0 z.1 s) (λ i. (c_is i, q_is i)) h

-- a fresh pass and an empty list with room make a session that is ready
pub fresh_ready : {Z : Type 0} (lock : TableId) (first : Register) (scripts : List (Vec RegisterCall Z)) (k : ℕ) (s : ScriptSession) → first.journal.items ≡ [] → first.rooms.items ≡ map vec_len scripts
    → IsFresh lock first k s.pass → s.replies.items ≡ [] → length (items_at scripts k) ≤ vec_capacity s.replies → IsScriptReady lock (items_at scripts k) k s
fresh_ready lock first scripts k s journal rooms fresh replies room =
    let part = ap (λ (j : List RegisterEntry). Some (share (entries_by k j) (get_or first.rooms.items k 0))) journal ∙ ap (λ (r : List ℕ). Some (share [] (get_or r k 0))) rooms ∙ ap (λ (n : ℕ). Some (share [] n)) (length_at scripts k) in
    (fresh.0, fresh.1, fresh.3, fresh.2 ∙ part, replies, room)

pub ready_push : {Z : Type 0} (lock : TableId) (scripts : List (Vec RegisterCall Z)) (ss : List ScriptSession) (s : ScriptSession) → AreScriptsReady lock scripts ss → IsScriptReady lock (items_at scripts (length ss)) (length ss) s → AreScriptsReady lock scripts (ss ++ s ∷ [])
ready_push lock scripts ss s front last = each_push (λ q s. IsScriptReady lock (items_at scripts q) q s) ss s front last
