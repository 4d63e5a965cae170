-- The sessions and the register at the end.
use Rattle.std.proofs.Common.{◌≡◌, ℕ, ◌<◌, List, length, get_or, map, Option, Some, None, sym, ap, ◌∙◌, subst, arith}
use Rattle.std.specs.Prelude.{Vec, All, Any}
use Rattle.std.proofs.lemmas.List.{length-map}
use Rattle.atomic_table.specs.Seated.{TableId}
use Rattle.turn_lock.specs.Passes.{lock_of, number_of, part_of, out_of}
use Rattle.turn_callers.specs.declared.register.RegisterCall.{RegisterCall}
use Rattle.turn_callers.specs.declared.register.RegisterEntry.{RegisterEntry}
use Rattle.turn_callers.specs.declared.register.Share.{Share}
use Rattle.turn_callers.specs.declared.register.Register.{Register}
use Rattle.turn_callers.specs.declared.script.ScriptSession.{ScriptSession}
use Rattle.turn_lock.specs.Rows.{items_at}
use Rattle.turn_callers.specs.Replay.{entries_by, made}
use Rattle.turn_callers.specs.Shares.{share, share_at}
use Rattle.turn_callers.specs.Scripts.{IsScriptDone, AreScriptsDone}
use Rattle.turn_lock.proofs.Places.{there, mapped, items_at_is}

-- the session q, which is done
session_at : {Z : Type 0} (lock : TableId) (scripts : List (Vec RegisterCall Z)) (ss : List ScriptSession) → AreScriptsDone lock scripts ss → (q : ℕ) → q < length ss
    → (s : ScriptSession) × (get_or ss q s ≡ s) × IsScriptDone lock (items_at scripts q) q s
session_at lock scripts ss done q h = let t = there ss q h in (t.0, t.1, subst (λ s. IsScriptDone lock (items_at scripts q) q s) t.1 (done q t.0 h))

module _ {Z : Type 0} (lock : TableId) (scripts : List (Vec RegisterCall Z)) (ss : List ScriptSession) (done : AreScriptsDone lock scripts ss) where
  pub all_out : All (λ p. (lock_of p ≡ lock) × (out_of p ≡ None)) (map (λ s. s.pass) ss)
  all_out k d h =
      let inside : k < length ss = omega (arith, length-map ss (λ s. s.pass)) in
      let s = session_at lock scripts ss done k inside in
      subst (λ p. (lock_of p ≡ lock) × (out_of p ≡ None)) (sym (mapped (λ s. s.pass) ss k s.0 d inside s.1)) (s.2.0, s.2.2)

  pub every_one : (q : ℕ) → q < length ss → Any (λ p. number_of p ≡ q) (map (λ s. s.pass) ss)
  every_one q h = let s = session_at lock scripts ss done q h in (q, s.0.pass, omega (arith, length-map ss (λ s. s.pass)), mapped (λ s. s.pass) ss q s.0 s.0.pass h s.1, s.2.1)

  replies_at : (q : ℕ) (s : ScriptSession) → q < length ss → get_or ss q s ≡ s → items_at (map (λ s. s.replies) ss) q ≡ s.replies.items
  replies_at q s h is = let h' : q < length (map (λ s. s.replies) ss) = omega (arith, length-map ss (λ s. s.replies)) in
      items_at_is (map (λ s. s.replies) ss) q s.replies h' ∙ ap (λ v. v.items) (mapped (λ s. s.replies) ss q s s.replies h is)

  pub answered : (q : ℕ) → q < length ss → length (items_at (map (λ s. s.replies) ss) q) ≡ length (items_at scripts q)
  answered q h = let s = session_at lock scripts ss done q h in ap length (replies_at q s.0 h s.1) ∙ s.2.4

  pub tied : (r : Register) → All (λ p. part_of p ≡ Some (share_at r.journal.items r.rooms.items (number_of p))) (map (λ s. s.pass) ss)
      → (q : ℕ) → q < length ss → entries_by q r.journal.items ≡ made q (items_at scripts q) (items_at (map (λ s. s.replies) ss) q)
  tied r known q h =
      let s = session_at lock scripts ss done q h in
      let at = known q s.0.pass (omega (arith, length-map ss (λ s. s.pass))) in
      let here : part_of s.0.pass ≡ Some (share_at r.journal.items r.rooms.items (number_of s.0.pass)) = subst (λ p. part_of p ≡ Some (share_at r.journal.items r.rooms.items (number_of p))) (mapped (λ s. s.pass) ss q s.0 s.0.pass h s.1) at in
      let same : Some (share_at r.journal.items r.rooms.items q) ≡ Some (share (made q (items_at scripts q) s.0.replies.items) 0) = ap (λ (n : ℕ). Some (share_at r.journal.items r.rooms.items n)) (sym s.2.1) ∙ sym here ∙ s.2.3 in
      ap (entries_in (entries_by q r.journal.items)) same ∙ ap (made q (items_at scripts q)) (sym (replies_at q s.0 h s.1))
    where
      entries_in : List RegisterEntry → Option Share → List RegisterEntry
      entries_in z (Some p) = p.entries
      entries_in z None = z
