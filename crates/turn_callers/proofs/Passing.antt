-- Sessions that get one more pass, and that return one.
use Rattle.std.proofs.Common.{◌≡◌, ℕ, ◌<◌, ◌≤◌, List, [], ◌∷◌, ◌++◌, length, length-append, get_or, map, Option, Some, None, refl, sym, ap, ◌∙◌, subst, arith, le_refl}
use Rattle.std.specs.Prelude.{Vec, vec_len, vec_capacity, All, Any}
use Rattle.atomic_table.specs.Seated.{TableId}
use Rattle.turn_callers.specs.contracts.register.RegisterParted.TheImpl.{ghosts}
use Rattle.turn_lock.specs.declared.pass.TurnPass.{TurnPass}
use Rattle.turn_lock.specs.Passes.{lock_of, number_of, part_of, out_of, AreFresh}
use Rattle.turn_callers.specs.declared.register.RegisterEntry.{RegisterEntry}
use Rattle.turn_callers.specs.declared.register.Share.{Share}
use Rattle.turn_callers.specs.declared.register.Register.{Register}
use Rattle.turn_callers.specs.declared.order.ShelfOrder.{ShelfOrder}
use Rattle.turn_callers.specs.declared.session.ShelfSession.{ShelfSession}
use Rattle.turn_lock.specs.Rows.{items_at}
use Rattle.turn_callers.specs.Replay.{entries_by}
use Rattle.turn_callers.specs.Shares.{share, share_at}
use Rattle.turn_callers.specs.Orders.{made_at}
use Rattle.turn_lock.specs.Rows.{IsPassOf}
use Rattle.turn_lock.proofs.Places.{there, length_at}
use Rattle.turn_lock.proofs.Rows.{row_push, row_pop}
use Rattle.turn_callers.specs.Seats.{Has, Seats}
use Rattle.turn_callers.specs.Sessions.{AreReady, AreDone}

module _ {Z : Type 0} (locks : List TableId) (lock : TableId) (scripts : List (Vec ShelfOrder Z)) where
  -- each session gets a fresh pass of one lock more
  pub ready_next : (first : Register) (ss ss' : List ShelfSession) (ps : List (TurnPass Register Share ghosts)) → AreReady locks scripts ss → length ss' ≡ length ss → length ps ≡ length ss
      → ((q : ℕ) (d : ShelfSession) (e : TurnPass Register Share ghosts) → q < length ss → (get_or ss' q d).passes.items ≡ (get_or ss q d).passes.items ++ get_or ps q e ∷ [])
      → ((q : ℕ) (d : ShelfSession) → q < length ss → ((get_or ss' q d).number ≡ (get_or ss q d).number) × ((get_or ss' q d).replies ≡ (get_or ss q d).replies))
      → AreFresh lock first ps → first.journal.items ≡ [] → first.rooms.items ≡ map vec_len scripts → AreReady (locks ++ lock ∷ []) scripts ss'
  ready_next first ss ss' ps ready same count handed others fresh journal rooms q d h =
      let inside : q < length ss = omega arith in
      let old = ready q d inside in
      let o = others q d inside in
      let p = there ps q (omega arith) in
      let f = fresh q p.0 (omega arith) in
      let n : ℕ = length (items_at scripts q) in
      let part = ap (λ (j : List RegisterEntry). Some (share (entries_by q j) (get_or first.rooms.items q 0))) journal ∙ ap (λ (r : List ℕ). Some (share [] (get_or r q 0))) rooms ∙ ap (λ (k : ℕ). Some (share [] k)) (length_at scripts q) in
      let mine : IsPassOf lock q (Has [] n) (get_or ps q p.0) = (f.0, f.1, f.3, (share [] n, f.2 ∙ part, (refl, le_refl n))) in
      let row = row_push locks q (λ j. Has [] n) (get_or ss q d).passes.items lock (get_or ps q p.0) (subst (λ (k : ℕ). Seats locks k (λ j. []) n (get_or ss q d).passes.items) old.0 old.1.0) mine in
      let number = o.0 ∙ old.0 in (
        number,
        (
          subst (λ (k : ℕ). Seats (locks ++ lock ∷ []) k (λ j. []) n (get_or ss' q d).passes.items) (sym number) (subst (λ l. Seats (locks ++ lock ∷ []) q (λ j. []) n l) (sym (handed q d p.0 inside)) row),
          ap (λ v. v.items) o.1 ∙ old.1.1,
          subst (λ v. n ≤ vec_capacity v) (sym o.1) old.1.2,
        ),
      )

  pub have_passes : (ss : List ShelfSession) → AreDone (locks ++ lock ∷ []) scripts ss → (q : ℕ) (d : ShelfSession) → q < length ss → 0 < length (get_or ss q d).passes.items
  have_passes ss done q d h = let row = (done q d h).1.0 in omega (arith, row.count, length-append locks (lock ∷ []))

  module _ (ss ss' : List ShelfSession) (ps : List (TurnPass Register Share ghosts)) (done : AreDone (locks ++ lock ∷ []) scripts ss) (same : length ss' ≡ length ss) (count : length ps ≡ length ss)
      (taken : (q : ℕ) (d : ShelfSession) (e : TurnPass Register Share ghosts) → q < length ss → (get_or ss q d).passes.items ≡ (get_or ss' q d).passes.items ++ get_or ps q e ∷ [])
      (others : (q : ℕ) (d : ShelfSession) → q < length ss → ((get_or ss' q d).number ≡ (get_or ss q d).number) × ((get_or ss' q d).replies ≡ (get_or ss q d).replies)) where
    both : (q : ℕ) (d : ShelfSession) (e : TurnPass Register Share ghosts) → q < length ss
        → Seats locks (get_or ss q d).number (λ j. made_at (get_or ss q d).number j (items_at scripts q) (get_or ss q d).replies.items) 0 (get_or ss' q d).passes.items
        × IsPassOf lock (get_or ss q d).number (Has (made_at (get_or ss q d).number (length locks) (items_at scripts q) (get_or ss q d).replies.items) 0) (get_or ps q e)
    both q d e h =
        let s = get_or ss q d in
        row_pop locks s.number (λ j. Has (made_at s.number j (items_at scripts q) s.replies.items) 0) (get_or ss' q d).passes.items lock (get_or ps q e)
        (subst (λ l. Seats (locks ++ lock ∷ []) s.number (λ j. made_at s.number j (items_at scripts q) s.replies.items) 0 l) (taken q d e h) (done q d h).1.0)

    pub done_before : AreDone locks scripts ss'
    done_before q d h =
        let inside : q < length ss = omega arith in
        let old = done q d inside in
        let o = others q d inside in
        let p = there ps q (omega arith) in
        let row = (both q d p.0 inside).0 in (
          o.0 ∙ old.0,
          (
            subst (λ (z : ℕ × List ℕ). Seats locks z.0 (λ j. made_at z.0 j (items_at scripts q) z.1) 0 (get_or ss' q d).passes.items) (λ i. (sym o.0 i, sym (ap (λ v. v.items) o.1) i)) row,
            ap (λ v. length v.items) o.1 ∙ old.1.1,
          ),
        )

    pub all_out : All (λ p. (lock_of p ≡ lock) × (out_of p ≡ None)) ps
    all_out q e h = let s = there ss q (omega arith) in let b = (both q s.0 e (omega arith)).1 in (b.0, b.2)

    pub every_one : (q : ℕ) → q < length ss → Any (λ p. number_of p ≡ q) ps
    every_one q h = let s = there ss q h in let p = there ps q (omega arith) in
        let b = (both q s.0 p.0 h).1 in (q, p.0, omega arith, p.1, ap (λ x. number_of x) (sym p.1) ∙ b.1 ∙ (done q s.0 h).0)

    pub tied : (r : Register) → All (λ p. part_of p ≡ Some (share_at r.journal.items r.rooms.items (number_of p))) ps
        → (q : ℕ) (d : ShelfSession) → q < length ss → entries_by q r.journal.items ≡ made_at q (length locks) (items_at scripts q) (get_or ss q d).replies.items
    tied r known q d h =
        let p = there ps q (omega arith) in
        let x = get_or ps q p.0 in
        let b = (both q d p.0 h).1 in
        let number = b.1 ∙ (done q d h).0 in
        let here : Some (share_at r.journal.items r.rooms.items q) ≡ Some b.3.0 =
        ap (λ (n : ℕ). Some (share_at r.journal.items r.rooms.items n)) (sym number) ∙ sym (known q p.0 (omega arith)) ∙ b.3.1 in
        ap (entries_in (entries_by q r.journal.items)) here ∙ b.3.2.0 ∙ ap (λ (n : ℕ). made_at n (length locks) (items_at scripts q) (get_or ss q d).replies.items) (done q d h).0
      where
        entries_in : List RegisterEntry → Option Share → List RegisterEntry
        entries_in z (Some s) = s.entries
        entries_in z None = z
