use Rattle.std.proofs.Common.{◌≡◌, ◌≤◌, ◌<◌, ℕ, [], ◌∷◌, length, length-append, vec_len, vec_capacity, refl, sym, ap, ◌∙◌, subst, arith}
use Rattle.turn_lock.proofs.Places.{each_push, items_at_is}
use Rattle.turn_callers.specs.declared.session.ShelfSession.{ShelfSession}
use Rattle.turn_lock.specs.Rows.{items_at}
use Rattle.turn_callers.specs.Sessions.{IsReady, AreReady}
use Rattle.turn_callers.proofs.seats.stools.Goals as goal

pub loop-i-preserved : goal.loop-i-preserved
loop-i-preserved c =
    let scripts = c.args.scripts.now in
    let inv = c.loop-i.invariant in
    let i : ℕ = c.loop-i.i in
    let ss = c.loop-i.sessions.items in
    let s : ShelfSession = record { number = i; passes = c.new.result; replies = c.in_ok-replies.replies } in
    let items = c.in_ok-push.ensures.items in
    let inside : i < length scripts = omega arith in
    let script = c.index-scripts-i.result in
    let long : length (items_at scripts i) ≡ vec_len script = ap length (items_at_is scripts i script inside) ∙ ap (λ v. length v.items) (sym c.index-scripts-i.is) ∙ sym script.ok.0 in
    let room : length (items_at scripts i) ≤ vec_capacity c.in_ok-replies.replies = omega (arith, long, c.len.ensures, c.in_ok-replies.ensures.capacity) in
    let ready : IsReady [] (items_at scripts i) s = (record { count = ap length c.new.ensures.items; each = λ j d e h. absurd (omega arith) }, c.in_ok-replies.ensures.items, room) in (
      omega (arith, ap length items, length-append ss (s ∷ []), inv.0),
      subst (λ l. AreReady [] scripts l) (sym items) (each_push (λ q s. (s.number ≡ q) × IsReady [] (items_at scripts q) s) ss s inv.1 (subst (λ (q : ℕ). (s.number ≡ q) × IsReady [] (items_at scripts q) s) (sym inv.0) (refl, ready))),
    )
