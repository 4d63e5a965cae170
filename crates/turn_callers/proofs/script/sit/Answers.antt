use Rattle.std.proofs.Common.{◌≡◌, ◌≤◌, ◌<◌, ℕ, [], ◌∷◌, ◌++◌, length, length-append, get_or, append_assoc, vec_len, vec_capacity, sym, ap, ◌∙◌, subst, arith}
use Rattle.turn_lock.specs.Passes.{lock_id, first_of, IsFresh}
use Rattle.turn_callers.specs.declared.script.ScriptSession.{ScriptSession}
use Rattle.turn_lock.specs.Rows.{items_at}
use Rattle.turn_callers.specs.Scripts.{AreScriptsReady}
use Rattle.turn_lock.proofs.Places.{items_at_is, at_seam}
use Rattle.turn_callers.proofs.Ready.{fresh_ready, ready_push}
use Rattle.turn_callers.proofs.script.sit.Goals as goal

pub loop-pass-preserved : goal.loop-pass-preserved
loop-pass-preserved c =
    let i = c.loop-pass.invariant in
    let p = c.in-Some.pass in
    let lock = lock_id c.args.turn.now in
    let first = first_of c.args.turn.now in
    let scripts = c.args.scripts.now in
    let behind = ap (λ r. c.loop-pass.yielded ++ r) (sym c.in-Some.ensures.steps.0) ∙ i.rest in
    let at = at_seam c.args.passes.items c.loop-pass.yielded c.next.new.self.rest.items p p behind in
    let sessions = c.loop-pass.sessions.items in
    let k : ℕ = length sessions in
    let s : ScriptSession = record { pass = p; replies = c.in_ok-replies.replies } in
    let items = c.in_ok-push.ensures.items in
    let fresh : IsFresh lock first (length c.loop-pass.yielded) p = subst (λ x. IsFresh lock first (length c.loop-pass.yielded) x) at.1 (c.requires.fresh (length c.loop-pass.yielded) p at.0) in
    let fresh_here : IsFresh lock first k p = subst (λ (q : ℕ). IsFresh lock first q p) (sym i.count) fresh in
    let number : c.number-number.result ≡ k = c.number-number.ensures ∙ fresh_here.1 in
    let inside : k < length scripts = omega (arith, i.count, at.0, c.requires.count) in
    let script = c.index-scripts-number.result in
    let read : script ≡ get_or scripts k script = c.index-scripts-number.is ∙ ap (λ (q : ℕ). get_or scripts q script) number in
    let long : length (items_at scripts k) ≡ vec_len script = ap length (items_at_is scripts k script inside) ∙ ap (λ v. length v.items) (sym read) ∙ sym script.ok.0 in
    let room : length (items_at scripts k) ≤ vec_capacity c.in_ok-replies.replies = omega (arith, long, c.len.ensures, c.in_ok-replies.ensures.capacity) in
    record {
      rest = append_assoc c.loop-pass.yielded (p ∷ []) c.next.new.self.rest.items ∙ behind;
      count = omega (arith, ap length items, length-append sessions (s ∷ []), length-append c.loop-pass.yielded (p ∷ []), i.count);
      ready = subst (λ l. AreScriptsReady lock scripts l) (sym items) (ready_push lock scripts sessions s i.ready (fresh_ready lock first scripts k s c.requires.first.0 c.requires.first.1 fresh_here c.in_ok-replies.ensures.items room));
    }
