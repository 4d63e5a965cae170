use Rattle.std.proofs.Common.{◌≡◌, ◌<◌, ◌+◌, ℕ, suc, [], ◌∷◌, ◌++◌, length, length-append, get_or, append_assoc, sym, ap, ◌∙◌, subst, arith}
use Rattle.turn_lock.proofs.Places.{at_seam}
use Rattle.session_service.specs.Seated.{AreSeated, IsSeatedAt}
use Rattle.session_service.proofs.Seating.{default_same, seated_push}
use Rattle.session_service.proofs.seats.seat.Goals as goal

pub loop-session-preserved : goal.loop-session-preserved
loop-session-preserved c =
    let i = c.loop-session.invariant in
    let s = c.in-Some.session in
    let o = c.in-Some-next.pass in
    let sessions = c.args.sessions.items in
    let orders = c.args.orders.items in
    let done = c.loop-session.yielded in
    let behind = ap (λ r. done ++ r) (sym c.in-Some.ensures.steps.0) ∙ i.whole in
    let at = at_seam sessions done c.next.new.self.rest.items s s behind in
    let runners = c.loop-session.runners.items in
    let k : ℕ = length runners in
    let lt_sessions : k < length sessions = let a = at.0 in let m = i.count in omega (arith, a, m) in
    let lt_orders : k < length orders = let n = c.requires in omega (arith, lt_sessions, n) in
    let mine : s ≡ get_or sessions k s = sym (ap (λ (q : ℕ). get_or sessions q s) i.count ∙ at.1) in
    let rest = c.loop-session.rest.rest.items in
    let rest' = c.next-in-loop-session.new.self.rest.items in
    let head : o ∷ rest' ≡ rest = sym c.in-Some-next.ensures.items in
    let zero_on : length done + 0 ≡ k = let m = i.count in omega (arith, m) in
    let its : o ≡ get_or orders k o = ap (λ l. get_or l 0 o) head ∙ i.orders 0 o ∙ ap (λ (q : ℕ). get_or orders q o) zero_on in
    let r = c.stool.result in
    let new : IsSeatedAt s o r = c.stool.ensures in
    let items = c.in_ok-push.ensures.items in
    let longer = length-append done (s ∷ []) in
    record {
      whole = append_assoc done (s ∷ []) c.next.new.self.rest.items ∙ behind;
      count = let a = ap length items in let b = length-append runners (r ∷ []) in let m = i.count in omega (arith, a, b, longer, m);
      behind = let a = ap (λ l. length l) head in let m = i.behind in omega (arith, a, longer, m);
      orders = λ n d. ap (λ l. get_or l (suc n) d) head ∙ i.orders (suc n) d ∙ ap (λ (q : ℕ). get_or orders q d) (omega (arith, longer));
      seated = subst (λ l. AreSeated sessions orders l) (sym items) (seated_push sessions orders runners r i.seated (λ t p.
          subst (λ x. IsSeatedAt x (get_or orders k p) r) (mine ∙ default_same sessions k s t lt_sessions)
          (subst (λ x. IsSeatedAt s x r) (its ∙ default_same orders k o p lt_orders) new)));
    }
