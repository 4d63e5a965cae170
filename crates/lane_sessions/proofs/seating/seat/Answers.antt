use Rattle.std.proofs.Common.{◌≡◌, ◌<◌, ◌+◌, ℕ, suc, [], ◌∷◌, ◌++◌, length, length-append, get_or, append_assoc, sym, ap, ◌∙◌, subst, arith}
use Rattle.turn_lock.specs.Passes.{number_of}
use Rattle.turn_lock.proofs.Places.{at_seam}
use Rattle.lane_sessions.specs.declared.making.SessionLimits.{SessionLimits}
use Rattle.lane_sessions.specs.Making.{AreSeated, IsSeatedAt}
use Rattle.lane_sessions.proofs.Sessions.{default_same, seated_push}
use Rattle.lane_sessions.proofs.seating.seat.Goals as goal

pub loop-pass-preserved : goal.loop-pass-preserved
loop-pass-preserved c =
    let i = c.loop-pass.invariant in
    let p = c.in-Some.pass in
    let o = c.in-Some-next.passes in
    let limits = c.args.limits.now in
    let done = c.loop-pass.yielded in
    let pool = c.args.pool.items in
    let rows = c.args.rows.items in
    let behind = ap (λ r. done ++ r) (sym c.in-Some.ensures.steps.0) ∙ i.whole in
    let at = at_seam pool done c.next.new.self.rest.items p p behind in
    let sessions = c.loop-pass.sessions.items in
    let k : ℕ = length sessions in
    let lt : k < length limits = let a = at.0 in let n = c.requires.count in let m = i.count in omega (arith, m, a, n) in
    let mine : get_or pool k p ≡ p = ap (λ (q : ℕ). get_or pool q p) i.count ∙ at.1 in
    let its : number_of p ≡ k = ap (λ t. number_of t) (sym mine) ∙ c.requires.numbers k p (let a = at.0 in let m = i.count in omega (arith, m, a)) in
    let number : c.number.result ≡ k = c.number.ensures ∙ its in
    let session = c.limits_at-session.result in
    let rest = c.loop-pass.rest.rest.items in
    let rest' = c.next-in-loop-pass.new.self.rest.items in
    let head : o ∷ rest' ≡ rest = sym c.in-Some-next.ensures.items in
    let zero_on : length done + 0 ≡ k = let m = i.count in omega (arith, m) in
    let row : o ≡ get_or rows k o = ap (λ l. get_or l 0 o) head ∙ i.rows 0 o ∙ ap (λ (q : ℕ). get_or rows q o) zero_on in
    let lt_rows : k < length rows = let n = c.requires.rows in omega (arith, lt, n) in
    let s = c.session_of.ensures in
    let new : IsSeatedAt session p o c.session_of.result = record { number = s.number; passes = ap (λ v. v.items) s.passes; pool_is = s.pool; left = s.left; call = s.call; kept = s.kept } in
    let items = c.in_ok-push.ensures.items in
    let longer = length-append done (p ∷ []) in
    record {
      whole = append_assoc done (p ∷ []) c.next.new.self.rest.items ∙ behind;
      count = let a = ap length items in let b = length-append sessions (c.session_of.result ∷ []) in let m = i.count in omega (arith, a, b, longer, m);
      behind = let a = ap (λ l. length l) head in let m = i.behind in omega (arith, a, longer, m);
      rows = λ n d. ap (λ l. get_or l (suc n) d) head ∙ i.rows (suc n) d ∙ ap (λ (q : ℕ). get_or rows q d) (omega (arith, longer));
      seated = subst (λ l. AreSeated limits pool rows l) (sym items) (seated_push limits pool rows sessions c.session_of.result i.seated (λ l t r.
          subst (λ (x : SessionLimits). IsSeatedAt x (get_or pool k t) (get_or rows k r) c.session_of.result) (c.limits_at-session.ensures l ∙ ap (λ (q : ℕ). get_or limits q l) number)
          (subst (λ t. IsSeatedAt session t (get_or rows k r) c.session_of.result) (sym mine ∙ default_same pool k p t (let a = at.0 in let m = i.count in omega (arith, m, a)))
          (subst (λ r. IsSeatedAt session p r c.session_of.result) (row ∙ default_same rows k o r lt_rows) new))));
    }
