use Rattle.std.proofs.Common.{◌≡◌, ℕ, [], ◌∷◌, length, length-append, map, sym, ap, ◌∙◌, subst, arith}
use Rattle.std.specs.Prelude.{All}
use mathlib.Core.List.{map-append}
use Rattle.turn_lock.specs.Passes.{lock_id}
use Rattle.turn_lock.proofs.Places.{each_push}
use Rattle.turn_callers.specs.Sessions.{AreReady, IsNew}
use Rattle.turn_callers.proofs.Passing.{ready_next}
use Rattle.turn_callers.proofs.shelf.shelve.Goals as goal

pub loop-place-preserved : goal.loop-place-preserved
loop-place-preserved c =
    let i = c.loop-place.invariant in
    let t = c.in_ok-turn.turn in
    let of = c.in_ok-turn.ensures in
    let register = c.in_ok-register.register in
    let items = c.in_ok-push.ensures.items in
    let turns = c.loop-place.turns.items in
    let scripts = c.args.scripts.now in
    let n : ℕ = length scripts in
    let same : length c.hand_out.new.sessions ≡ length c.loop-place.sessions = omega arith in
    let count : length c.in_ok-turn.passes.items ≡ length c.loop-place.sessions = omega (arith, of.count, c.in_ok-turn.passes.ok.0, i.same) in
    let handed = c.in_ok-hand_out.ensures.passes in
    let others = c.in_ok-hand_out.ensures.others in
    let ready = ready_next (map lock_id turns) (lock_id t) scripts register c.loop-place.sessions c.hand_out.new.sessions c.in_ok-turn.passes.items i.ready same count handed others of.passes c.in_ok-register.ensures.0 c.in_ok-register.ensures.1 in
    let locks = map-append lock_id turns (t ∷ []) in
    record {
      count = omega (arith, ap length items, length-append turns (t ∷ []), i.count);
      same = omega (arith, same, i.same);
      ready = subst (λ l. AreReady (map lock_id l) scripts c.hand_out.new.sessions) (sym items) (subst (λ l. AreReady l scripts c.hand_out.new.sessions) (sym locks) ready);
      new = subst (λ l. All (IsNew n) l) (sym items) (each_push (λ k x. IsNew n x) turns t i.new (of.callers.0, ap (λ r. r.journal.items) of.callers.1 ∙ c.in_ok-register.ensures.0));
    }
