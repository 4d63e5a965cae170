use Rattle.std.proofs.Common.{ℕ, Some, [], ◌∷◌, length, length-append, ap, sym, ◌∙◌, subst, arith}
use Rattle.turn_lock.specs.Turns.{dealt, next_pass}
use Rattle.turn_lock.specs.Passes.{AreFresh}
use Rattle.turn_lock.proofs.Keeps.{deals_as}
use Rattle.turn_lock.proofs.Fresh.{fresh_push}
use Rattle.turn_lock.proofs.dealing.deal.Goals as goal

pub split_seat-seat-requires : goal.split_seat-seat-requires
split_seat-seat-requires g c =
    let i = c.loop-number.invariant in
    let t = c.requires.table in
    (i.table ∙ t.0, omega (arith, t.1.0), deals_as _ _ _ _ _ _ _ (ap (λ m. m.0) i.dealer) (omega (arith, c.requires.callers)))

pub loop-number-preserved : goal.loop-number-preserved
loop-number-preserved g c =
    let i = c.loop-number.invariant in
    let s = c.split_seat-seat.ensures in
    let part = g.T.Parted.part in
    let items = c.in_ok-push.ensures.items in
    let n = c.new.ensures in
    let pass = s.4 ∙ ap (λ m. (next_pass part m.0, [])) i.dealer in
    record {
      table = s.0 ∙ i.table;
      dealer = s.2 ∙ ap (λ m. (dealt part m.0, m.1)) i.dealer;
      count = omega (arith, ap length items, length-append c.loop-number.passes.items (c.new.result ∷ []), i.count);
      fresh = subst (λ v. AreFresh {g = g.T.Parted} c.args.shared.now.table_id c.args.shared.now.key.value.value v) (sym items)
          (fresh_push c.args.shared.now.table_id c.args.shared.now.key.value.value c.loop-number.passes.items c.new.result i.fresh
          (n.pass.0 ∙ s.3 ∙ i.table ∙ c.requires.table.0, n.number ∙ sym i.count, n.part (part c.args.shared.now.key.value.value c.loop-number.number) pass ∙ ap (λ (q : ℕ). Some (part c.args.shared.now.key.value.value q)) (sym i.count), n.pass.1));
    }
