use Rattle.std.proofs.Common.{◌≡◌, true, false, sym, ap, ◌∙◌, subst}
use Rattle.turn_lock.specs.Passes.{number_of}
use Rattle.lane_pool.specs.Parts.{IsTold}
use Rattle.session_account.specs.declared.reply.Reply.TheVariants as reply
use Rattle.session_account.specs.Made.{is_cut}
use Rattle.registry_service.specs.Switch.{IsCutShort}
use Rattle.registry_service.proofs.Cutting.{cut_in_command}
use Rattle.registry_service.proofs.orders.order.Goals as goal
use Rattle.registry_service.proofs.orders.order.Goals.{then-is_cut, else-is_cut}

pub returns-clause-cut : goal.returns-clause-cut
returns-clause-cut g c = λ is.
    let r = c.in_ok-reply.field-0.reply in
    let cut : r ≡ reply.Cut = cc in
    (elim c.if-is_cut.branch [
      | then-is_cut w ↦ subst (λ seat. IsCutShort (number_of c.args.pass.now) c.args.call c.args.order.now c.args.pass.now c.order_in_turn.new.pass c.args.seat.now seat × IsTold seat) (sym w.seat-is) (
        cut_in_command (number_of c.args.pass.now) c.args.call c.args.order.now c.args.pass.now c.order_in_turn.new.pass c.args.seat.now c.is_off.new.pass w.go_off.new.pass
            r c.in_ok-reply.field-0.labelcut w.go_off.result cut c.in_ok-reply.ensures.ordered c.in_ok-reply.ensures.labelcut c.is_off.ensures.stopped (c.is_off.ensures.on c.if-is_off.false) w.go_off.ensures.own,
        w.go_off.ensures.told,
      )
      | else-is_cut w ↦ (let e : true ≡ false = sym (ap is_cut cut) ∙ sym c.is_cut.ensures ∙ w.if-is_cut.false in absurd (cc))
    ])
