use Rattle.std.proofs.Common.{ℕ, List, Option, Some, ◌≡◌, subst}
use Rattle.session_account.specs.declared.reply.Reply.{Reply}
use Rattle.registry_service.specs.Asking.{IsAsked, told_as}
use Rattle.registry_service.specs.Parts.{IsOrdered}
use Rattle.registry_service.specs.Served.{part_at}
use Rattle.registry_service.proofs.Asked.{command_ordered, ok_goes}
use Rattle.registry_service.proofs.served.ServedRegistry.order.Goals as goal

pub returns-in-Ok-clause-ordered : goal.returns-in-Ok-clause-ordered
returns-in-Ok-clause-ordered c =
    let asked = subst (λ (h : Option (List ℕ)). IsAsked h c.args.order.now c.in-Ok.command) c.held_by.ensures c.in-Ok.ensures.command in
    ok_goes c.told.result (λ (r : Reply). told_as c.carry_out.result ≡ Some r)
    (λ (r : Reply). IsOrdered c.args.tag.session c.args.tag.call c.args.order.now r (part_at c.args.self.now c.args.tag.session) (part_at c.carry_out.new.self c.args.tag.session))
    c.told.ensures.told
    (λ r is. command_ordered c.args.tag c.args.order.now (part_at c.args.self.now c.args.tag.session) c.requires.room c.in-Ok.command c.carry_out.result r (part_at c.carry_out.new.self c.args.tag.session) asked is c.carry_out.ensures.own c.carry_out.ensures.cause)
