use Rattle.registry_service.proofs.Serving.{cause_so, own_so, serves_so, unclaim_held}
use Rattle.registry_service.proofs.served.ServedRegistry.carry_out.Goals as goal

pub call-answer-requires-clause-held : goal.call-answer-requires-clause-held
call-answer-requires-clause-held c = unclaim_held (record { registry = c.self.inside.registry; left = c.self.inside.fuse; first = c.self.inside.first; opens = c.self.inside.opens.items }) c.args.self.now c.self.view_is c.self.invariant c.args.tag c.args.command.now c.requires.room c.requires.suits

pub invariant_of-self : goal.invariant_of-self
invariant_of-self c =
    serves_so (record { registry = c.self.inside.registry; left = c.self.inside.fuse; first = c.self.inside.first; opens = c.self.inside.opens.items }) c.args.self.now c.self.view_is c.self.invariant c.args.tag c.args.command.now c.requires.room c.requires.suits
    c.requires.plain c.call-answer.new.registry c.call-answer.new.fuse c.call-answer.result c.held_by-held.result c.opened_by.result c.call-answer.ensures.entered c.call-answer.ensures.answered c.held_by-held.ensures c.opened_by.ensures

pub returns-clause-own : goal.returns-clause-own
returns-clause-own c =
    own_so (record { registry = c.self.inside.registry; left = c.self.inside.fuse; first = c.self.inside.first; opens = c.self.inside.opens.items }) c.args.self.now c.self.view_is c.self.invariant c.args.tag c.args.command.now c.requires.room c.requires.suits
    c.requires.plain c.call-answer.new.registry c.call-answer.new.fuse c.call-answer.result c.held_by-held.result c.opened_by.result c.call-answer.ensures.entered c.call-answer.ensures.answered c.held_by-held.ensures c.opened_by.ensures

pub returns-clause-cause : goal.returns-clause-cause
returns-clause-cause c =
    cause_so (record { registry = c.self.inside.registry; left = c.self.inside.fuse; first = c.self.inside.first; opens = c.self.inside.opens.items }) c.args.self.now c.self.view_is c.self.invariant c.args.tag c.args.command.now c.requires.room c.requires.suits
    c.requires.plain c.call-answer.new.registry c.call-answer.new.fuse c.call-answer.result c.held_by-held.result c.opened_by.result c.call-answer.ensures.entered c.call-answer.ensures.answered c.held_by-held.ensures c.opened_by.ensures
