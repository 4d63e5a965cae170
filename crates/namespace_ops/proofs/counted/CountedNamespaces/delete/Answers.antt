use Rattle.std.proofs.Common.{◌≡◌, Err, sym, ◌∙◌, arith}
use Rattle.namespace_map.specs.declared.commands.Command.TheVariants as command
use Rattle.namespace_areas.specs.Refusals.{shown}
use Rattle.namespace_ops.specs.Claims.{count_of}
use Rattle.namespace_ops.specs.Counted.{namespaces_in}
use Rattle.namespace_ops.specs.Counting.{state_in}
use Rattle.namespace_ops.proofs.Answers.{delete_answered, refused_answered}
use Rattle.namespace_ops.proofs.Findings.{carried_memory, delete_finding, not_cut, not_memory, other_reply}
use Rattle.namespace_ops.proofs.counted.CountedNamespaces.delete.Goals as goal

pub returns-then-claims-gt0-clause-answered : goal.returns-then-claims-gt0-clause-answered
returns-then-claims-gt0-clause-answered c =
    let old = state_in c.args.self.now in
    refused_answered old c.args.fuse.now (command.Delete c.args.uuid.now) c.busy.result (sym c.is_off.ensures ∙ c.if-is_off.false) c.busy.ensures
    (not_cut c.busy.result (delete_finding (namespaces_in old) c.args.uuid.now c.busy.result c.busy.ensures))

pub returns-then-claims-gt0-clause-memory : goal.returns-then-claims-gt0-clause-memory
returns-then-claims-gt0-clause-memory c = other_reply (Err c.busy.result) (not_memory c.busy.result (delete_finding (namespaces_in (state_in c.args.self.now)) c.args.uuid.now c.busy.result c.busy.ensures))

pub returns-clause-answered : goal.returns-clause-answered
returns-clause-answered c =
    let old = state_in c.args.self.now in
    let none : count_of old.claims c.args.uuid.now ≡ 0 = omega (arith, c.count-claims.ensures, c.if-claims-gt0.false) in
    delete_answered old c.delete.new.self c.args.fuse.now c.delete.new.fuse c.args.uuid.now c.delete.result (sym c.is_off.ensures ∙ c.if-is_off.false) none c.delete.ensures.carried c.delete.ensures.unchanged c.delete.ensures.done c.delete.ensures.sets c.delete.ensures.stopped

pub returns-clause-memory : goal.returns-clause-memory
returns-clause-memory c =
    let h = c.args.self.now.store in
    carried_memory h.sets h.areas c.delete.new.self.areas c.args.fuse.now c.delete.new.fuse (command.Delete c.args.uuid.now) c.delete.result (delete_finding (shown h.sets h.areas) c.args.uuid.now) c.delete.ensures.carried
