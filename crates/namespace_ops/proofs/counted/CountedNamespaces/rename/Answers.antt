use Rattle.std.proofs.Common.{sym, ◌∙◌}
use Rattle.namespace_map.specs.declared.commands.Command.TheVariants as command
use Rattle.namespace_areas.specs.Refusals.{shown}
use Rattle.namespace_ops.specs.Counting.{state_in}
use Rattle.namespace_ops.proofs.Answers.{rename_answered}
use Rattle.namespace_ops.proofs.Findings.{carried_memory, rename_finding}
use Rattle.namespace_ops.proofs.counted.CountedNamespaces.rename.Goals as goal

pub returns-clause-answered : goal.returns-clause-answered
returns-clause-answered c =
    rename_answered (state_in c.args.self.now) c.rename.new.self c.args.fuse.now c.rename.new.fuse c.args.uuid.now c.args.name.now c.rename.result (sym c.is_off.ensures ∙ c.if-is_off.false)
    c.rename.ensures.carried c.rename.ensures.unchanged c.rename.ensures.done c.rename.ensures.sets c.rename.ensures.stopped

pub returns-clause-memory : goal.returns-clause-memory
returns-clause-memory c =
    let h = c.args.self.now.store in
    carried_memory h.sets h.areas c.rename.new.self.areas c.args.fuse.now c.rename.new.fuse (command.Rename c.args.uuid.now c.args.name.now) c.rename.result (rename_finding (shown h.sets h.areas) c.args.uuid.now c.args.name.now) c.rename.ensures.carried
