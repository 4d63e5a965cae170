use Rattle.std.proofs.Common.{refl, sym, ap, subst}
use Rattle.namespace_map.specs.declared.commands.Command.{Command}
use Rattle.namespace_ops.specs.Counted.{Answered, makes_sectors}
use Rattle.namespace_ops.proofs.Answers.{same_formats}
use Rattle.namespace_ops.specs.Counting.{state_in}
use Rattle.namespace_ops.proofs.counted.CountedNamespaces.carry_out.Goals as goal

pub returns-in-Claim-clause-answered : goal.returns-in-Claim-clause-answered
returns-in-Claim-clause-answered g c =
    subst (λ (x : Command). Answered (state_in c.args.self.now) (state_in c.claim.new.self) c.args.fuse.now c.args.fuse.now x c.claim.result) (sym c.in-Claim.is) (c.claim.ensures.answered c.args.fuse.now)

pub returns-in-Unclaim-clause-answered : goal.returns-in-Unclaim-clause-answered
returns-in-Unclaim-clause-answered g c =
    subst (λ (x : Command). Answered (state_in c.args.self.now) (state_in c.unclaim.new.self) c.args.fuse.now c.args.fuse.now x c.unclaim.result) (sym c.in-Unclaim.is) (c.unclaim.ensures.answered c.args.fuse.now)

pub returns-in-Delete-clause-formats : goal.returns-in-Delete-clause-formats
returns-in-Delete-clause-formats g c =
    same_formats g.F.Formatter.formats (state_in c.args.self.now) c.args.formatter.now c.args.formatter.now c.args.fuse.now c.args.command.now c.delete.result (ap (λ (x : Command). makes_sectors x) c.in-Delete.is) refl

pub returns-in-Rename-clause-formats : goal.returns-in-Rename-clause-formats
returns-in-Rename-clause-formats g c =
    same_formats g.F.Formatter.formats (state_in c.args.self.now) c.args.formatter.now c.args.formatter.now c.args.fuse.now c.args.command.now c.rename.result (ap (λ (x : Command). makes_sectors x) c.in-Rename.is) refl

pub returns-in-Claim-clause-formats : goal.returns-in-Claim-clause-formats
returns-in-Claim-clause-formats g c =
    same_formats g.F.Formatter.formats (state_in c.args.self.now) c.args.formatter.now c.args.formatter.now c.args.fuse.now c.args.command.now c.claim.result (ap (λ (x : Command). makes_sectors x) c.in-Claim.is) refl

pub returns-in-Unclaim-clause-formats : goal.returns-in-Unclaim-clause-formats
returns-in-Unclaim-clause-formats g c =
    same_formats g.F.Formatter.formats (state_in c.args.self.now) c.args.formatter.now c.args.formatter.now c.args.fuse.now c.args.command.now c.unclaim.result (ap (λ (x : Command). makes_sectors x) c.in-Unclaim.is) refl
