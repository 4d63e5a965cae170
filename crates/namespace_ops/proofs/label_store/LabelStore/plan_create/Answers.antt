use Rattle.std.proofs.Common.{◌∙◌, ap, sym}
use Rattle.namespace_map.specs.declared.commands.Command.TheVariants as command
use Rattle.namespace_ops.specs.Held.{Held}
use Rattle.namespace_ops.proofs.Findings.{refused_as}
use Rattle.namespace_ops.proofs.label_store.LabelStore.plan_create.Goals as goal

pub returns-clause-refused : goal.returns-clause-refused
returns-clause-refused c = λ f is other.
    refused_as (command.Create c.args.spec.now) c.args.self.now.sets c.as_slice.result.now c.args.self.now.areas c.deref.result.now f (sym (c.as_slice.ensures ∙ ap (λ (h : Held). h.sets) c.self.view_is))
    (sym (c.deref.ensures.value ∙ ap (λ (h : Held). h.areas) c.self.view_is)) (c.plan_create.ensures.refused f is other)
