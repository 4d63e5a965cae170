use Rattle.std.proofs.Common.{◌≡◌, ◌∙◌, ◌++◌, length, take, drop, ap, arith}
use Rattle.namespace_map.specs.declared.commands.Command.TheVariants as command
use Rattle.namespace_ops.specs.Held.{Held}
use Rattle.namespace_ops.proofs.Agreed.{done_as, whole_front}
use Rattle.namespace_ops.proofs.Creates.{planned_as}
use Rattle.namespace_ops.proofs.label_store.LabelStore.create_planned.Goals as goal

pub create-created-requires-clause-planned : goal.create-created-requires-clause-planned
create-created-requires-clause-planned c =
    planned_as c.as_slice.result.now c.args.self.now.sets c.deref_mut.result.now c.args.self.now.areas c.args.spec.now c.args.new.now (c.as_slice.ensures ∙ ap (λ (h : Held). h.sets) c.self.view_is)
    (c.deref_mut.ensures.value ∙ ap (λ (h : Held). h.areas) c.self.view_is) c.requires.planned

pub returns-clause-done : goal.returns-clause-done
returns-clause-done c =
    let new : c.create-created.new.areas ≡ take c.self.inside.areas.len (c.create-created.new.areas ++ drop (length c.create-created.new.areas) c.self.inside.areas.items) =
    whole_front c.self.inside.areas.len c.create-created.new.areas (drop (length c.create-created.new.areas) c.self.inside.areas.items) (omega (arith, c.create-created.auto.areas, c.deref_mut.ensures.len)) in
    done_as (command.Create c.args.spec.now) c.as_slice.result.now c.self.inside.sets c.args.self.now.sets c.deref_mut.result.now c.args.self.now.areas c.create-created.new.areas _
    c.create-created.result c.as_slice.ensures (c.as_slice.ensures ∙ ap (λ (h : Held). h.sets) c.self.view_is) (c.deref_mut.ensures.value ∙ ap (λ (h : Held). h.areas) c.self.view_is) new c.create-created.ensures.done
