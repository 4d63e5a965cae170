use Rattle.std.proofs.Common.{◌≡◌, ◌∙◌, ◌++◌, length, take, drop, sym, ap, arith}
use Rattle.namespace_map.specs.declared.commands.Command.TheVariants as command
use Rattle.namespace_areas.specs.Refusals.{shown}
use Rattle.namespace_ops.specs.Held.{Held}
use Rattle.namespace_ops.proofs.Agreed.{whole_front}
use Rattle.namespace_ops.proofs.Findings.{held_unchanged, not_cut, refused_as, rename_finding}
use Rattle.namespace_ops.proofs.label_store.LabelStore.rename.Goals as goal

pub returns-clause-unchanged : goal.returns-clause-unchanged
returns-clause-unchanged c = λ f is.
    let ns = shown c.args.self.now.sets c.args.self.now.areas in
    let sets = ap (λ (h : Held). h.sets) c.self.view_is in
    let old = c.deref_mut.ensures.value ∙ ap (λ (h : Held). h.areas) c.self.view_is in
    let was = c.rename-renamed.ensures.carried.refused f (refused_as (command.Rename c.args.uuid.now c.args.name.now) c.as_slice.result.now c.args.self.now.sets c.deref_mut.result.now c.args.self.now.areas f (c.as_slice.ensures ∙ sets) old is) in
    let front : c.rename-renamed.new.areas ≡ take c.self.inside.areas.len (c.rename-renamed.new.areas ++ drop (length c.rename-renamed.new.areas) c.self.inside.areas.items) =
    whole_front c.self.inside.areas.len c.rename-renamed.new.areas (drop (length c.rename-renamed.new.areas) c.self.inside.areas.items) (omega (arith, c.rename-renamed.auto.areas, c.deref_mut.ensures.len)) in (
      held_unchanged c.args.self.now c.self.inside.sets _ c.is_cut-self-inside.result c.rename-renamed.result f sets (sym front ∙ was.1 ∙ old) c.is_cut-self-inside.ensures was.0 (not_cut f (rename_finding ns c.args.uuid.now c.args.name.now f is)) c.requires.running,
      was.2,
    )
