use Rattle.std.proofs.Common.{List, sym, subst}
use Rattle.nfit_reader.specs.declared.table.Mapping.{Mapping}
use Rattle.namespace_areas.specs.declared.area.Area.{Area}
use Rattle.shell_changes.specs.Going.{IsCounted, Runs}
use Rattle.shell_changes.proofs.running.run_command.Goals as goal

pub new_arena-begun-requires : goal.new_arena-begun-requires
new_arena-begun-requires c = (
  c.args.registry.areas,
  c.args.fuse.now,
  subst (λ (ss : List (List Mapping)). IsCounted ss c.args.registry.areas c.args.change.now c.args.fuse.now c.carry_out.new.counted.begun)
      (sym (c.into_parts-sets.ensures.sets)) (subst (λ (ss : List (List Mapping)). IsCounted ss c.args.registry.areas c.args.change.now c.args.fuse.now c.carry_out.new.counted.begun) (sym c.in_ok-reply.ensures.sets) c.in_ok-reply.ensures.counted),
)

pub returns-clause-runs : goal.returns-clause-runs
returns-clause-runs c =
    let r = c.args.registry in
    subst (λ (xs : List Area). Runs r.sets r.areas xs c.args.fuse.now c.carry_out.new.fuse c.args.change.now c.in_ok-reply.reply) (sym c.into_parts-sets.ensures.areas) c.in_ok-reply.ensures.runs
