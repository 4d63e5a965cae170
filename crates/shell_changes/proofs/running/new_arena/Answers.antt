use Rattle.std.proofs.Common.{◌≡◌, ◌∙◌, ◌/◌, ℕ, List, Option, Some, ap, sym, subst}
use Rattle.nfit_reader.specs.declared.table.Mapping.{Mapping}
use Rattle.namespace_map.specs.declared.commands.CreateSpec.{CreateSpec}
use Rattle.namespace_areas.specs.declared.area.Area.{Area}
use Rattle.namespace_areas.specs.Refusals.{shown}
use Rattle.namespace_map.specs.declared.commands.Command.{Command}
use Rattle.namespace_map.specs.declared.commands.Command.TheVariants.{Create}
use Rattle.namespace_ops.specs.declared.formatter.Begun.{Begun}
use Rattle.shell_changes.specs.Going.{Begins, IsCounted}
use Rattle.shell_changes.specs.Work.{arena_of}
use Rattle.shell_changes.proofs.Counted.{begins_some, can_put, region_there}
use Rattle.shell_changes.proofs.running.new_arena.Goals as goal

counted_as : (sets : List (List Mapping)) (areas : List Area) (fuse : Option ℕ) (c : Command) (spec : CreateSpec) (o : Option Begun) (b : Begun) → c ≡ Create spec → o ≡ Some b → IsCounted sets areas c fuse o → IsCounted sets areas (Create spec) fuse (Some b)
counted_as sets areas fuse c spec o b is some it = subst (λ (x : Command). IsCounted sets areas x fuse (Some b)) is (subst (λ (y : Option Begun). IsCounted sets areas c fuse y) some it)

pub set_of-set-requires : goal.set_of-set-requires
set_of-set-requires c =
    region_there c.args.sets c.requires.0 c.in-Create.spec c.requires.1 c.in_ok-begun.begun
    (counted_as c.args.sets c.requires.0 c.requires.1 c.args.change.now c.in-Create.spec c.args.begun c.in_ok-begun.begun c.in-Create.is c.in_ok-begun.was c.requires.2)

pub returns-in-Create-clause-begins : goal.returns-in-Create-clause-begins
returns-in-Create-clause-begins c = λ areas fuse counted none.
    subst (λ (x : Command). Begins c.args.sets (arena_of (shown c.args.sets areas) x) fuse
    (Some (record { set = c.set_of-set.result; offset = c.in_ok-begun.begun.offset; raw = c.in-Create.spec.size / c.from.result; layout = c.in_ok-begun.begun.layout; uuid = c.in-Create.spec.uuid; steps = c.in_ok-begun.begun.steps }))) (sym c.in-Create.is)
    (begins_some c.args.sets areas c.in-Create.spec fuse c.in_ok-begun.begun
    (counted_as c.args.sets areas fuse c.args.change.now c.in-Create.spec c.args.begun c.in_ok-begun.begun c.in-Create.is c.in_ok-begun.was counted)
    c.set_of-set.result (c.in-Create.spec.size / c.from.result) c.set_of-set.ensures (ap (λ (w : ℕ). c.in-Create.spec.size / w) (c.from.ensures ∙ c.ways.ensures.ways)))

pub returns-in-Create-clause-can : goal.returns-in-Create-clause-can
returns-in-Create-clause-can c =
    can_put c.args.sets c.requires.0 c.in-Create.spec c.requires.1 c.in_ok-begun.begun
    (counted_as c.args.sets c.requires.0 c.requires.1 c.args.change.now c.in-Create.spec c.args.begun c.in_ok-begun.begun c.in-Create.is c.in_ok-begun.was c.requires.2)
    c.set_of-set.result (c.in-Create.spec.size / c.from.result) c.set_of-set.ensures (ap (λ (w : ℕ). c.in-Create.spec.size / w) (c.from.ensures ∙ c.ways.ensures.ways))
