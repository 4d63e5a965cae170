use Rattle.namespace_map.specs.Commands.{create_refusal}
use Rattle.namespace_areas.specs.Refusals.{shown}
use Rattle.std.specs.List.{AllByRecursion}
use Rattle.namespace_areas.specs.Seen.{areas_seen}
use Rattle.namespace_areas.specs.Went.{CanMake, PutsSound, Went}
use Rattle.namespace_map.specs.Areas.{Change}
use Rattle.std.proofs.Common.{List, is_ok, subst, sym, ◌∙◌}
use Rattle.namespace_ops.proofs.Agreed.{create_done}
use Rattle.namespace_ops.proofs.CanPlan.{no_refusal}
use Rattle.namespace_ops.proofs.Creates.{planned_can, planned_sound}
use Rattle.namespace_ops.proofs.creating.create.Goals as goal

pub carry_out-requires-clause-can : goal.carry_out-requires-clause-can
carry_out-requires-clause-can c =
    subst (λ (cs : List Change). CanMake (areas_seen c.args.areas.now) cs) (sym c.deref.ensures.value) (planned_can c.args.sets.now c.args.areas.now c.args.spec.now c.requires.regions c.args.new.now c.requires.planned)

pub carry_out-requires-clause-sound : goal.carry_out-requires-clause-sound
carry_out-requires-clause-sound c =
    subst (λ (cs : List Change). AllByRecursion PutsSound cs) (sym c.deref.ensures.value) (planned_sound c.args.sets.now c.args.areas.now c.args.spec.now c.requires.regions c.args.new.now c.requires.planned c.requires.name)

pub returns-clause-carried : goal.returns-clause-carried
returns-clause-carried c = record {
  refused = λ f some. absurd (no_refusal (create_refusal (shown c.args.sets.now c.args.areas.now) c.args.spec.now) f (sym c.requires.planned.allowed) some);
  went = λ _. subst (λ (cs : List Change). Went c.args.areas.now c.carry_out.new.areas c.args.fuse.now c.carry_out.new.fuse cs (is_ok c.carry_out.result)) (c.deref.ensures.value ∙ c.requires.planned.changes) c.carry_out.ensures.went;
  cut = λ _. c.carry_out.ensures.cut;
}

pub returns-clause-done : goal.returns-clause-done
returns-clause-done c =
    create_done c.args.sets.now c.args.areas.now c.carry_out.new.areas c.args.fuse.now c.carry_out.new.fuse c.args.spec.now c.requires.regions c.carry_out.result (λ _. returns-clause-carried c)
