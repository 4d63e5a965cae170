use Rattle.std.proofs.Common.{◌≡◌, ◌∙◌, List, length, is_ok, sym, ap, subst, arith}
use Rattle.std.specs.List.{AllByRecursion}
use Rattle.std.specs.Str.{bytes_eq}
use Rattle.label_set.specs.declared.placed.Placed.{Placed}
use Rattle.namespace_map.specs.Namespaces.{uuid_of}
use Rattle.namespace_map.specs.Areas.{Change}
use Rattle.namespace_areas.specs.Seen.{areas_seen}
use Rattle.namespace_areas.specs.Went.{CanMake, PutsSound, Went}
use Rattle.namespace_ops.specs.Carried.{first_round}
use Rattle.namespace_ops.specs.Plans.{first_of}
use Rattle.namespace_ops.proofs.CanPlan.{short_filter}
use Rattle.namespace_ops.proofs.Rounds.{first_can, first_is, first_sound}
use Rattle.namespace_ops.proofs.changing.settle_first.Goals as goal

pub plan_first-requires-clause-own : goal.plan_first-requires-clause-own
plan_first-requires-clause-own c =
    let short = short_filter (λ p. bytes_eq (uuid_of p) c.args.uuid.now) c.args.groups.now.sorted in
    omega (arith, ap (λ (ps : List Placed). length ps) c.group.ensures, short, c.requires.work.room.for_own, c.requires.work.current.few)

pub plan_first-requires-clause-room : goal.plan_first-requires-clause-room
plan_first-requires-clause-room c =
    let short = short_filter (λ p. bytes_eq (uuid_of p) c.args.uuid.now) c.args.groups.now.sorted in
    omega (arith, ap (λ (ps : List Placed). length ps) c.group.ensures, short, c.requires.work.room.for_changes, c.requires.work.current.few)

pub carry_out-requires-clause-can : goal.carry_out-requires-clause-can
carry_out-requires-clause-can c =
    let are : c.deref.result.now ≡ first_round c.args.sets.now (areas_seen c.args.areas.now) c.args.uuid.now =
    c.deref.ensures.value ∙ c.plan_first.ensures.items ∙ ap (first_of c.args.sets.now (areas_seen c.args.areas.now)) c.group.ensures
    ∙ first_is c.args.sets.now c.args.areas.now c.requires.work.current.held c.args.groups.now.sorted c.requires.work.current.same c.args.uuid.now in
    subst (CanMake (areas_seen c.args.areas.now)) (sym are) (first_can c.args.sets.now (areas_seen c.args.areas.now) c.args.uuid.now)

pub carry_out-requires-clause-sound : goal.carry_out-requires-clause-sound
carry_out-requires-clause-sound c =
    let are : c.deref.result.now ≡ first_round c.args.sets.now (areas_seen c.args.areas.now) c.args.uuid.now =
    c.deref.ensures.value ∙ c.plan_first.ensures.items ∙ ap (first_of c.args.sets.now (areas_seen c.args.areas.now)) c.group.ensures
    ∙ first_is c.args.sets.now c.args.areas.now c.requires.work.current.held c.args.groups.now.sorted c.requires.work.current.same c.args.uuid.now in
    subst (AllByRecursion PutsSound) (sym are) (first_sound c.args.sets.now c.args.areas.now c.args.uuid.now)

pub returns-clause-went : goal.returns-clause-went
returns-clause-went c =
    let are : c.deref.result.now ≡ first_round c.args.sets.now (areas_seen c.args.areas.now) c.args.uuid.now =
    c.deref.ensures.value ∙ c.plan_first.ensures.items ∙ ap (first_of c.args.sets.now (areas_seen c.args.areas.now)) c.group.ensures
    ∙ first_is c.args.sets.now c.args.areas.now c.requires.work.current.held c.args.groups.now.sorted c.requires.work.current.same c.args.uuid.now in
    subst (λ (cs : List Change). Went c.args.areas.now c.carry_out.new.areas c.args.fuse.now c.carry_out.new.fuse cs (is_ok c.carry_out.result)) are c.carry_out.ensures.went
