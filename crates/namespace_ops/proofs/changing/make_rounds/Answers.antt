use Rattle.std.proofs.Common.{◌≡◌, ◌∙◌, List, length, is_ok, sym, ap, subst, arith}
use Rattle.std.specs.List.{AllByRecursion}
use Rattle.std.specs.Str.{bytes_eq}
use Rattle.label_set.specs.declared.placed.Placed.{Placed}
use Rattle.namespace_map.specs.Namespaces.{uuid_of}
use Rattle.namespace_map.specs.Areas.{Change}
use Rattle.namespace_areas.specs.Seen.{areas_seen}
use Rattle.namespace_areas.specs.Went.{CanMake, PutsSound, Went}
use Rattle.namespace_ops.specs.Carried.{rounds}
use Rattle.namespace_ops.proofs.CanPlan.{length_ordered, opened, rounds_are, short_filter}
use Rattle.namespace_ops.proofs.changing.make_rounds.Goals as goal

pub order-requires : goal.order-requires
order-requires c =
    let short = short_filter (λ p. bytes_eq (uuid_of p) c.args.uuid.now) c.args.groups.now.sorted in
    record { room = omega (arith, ap (λ (ps : List Placed). length ps) c.group.ensures, short, c.requires.work.room.for_own, c.requires.work.current.few) }

pub plan-requires : goal.plan-requires
plan-requires c =
    let short = short_filter (λ p. bytes_eq (uuid_of p) c.args.uuid.now) c.args.groups.now.sorted in
    let own : length c.deref.result.now ≡ length c.group.result.now = ap (λ (ps : List Placed). length ps) (c.deref.ensures.value ∙ c.order.ensures.items) ∙ length_ordered c.group.result.now in
    record { room = omega (arith, own, ap (λ (ps : List Placed). length ps) c.group.ensures, short, c.requires.work.room.for_changes, c.requires.work.current.few) }

pub carry_out-requires-clause-can : goal.carry_out-requires-clause-can
carry_out-requires-clause-can c =
    let are : c.deref-2.result.now ≡ rounds c.args.first.now c.args.second.now (areas_seen c.args.areas.now) c.args.uuid.now =
    rounds_are c.args.areas.now c.args.groups.now (opened c.args.areas.now c.args.groups.now c.requires.few c.requires.work.current) c.args.uuid.now c.args.first.now c.args.second.now c.group.result.now c.deref.result.now c.deref-2.result.now c.group.ensures
    (c.deref.ensures.value ∙ c.order.ensures.items) (c.deref-2.ensures.value ∙ c.plan.ensures.items) in
    subst (λ (cs : List Change). CanMake (areas_seen c.args.areas.now) cs) (sym are) c.requires.can

pub carry_out-requires-clause-sound : goal.carry_out-requires-clause-sound
carry_out-requires-clause-sound c =
    let are : c.deref-2.result.now ≡ rounds c.args.first.now c.args.second.now (areas_seen c.args.areas.now) c.args.uuid.now =
    rounds_are c.args.areas.now c.args.groups.now (opened c.args.areas.now c.args.groups.now c.requires.few c.requires.work.current) c.args.uuid.now c.args.first.now c.args.second.now c.group.result.now c.deref.result.now c.deref-2.result.now c.group.ensures
    (c.deref.ensures.value ∙ c.order.ensures.items) (c.deref-2.ensures.value ∙ c.plan.ensures.items) in
    subst (λ (cs : List Change). AllByRecursion PutsSound cs) (sym are) c.requires.sound

pub returns-clause-went : goal.returns-clause-went
returns-clause-went c =
    let are : c.deref-2.result.now ≡ rounds c.args.first.now c.args.second.now (areas_seen c.args.areas.now) c.args.uuid.now =
    rounds_are c.args.areas.now c.args.groups.now (opened c.args.areas.now c.args.groups.now c.requires.few c.requires.work.current) c.args.uuid.now c.args.first.now c.args.second.now c.group.result.now c.deref.result.now c.deref-2.result.now c.group.ensures
    (c.deref.ensures.value ∙ c.order.ensures.items) (c.deref-2.ensures.value ∙ c.plan.ensures.items) in
    subst (λ (cs : List Change). Went c.args.areas.now c.carry_out.new.areas c.args.fuse.now c.carry_out.new.fuse cs (is_ok c.carry_out.result)) are c.carry_out.ensures.went
