use Rattle.std.proofs.Common.{List, is_ok, sym, ◌∙◌, subst}
use Rattle.std.specs.List.{AllByRecursion}
use Rattle.namespace_map.specs.Areas.{Change}
use Rattle.namespace_areas.specs.Seen.{areas_seen}
use Rattle.namespace_areas.specs.Went.{CanMake, PutsSound, Went}
use Rattle.namespace_ops.proofs.Rounds.{settling_is, settling_can, settling_sound}
use Rattle.namespace_ops.proofs.recovering.settle_pending.Goals as goal

pub make_all-requires-clause-can : goal.make_all-requires-clause-can
make_all-requires-clause-can c =
    let is = c.deref.ensures.value ∙ c.plan_settlings.ensures.items ∙ settling_is c.args.regions.now c.args.areas.now c.requires.current.held c.args.groups.now.sorted c.requires.current.same in
    subst (CanMake (areas_seen c.args.areas.now)) (sym is) (settling_can c.args.regions.now (areas_seen c.args.areas.now))

pub make_all-requires-clause-sound : goal.make_all-requires-clause-sound
make_all-requires-clause-sound c =
    let is = c.deref.ensures.value ∙ c.plan_settlings.ensures.items ∙ settling_is c.args.regions.now c.args.areas.now c.requires.current.held c.args.groups.now.sorted c.requires.current.same in
    subst (AllByRecursion PutsSound) (sym is) (settling_sound c.args.regions.now c.args.areas.now)

pub returns-clause-went : goal.returns-clause-went
returns-clause-went c =
    let is = c.deref.ensures.value ∙ c.plan_settlings.ensures.items ∙ settling_is c.args.regions.now c.args.areas.now c.requires.current.held c.args.groups.now.sorted c.requires.current.same in
    subst (λ (cs : List Change). Went c.args.areas.now c.make_all.new.areas c.args.fuse.now c.make_all.new.fuse cs (is_ok c.make_all.result)) is c.make_all.ensures.went
