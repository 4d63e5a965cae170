use Rattle.std.proofs.Common.{List, is_ok, sym, ◌∙◌, subst}
use Rattle.std.specs.List.{AllByRecursion}
use Rattle.namespace_map.specs.Areas.{Change}
use Rattle.namespace_areas.specs.Seen.{areas_seen}
use Rattle.namespace_areas.specs.Went.{CanMake, PutsSound, Went}
use Rattle.namespace_ops.proofs.Rounds.{gone_is, gone_can, gone_sound}
use Rattle.namespace_ops.proofs.recovering.remove_unfinished.Goals as goal

pub make_all-requires-clause-can : goal.make_all-requires-clause-can
make_all-requires-clause-can c =
    let is = c.deref.ensures.value ∙ c.plan_removals.ensures.items ∙ gone_is c.args.regions.now c.args.areas.now c.requires.current.held c.args.groups.now.sorted c.requires.current.same in
    subst (CanMake (areas_seen c.args.areas.now)) (sym is) (gone_can c.args.regions.now (areas_seen c.args.areas.now))

pub make_all-requires-clause-sound : goal.make_all-requires-clause-sound
make_all-requires-clause-sound c =
    let is = c.deref.ensures.value ∙ c.plan_removals.ensures.items ∙ gone_is c.args.regions.now c.args.areas.now c.requires.current.held c.args.groups.now.sorted c.requires.current.same in
    subst (AllByRecursion PutsSound) (sym is) (gone_sound c.args.regions.now (areas_seen c.args.areas.now))

pub returns-clause-went : goal.returns-clause-went
returns-clause-went c =
    let is = c.deref.ensures.value ∙ c.plan_removals.ensures.items ∙ gone_is c.args.regions.now c.args.areas.now c.requires.current.held c.args.groups.now.sorted c.requires.current.same in
    subst (λ (cs : List Change). Went c.args.areas.now c.make_all.new.areas c.args.fuse.now c.make_all.new.fuse cs (is_ok c.make_all.result)) is c.make_all.ensures.went
