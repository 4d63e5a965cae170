use Rattle.std.proofs.Common.{◌≡◌, true, false, Result, Ok, Err, is_ok, refl, sym, subst}
use Rattle.std.specs.Result.{IsErr}
use Rattle.std.proofs.lemmas.Bool.{false≢true}
use Rattle.namespace_map.specs.Changes.{recovery_changes}
use Rattle.namespace_areas.specs.Seen.{areas_seen}
use Rattle.namespace_areas.specs.Went.{Went}
use Rattle.namespace_ops.specs.Plans.{gone_round}
use Rattle.namespace_ops.proofs.Recovered.{recovered_cut, recovered_both, map_on_ok}
use Rattle.namespace_ops.proofs.recovering.recover.Goals as goal

not_ok : {A E : Type 0} (r : Result A E) → IsErr r → is_ok r ≡ false
not_ok (Ok x) e = absurd (false≢true e)
not_ok (Err x) e = refl

pub returns-in_err-remove_unfinished-clause-went : goal.returns-in_err-remove_unfinished-clause-went
returns-in_err-remove_unfinished-clause-went c =
    let went : Went c.args.areas.now c.remove_unfinished.new.areas c.args.fuse.now c.remove_unfinished.new.fuse (gone_round c.args.regions.now (areas_seen c.args.areas.now)) false = c.in_err-remove_unfinished.ensures.went in
    subst (Went c.args.areas.now c.remove_unfinished.new.areas c.args.fuse.now c.remove_unfinished.new.fuse (recovery_changes c.args.regions.now (areas_seen c.args.areas.now)))
    (sym (not_ok c.from_residual.result c.from_residual.ensures.0))
    (recovered_cut c.args.regions.now c.args.areas.now c.remove_unfinished.new.areas c.args.fuse.now c.remove_unfinished.new.fuse went)

pub returns-clause-went : goal.returns-clause-went
returns-clause-went c =
    let went : Went c.args.areas.now c.remove_unfinished.new.areas c.args.fuse.now c.remove_unfinished.new.fuse (gone_round c.args.regions.now (areas_seen c.args.areas.now)) true = c.in_ok-remove_unfinished.ensures.went in
    recovered_both c.args.regions.now c.args.areas.now c.remove_unfinished.new.areas c.settle_pending.new.areas c.args.fuse.now c.remove_unfinished.new.fuse c.settle_pending.new.fuse (is_ok c.settle_pending.result)
    went c.settle_pending.ensures.went

pub returns-clause-map : goal.returns-clause-map
returns-clause-map c =
    map_on_ok c.settle_pending.result c.args.regions.now c.args.areas.now c.settle_pending.new.areas c.args.fuse.now c.settle_pending.new.fuse c.requires.regions (returns-clause-went c)
