use Rattle.std.proofs.Common.{◌≡◌, ◌∙◌, subst, suc}
use Rattle.turn_lock.specs.Passes.{lock_id, part_of, PartBecomes}
use Rattle.lane_table.specs.declared.lanes.Lane.{Lane}
use Rattle.lane_table.specs.declared.lanes.Staged.{Staged}
use Rattle.lane_table.specs.declared.lanes.Stopped.{Stopped}
use Rattle.lane_table.specs.Kits.{spare_in}
use Rattle.lane_pool.specs.declared.sets.PowerOff.{PowerOff}
use Rattle.lane_table.specs.Stages.{stage_steps}
use Rattle.lane_calls.specs.declared.staging.StagedOrNot.TheVariants as ended
use Rattle.lane_pool.specs.Parts.{told_of}
use Rattle.lane_calls.specs.Lanes.{IsBurnt, Pays, Stays, words_in}
use Rattle.lane_calls.proofs.Loops.{asked_off, asked_on, stage_cut_all, staged_all, tracked_all}
use Rattle.lane_calls.proofs.staging.stage_until.Goals as goal

its_staged : {a b : Staged} → ended.Staged a ≡ ended.Staged b → a ≡ b
its_staged e = cc

its_lane : {a b : Lane} {p q : PowerOff} → ended.Off a p ≡ ended.Off b q → (a ≡ b) × (p ≡ q)
its_lane e = (cc, cc)

its_stopped : {a b : Stopped} → ended.Cut a ≡ ended.Cut b → a ≡ b
its_stopped e = cc

pub returns-in-Staged-clause-staged : goal.returns-in-Staged-clause-staged
returns-in-Staged-clause-staged g c = λ s is.
    let i = c.loop.invariant in
    let r = staged_all c.args.lane c.loop.lane c.args.words.now i.same i.spare i.paid c.args.arena.now.shape c.requires.arena.1 c.in-Staged.staged c.in-Staged.ensures.stages in
    subst (λ (z : Staged). Stays c.args.lane.kit z.kit × (words_in z.kit ≡ c.args.words.now) × (spare_in c.args.lane.kit ≡ suc (spare_in z.kit)) × Pays (stage_steps c.args.arena.now.shape) c.args.lane.kit z.kit × (part_of c.loop.pass ≡ part_of c.args.pass.now))
    (its_staged is) (r.0, r.1, r.2, r.3, i.part)

pub returns-in-Some-power-clause-off : goal.returns-in-Some-power-clause-off
returns-in-Some-power-clause-off g c = λ l p is.
    let i = c.loop.invariant in
    let r = tracked_all c.args.lane c.loop.lane c.args.words.now i.same i.spare i.paid c.in-Tracked.back c.in-Tracked.reader c.in-Tracked.block c.in-Tracked.ensures.stages in
    let e = its_lane is in
    subst (λ (z : Lane × PowerOff). Stays c.args.lane.kit z.0.kit × Pays 0 c.args.lane.kit z.0.kit × PartBecomes (told_of z.1) c.args.pass.now c.power.new.pass) (λ j. (e.0 j, e.1 j))
    (r.0, r.2, asked_off (lock_id c.args.pool.now.turn) c.loop.pass c.power.new.pass c.args.pass.now i.part c.in-Some-power.off c.in-Some-power.ensures.own)

pub loop-preserved : goal.loop-preserved
loop-preserved g c =
    let i = c.loop.invariant in
    let r = tracked_all c.args.lane c.loop.lane c.args.words.now i.same i.spare i.paid c.in-Tracked.back c.in-Tracked.reader c.in-Tracked.block c.in-Tracked.ensures.stages in
    let a = asked_on (lock_id c.args.pool.now.turn) c.loop.pass c.power.new.pass i.may_ask c.power.ensures.pass c.power.ensures.outside c.in_default.ensures.own in
    record {
      same = r.0;
      spare = r.1;
      paid = r.2;
      pass = (c.power.ensures.pass.0 ∙ i.pass.0, c.power.ensures.pass.1 ∙ i.pass.1);
      may_ask = a.0;
      part = a.1 ∙ i.part;
    }

pub returns-in-Cut-clause-cut : goal.returns-in-Cut-clause-cut
returns-in-Cut-clause-cut g c = λ k is.
    let i = c.loop.invariant in
    let r = stage_cut_all c.args.lane c.loop.lane c.args.words.now i.same i.spare i.paid c.in-Cut.stopped c.in-Cut.ensures.stages in
    subst (λ (z : Stopped). Stays c.args.lane.kit z.kit × Pays 0 c.args.lane.kit z.kit × IsBurnt c.args.lane.kit z.kit × (part_of c.loop.pass ≡ part_of c.args.pass.now)) (its_stopped is) (r.0, r.1, r.2, i.part)
