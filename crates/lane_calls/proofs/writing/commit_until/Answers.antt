use Rattle.std.proofs.Common.{◌≡◌, ◌∙◌, subst}
use Rattle.turn_lock.specs.Passes.{lock_id, part_of, PartBecomes}
use Rattle.lane_table.specs.declared.lanes.Lane.{Lane}
use Rattle.lane_table.specs.declared.lanes.Staged.{Staged}
use Rattle.lane_table.specs.declared.lanes.Stopped.{Stopped}
use Rattle.lane_table.specs.Kits.{spare_in}
use Rattle.lane_pool.specs.declared.sets.PowerOff.{PowerOff}
use Rattle.lane_calls.specs.declared.writing.Committed.TheVariants as ended
use Rattle.lane_pool.specs.Parts.{told_of}
use Rattle.lane_calls.specs.Lanes.{Adds, IsBurnt, IsCutIn, Pays, Stays, words_in, write_entry}
use Rattle.lane_calls.proofs.Loops.{asked_off, asked_on, busy_all, commit_cut_all, done_all}
use Rattle.lane_calls.proofs.writing.commit_until.Goals as goal

its_done : {a b : Lane} → ended.Done a ≡ ended.Done b → a ≡ b
its_done e = cc

its_staged : {a b : Staged} {p q : PowerOff} → ended.Off a p ≡ ended.Off b q → (a ≡ b) × (p ≡ q)
its_staged e = (cc, cc)

its_stopped : {a b : Stopped} → ended.Cut a ≡ ended.Cut b → a ≡ b
its_stopped e = cc

pub returns-in-Done-clause-done : goal.returns-in-Done-clause-done
returns-in-Done-clause-done g c = λ l is.
    let i = c.loop.invariant in
    let r = done_all c.args.call c.args.staged c.loop.staged i.same i.words i.paid c.in-Done.lane i.spare c.in-Done.ensures.commits c.in-Done.ensures.notes in
    subst (λ (z : Lane). Adds (write_entry c.args.staged.kit.number c.args.call (words_in c.args.staged.kit)) c.args.staged.kit z.kit × (spare_in z.kit ≡ spare_in c.args.staged.kit) × Pays 9 c.args.staged.kit z.kit × (part_of c.loop.pass ≡ part_of c.args.pass.now)) (its_done is)
    (r.0, r.1, r.2, i.part)

pub returns-in-Some-power-clause-off : goal.returns-in-Some-power-clause-off
returns-in-Some-power-clause-off g c = λ s p is.
    let i = c.loop.invariant in
    let r = busy_all c.args.call c.args.staged c.loop.staged i.same i.words i.paid c.in-MapBusy.back c.in-MapBusy.holder c.in-MapBusy.ensures.commits c.in-MapBusy.ensures.notes in
    let e = its_staged is in
    subst (λ (z : Staged × PowerOff). Stays c.args.staged.kit z.0.kit × Pays 0 c.args.staged.kit z.0.kit × PartBecomes (told_of z.1) c.args.pass.now c.power.new.pass) (λ j. (e.0 j, e.1 j))
    (r.0, r.3, asked_off (lock_id c.args.pool.now.turn) c.loop.pass c.power.new.pass c.args.pass.now i.part c.in-Some-power.off c.in-Some-power.ensures.own)

pub loop-preserved : goal.loop-preserved
loop-preserved g c =
    let i = c.loop.invariant in
    let r = busy_all c.args.call c.args.staged c.loop.staged i.same i.words i.paid c.in-MapBusy.back c.in-MapBusy.holder c.in-MapBusy.ensures.commits c.in-MapBusy.ensures.notes in
    let a = asked_on (lock_id c.args.pool.now.turn) c.loop.pass c.power.new.pass i.may_ask c.power.ensures.pass c.power.ensures.outside c.in_default.ensures.own in
    record {
      same = r.0;
      spare = r.2 ∙ i.spare;
      words = r.1;
      paid = r.3;
      pass = (c.power.ensures.pass.0 ∙ i.pass.0, c.power.ensures.pass.1 ∙ i.pass.1);
      may_ask = a.0;
      part = a.1 ∙ i.part;
    }

pub returns-in-Cut-clause-cut : goal.returns-in-Cut-clause-cut
returns-in-Cut-clause-cut g c = λ k is.
    let i = c.loop.invariant in
    let r = commit_cut_all c.args.call c.args.staged c.loop.staged i.same i.words i.paid c.in-Cut.stopped c.in-Cut.ensures.commits in
    subst (λ (z : Stopped). IsCutIn 0 c.args.call (words_in c.args.staged.kit) c.args.staged.kit z.kit × Pays 0 c.args.staged.kit z.kit × IsBurnt c.args.staged.kit z.kit × (part_of c.loop.pass ≡ part_of c.args.pass.now)) (its_stopped is) (r.0, r.1, r.2, i.part)
