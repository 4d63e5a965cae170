use Rattle.std.proofs.Common.{◌≡◌, ◌∙◌, subst, suc}
use Rattle.turn_lock.specs.Passes.{lock_id, part_of, PartBecomes}
use Rattle.lane_table.specs.declared.lanes.Lane.{Lane}
use Rattle.lane_table.specs.declared.lanes.Stopped.{Stopped}
use Rattle.lane_table.specs.Kits.{spare_in}
use Rattle.lane_pool.specs.declared.sets.PowerOff.{PowerOff}
use Rattle.arena_open.specs.declared.cell.CellKind.{CellKind}
use Rattle.lane_table.specs.Reads.{cell_of_kind}
use Rattle.lane_calls.specs.declared.reading.Looked.TheVariants as ended
use Rattle.lane_pool.specs.Parts.{told_of}
use Rattle.lane_calls.specs.Lanes.{Adds, IsBurnt, Pays, Stays, read_entry}
use Rattle.lane_calls.proofs.Loops.{asked_off, asked_on, got_all, moved_all, read_cut_all}
use Rattle.lane_calls.proofs.reading.read_until.Goals as goal

its_got : {a b : Lane} {p q : CellKind} → ended.Got a p ≡ ended.Got b q → (a ≡ b) × (p ≡ q)
its_got e = (cc, cc)

its_lane : {a b : Lane} {p q : PowerOff} → ended.Off a p ≡ ended.Off b q → (a ≡ b) × (p ≡ q)
its_lane e = (cc, cc)

its_stopped : {a b : Stopped} → ended.Cut a ≡ ended.Cut b → a ≡ b
its_stopped e = cc

pub returns-in-Got-clause-got : goal.returns-in-Got-clause-got
returns-in-Got-clause-got g c = λ l kind is.
    let i = c.loop.invariant in
    let r = got_all c.args.call c.loop.into c.try_read.new.into c.args.lane c.loop.lane i.same i.spare i.paid c.in-Got.back c.in-Got.kind c.in-Got.ensures.reads c.in-Got.ensures.notes in
    let e = its_got is in
    subst (λ (z : Lane × CellKind). Adds (read_entry c.args.lane.kit.number c.args.call (cell_of_kind z.1 c.try_read.new.into)) c.args.lane.kit z.0.kit × (spare_in c.args.lane.kit ≡ suc (spare_in z.0.kit)) × Pays 1 c.args.lane.kit z.0.kit × (part_of c.loop.pass ≡ part_of c.args.pass.now)) (λ j. (e.0 j, e.1 j))
    (r.0, r.1, r.2, i.part)

pub returns-in-Some-power-clause-off : goal.returns-in-Some-power-clause-off
returns-in-Some-power-clause-off g c = λ l p is.
    let i = c.loop.invariant in
    let r = moved_all c.args.call c.loop.into c.try_read.new.into c.args.lane c.loop.lane i.same i.spare i.paid c.in-Moved.back c.in-Moved.first c.in-Moved.then c.in-Moved.ensures.reads c.in-Moved.ensures.notes in
    let e = its_lane is in
    subst (λ (z : Lane × PowerOff). Stays c.args.lane.kit z.0.kit × Pays 0 c.args.lane.kit z.0.kit × PartBecomes (told_of z.1) c.args.pass.now c.power.new.pass) (λ j. (e.0 j, e.1 j))
    (r.0, r.3, asked_off (lock_id c.args.pool.now.turn) c.loop.pass c.power.new.pass c.args.pass.now i.part c.in-Some-power.off c.in-Some-power.ensures.own)

pub loop-preserved : goal.loop-preserved
loop-preserved g c =
    let i = c.loop.invariant in
    let r = moved_all c.args.call c.loop.into c.try_read.new.into c.args.lane c.loop.lane i.same i.spare i.paid c.in-Moved.back c.in-Moved.first c.in-Moved.then c.in-Moved.ensures.reads c.in-Moved.ensures.notes in
    let a = asked_on (lock_id c.args.pool.now.turn) c.loop.pass c.power.new.pass i.may_ask c.power.ensures.pass c.power.ensures.outside c.in_default.ensures.own in
    record {
      same = r.0;
      spare = r.1;
      into = r.2 ∙ i.into;
      paid = r.3;
      pass = (c.power.ensures.pass.0 ∙ i.pass.0, c.power.ensures.pass.1 ∙ i.pass.1);
      may_ask = a.0;
      part = a.1 ∙ i.part;
    }

pub returns-in-Cut-clause-cut : goal.returns-in-Cut-clause-cut
returns-in-Cut-clause-cut g c = λ k is.
    let i = c.loop.invariant in
    let r = read_cut_all c.args.call c.loop.into c.try_read.new.into c.args.lane c.loop.lane i.same i.spare i.paid c.in-Cut.stopped c.in-Cut.ensures.reads c.in-Cut.ensures.notes in
    subst (λ (z : Stopped). Stays c.args.lane.kit z.kit × Pays 0 c.args.lane.kit z.kit × IsBurnt c.args.lane.kit z.kit × (part_of c.loop.pass ≡ part_of c.args.pass.now)) (its_stopped is) (r.0, r.1, r.2, i.part)
