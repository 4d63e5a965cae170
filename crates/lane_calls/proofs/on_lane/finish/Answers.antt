use Rattle.std.proofs.Common.{◌≡◌, refl, subst}
use Rattle.turn_lock.specs.Passes.{part_of, PartBecomes}
use Rattle.lane_table.specs.declared.lanes.Lane.{Lane}
use Rattle.lane_table.specs.declared.lanes.LaneEnd.{LaneEnd}
use Rattle.lane_table.specs.Kits.{kit_in, spare_in}
use Rattle.lane_pool.specs.declared.sets.PowerOff.{PowerOff}
use Rattle.lane_pool.specs.Parts.{told_of}
use Rattle.lane_calls.specs.declared.on_lane.WriteEnd.TheVariants as ended
use Rattle.lane_calls.specs.Lanes.{Adds, IsBurnt, IsCutIn, Pays, Stays, words_in, write_entry}
use Rattle.lane_calls.proofs.on_lane.finish.Goals as goal

its_lane : {a b : Lane} → ended.Done a ≡ ended.Done b → a ≡ b
its_lane e = cc

its_end : {a b : LaneEnd} {p q : PowerOff} → ended.Off a p ≡ ended.Off b q → (a ≡ b) × (p ≡ q)
its_end e = (cc, cc)

its_cut : {a b : LaneEnd} → ended.Cut a ≡ ended.Cut b → a ≡ b
its_cut e = cc

pub returns-in-Done-clause-done : goal.returns-in-Done-clause-done
returns-in-Done-clause-done g c = λ l is.
    subst (λ (z : Lane). Adds (write_entry c.args.staged.kit.number c.args.call (words_in c.args.staged.kit)) c.args.staged.kit z.kit × (spare_in z.kit ≡ spare_in c.args.staged.kit) × Pays 9 c.args.staged.kit z.kit × (part_of c.commit_until.new.pass ≡ part_of c.args.pass.now))
    (its_lane is) (c.in-Done.ensures.done c.in-Done.lane refl)

pub returns-in-Off-clause-off : goal.returns-in-Off-clause-off
returns-in-Off-clause-off g c = λ e p is.
    let same = its_end is in
    subst (λ (z : LaneEnd × PowerOff). Stays c.args.staged.kit (kit_in z.0) × Pays 0 c.args.staged.kit (kit_in z.0) × PartBecomes (told_of z.1) c.args.pass.now c.commit_until.new.pass) (λ j. (same.0 j, same.1 j)) (c.in-Off.ensures.off c.in-Off.staged c.in-Off.off refl)

pub returns-in-Cut-clause-cut : goal.returns-in-Cut-clause-cut
returns-in-Cut-clause-cut g c = λ e is.
    subst (λ (z : LaneEnd). IsCutIn 0 c.args.call (words_in c.args.staged.kit) c.args.staged.kit (kit_in z) × Pays 0 c.args.staged.kit (kit_in z) × IsBurnt c.args.staged.kit (kit_in z) × (part_of c.commit_until.new.pass ≡ part_of c.args.pass.now)) (its_cut is) (c.in-Cut.ensures.cut c.in-Cut.stopped refl)
