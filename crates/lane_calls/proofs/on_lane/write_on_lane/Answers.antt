use Rattle.std.proofs.Common.{◌≡◌, true, ℕ, suc, ◌+◌, List, refl, sym, ap, ◌∙◌, subst, arith, inl}
use Rattle.turn_lock.specs.Passes.{part_of, PartBecomes}
use Rattle.lane_table.specs.declared.lanes.LaneEnd.{LaneEnd}
use Rattle.lane_table.specs.Kits.{kit_in}
use Rattle.lane_table.specs.declared.table.PassPart.{PassPart}
use Rattle.lane_table.specs.Law.{may_enter}
use Rattle.lane_table.specs.Stages.{stage_steps}
use Rattle.lane_pool.specs.declared.sets.PowerOff.{PowerOff}
use Rattle.lane_pool.specs.Parts.{told_of}
use Rattle.lane_calls.specs.declared.on_lane.WriteEnd.TheVariants as ended
use Rattle.lane_calls.specs.Lanes.{IsBurnt, IsCutIn, Pays, Stays, words_in, write_entry}
use Rattle.lane_calls.proofs.Lanes.{adds_more, burnt_more, cut_more, pays_more, stays_more}
use Rattle.lane_calls.proofs.on_lane.write_on_lane.Goals as goal

its_end : {a b : LaneEnd} {p q : PowerOff} → ended.Off a p ≡ ended.Off b q → (a ≡ b) × (p ≡ q)
its_end e = (cc, cc)

its_cut : {a b : LaneEnd} → ended.Cut a ≡ ended.Cut b → a ≡ b
its_cut e = cc

pub finish-requires-clause-arena : goal.finish-requires-clause-arena
finish-requires-clause-arena g c =
    let s = c.in-Staged.ensures.staged c.in-Staged.staged refl in
    (s.0.0.0 ∙ c.requires.arena.0, s.0.0.2 ∙ c.requires.arena.1)

pub finish-requires-clause-may : goal.finish-requires-clause-may
finish-requires-clause-may g c =
    let s = c.in-Staged.ensures.staged c.in-Staged.staged refl in
    subst (λ (ps : List PassPart). may_enter ps c.args.call.tag ≡ true) (sym s.0.1) c.requires.may

pub returns-in-Staged-clause-done : goal.returns-in-Staged-clause-done
returns-in-Staged-clause-done g c = λ l is.
    let s = c.in-Staged.ensures.staged c.in-Staged.staged refl in
    let d = c.finish.ensures.done l is in
    let k = c.in-Staged.staged.kit in
    let x = c.args.arena.now.shape in (
      adds_more c.args.lane.kit k l.kit s.0 (write_entry k.number c.args.call (words_in k)) (write_entry c.args.lane.kit.number c.args.call c.args.words.now) (λ i. write_entry (s.0.0.1 i) c.args.call (s.1 i)) d.0,
      s.2 ∙ ap (λ (n : ℕ). suc n) (sym d.1),
      pays_more (stage_steps x) 9 (stage_steps x + 9) c.args.lane.kit k l.kit (omega arith) s.3 d.2,
      d.3 ∙ s.4,
    )

pub returns-in-Staged-clause-off : goal.returns-in-Staged-clause-off
returns-in-Staged-clause-off g c = λ e p is.
    let s = c.in-Staged.ensures.staged c.in-Staged.staged refl in
    let d = c.finish.ensures.off e p is in
    let k = c.in-Staged.staged.kit in
    let x = c.args.arena.now.shape in (
      stays_more c.args.lane.kit k (kit_in e) s.0 d.0,
      pays_more (stage_steps x) 0 0 c.args.lane.kit k (kit_in e) (omega arith) s.3 d.1,
      λ m h. d.2 m (s.4 ∙ h),
    )

pub returns-in-Staged-clause-cut : goal.returns-in-Staged-clause-cut
returns-in-Staged-clause-cut g c = λ e is.
    let s = c.in-Staged.ensures.staged c.in-Staged.staged refl in
    let d = c.finish.ensures.cut e is in
    let k = c.in-Staged.staged.kit in
    let x = c.args.arena.now.shape in (
      cut_more c.args.lane.kit k (kit_in e) s.0 (stage_steps x) 0 (stage_steps x) (omega arith) s.3 c.args.call c.args.words.now s.0.0.1 (subst (λ (ws : List ℕ). IsCutIn 0 c.args.call ws k (kit_in e)) s.1 d.0),
      pays_more (stage_steps x) 0 0 c.args.lane.kit k (kit_in e) (omega arith) s.3 d.1,
      burnt_more (stage_steps x) c.args.lane.kit k (kit_in e) s.3 d.2,
      d.3 ∙ s.4,
    )

pub returns-in-Off-clause-off : goal.returns-in-Off-clause-off
returns-in-Off-clause-off g c = λ e p is.
    let same = its_end is in
    subst (λ (z : LaneEnd × PowerOff). Stays c.args.lane.kit (kit_in z.0) × Pays 0 c.args.lane.kit (kit_in z.0) × PartBecomes (told_of z.1) c.args.pass.now c.stage_until.new.pass) (λ j. (same.0 j, same.1 j)) (c.in-Off.ensures.off c.in-Off.lane c.in-Off.off refl)

pub returns-in-Cut-clause-cut : goal.returns-in-Cut-clause-cut
returns-in-Cut-clause-cut g c = λ e is.
    let r = c.in-Cut.ensures.cut c.in-Cut.stopped refl in
    subst (λ (z : LaneEnd). IsCutIn (stage_steps c.args.arena.now.shape) c.args.call c.args.words.now c.args.lane.kit (kit_in z) × Pays 0 c.args.lane.kit (kit_in z) × IsBurnt c.args.lane.kit (kit_in z) × (part_of c.stage_until.new.pass ≡ part_of c.args.pass.now)) (its_cut is) (inl r.0, r.1, r.2, r.3)
