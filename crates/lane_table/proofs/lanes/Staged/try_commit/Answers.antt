use Rattle.std.proofs.Common.{◌<◌, sym, ap, ◌∙◌, subst, arith}
use Rattle.lane_core.specs.declared.shape.Shape.{Shape}
use Rattle.lane_core.specs.Areas.{next_seq}
use Rattle.lane_core.specs.Machine.{other}
use Rattle.lane_core.proofs.Entries.{next_newer}
use Rattle.lane_table.specs.declared.log.LaneLog.{LaneLog}
use Rattle.lane_table.specs.declared.pieces.Mine.{Mine}
use Rattle.lane_table.specs.declared.table.Call.{Call}
use Rattle.lane_table.specs.Committed.{AreCommitWords}
use Rattle.lane_table.specs.Conditions.{IsMine}
use Rattle.lane_table.specs.Logs.{IsLogOf}
use Rattle.lane_table.specs.Told.{blocks}
use Rattle.lane_table.proofs.Logs.{joining, write_added, log_before, log_after}
use Rattle.lane_table.proofs.lanes.Staged.try_commit.Goals as goal
use Rattle.lane_table.proofs.lanes.Staged.try_commit.Goals.{then-made-ge7, else-made-ge7}

pub commit-requires-clause-words : goal.commit-requires-clause-words
commit-requires-clause-words c =
    let a = c.args.arena.now in
    subst (λ (x : Shape). AreCommitWords a.table.shared.table_id x c.args.self.mine.number c.args.self.mine.side c.args.sector c.commit_words-at.result) (sym a.shape_is)
    (c.commit_words-at.ensures a.table.shared.table_id a.size)

pub invariant_of-result : goal.invariant_of-result
invariant_of-result c =
    let s = c.args.self in
    let d = c.in-Done.ensures.ended in
    let m = s.mine_is in
    let q = next_newer s.mine.seq m.written m.ring in
    let me = c.kit_of.ensures.me ∙ d.1 in
    record {
      idle = ap (λ m. m.0.lane.phase) me;
      mine_is = subst (λ (m : Mine). IsMine m c.kit_of.result.seat.me.0) (sym c.mine_after.ensures)
          record {
            number = ap (λ m. m.0.number) me ∙ m.number;
            block = ap (λ m. m.0.lane.block) c.kit_of.ensures.me ∙ sym d.2;
            side = ap (λ m. m.0.lane.side) me ∙ ap other m.side;
            seq = ap (λ m. m.0.lane.half.seq) me ∙ ap next_seq m.seq;
            two = omega arith;
            written = q.0;
            ring = q.1;
          };
      in_range = subst (λ b. b < blocks c.kit_of.result.seat.me.0.shape) (sym (ap (λ (m : Mine). m.block) c.mine_after.ensures)) (subst (λ (x : Shape). c.in-Done.block < blocks x) (sym (ap (λ m. m.0.shape) me)) d.3);
    }

pub kit_of-requires-clause-logged : goal.kit_of-requires-clause-logged
kit_of-requires-clause-logged c =
    let s = c.args.self in
    let d = c.in-Done.ensures.ended in
    let me = s.kit.seat.me in
    let t : Call = record { tag = c.args.tag; sector = c.args.sector } in
    subst (λ m. IsLogOf c.add.new.self.calls m.0.lane.log) (sym d.1)
    (write_added s.kit.log.calls c.add.new.self.calls me.0.lane.log me.0.number (joining t d.0 me) c.written.result s.kit.logged c.add.ensures.added c.written.ensures)

pub kit_of-requires-in-Cut-clause-logged : goal.kit_of-requires-in-Cut-clause-logged
kit_of-requires-in-Cut-clause-logged c =
    let s = c.args.self in
    let d = c.in-Cut.ensures.ended in
    let me = s.kit.seat.me in
    let t : Call = record { tag = c.args.tag; sector = c.args.sector } in
    let is = ap (λ m. m.0.lane.log) d.2 in
    elim c.if-made-ge7.branch [
      | then-made-ge7 w ↦
          subst (λ (log : LaneLog). IsLogOf log.calls c.commit.new.seat.me.0.lane.log) (sym w.log-is)
          (subst (λ h. IsLogOf w.add-then-made-ge7.new.self.calls h) (sym (is ∙ log_after t d.0 me c.in-Cut.made (omega (arith, w.if-made-ge7.true)) d.1))
          (write_added s.kit.log.calls w.add-then-made-ge7.new.self.calls me.0.lane.log me.0.number (joining t d.0 me) w.written-then-made-ge7.result s.kit.logged w.add-then-made-ge7.ensures.added w.written-then-made-ge7.ensures))
      | else-made-ge7 w ↦
          subst (λ (log : LaneLog). IsLogOf log.calls c.commit.new.seat.me.0.lane.log) (sym w.log-is)
          (subst (λ h. IsLogOf s.kit.log.calls h) (sym (is ∙ log_before t d.0 me c.in-Cut.made (omega (arith, w.if-made-ge7.false)))) s.kit.logged)
    ]
