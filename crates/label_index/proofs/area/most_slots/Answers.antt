use Rattle.std.proofs.Common.{◌≡◌, ◌+◌, ◌-◌, arith}
use Rattle.label_index.proofs.Greatest.{slots_end, slots_on}
use Rattle.label_index.proofs.area.most_slots.Goals as goal

pub loop-slots-preserved : goal.loop-slots-preserved
loop-slots-preserved c =
    let k = c.loop-slots.slots - 1 in
    let up : c.loop-slots.slots ≡ k + 1 = omega arith in
    record {
      small = omega arith;
      same = slots_on c.args.area k (rw (← up) c.loop-slots.invariant.same)
          (rw (← up) (omega (arith, c.index_size.ensures, c.from.ensures, c.if-index_size-from.true)));
    }

pub returns-else-index_size-from : goal.returns-else-index_size-from
returns-else-index_size-from c =
    slots_end c.args.area c.loop-slots.slots c.loop-slots.invariant.same (λ _. omega (arith, c.index_size.ensures, c.from.ensures, c.if-index_size-from.false))

pub returns-after-loop-slots : goal.returns-after-loop-slots
returns-after-loop-slots c =
    slots_end c.args.area c.loop-slots.slots c.loop-slots.invariant.same (λ some. absurd (omega arith))
