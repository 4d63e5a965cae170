use Rattle.std.proofs.Common.{[], ◌∷◌, ◌++◌, append_assoc, ap, ◌∙◌, sym, arith}
use Rattle.lane_pool.specs.declared.sets.LaneSet.{LaneSet}
use Rattle.lane_sessions.proofs.Laying.{numbers_more, sets_more}
use Rattle.lane_sessions.proofs.seating.sets_of.Goals as goal

pub loop-ends-preserved : goal.loop-ends-preserved
loop-ends-preserved c =
    let i = c.loop-ends.invariant in
    let row = c.in-Some.ends in
    let done = c.loop-ends.yielded in
    let sets = c.loop-ends.sets.items in
    let sets' = c.push.new.self.items in
    let set : LaneSet = record { number = c.len-number.result; ends = row } in
    let items = c.in_ok-push.ensures.items in
    record {
      rest = append_assoc done (row ∷ []) c.next.new.self.rest.items ∙ ap (λ r. done ++ r) (sym c.in-Some.ensures.steps.0) ∙ i.rest;
      few = i.few;
      ends = sets_more sets sets' done set items i.ends;
      numbers = numbers_more sets sets' set items i.numbers (let n = c.len-number.ensures in let m = c.loop-ends.sets.ok.0 in omega (arith, n, m));
    }
