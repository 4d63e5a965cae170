use Rattle.std.proofs.Common.{◌∙◌, ◌<◌, length, length-set, arith}
use Rattle.lane_sessions.proofs.Columns.{after_more, before_more, count_more}
use Rattle.lane_sessions.proofs.places.take_last.Goals as goal

pub loop-row-preserved : goal.loop-row-preserved
loop-row-preserved g c =
    let i = c.loop-row.invariant in
    let rows = c.loop-row.row-items in
    let n = c.loop-row.row-index in
    let last = c.loop-row.last.items in
    let inside : n < length rows = (let test = c.loop-row-test.true in let same = i.same in omega (arith, test, same)) in
    record {
      same = length-set rows n c.pop_last.new.row ∙ i.same;
      count = count_more c.args.rows.now rows last c.push.new.self.items n c.row-item.result c.pop_last.new.row c.pop_last.result i.same i.count inside i.before i.after c.pop_last.ensures c.in_ok-push.ensures.items;
      before = before_more c.args.rows.now rows last c.push.new.self.items n c.row-item.result c.pop_last.new.row c.pop_last.result i.same i.count inside i.before i.after c.pop_last.ensures c.in_ok-push.ensures.items;
      after = after_more c.args.rows.now rows last c.push.new.self.items n c.row-item.result c.pop_last.new.row c.pop_last.result i.same i.count inside i.before i.after c.pop_last.ensures c.in_ok-push.ensures.items;
    }
