use Rattle.std.proofs.Common.{◌-◌, vec_len, arith}
use Rattle.cut_words.proofs.Reached.{zero_more}
use Rattle.cut_words.proofs.values.reach.Goals as goal

pub loop-front-preserved : goal.loop-front-preserved
loop-front-preserved c = record {
  items = zero_more c.args.front.now.items c.loop-front.front.items c.push_reserved.new.self.items (vec_len c.loop-front.front - vec_len c.args.front.now)
      (vec_len c.push_reserved.new.self - vec_len c.args.front.now) c.loop-front.invariant.items c.push_reserved.ensures.items
      (let a = c.push_reserved.ensures.len in let b = c.loop-front.invariant.from in omega arith);
  from = let a = c.push_reserved.ensures.len in let b = c.loop-front.invariant.from in omega arith;
  to = let a = c.push_reserved.ensures.len in let b = c.loop-front-test.true in let d = c.len.ensures in omega arith;
  room = let a = c.push_reserved.ensures.capacity in let b = c.loop-front.invariant.room in omega arith;
}
