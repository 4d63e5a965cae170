use Rattle.std.proofs.Common.{◌≡◌, ◌+◌, length, arith}
use Rattle.lane_replay.proofs.Eights.{word_on}
use Rattle.lane_replay.proofs.values.words_of.Goals as goal

pub loop-word-preserved : goal.loop-word-preserved
loop-word-preserved c =
    let cases = c.in-Some.ensures.cases in
    let left : length c.in-Some.others.now + 8 ≡ length c.loop-word.rest.now = cases.2 in
    record {
      count = omega (arith, left, c.loop-word.invariant.count, c.in_ok-push.ensures.len, c.push.new.self.ok.0, c.loop-word.words.ok.0);
      so_far =
          word_on c.loop-word.words.items c.push.new.self.items _ c.loop-word.rest.now c.in-Some.word.now c.in-Some.others.now c.from_le_bytes.result (omega (arith, left)) cases.0 cases.1
          c.from_le_bytes.ensures c.in_ok-push.ensures.items c.loop-word.invariant.so_far;
    }
