use Rattle.std.proofs.Common.{◌≡◌, ◌+◌, [], ◌∷◌, length, None, ap, arith, rules}
use Rattle.lane_core.specs.Held.{held_by}
use Rattle.lane_replay.specs.Playing.{replayed}
use Rattle.lane_replay.proofs.Parts.{keeps_on, lines_end, lines_on, next_is, none_left}
use Rattle.lane_replay.proofs.playing.play_lines.Goals as goal

pub loop-line-preserved-in_ok-play_line : goal.loop-line-preserved-in_ok-play_line
loop-line-preserved-in_ok-play_line c =
    let is : c.loop-line.left ≡ c.in-Some.line ∷ c.next.new.self = next_is c.loop-line.left c.next.new.self c.in_ok-line.field-0 c.in-Some.line c.in_ok-line.ensures.next c.in-Some.is in
    let all = c.loop-line.invariant.count in
    let one = ap length is in
    record {
      keeps = keeps_on c.args.core.now c.loop-line.core c.play_line.new.core c.loop-line.invariant.keeps c.play_line.ensures.keeps;
      count = omega (arith, all, one);
      same =
          lines_on (c.loop-line.number + 1) (held_by c.loop-line.core) (held_by c.play_line.new.core) c.in-Some.line c.loop-line.left c.next.new.self
          c.loop-line.text.items c.play_line.new.text.items c.args.text.now.items (replayed (held_by c.args.core.now) c.args.lines.now) is c.in_ok-play_line.ensures.plays
          c.loop-line.invariant.same;
    }

pub loop-line-preserved-in_ok-play_line-2 : goal.loop-line-preserved-in_ok-play_line-2
loop-line-preserved-in_ok-play_line-2 c =
    let is : c.loop-line.left ≡ c.in-Some.line ∷ c.next.new.self = next_is c.loop-line.left c.next.new.self c.in_ok-line.field-0 c.in-Some.line c.in_ok-line.ensures.next c.in-Some.is in
    let all = c.loop-line.invariant.count in
    let one = ap length is in
    record {
      keeps = keeps_on c.args.core.now c.loop-line.core c.play_line.new.core c.loop-line.invariant.keeps c.play_line.ensures.keeps;
      count = omega (arith, all, one);
      same =
          lines_on (c.loop-line.number + 1) (held_by c.loop-line.core) (held_by c.play_line.new.core) c.in-Some.line c.loop-line.left c.next.new.self
          c.loop-line.text.items c.play_line.new.text.items c.args.text.now.items (replayed (held_by c.args.core.now) c.args.lines.now) is c.in_ok-play_line.ensures.plays
          c.loop-line.invariant.same;
    }

pub loop-line-preserved : goal.loop-line-preserved
loop-line-preserved c =
    let is : c.loop-line.left ≡ c.in-Some.line ∷ c.next.new.self = next_is c.loop-line.left c.next.new.self c.in_ok-line.field-0 c.in-Some.line c.in_ok-line.ensures.next c.in-Some.is in
    let all = c.loop-line.invariant.count in
    let one = ap length is in
    record {
      keeps = keeps_on c.args.core.now c.loop-line.core c.play_line.new.core c.loop-line.invariant.keeps c.play_line.ensures.keeps;
      count = omega (arith, all, one);
      same =
          lines_on (c.loop-line.number + 1) (held_by c.loop-line.core) (held_by c.play_line.new.core) c.in-Some.line c.loop-line.left c.next.new.self
          c.loop-line.text.items c.play_line.new.text.items c.args.text.now.items (replayed (held_by c.args.core.now) c.args.lines.now) is c.in_ok-play_line.ensures.plays
          c.loop-line.invariant.same;
    }

pub returns-clause-plays : goal.returns-clause-plays
returns-clause-plays c =
    let none : c.in_ok-line.field-0 ≡ None = search rules in
    let after : c.next.new.self ≡ [] = search rules in
    lines_end (c.loop-line.number + 1) (held_by c.loop-line.core) c.loop-line.left c.args.text.now.items c.loop-line.text.items (replayed (held_by c.args.core.now) c.args.lines.now)
    (none_left c.loop-line.left c.next.new.self c.in_ok-line.field-0 c.in_ok-line.ensures.next none after) c.loop-line.invariant.same
