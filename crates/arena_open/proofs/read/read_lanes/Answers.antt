use Rattle.std.proofs.Common.{◌≡◌, ◌++◌, ◌∷◌, ◌∙◌, [], drop, ap, sym, arith}
use Rattle.arena_open.proofs.Groups.{lanes_start, lanes_on, lanes_stop, lanes_end, with_front, from_lane, pushed}
use Rattle.arena_open.proofs.read.read_lanes.Goals as goal

pub loop-lane-init : goal.loop-lane-init
loop-lane-init g c =
    let words = drop c.args.at (g.W.WordSpace.words c.args.space.now).kept in
    lanes_start c.args.layout.now (drop c.args.at (g.W.WordSpace.words c.args.space.now).kept)
    ∙ ap (λ gs. with_front gs (from_lane c.args.layout.now (drop c.args.at (g.W.WordSpace.words c.args.space.now).kept) 0 c.args.layout.now.lanes)) (sym c.new-groups.ensures)

pub loop-lane-preserved : goal.loop-lane-preserved
loop-lane-preserved g c =
    lanes_on c.args.layout.now (drop c.args.at (g.W.WordSpace.words c.args.space.now).kept) c.loop-lane.groups c.push.new.self c.loop-lane.lane c.args.layout.now.lanes c.in-Ok.group
    (omega arith) c.loop-lane.invariant c.in-Ok.ensures
    (pushed c.push.result (c.push.new.self ≡ c.loop-lane.groups ++ c.in-Ok.group ∷ []) c.if-is_err.ensures.value c.push.ensures.ok)

pub returns-in-Err : goal.returns-in-Err
returns-in-Err g c =
    λ not_memory. lanes_stop c.args.layout.now (drop c.args.at (g.W.WordSpace.words c.args.space.now).kept) c.loop-lane.groups c.loop-lane.lane c.args.layout.now.lanes c.in-Err.fault
    (omega arith) c.loop-lane.invariant c.in-Err.ensures

pub returns : goal.returns
returns g c =
    λ not_memory. lanes_end c.args.layout.now (drop c.args.at (g.W.WordSpace.words c.args.space.now).kept) c.loop-lane.groups c.loop-lane.lane c.args.layout.now.lanes (omega arith)
    c.loop-lane.invariant
