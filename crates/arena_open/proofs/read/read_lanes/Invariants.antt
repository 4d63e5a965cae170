use Rattle.std.proofs.Common.{◌≡◌, drop}
use Rattle.arena_open.specs.Reading.{groups_in}
use Rattle.arena_open.proofs.Groups.{with_front, from_lane}
use Rattle.arena_open.proofs.read.read_lanes.Given as goal

-- the groups so far, with the rest still to be read, decide as the whole does
abbrev pub invariant-loop-lane : goal.invariant-loop-lane
invariant-loop-lane g l =
    groups_in l.layout (drop l.at (g.W.WordSpace.words l.space).kept) ≡ with_front l.groups (from_lane l.layout (drop l.at (g.W.WordSpace.words l.space).kept) l.lane l.layout.lanes)
