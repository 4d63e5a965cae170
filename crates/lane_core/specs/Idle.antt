-- A lane of a core without a call.
use Rattle.std.specs.Prelude.{[]}
use Rattle.arena_open.specs.declared.opened.LaneState.{LaneState}
use Rattle.lane_core.specs.declared.now.LaneNow.{LaneNow}
use Rattle.lane_core.specs.declared.phase.Phase.TheVariants.{Idle}

abbrev pub idle_of : LaneState → LaneNow
idle_of lane = record {
  block = lane.free;
  side = lane.group.side;
  half = lane.group.half;
  phase = Idle;
  tag = record { session = 0; call = 0 };
  sector = 0;
  loaded = 0;
  words = [];
  cell = [];
  next = record { session = 0; call = 0 };
  next_sector = 0;
}
