use Rattle.std.proofs.Common.{length}
use Rattle.lane_sessions.proofs.ending.+close_row.Given as goal

abbrev pub decreases-close_row : goal.decreases-close_row
decreases-close_row l = length l.arenas.items
