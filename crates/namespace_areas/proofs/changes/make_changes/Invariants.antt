use Rattle.std.proofs.Common.{drop, take, true}
use Rattle.std.specs.List.{AllByRecursion}
use Rattle.namespace_areas.specs.Seen.{areas_seen}
use Rattle.namespace_areas.specs.Went.{CanMake, PutsSound, Went}
use Rattle.namespace_areas.proofs.changes.make_changes.Given as goal

abbrev pub invariant-loop-change : goal.invariant-loop-change
invariant-loop-change l = record {
  went : Went l.fn.areas l.areas l.fn.fuse l.fuse (take l.change-index l.changes) true;
  can : CanMake (areas_seen l.areas) (drop l.change-index l.changes);
  sound : AllByRecursion PutsSound (drop l.change-index l.changes);
}
