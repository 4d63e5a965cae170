use Rattle.std.proofs.Common.{◌≡◌, ◌+◌, ◌≤◌, ◌++◌, length, map}
use Rattle.std.specs.List.{All}
use Rattle.std.specs.Option.{option_map}
use Rattle.image_set.specs.Load.{bytes_kept}
use Rattle.image_set.specs.Sound.{IsArea}
use Rattle.shell_set_check.specs.Repair.{repair_lines}
use Rattle.shell_set_check.specs.Repairing.{repaired_in}
use Rattle.shell_set_check.proofs.repair.repair_areas.Given as goal

abbrev pub invariant-loop-area : goal.invariant-loop-area
invariant-loop-area l = record {
  sound : All IsArea l.area-iterator.rest.items;
  few : length l.repaired + length l.area-iterator.rest.items ≤ 64;
  repaired : l.repaired ++ map repaired_in l.area-iterator.rest.items ≡ map repaired_in l.fn.labels;
  text : l.text.items ++ repair_lines (length l.repaired) (map (option_map bytes_kept) l.area-iterator.rest.items) ≡ l.fn.text.items ++ repair_lines 0 (map (option_map bytes_kept) l.fn.labels);
}
