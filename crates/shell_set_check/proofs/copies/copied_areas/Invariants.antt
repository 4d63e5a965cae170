use Rattle.std.proofs.Common.{◌≡◌, ◌++◌, drop, map}
use Rattle.std.specs.Option.{option_map}
use Rattle.shell_set_check.proofs.copies.copied_areas.Given as goal

abbrev pub invariant-loop-area : goal.invariant-loop-area
invariant-loop-area l = l.copies ++ map (option_map (λ w. w.kept)) (drop l.area-index l.labels) ≡ map (option_map (λ w. w.kept)) l.labels
