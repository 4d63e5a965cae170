use Rattle.std.proofs.Common.{◌≡◌, ◌++◌, drop}
use Rattle.shell_set_check.specs.Text.{region_lines}
use Rattle.shell_set_check.proofs.objects.push_regions.Given as goal

abbrev pub invariant-loop-number : goal.invariant-loop-number
invariant-loop-number l =
    l.text.items ++ region_lines l.number (drop l.number l.nfit.regions) ≡ l.fn.text.items ++ region_lines 0 l.nfit.regions
