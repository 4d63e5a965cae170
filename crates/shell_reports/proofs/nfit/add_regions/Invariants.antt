use Rattle.std.proofs.Common.{◌≡◌, ◌++◌, drop}
use Rattle.std.specs.Prelude.{string_bytes}
use Rattle.shell_reports.specs.Nfit.{region_lines}
use Rattle.shell_reports.proofs.nfit.add_regions.Given as goal

abbrev pub invariant-loop-number : goal.invariant-loop-number
invariant-loop-number l =
    string_bytes l.text ++ region_lines l.number (drop l.number l.nfit.regions) ≡ string_bytes l.fn.text ++ region_lines 0 l.nfit.regions
