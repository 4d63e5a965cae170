use Rattle.std.proofs.Common.{◌≡◌, ◌++◌, drop}
use Rattle.std.specs.Prelude.{string_bytes}
use Rattle.shell_reports.specs.Nfit.{module_lines}
use Rattle.shell_reports.proofs.nfit.add_modules.Given as goal

abbrev pub invariant-loop-number : goal.invariant-loop-number
invariant-loop-number l =
    string_bytes l.text ++ module_lines l.number (drop l.number l.handles) ≡ string_bytes l.fn.text ++ module_lines 0 l.handles
