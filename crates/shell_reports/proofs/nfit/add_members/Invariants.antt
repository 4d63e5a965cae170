use Rattle.std.proofs.Common.{◌≡◌, ◌++◌, drop}
use Rattle.std.specs.Prelude.{string_bytes}
use Rattle.shell_reports.specs.Nfit.{members_text}
use Rattle.shell_reports.proofs.nfit.add_members.Given as goal

abbrev pub invariant-loop-position : goal.invariant-loop-position
invariant-loop-position l =
    string_bytes l.text ++ members_text (drop l.position l.set) ≡ string_bytes l.fn.text ++ members_text l.set
