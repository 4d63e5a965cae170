-- The text of a command that was completed, or in which power was cut.
use Rattle.std.specs.Prelude.{ℕ, List, ◌++◌, codes}
use Rattle.std.specs.Fmt.{decimal}
use Rattle.shell_reports.specs.Outcome.{lf}

abbrev pub done_text : List ℕ
done_text = codes "ok" ++ lf

-- cut N
abbrev pub cut_text : ℕ → List ℕ
cut_text steps = codes "cut " ++ (decimal steps ++ lf)
