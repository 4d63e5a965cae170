-- The text of `check`: a line for each finding, and a last line. With `--repair` each arena's findings that were repaired come first, and then
-- those that a second check finds. A line begins with a head, the text before the arena's number. This project's rules.
use Rattle.std.specs.Prelude.{ℕ, ◌+◌, ◌==◌, Bool, if◌then◌else◌, List, [], ◌∷◌, ◌++◌, length, sum_by, codes}
use Rattle.std.specs.Fmt.{decimal}
use Rattle.arena_check.specs.declared.finding.Finding.{Finding}
use Rattle.arena_check.specs.declared.finding.Finding.TheVariants as found
use Rattle.arena_check.specs.declared.finding.Report.{Report}
use Rattle.arena_repair.specs.Repair.{mended, repaired_of}
use Rattle.shell_reports.specs.Faults.{flog_text, info_fault_text}
use Rattle.shell_reports.specs.Outcome.{joined, lf}

-- the name of a finding and its numbers
abbrev pub finding_text : Finding → List ℕ
finding_text (found.Info fault) = codes "Info " ++ info_fault_text fault
finding_text (found.Backup fault) = codes "Backup " ++ info_fault_text fault
finding_text found.Unequal = codes "Unequal"
finding_text (found.Flog lane fault) = flog_text lane fault
finding_text (found.Range block) = codes "Range " ++ decimal block
finding_text (found.Twice block) = codes "Twice " ++ decimal block
finding_text (found.Missing block) = codes "Missing " ++ decimal block
finding_text (found.BadData sector) = codes "BadData " ++ decimal sector
finding_text (found.BadMeta word) = codes "BadMeta " ++ decimal word

-- HEAD K FINDING
abbrev pub finding_line : List ℕ → ℕ → Finding → List ℕ
finding_line head k finding = joined (head ∷ decimal k ∷ codes " " ∷ finding_text finding ∷ lf ∷ [])

-- HEAD K repaired FINDING
abbrev pub repaired_line : List ℕ → ℕ → Finding → List ℕ
repaired_line head k finding = joined (head ∷ decimal k ∷ codes " repaired " ∷ finding_text finding ∷ lf ∷ [])

-- the lines of an arena's findings
abbrev pub lines_of : List ℕ → ℕ → List Finding → List ℕ
lines_of head k [] = []
lines_of head k (finding ∷ findings) = finding_line head k finding ++ lines_of head k findings

abbrev pub repaired_lines : List ℕ → ℕ → List Finding → List ℕ
repaired_lines head k [] = []
repaired_lines head k (finding ∷ findings) = repaired_line head k finding ++ repaired_lines head k findings

-- the findings that are repaired, if there is a repair
abbrev pub answered : Bool → Report → List Finding
answered repair report = if repair then repaired_of report else []

-- the report after it
abbrev pub left_of : Bool → Report → Report
left_of repair report = if repair then mended report else report

abbrev pub arena_lines : List ℕ → Bool → ℕ → Report → List ℕ
arena_lines head repair k report = repaired_lines head k (answered repair report) ++ lines_of head k (left_of repair report).findings

-- those of all arenas, from arena k on
abbrev pub report_lines : List ℕ → Bool → ℕ → List Report → List ℕ
report_lines head repair k [] = []
report_lines head repair k (report ∷ reports) = arena_lines head repair k report ++ report_lines head repair (k + 1) reports

-- how many findings are open
abbrev pub findings_in : Bool → List Report → ℕ
findings_in repair reports = sum_by (λ report. length (left_of repair report).findings) reports

-- sound, or broken N
abbrev pub last_line : ℕ → List ℕ
last_line count = if count == 0 then codes "sound" ++ lf else joined (codes "broken " ∷ decimal count ∷ lf ∷ [])

-- by the reports of a check before any repair: arena K FINDING, and the last line
abbrev pub check_text : Bool → List Report → List ℕ
check_text repair reports = report_lines (codes "arena ") repair 0 reports ++ last_line (findings_in repair reports)
