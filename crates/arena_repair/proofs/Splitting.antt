-- Findings that are repaired, and those that stay open.
use Rattle.std.proofs.Common.{Bool, cond, not, List, [], filter}
use Rattle.arena_check.specs.declared.finding.Finding.{Finding}
use Rattle.arena_repair.specs.Repair.{is_repaired}

abbrev pub repaired_if : Bool → List Finding → List Finding
repaired_if usable findings = cond usable (filter is_repaired findings) []

abbrev pub open_if : Bool → List Finding → List Finding
open_if usable findings = cond usable (filter (λ finding. not (is_repaired finding)) findings) findings
