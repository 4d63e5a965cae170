-- The parts of a report on an arena.
use Rattle.std.proofs.Common.{◌≡◌, ◌∙◌, ℕ, Bool, List, ◌++◌, refl}
use Rattle.std.specs.Option.{option_map}
use Rattle.arena_check.specs.declared.finding.Report.{Report}
use Rattle.arena_check.specs.declared.info.InfoSource.{InfoSource}
use Rattle.arena_check.specs.declared.info.InfoSource.TheVariants as source
use Rattle.arena_check.specs.Check.{info_findings, info_used, report_by, report_of, source_of}
use Rattle.shell_check.specs.Reading.{findings_by}

by_source : (at : ℕ) (bad : ℕ → Bool) (words parent : List ℕ) (s : InfoSource) → info_findings words parent s ++ findings_by at bad words (info_used s) ≡ (report_by at bad words parent s).findings
by_source at bad words parent (source.First info) = refl
by_source at bad words parent (source.Last fault info) = refl
by_source at bad words parent (source.Neither fault) = refl

-- the info block's, and then the others
pub report_is : (at : ℕ) (bad : ℕ → Bool) (words parent : List ℕ)
    → info_findings words parent (source_of words parent) ++ findings_by at bad words (info_used (source_of words parent)) ≡ (report_of at bad words parent).findings
unfolding report_of
report_is at bad words parent = by_source at bad words parent (source_of words parent)

size_by : (at : ℕ) (bad : ℕ → Bool) (words parent : List ℕ) (s : InfoSource) → option_map (λ info. info.layout.size) (info_used s) ≡ (report_by at bad words parent s).size
size_by at bad words parent (source.First info) = refl
size_by at bad words parent (source.Last fault info) = refl
size_by at bad words parent (source.Neither fault) = refl

-- the whole, by its two parts
pub report_whole : (at : ℕ) (bad : ℕ → Bool) (words parent : List ℕ) (r : Report) → r.findings ≡ (report_of at bad words parent).findings
    → r.size ≡ option_map (λ info. info.layout.size) (info_used (source_of words parent)) → r ≡ report_of at bad words parent
unfolding report_of
report_whole at bad words parent r findings size = λ i. record { findings = findings i; size = (size ∙ size_by at bad words parent (source_of words parent)) i }
