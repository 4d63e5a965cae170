-- A namespace without bytes, and bad words of one over other modules.
use Rattle.std.proofs.Common.{◌≡◌, ℕ, Bool, true, false, List, [], ◌∷◌, length, Option, None, refl, sym, subst, arith}
use Rattle.std.specs.Prelude.{MatchBool}
use Rattle.cut_words.specs.Words.{Words}
use Rattle.nfit_reader.specs.declared.table.Mapping.{Mapping}
use Rattle.nvd_words.specs.Checks.{first_fault}
use Rattle.arena_layout.specs.declared.info.InfoFault.TheVariants.{Signature}
use Rattle.arena_layout.specs.Info.{has_signature}
use Rattle.std.proofs.lemmas.List.{append-nil}
use Rattle.std.proofs.lemmas.List.Sums.{sum_by-cons}
use Rattle.arena_check.specs.declared.finding.Finding.TheVariants as found
use Rattle.arena_check.specs.declared.finding.Report.{Report}
use Rattle.shell_check.specs.Text.{arena_lines, findings_in, left_of, report_lines}
use Rattle.bad_ranges.specs.Bad.{bad_words}
use Rattle.namespace_bytes.specs.declared.runs.Run.{Run}
use Rattle.power_cut.specs.Namespace.{over}
use Rattle.shell_check.specs.Reading.{RepairsAll}
use Rattle.arena_repair.specs.Chain.{repaired_within, reports_of, reports_within}

-- it has no info block
pub empty_reports : (bad : ℕ → Bool) (parent : List ℕ) → reports_of bad [] parent ≡ record { findings = found.Info Signature ∷ []; size = None } ∷ []
unfolding reports_within first_fault has_signature
empty_reports bad parent = refl

pub bad_over : (set : List Mapping) (offset raw : ℕ) (rows others : List Words) (objects : List (Option (List ℕ))) → bad_words (over set offset raw rows) objects ≡ bad_words (over set offset raw others) objects
unfolding bad_words
bad_over set offset raw rows others objects = refl

pub no_words : (words : List ℕ) → length words ≡ 0 → words ≡ []
no_words [] none = refl
no_words (w ∷ words) none = absurd (omega (arith, none))

-- the lines of one report
pub one_text : (head : List ℕ) (repair : Bool) (report : Report) → arena_lines head repair 0 report ≡ report_lines head repair 0 (report ∷ [])
one_text head repair report = sym (append-nil (arena_lines head repair 0 report))

pub one_count : (repair : Bool) (report : Report) → length (left_of repair report).findings ≡ findings_in repair (report ∷ [])
one_count repair report = omega (arith, sum_by-cons (λ (r : Report). length (left_of repair r).findings) report [])

-- nothing of it is repaired
none_repaired : (bad : ℕ → Bool) (parent : List ℕ) → RepairsAll bad parent [] []
unfolding repaired_within first_fault has_signature
none_repaired bad parent = refl

pub empty_runs : (repair : Bool) (bad : ℕ → Bool) (parent row : List ℕ) (runs : List Run) → length row ≡ 0 → runs ≡ [] → MatchBool repair (RepairsAll bad parent row runs) (runs ≡ [])
empty_runs true bad parent row runs long none =
    subst (λ (rs : List Run). RepairsAll bad parent row rs) (sym none) (subst (λ (r : List ℕ). RepairsAll bad parent r []) (sym (no_words row long)) (none_repaired bad parent))
empty_runs false bad parent row runs long none = none
