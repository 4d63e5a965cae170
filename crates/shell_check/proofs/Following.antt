-- Reports on the arenas of a namespace, one after another.
use Rattle.std.proofs.Common.{◌≡◌, ◌≢◌, ℕ, zero, suc, ◌+◌, ◌/◌, ◌≤◌, Bool, List, [], ◌∷◌, ◌++◌, length, drop, refl, sym, ap, ◌∙◌, arith}
use Rattle.std.specs.Prelude.{codes}
use Rattle.std.specs.Fmt.{decimal}
use Rattle.std.proofs.lemmas.Bool.{ne_eqb}
use Rattle.std.proofs.lemmas.List.{append_assoc, append-nil, length-append}
use Rattle.std.proofs.lemmas.List.Sums.{sum_by-cons, sum_by-append}
use Rattle.arena_check.specs.declared.finding.Finding.{Finding}
use Rattle.arena_check.specs.declared.finding.Report.{Report}
use Rattle.arena_check.specs.Check.{next_of, report_of, source_of}
use Rattle.arena_repair.specs.Chain.{behind, reports_of, reports_within}
use Rattle.shell_reports.specs.Outcome.{joined, lf}
use Rattle.shell_check.specs.Text.{answered, arena_lines, finding_line, finding_text, findings_in, left_of, lines_of, repaired_lines, report_lines}

-- ---- lines

-- a line isn't empty
line_long : (head : List ℕ) (k : ℕ) (x : Finding) → 1 ≤ length (finding_line head k x)
line_long head k x =
    omega (
      arith,
      length-append head (joined (decimal k ∷ codes " " ∷ finding_text x ∷ lf ∷ [])),
      length-append (decimal k) (joined (codes " " ∷ finding_text x ∷ lf ∷ [])),
    )

-- each finding has one
lines_long : (head : List ℕ) (k : ℕ) (xs : List Finding) → length xs ≤ length (lines_of head k xs)
lines_long head k [] = omega arith
lines_long head k (x ∷ xs) = omega (arith, line_long head k x, lines_long head k xs, length-append (finding_line head k x) (lines_of head k xs))

pub open_long : (head : List ℕ) (repair : Bool) (k : ℕ) (report : Report) → length (left_of repair report).findings ≤ length (arena_lines head repair k report)
open_long head repair k report =
    omega (arith, lines_long head k (left_of repair report).findings, length-append (repaired_lines head k (answered repair report)) (lines_of head k (left_of repair report).findings))

reports_append : (head : List ℕ) (repair : Bool) (k : ℕ) (xs ys : List Report) → report_lines head repair k (xs ++ ys) ≡ report_lines head repair k xs ++ report_lines head repair (k + length xs) ys
reports_append head repair k [] ys = ap (λ (n : ℕ). report_lines head repair n ys) (let e : k ≡ k + length {A = Report} [] = omega arith in e)
reports_append head repair k (x ∷ xs) ys =
    ap (λ (text : List ℕ). arena_lines head repair k x ++ text) (reports_append head repair (k + 1) xs ys)
    ∙ sym (append_assoc (arena_lines head repair k x) (report_lines head repair (k + 1) xs) (report_lines head repair (k + 1 + length xs) ys))
    ∙ ap (λ (n : ℕ). (arena_lines head repair k x ++ report_lines head repair (k + 1) xs) ++ report_lines head repair n ys) (let e : k + 1 + length xs ≡ k + length (x ∷ xs) = omega arith in e)

-- ---- the arenas so far

-- The reports on the first k arenas make this text and so many open findings, and the next arena begins at this word.
pub record IsSoFar (head : List ℕ) (repair : Bool) (bad : ℕ → Bool) (words parent : List ℕ) (k count at : ℕ) (text : List ℕ) : Type 0 where
  pub done : List Report
  pub many : length done ≡ k
  pub text_is : text ≡ report_lines head repair 0 done
  pub count_is : count ≡ findings_in repair done
  pub left : ℕ
  pub enough : k + left ≡ length words + 1
  pub rest : reports_of bad words parent ≡ done ++ reports_within left bad words parent at

pub starts : (head : List ℕ) (repair : Bool) (bad : ℕ → Bool) (words parent text : List ℕ) → text ≡ [] → IsSoFar head repair bad words parent 0 0 0 text
starts head repair bad words parent text none = record {
  done = [];
  many = refl;
  text_is = none;
  count_is = refl;
  left = length words + 1;
  enough = omega arith;
  rest = refl;
}

module _ (head : List ℕ) (repair : Bool) (bad : ℕ → Bool) (words parent : List ℕ) (k count at : ℕ) (text : List ℕ) (so_far : IsSoFar head repair bad words parent k count at text) (short : k ≤ length words) where
  abbrev report : Report
  report = report_of at bad (drop at words) parent

  abbrev next : ℕ
  next = next_of (source_of (drop at words) parent)

  -- the next report
  within_one : (n : ℕ) → so_far.left ≡ n → (m : ℕ) × ((k + 1 + m ≡ length words + 1) × (reports_within so_far.left bad words parent at ≡ report ∷ behind next at (reports_within m bad words parent)))
  unfolding reports_within report_of
  within_one zero is = absurd (omega (arith, is, so_far.enough, short))
  within_one (suc m) is = (m, (omega (arith, is, so_far.enough), ap (λ (n : ℕ). reports_within n bad words parent at) is))

  module _ (own : Report) (found : own ≡ report) where
    lines_are : text ++ arena_lines head repair k own ≡ report_lines head repair 0 (so_far.done ++ report ∷ [])
    lines_are =
        let place : k ≡ 0 + length so_far.done = omega (arith, so_far.many) in
        (λ i. so_far.text_is i ++ arena_lines head repair (place i) (found i))
        ∙ ap (λ (more : List ℕ). report_lines head repair 0 so_far.done ++ more) (sym (append-nil (arena_lines head repair (0 + length so_far.done) report)))
        ∙ sym (reports_append head repair 0 so_far.done (report ∷ []))

    count_are : count + length (left_of repair own).findings ≡ findings_in repair (so_far.done ++ report ∷ [])
    count_are =
        omega (
          arith,
          so_far.count_is,
          ap (λ (r : Report). length (left_of repair r).findings) found,
          sum_by-append (λ (r : Report). length (left_of repair r).findings) so_far.done (report ∷ []),
          sum_by-cons (λ (r : Report). length (left_of repair r).findings) report [],
        )

    -- another arena follows
    pub goes_on : (n : ℕ) → n ≡ next → n ≢ 0 → IsSoFar head repair bad words parent (k + 1) (count + length (left_of repair own).findings) (at + n / 8) (text ++ arena_lines head repair k own)
    goes_on n is some =
        let one = within_one so_far.left refl in
        let more : behind next at (reports_within one.0 bad words parent) ≡ reports_within one.0 bad words parent (at + n / 8) =
        ap (λ (x : ℕ). behind x at (reports_within one.0 bad words parent)) (sym is) ∙ rw (ne_eqb n 0 some) refl in
        record {
          done = so_far.done ++ report ∷ [];
          many = omega (arith, so_far.many, length-append so_far.done (report ∷ []));
          text_is = lines_are;
          count_is = count_are;
          left = one.0;
          enough = one.1.0;
          rest = so_far.rest ∙ ap (λ (rs : List Report). so_far.done ++ rs) (one.1.1 ∙ ap (λ (rs : List Report). report ∷ rs) more)
              ∙ sym (append_assoc so_far.done (report ∷ []) (reports_within one.0 bad words parent (at + n / 8)));
        }

    -- it was the last one
    all_is : next ≡ 0 → reports_of bad words parent ≡ so_far.done ++ report ∷ []
    all_is none =
        let one = within_one so_far.left refl in
        so_far.rest ∙ ap (λ (rs : List Report). so_far.done ++ rs) (one.1.1 ∙ ap (λ (x : ℕ). report ∷ behind x at (reports_within one.0 bad words parent)) none)

    pub text_ends : next ≡ 0 → text ++ arena_lines head repair k own ≡ report_lines head repair 0 (reports_of bad words parent)
    text_ends none = lines_are ∙ sym (ap (report_lines head repair 0) (all_is none))

    pub count_ends : next ≡ 0 → count + length (left_of repair own).findings ≡ findings_in repair (reports_of bad words parent)
    count_ends none = count_are ∙ sym (ap (findings_in repair) (all_is none))
