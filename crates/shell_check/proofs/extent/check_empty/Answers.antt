use Rattle.std.proofs.Common.{◌≡◌, ◌∙◌, ◌++◌, List, [], ◌∷◌, None, ap, sym, length}
use Rattle.arena_layout.specs.declared.info.InfoFault.TheVariants.{Signature}
use Rattle.arena_check.specs.declared.finding.Finding.{Finding}
use Rattle.arena_check.specs.declared.finding.Finding.TheVariants as found
use Rattle.arena_check.specs.declared.finding.Report.{Report}
use Rattle.arena_repair.specs.Chain.{reports_of}
use Rattle.shell_check.specs.Text.{arena_lines, findings_in, left_of, report_lines}
use Rattle.shell_check.proofs.Empty.{empty_reports, one_count, one_text}
use Rattle.shell_check.proofs.extent.check_empty.Goals as goal

pub returns-clause-lines : goal.returns-clause-lines
returns-clause-lines c = λ bad parent.
    let head = c.args.head.now in
    let repair = c.args.repair in
    let report : Report = record { findings = found.Info Signature ∷ []; size = None } in
    let findings : c.push.new.self ≡ found.Info Signature ∷ [] = c.in_ok-push.ensures.ok ∙ ap (λ (fs : List Finding). fs ++ found.Info Signature ∷ []) c.new-findings.ensures in
    let lines : c.push_report.new.text.items ≡ arena_lines head repair 0 report =
    c.in_ok-count.ensures.lines ∙ (λ i. c.new-text.ensures.items i ++ arena_lines head repair 0 (record { findings = findings i; size = None })) in
    let count : c.in_ok-count.count ≡ length (left_of repair report).findings =
    c.in_ok-count.ensures.count ∙ ap (λ (fs : List Finding). length (left_of repair (record { findings = fs; size = None })).findings) findings in
    let all : reports_of bad [] parent ≡ report ∷ [] = empty_reports bad parent in
    record {
      text = lines ∙ one_text head repair report ∙ sym (ap (report_lines head repair 0) all);
      count = count ∙ one_count repair report ∙ sym (ap (findings_in repair) all);
    }
