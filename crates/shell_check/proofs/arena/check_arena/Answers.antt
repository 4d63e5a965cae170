use Rattle.std.proofs.Common.{◌≡◌, ◌∙◌, ◌++◌, ℕ, List, [], ap, sym, subst}
use Rattle.std.specs.List.{cons_option}
use Rattle.std.specs.Option.{option_map}
use Rattle.arena_open.specs.Reading.{info_bytes}
use Rattle.arena_check.specs.Check.{info_findings, info_used, next_of, source_of}
use Rattle.arena_repair.specs.Repair.{page_by}
use Rattle.namespace_words.specs.Source.{Reveals}
use Rattle.shell_check.specs.Reading.{findings_by, map_by}
use Rattle.shell_check.proofs.Lanes.{ok_is}
use Rattle.shell_check.proofs.Parts.{report_is, report_whole}
use Rattle.shell_check.proofs.arena.check_arena.Goals as goal

pub returns-clause-told : goal.returns-clause-told
returns-clause-told g c = λ contents reveals words is.
    let at = c.args.at in
    let parent = c.args.parent.now in
    let bad = g.B.BadWords.bad c.args.bad.now in
    let then = subst (λ h. Reveals h c.args.extent.now.set contents) (sym c.in_ok-source.ensures.same) reveals in
    let later = subst (λ h. Reveals h c.args.extent.now.set contents) (sym c.in_ok-finding.ensures.same) then in
    let read = c.in_ok-source.ensures.told contents reveals in
    let source : c.in_ok-source.source ≡ source_of words parent = read.0 ∙ ap (λ (ws : List ℕ). source_of ws parent) (sym is) in
    let info : cons_option c.in_ok-finding.finding [] ≡ info_findings words parent c.in_ok-source.source =
    c.in_ok-finding.ensures.told contents then words is (read.1 ∙ ap info_bytes (sym is)) in
    let used : c.used-used.result ≡ info_used (source_of words parent) = c.used-used.ensures ∙ ap info_used source in
    let parts = ok_is _ c.in_ok-map.field-0 c.in-Ok-2.map c.in-Ok-2.is (c.in_ok-map.ensures.told contents later words is) in
    let findings : c.report_of.result.findings ≡ info_findings words parent (source_of words parent) ++ findings_by at bad words (info_used (source_of words parent)) =
    c.report_of.ensures.findings ∙ parts.0 ∙ (λ i. (c.in-Ok.ensures ∙ info ∙ ap (info_findings words parent) source) i ++ findings_by at bad words (used i)) in
    record {
      report = report_whole at bad words parent c.report_of.result (findings ∙ report_is at bad words parent) (c.report_of.ensures.size ∙ ap (λ s. option_map (λ info. info.layout.size) (info_used s)) source);
      next = c.next.ensures ∙ ap next_of source;
      page = c.page_repair-page.ensures ∙ (λ i. page_by ((info ∙ ap (info_findings words parent) source) i) (source i));
      map = parts.1 ∙ ap (map_by at bad words) used;
    }

pub returns-clause-small : goal.returns-clause-small
returns-clause-small g c = λ contents reveals.
    let then = subst (λ h. Reveals h c.args.extent.now.set contents) (sym c.in_ok-source.ensures.same) reveals in
    let later = subst (λ h. Reveals h c.args.extent.now.set contents) (sym c.in_ok-finding.ensures.same) then in
    ok_is _ c.in_ok-map.field-0 c.in-Ok-2.map c.in-Ok-2.is (c.in_ok-map.ensures.small contents later)
