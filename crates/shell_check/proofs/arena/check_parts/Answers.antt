use Rattle.std.proofs.Common.{◌≡◌, ◌∙◌, ◌++◌, ◌+◌, ◌*◌, ◌≤◌, List, ap}
use Rattle.std.specs.Prelude.{IfSome}
use Rattle.std.specs.Option.{option_map}
use Rattle.arena_layout.specs.declared.layout.Layout.{Layout}
use Rattle.arena_layout.specs.Layout.{IsLayout}
use Rattle.arena_check.specs.declared.finding.Finding.{Finding}
use Rattle.arena_check.specs.Check.{findings_with, in_arena, meta_findings}
use Rattle.arena_open.specs.Reading.{groups_in}
use Rattle.arena_repair.specs.Repair.{map_repair}
use Rattle.namespace_words.specs.Source.{IsMapOfBytes, bytes_by}
use Rattle.power_cut.specs.Namespace.{raw_bytes}
use Rattle.shell_reports.proofs.More.{if_more}
use Rattle.shell_check.specs.Reading.{put_of}
use Rattle.shell_check.proofs.Lanes.{if_ok_both, ok_is, put_small, some_any}
use Rattle.shell_check.proofs.arena.check_parts.Goals as goal

pub returns-in-Ok-clause-told : goal.returns-in-Ok-clause-told
returns-in-Ok-clause-told g c = λ contents reveals words is.
    let l = c.args.layout.now in
    let bad = g.B.BadWords.bad c.args.bad.now in
    let both = ok_is _ c.in_ok-check.field-0 c.in-Ok.check c.in-Ok.is (c.in_ok-check.ensures.told contents reveals words is) in
    if_ok_both _ _ (λ map. (c.push_parts.new.findings.items ≡ c.args.findings.now.items ++ findings_with c.args.at bad words l) × (map ≡ option_map (put_of l) (map_repair l (in_arena c.args.at bad) words (groups_in l words)))) c.push_parts.result
    (λ map found is_map. (
      found ∙ ap (λ (fs : List Finding). c.args.findings.now.items ++ (fs ++ meta_findings c.args.at bad l)) both.0,
      is_map ∙ ap (option_map (put_of l)) both.1,
    ))
    c.push_parts.ensures.findings c.push_parts.ensures.map

pub returns-in-Ok-clause-small : goal.returns-in-Ok-clause-small
returns-in-Ok-clause-small g c = λ contents reveals.
    let small = ok_is _ c.in_ok-check.field-0 c.in-Ok.check c.in-Ok.is (c.in_ok-check.ensures.small contents reveals) in
    if_more _ (λ map. IfSome map (λ put. IsMapOfBytes (bytes_by c.args.extent.now contents) c.args.at put.layout)) c.push_parts.result
    (λ map is_map. put_small c.args.layout.now (λ (l : Layout). IsMapOfBytes (bytes_by c.args.extent.now contents) c.args.at l) c.in-Ok.check.repair map is_map small) c.push_parts.ensures.map

pub returns-in-Ok-clause-fits : goal.returns-in-Ok-clause-fits
returns-in-Ok-clause-fits g c =
    if_more _ (λ map. IfSome map (λ put. IsLayout put.layout × (8 * c.args.at + put.layout.size ≤ raw_bytes c.args.extent.now))) c.push_parts.result
    (λ map is_map. put_small c.args.layout.now (λ (l : Layout). IsLayout l × (8 * c.args.at + l.size ≤ raw_bytes c.args.extent.now)) c.in-Ok.check.repair map is_map
    (some_any c.in-Ok.check.repair (IsLayout c.args.layout.now × (8 * c.args.at + c.args.layout.now.size ≤ raw_bytes c.args.extent.now)) (c.requires.layout, c.requires.inside))) c.push_parts.ensures.map
