use Rattle.std.proofs.Common.{◌≡◌, ◌∙◌, drop, Ok, ap, sym, subst}
use Rattle.std.specs.Prelude.{IfSome}
use Rattle.arena_check.specs.Check.{group_findings, in_arena, map_findings, recovered_map}
use Rattle.arena_repair.specs.Repair.{entries_repair, map_repair}
use Rattle.arena_open.specs.Reading.{groups_in, map_in}
use Rattle.namespace_words.specs.Source.{IsMapOfBytes, Reveals, bytes_by, words_by}
use Rattle.shell_reports.proofs.More.{if_both, if_more}
use Rattle.shell_check.specs.Reading.{IsLogRead}
use Rattle.shell_check.proofs.Lanes.{log_as, ok_is, some_any}
use Rattle.shell_check.proofs.arena.check_groups.Goals as goal

pub returns-in-Ok-clause-told : goal.returns-in-Ok-clause-told
returns-in-Ok-clause-told g c = λ contents reveals words is.
    let l = c.args.layout.now in
    let bad = in_arena c.args.at (g.B.BadWords.bad c.args.bad.now) in
    let there = subst (λ h. Reveals h c.args.extent.now.set contents) (sym c.in_ok-groups.ensures.same) reveals in
    let log : IsLogRead l words c.in-Ok-Sound.field-0 =
    log_as l (drop c.args.at (words_by c.args.extent.now contents)) words is c.in_ok-groups.field-0 c.in-Ok-Sound.field-0 c.in-Ok-Sound.is (c.in_ok-groups.ensures.told contents reveals) in
    let groups : groups_in l words ≡ Ok c.in-Ok-Sound.groups = subst (IsLogRead l words) c.in-Ok-Sound.field-0-is log in
    let entries : c.in-Ok.entries.items ≡ map_in l words =
    ok_is (λ es. es.items ≡ map_in l (drop c.args.at (words_by c.args.extent.now contents))) c.in_ok-entries-in-Ok-Sound.field-0 c.in-Ok.entries c.in-Ok.is (c.in_ok-entries-in-Ok-Sound.ensures.told contents there)
    ∙ ap (map_in l) (sym is) in
    if_both _ _ (λ check. (check.findings ≡ group_findings l bad words (groups_in l words)) × (check.repair ≡ map_repair l bad words (groups_in l words))) c.check_map.result
    (λ check found repair. (
      found ∙ (λ i. map_findings l bad (recovered_map (entries i) (c.as_slice.ensures i)) (c.as_slice.ensures i)) ∙ sym (ap (group_findings l bad words) groups),
      repair ∙ (λ i. entries_repair l bad (entries i) (c.as_slice.ensures i)) ∙ sym (ap (map_repair l bad words) groups),
    ))
    c.check_map.ensures.findings c.check_map.ensures.repair

pub returns-in-Ok-clause-small : goal.returns-in-Ok-clause-small
returns-in-Ok-clause-small g c = λ contents reveals.
    let there = subst (λ h. Reveals h c.args.extent.now.set contents) (sym c.in_ok-groups.ensures.same) reveals in
    let small : IsMapOfBytes (bytes_by c.args.extent.now contents) c.args.at c.args.layout.now =
    ok_is (λ _. IsMapOfBytes (bytes_by c.args.extent.now contents) c.args.at c.args.layout.now) c.in_ok-entries-in-Ok-Sound.field-0 c.in-Ok.entries c.in-Ok.is
    (c.in_ok-entries-in-Ok-Sound.ensures.bytes contents there) in
    if_more _ (λ check. IfSome check.repair (λ _. IsMapOfBytes (bytes_by c.args.extent.now contents) c.args.at c.args.layout.now)) c.check_map.result
    (λ check _. some_any check.repair (IsMapOfBytes (bytes_by c.args.extent.now contents) c.args.at c.args.layout.now) small) c.check_map.ensures.findings

pub returns-in-Ok-Refused-clause-told : goal.returns-in-Ok-Refused-clause-told
returns-in-Ok-Refused-clause-told g c = λ contents reveals words is.
    let l = c.args.layout.now in
    let bad = in_arena c.args.at (g.B.BadWords.bad c.args.bad.now) in
    let log : IsLogRead l words c.in-Ok-Refused.field-0 =
    log_as l (drop c.args.at (words_by c.args.extent.now contents)) words is c.in_ok-groups.field-0 c.in-Ok-Refused.field-0 c.in-Ok-Refused.is (c.in_ok-groups.ensures.told contents reveals) in
    let refused = subst (IsLogRead l words) c.in-Ok-Refused.field-0-is log in
    (refused.2 ∙ sym (ap (group_findings l bad words) refused.1), sym (ap (map_repair l bad words) refused.1))
