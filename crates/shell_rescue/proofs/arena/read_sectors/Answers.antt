use Rattle.std.proofs.Common.{◌≡◌, ◌∙◌, List, ℕ, drop, ap, sym, subst}
use Rattle.arena_open.specs.Reading.{map_in}
use Rattle.arena_check.specs.Check.{in_arena}
use Rattle.namespace_words.specs.Source.{Reveals, words_by}
use Rattle.shell_check.proofs.Lanes.{ok_is}
use Rattle.shell_rescue.specs.Reading.{IsLogRead}
use Rattle.shell_rescue.proofs.arena.read_sectors.Goals as goal

pub returns-in-Ok-2-clause-told : goal.returns-in-Ok-2-clause-told
returns-in-Ok-2-clause-told g c = λ contents reveals words is.
    let l = c.args.layout.now in
    let bad = in_arena c.args.at (g.B.BadWords.bad c.args.bad.now) in
    let there = subst (λ h. Reveals h c.args.extent.now.set contents) (sym c.in_ok-log.ensures.same) reveals in
    let log : IsLogRead l bad words c.in-Ok.log =
    subst (λ (ws : List ℕ). IsLogRead l bad ws c.in-Ok.log) (sym is)
    (ok_is (IsLogRead l bad (drop c.args.at (words_by c.args.extent.now contents))) c.in_ok-log.field-0 c.in-Ok.log c.in-Ok.is (c.in_ok-log.ensures.told contents reveals)) in
    let entries : c.in-Ok-2.entries.items ≡ map_in l words =
    ok_is (λ es. es.items ≡ map_in l (drop c.args.at (words_by c.args.extent.now contents))) c.in_ok-entries-in-Ok.field-0 c.in-Ok-2.entries c.in-Ok-2.is (c.in_ok-entries-in-Ok.ensures.told contents there)
    ∙ ap (map_in l) (sym is) in
    c.rescue_sectors.ensures.told words log entries
