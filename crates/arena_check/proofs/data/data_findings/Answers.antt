use Rattle.std.proofs.Common.{◌≡◌, ◌+◌, ◌*◌, ◌/◌, ◌≤◌, ◌^◌, false, sym, ◌∙◌, arith}
use Rattle.std.specs.List.{range_with_len, list_any}
use Rattle.arena_check.proofs.BlockWords.{area_fits, data_fine}
use Rattle.arena_check.proofs.data.data_findings.Goals as goal

pub any_bad-requires : goal.any_bad-requires
any_bad-requires g c =
    let fits : c.args.at + c.args.layout.now.data_off / 8 + c.args.layout.now.internal * (c.args.layout.now.inner / 8) ≤ 2 ^ 61 =
    area_fits c.args.layout.now c.requires.layout c.args.at c.requires.inside in
    let product : c.from.result * (c.from-2.result / 8) ≡ c.args.layout.now.internal * (c.args.layout.now.inner / 8) = (λ i. c.from.ensures i * (c.from-2.ensures i / 8)) in
    omega (arith, fits, product)

pub returns-then-not-any_bad : goal.returns-then-not-any_bad
returns-then-not-any_bad g c =
    let none : list_any (g.B.BadWords.bad c.args.bad.now) (range_with_len (c.args.at + c.args.layout.now.data_off / 8) (c.args.layout.now.internal * (c.args.layout.now.inner / 8))) ≡ false =
    (λ i. list_any (g.B.BadWords.bad c.args.bad.now) (range_with_len (c.args.at + c.args.layout.now.data_off / 8) (sym c.from.ensures i * (sym c.from-2.ensures i / 8))))
    ∙ sym c.if-not-any_bad.ensures in
    c.new.ensures ∙ sym (data_fine c.args.layout.now c.requires.layout (g.B.BadWords.bad c.args.bad.now) c.args.at c.args.entries.now c.requires.sectors c.requires.blocks none)
