use Rattle.std.proofs.Common.{◌≡◌, ◌+◌, ◌*◌, ◌/◌, ℕ, Bool, true, false, not, ◌&&◌, sym, ap, refl, ◌∙◌, arith}
use Rattle.std.specs.List.{list_any, range_with_len}
use Rattle.arena_rescue.proofs.Areas.{data_area_inside, sound_by}
use Rattle.arena_rescue.proofs.bad.are_sound.Goals as goal

then_both : (a b : Bool) → a ≡ false → not b ≡ (not a && not b)
then_both a b e = sym (ap (λ (t : Bool). not t && not b) e)

else_both : (a b : Bool) → a ≡ true → not a ≡ (not a && not b)
else_both a b e = (λ i. not (e i)) ∙ sym (λ i. not (e i) && not b)

pub any_bad-requires : goal.any_bad-requires
any_bad-requires g c =
    let product : c.from.result * (c.from-2.result / 8) ≡ c.args.layout.now.internal * (c.args.layout.now.inner / 8) = (λ i. c.from.ensures i * (c.from-2.ensures i / 8)) in
    omega (arith, product, data_area_inside c.args.layout.now c.requires.layout, c.requires.inside)

pub returns-then-not-any_bad : goal.returns-then-not-any_bad
returns-then-not-any_bad g c =
    then_both c.any_bad.result c.any_bad-then-not-any_bad.result c.if-not-any_bad.true
    ∙ sound_by c.args.layout.now (g.B.BadWords.bad c.args.bad.now) c.args.at _ _ c.any_bad.result c.any_bad-then-not-any_bad.result
    (λ i. c.from.ensures i * (c.from-2.ensures i / 8)) (ap (λ (n : ℕ). (n + 1) / 2) c.from-3.ensures) c.any_bad.ensures c.any_bad-then-not-any_bad.ensures

pub returns-else-not-any_bad : goal.returns-else-not-any_bad
returns-else-not-any_bad g c =
    let rest : Bool = list_any (g.B.BadWords.bad c.args.bad.now) (range_with_len (c.args.at + c.args.layout.now.map_off / 8) ((c.args.layout.now.external + 1) / 2)) in
    else_both c.any_bad.result rest c.if-not-any_bad.false
    ∙ sound_by c.args.layout.now (g.B.BadWords.bad c.args.bad.now) c.args.at _ _ c.any_bad.result rest
    (λ i. c.from.ensures i * (c.from-2.ensures i / 8)) refl c.any_bad.ensures refl
