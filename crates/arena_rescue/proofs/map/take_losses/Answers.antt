use Rattle.std.proofs.Common.{◌≡◌, List, ℕ, refl, subst}
use Rattle.std.specs.Prelude.{IfOk, OnOk}
use Rattle.arena_check.specs.Check.{in_arena}
use Rattle.arena_rescue.specs.declared.loss.Loss.{Loss}
use Rattle.arena_rescue.specs.Counting.{counted_twice}
use Rattle.arena_rescue.specs.Rescue.{is_twice, named_blocks}
use Rattle.arena_rescue.proofs.Counts.{twice_agrees}
use Rattle.arena_rescue.proofs.Losses.{losses_same, rescued_same}
use Rattle.arena_rescue.proofs.map.take_losses.Goals as goal

pub returns-clause-losses : goal.returns-clause-losses
returns-clause-losses g c =
    let bad = in_arena c.args.at (g.B.BadWords.bad c.args.bad.now) in
    let named : List ℕ = named_blocks c.args.layout.now bad c.args.entries.now c.args.groups.now in
    subst (λ (ls : List Loss). IfOk c.take_lost.result (λ losses. losses ≡ ls))
    (losses_same c.args.layout.now bad bad (counted_twice c.in_ok-counts.counts) (is_twice named) c.args.entries.now (λ s lt. refl)
    (twice_agrees c.args.layout.now.internal c.in_ok-counts.counts named c.in_ok-counts.ensures.counted) (λ b lt. refl))
    c.take_lost.ensures.losses

pub returns-clause-entries : goal.returns-clause-entries
returns-clause-entries g c =
    let bad = in_arena c.args.at (g.B.BadWords.bad c.args.bad.now) in
    let named : List ℕ = named_blocks c.args.layout.now bad c.args.entries.now c.args.groups.now in
    subst (λ (es : List ℕ). OnOk c.take_lost.result (c.take_lost.new.entries ≡ es))
    (rescued_same c.args.layout.now bad bad (counted_twice c.in_ok-counts.counts) (is_twice named) c.args.entries.now (λ s lt. refl)
    (twice_agrees c.args.layout.now.internal c.in_ok-counts.counts named c.in_ok-counts.ensures.counted) (λ b lt. refl))
    c.take_lost.ensures.entries
