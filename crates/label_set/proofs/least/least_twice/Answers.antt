use Rattle.std.proofs.Common.{◌≡◌, ◌+◌, ℕ, true, leb, sym, subst, arith}
use Rattle.std.proofs.lemmas.Bool.{leb-true, lt-ltb, le-ltb}
use Rattle.label_set.specs.Rules.{module_of, count_on}
use Rattle.label_set.proofs.Twice.{NoneBelow, from_on, least_some, twice_found, twice_on, twice_none}
use Rattle.label_set.proofs.least.least_twice.Goals as goal

pub returns-then-count_on-gt1 : goal.returns-then-count_on-gt1
returns-then-count_on-gt1 c =
    twice_found c.args.labels.now c.loop-next.from c.in-Some.next (sym c.in-Some.ensures) c.loop-next.invariant
    (lt-ltb 1 (count_on c.args.labels.now c.in-Some.next.«module») (omega (arith, c.count_on.ensures, c.if-count_on-gt1.true)))

pub loop-next-smaller : goal.loop-next-smaller
loop-next-smaller c =
    let passes : leb c.loop-next.from c.in-Some.next.«module» ≡ true =
    (least_some module_of (from_on c.loop-next.from) c.args.labels.now c.in-Some.next (sym c.in-Some.ensures)).passes in
    omega (arith, leb-true c.loop-next.from c.in-Some.next.«module» passes, c.from-from.ensures)

pub loop-next-preserved : goal.loop-next-preserved
loop-next-preserved c =
    subst (λ (n : ℕ). NoneBelow (n + 1) c.args.labels.now) (sym c.from-from.ensures)
    (twice_on c.args.labels.now c.loop-next.from c.in-Some.next (sym c.in-Some.ensures) c.loop-next.invariant
    (le-ltb 1 (count_on c.args.labels.now c.in-Some.next.«module») (omega (arith, c.count_on.ensures, c.if-count_on-gt1.false))))

pub returns : goal.returns
returns c = twice_none c.args.labels.now c.loop-next.from (sym c.in_default.ensures) c.loop-next.invariant
