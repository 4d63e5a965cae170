use Rattle.std.proofs.Common.{◌≡◌, ℕ, ◌%◌, sym, subst, inl, inr, arith}
use Rattle.std.proofs.lemmas.Bool.{cases_lt}
use Rattle.interleave.specs.Places.{unit_of}
use Rattle.region_space.proofs.Fits.{met_not_fits, past_not_fits, fits_free}
use Rattle.region_space.proofs.space.Space.first_fit.Goals as goal

pub returns-in-None : goal.returns-in-None
returns-in-None c = record {
  whole = c.loop-offset.invariant.whole;
  here = fits_free c.args.set.now c.args.self.now c.args.raw c.loop-offset.offset c.span.result c.span.ensures.each (omega arith) c.in-None.ensures.free;
  first = c.loop-offset.invariant.none;
}

pub returns-in-Some : goal.returns-in-Some
returns-in-Some c = λ k multiple. elim (cases_lt k c.loop-offset.offset) [
  | inl below ↦ c.loop-offset.invariant.none k below multiple
  | inr from ↦ elim (cases_lt k c.in-Some.past) [
    | inl met ↦ met_not_fits c.args.set.now c.args.self.now c.args.raw k (c.in-Some.ensures.met.met k from met)
    | inr past ↦ past_not_fits c.args.set.now c.args.self.now c.args.raw k (omega (arith, c.span.ensures.span, c.span.ensures.some)) (omega (arith, c.span.ensures.span))
  ]
]

pub loop-offset-preserved : goal.loop-offset-preserved
loop-offset-preserved c =
    let unit = unit_of c.args.set.now in
    let next = c.multiple_from-offset.ensures in
    record {
      small = omega (arith, next.near, c.unit-unit.type_inv, c.span.type_inv, c.from-span.ensures);
      whole = subst (λ (u : ℕ). c.multiple_from-offset.result % u ≡ 0) c.unit-unit.ensures.unit next.whole;
      none = λ k below multiple. elim (cases_lt k c.loop-offset.offset) [
        | inl before ↦ c.loop-offset.invariant.none k before multiple
        | inr from ↦ elim (cases_lt k c.in-Some.past) [
          | inl met ↦ met_not_fits c.args.set.now c.args.self.now c.args.raw k (c.in-Some.ensures.met.met k from met)
          | inr past ↦ absurd (omega (arith, next.least k (subst (λ (u : ℕ). k % u ≡ 0) (sym c.unit-unit.ensures.unit) multiple) past))
        ]
      ];
    }
