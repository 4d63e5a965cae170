use Rattle.std.proofs.Common.{◌≡◌, ℕ, ◌+◌, false, get_or, ◌∙◌, subst, inl, inr, arith}
use Rattle.std.proofs.lemmas.Bool.{cases_lt, le-ltb}
use Rattle.nfit_reader.specs.declared.table.Mapping.{Mapping}
use Rattle.region_space.specs.Fitting.{is_met}
use Rattle.region_space.proofs.Fits.{Reaches, met_where, met_up_to, any_at_each, any_none_at}
use Rattle.region_space.proofs.fitting.offset_past.Goals as goal

pub returns-then-start-offset-clause-met : goal.returns-then-start-offset-clause-met
returns-then-start-offset-clause-met c =
    let set = c.args.set.now in
    let extents = c.args.space.now in
    let n = c.loop-position.position in
    let offset = c.args.offset in
    let end = c.reach-end.result in
    let begins : (b : Mapping) → c.from-start.result ≡ (get_or set n b).start = λ b. c.from-start.ensures ∙ c.start.ensures b in
    let reaches : (b : Mapping) → Reaches extents (get_or set n b).«module» ((get_or set n b).start + offset + c.args.raw) end =
    λ b. rw (c.module_at.ensures b, begins b, c.from.ensures) at c.reach-end.ensures in
    record {
      above = omega arith;
      met = λ k le lt. any_at_each (is_met extents c.args.raw k) set n (omega (arith, c.ways-position-end.ensures.ways))
          (λ b. met_up_to extents c.args.raw offset end k (get_or set n b) (reaches b) le (omega (arith, begins b)));
    }

pub loop-position-preserved : goal.loop-position-preserved
loop-position-preserved c =
    let set = c.args.set.now in
    let extents = c.args.space.now in
    let n = c.loop-position.position in
    let offset = c.args.offset in
    let end = c.reach-end.result in
    let begins : (b : Mapping) → c.from-start.result ≡ (get_or set n b).start = λ b. c.from-start.ensures ∙ c.start.ensures b in
    let reaches : (b : Mapping) → Reaches extents (get_or set n b).«module» ((get_or set n b).start + offset + c.args.raw) end =
    λ b. rw (c.module_at.ensures b, begins b, c.from.ensures) at c.reach-end.ensures in
    let here : (b : Mapping) → is_met extents c.args.raw offset (get_or set n b) ≡ false =
    λ b. met_where extents c.args.raw offset end (get_or set n b) (reaches b) ∙ le-ltb ((get_or set n b).start + offset) end (omega (arith, begins b)) in
    λ k b lt. elim (cases_lt k n) [
      | inl below ↦ c.loop-position.invariant k b below
      | inr past ↦ subst (λ (m : ℕ). is_met extents c.args.raw offset (get_or set m b) ≡ false) (let same : n ≡ k = omega arith in same) (here b)
    ]

pub returns-clause-free : goal.returns-clause-free
returns-clause-free c = any_none_at (is_met c.args.space.now c.args.raw c.args.offset) c.args.set.now (λ k d lt. c.loop-position.invariant k d (omega (arith, c.ways-position-end.ensures.ways)))
