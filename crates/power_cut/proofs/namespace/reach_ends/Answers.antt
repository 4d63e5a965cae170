use Rattle.std.proofs.Common.{◌≡◌, ℕ, zero, suc, ◌<◌, true, false, List, [], ◌∷◌, length, get_or, None, refl, sym, ◌∙◌, subst, arith, inl, inr}
use Rattle.std.specs.Prelude.{Contains}
use Rattle.std.proofs.lemmas.Bool.{cases_lt}
use Rattle.nfit_reader.specs.declared.table.Mapping.{Mapping}
use Rattle.power_cut.specs.Namespace.{HasBytes}
use Rattle.power_cut.proofs.namespace.reach_ends.Goals as goal

none : Mapping
none = record { «module» = 0; size = 0; offset = 0; start = 0; ways = 0; lines = None; identity = record { vendor = 0; date = 0; location = 0; serial = 0 } }

any_default : (ms : List Mapping) (k : ℕ) (a b : Mapping) → k < length ms → get_or ms k a ≡ get_or ms k b
any_default [] k a b lt = absurd (omega arith)
any_default (m ∷ ms) zero a b lt = refl
any_default (m ∷ ms) (suc k) a b lt = any_default ms k a b (omega arith)

among : (ms : List Mapping) (k : ℕ) (d : Mapping) → k < length ms → Contains ms (get_or ms k d)
among ms k d lt = (k, lt, any_default ms k (get_or ms k d) d lt)

pub returns-then-not-has_words-clause-no : goal.returns-then-not-has_words-clause-no
returns-then-not-has_words-clause-no c = λ reach.
    let inside : c.loop-position.position < length c.args.set.now = omega (arith, c.loop-position-test.true, c.ways-position-end.ensures.ways) in
    let no : c.has_words.result ≡ false = cc in
    let m : Mapping = get_or c.args.set.now c.loop-position.position none in
    let here = reach m (among c.args.set.now c.loop-position.position none inside) in
    let there : HasBytes c.args.modules.now c.module_at.result c.start.result c.span-bytes.result =
    subst (λ b. HasBytes c.args.modules.now c.module_at.result c.start.result b) (c.span-bytes.ensures.each m (among c.args.set.now c.loop-position.position none inside))
    (subst (λ s. HasBytes c.args.modules.now c.module_at.result s m.size) (sym (c.start.ensures none))
    (subst (λ w. HasBytes c.args.modules.now w m.start m.size) (sym (c.module_at.ensures none)) here)) in
    sym no ∙ c.has_words.ensures.no there

pub loop-position-preserved : goal.loop-position-preserved
loop-position-preserved c = λ p d lt.
    let q : ℕ = c.loop-position.position in
    let inside : q < length c.args.set.now = omega (arith, c.loop-position-test.true, c.ways-position-end.ensures.ways) in
    elim (cases_lt p q) [
      | inl before ↦ c.loop-position.invariant p d before
      | inr on ↦
          let e : q ≡ p = omega (arith, on, lt) in
          let yes : c.has_words.result ≡ true = cc in
          let here = c.has_words.ensures.yes yes in
          subst (λ k. HasBytes c.args.modules.now (get_or c.args.set.now k d).«module» (get_or c.args.set.now k d).start (get_or c.args.set.now k d).size) e
          (subst (λ b. HasBytes c.args.modules.now (get_or c.args.set.now q d).«module» (get_or c.args.set.now q d).start b) (sym (c.span-bytes.ensures.each (get_or c.args.set.now q d) (among c.args.set.now q d inside)))
          (subst (λ s. HasBytes c.args.modules.now (get_or c.args.set.now q d).«module» s c.span-bytes.result) (c.start.ensures d)
          (subst (λ w. HasBytes c.args.modules.now w c.start.result c.span-bytes.result) (c.module_at.ensures d) here)))
    ]
