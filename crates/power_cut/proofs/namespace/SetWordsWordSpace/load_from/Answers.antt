use Rattle.std.proofs.Common.{◌≡◌, ◌+◌, ◌-◌, ◌<◌, ℕ, length, take, drop, sym, ap, ◌∙◌, subst, arith}
use Rattle.cut_words.specs.Words.{AreFlushed}
use Rattle.power_cut.specs.Namespace.{Namespace, IsLaid, count_of, over, words_of}
use Rattle.power_cut.proofs.Spread.{count_is}
use Rattle.power_cut.proofs.Runs.{Turn, mid_front, mid_long, part_long, small, turn}
use Rattle.power_cut.proofs.namespace.SetWordsWordSpace.load_from.Goals as goal

pub overflow_add-i : goal.overflow_add-i
overflow_add-i c =
    let laid : IsLaid c.args.self.now = subst (λ (m : Namespace). IsLaid m) c.self.view_is c.self.invariant.0 in
    let below : c.args.first + c.loop-done.done < count_of c.args.self.now =
    omega (arith, c.requires.inside, count_is c.args.self.now, c.loop-done-test.true, c.loop-done.invariant.count) in
    omega (arith, small c.args.self.now (c.args.first + c.loop-done.done) laid below)

pub locate-module-requires : goal.locate-module-requires
locate-module-requires c = omega (arith, c.requires.inside, count_is c.args.self.now, c.loop-done-test.true, c.loop-done.invariant.count)

pub word_run-requires : goal.word_run-requires
word_run-requires c =
    let below : c.args.first + c.loop-done.done < count_of c.args.self.now =
    omega (arith, c.requires.inside, count_is c.args.self.now, c.loop-done-test.true, c.loop-done.invariant.count) in
    subst (λ (n : Namespace). c.args.first + c.loop-done.done < count_of n) (sym c.self.view_is) below

pub load_from-requires-clause-inside : goal.load_from-requires-clause-inside
load_from-requires-clause-inside c =
    let done : ℕ = c.loop-done.done in
    let into = c.loop-done.into in
    let size : ℕ = c.min-size.result in
    let turn_is : Turn c.args.self.now c.args.first done size (length into) c.locate-module.result.1 c.index.result.now =
    turn (over c.self.inside.extent.set c.self.inside.extent.offset c.self.inside.extent.raw c.self.inside.modules.items) c.args.self.now c.args.first done size (length into) c.word_run.result c.locate-module.result.0
    c.locate-module.result.1 c.index.result.now c.self.view_is c.self.invariant.0 c.self.invariant.1 (omega (arith, c.requires.inside, c.loop-done.invariant.count)) c.loop-done-test.true c.min-size.ensures
    c.word_run.ensures.some c.word_run.ensures.run c.locate-module.ensures.there c.locate-module.ensures.module c.index.ensures in
    omega (arith, part_long done size into turn_is.fits, turn_is.room)

pub load_from-requires-clause-flushed : goal.load_from-requires-clause-flushed
load_from-requires-clause-flushed c =
    let done : ℕ = c.loop-done.done in
    let into = c.loop-done.into in
    let size : ℕ = c.min-size.result in
    let turn_is : Turn c.args.self.now c.args.first done size (length into) c.locate-module.result.1 c.index.result.now =
    turn (over c.self.inside.extent.set c.self.inside.extent.offset c.self.inside.extent.raw c.self.inside.modules.items) c.args.self.now c.args.first done size (length into) c.word_run.result c.locate-module.result.0
    c.locate-module.result.1 c.index.result.now c.self.view_is c.self.invariant.0 c.self.invariant.1 (omega (arith, c.requires.inside, c.loop-done.invariant.count)) c.loop-done-test.true c.min-size.ensures
    c.word_run.ensures.some c.word_run.ensures.run c.locate-module.ensures.there c.locate-module.ensures.module c.index.ensures in
    subst (AreFlushed c.index.result.now c.locate-module.result.1) (sym (part_long done size into turn_is.fits))
    (turn_is.flushed (subst (AreFlushed (words_of c.args.self.now) c.args.first) (sym c.loop-done.invariant.count) c.requires.flushed))

pub loop-done-preserved : goal.loop-done-preserved
loop-done-preserved c =
    let done : ℕ = c.loop-done.done in
    let into = c.loop-done.into in
    let size : ℕ = c.min-size.result in
    let turn_is : Turn c.args.self.now c.args.first done size (length into) c.locate-module.result.1 c.index.result.now =
    turn (over c.self.inside.extent.set c.self.inside.extent.offset c.self.inside.extent.raw c.self.inside.modules.items) c.args.self.now c.args.first done size (length into) c.word_run.result c.locate-module.result.0
    c.locate-module.result.1 c.index.result.now c.self.view_is c.self.invariant.0 c.self.invariant.1 (omega (arith, c.requires.inside, c.loop-done.invariant.count)) c.loop-done-test.true c.min-size.ensures
    c.word_run.ensures.some c.word_run.ensures.run c.locate-module.ensures.there c.locate-module.ensures.module c.index.ensures in
    let all = drop c.args.first (words_of c.args.self.now).kept in
    let part : c.load_from.new.into ≡ take size (drop done all) =
    c.load_from.ensures ∙ ap (λ (m : ℕ). take m (drop c.locate-module.result.1 c.index.result.now.kept)) (part_long done size into turn_is.fits) ∙ turn_is.kept in
    let long : length c.load_from.new.into ≡ size = c.load_from.auto.into ∙ part_long done size into turn_is.fits in
    let whole = mid_long done (done + size - done) size into c.load_from.new.into (omega arith) turn_is.fits long in
    record {
      below = omega (arith, whole, turn_is.fits);
      count = whole ∙ c.loop-done.invariant.count;
      front = mid_front done (done + size - done) size into c.load_from.new.into all c.loop-done.invariant.below long c.loop-done.invariant.front part;
    }
