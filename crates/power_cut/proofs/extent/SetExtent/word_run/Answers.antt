use Rattle.std.proofs.Common.{◌≡◌, ◌+◌, ◌*◌, ◌/◌, ◌%◌, ◌<◌, [], length, sym, ap, ◌∙◌, subst, arith}
use Rattle.interleave.specs.Places.{LiesAt}
use Rattle.interleave.specs.Sound.{IsRun, line_of, span_of}
use Rattle.power_cut.specs.Namespace.{Namespace, byte_at, count_of, over}
use Rattle.power_cut.proofs.Places.{byte_is}
use Rattle.power_cut.proofs.Runs.{words_run}
use Rattle.power_cut.proofs.extent.SetExtent.word_run.Goals as goal

pub overflow_add-first : goal.overflow_add-first
overflow_add-first c =
    let n : Namespace = over c.self.inside.set.now c.self.inside.offset c.self.inside.raw [] in
    let first : c.first.result ≡ length n.set * n.offset = c.first.ensures ∙ sym (ap (λ (m : Namespace). length m.set * m.offset) c.self.view_is) in
    let lt : c.args.i < count_of n = subst (λ (m : Namespace). c.args.i < count_of m) (sym c.self.view_is) c.requires in
    omega (arith, first, (byte_is n c.args.i c.self.invariant lt).in_region, c.self.invariant.fits)

pub run_length-requires : goal.run_length-requires
run_length-requires c =
    let n : Namespace = over c.self.inside.set.now c.self.inside.offset c.self.inside.raw [] in
    let first : c.first.result ≡ length n.set * n.offset = c.first.ensures ∙ sym (ap (λ (m : Namespace). length m.set * m.offset) c.self.view_is) in
    let lt : c.args.i < count_of n = subst (λ (m : Namespace). c.args.i < count_of m) (sym c.self.view_is) c.requires in
    subst (λ f. f + 8 * c.args.i < length n.set * span_of n.set) (sym first) (byte_is n c.args.i c.self.invariant lt).in_region

pub returns-clause-some : goal.returns-clause-some
returns-clause-some c =
    let n : Namespace = over c.self.inside.set.now c.self.inside.offset c.self.inside.raw [] in
    let first : c.first.result ≡ length n.set * n.offset = c.first.ensures ∙ sym (ap (λ (m : Namespace). length m.set * m.offset) c.self.view_is) in
    let lt : c.args.i < count_of n = subst (λ (m : Namespace). c.args.i < count_of m) (sym c.self.view_is) c.requires in
    let whole : (c.first.result + 8 * c.args.i) % 8 ≡ 0 = ap (λ f. (f + 8 * c.args.i) % 8) first ∙ (byte_is n c.args.i c.self.invariant lt).whole in
    omega (arith, c.run_length.ensures.some, c.run_length.ensures.words whole)

pub returns-clause-run : goal.returns-clause-run
returns-clause-run c = λ which k lies.
    let n : Namespace = over c.self.inside.set.now c.self.inside.offset c.self.inside.raw [] in
    let first : c.first.result ≡ length n.set * n.offset = c.first.ensures ∙ sym (ap (λ (m : Namespace). length m.set * m.offset) c.self.view_is) in
    let here : LiesAt n.set (c.first.result + 8 * c.args.i) which (8 * k) =
    subst (λ f. LiesAt n.set (f + 8 * c.args.i) which (8 * k)) (sym first) (subst (λ (m : Namespace). LiesAt m.set (byte_at m c.args.i) which (8 * k)) (sym c.self.view_is) lies) in
    let run : IsRun n.set (byte_at n c.args.i) which (8 * k) c.run_length.result =
    subst (λ f. IsRun n.set (f + 8 * c.args.i) which (8 * k) c.run_length.result) first (c.run_length.ensures.run which (8 * k) here) in
    words_run c.args.self.now c.args.i which k c.run_length.result (subst (λ (m : Namespace). IsRun m.set (byte_at m c.args.i) which (8 * k) c.run_length.result) c.self.view_is run)

pub returns-clause-line : goal.returns-clause-line
returns-clause-line c =
    let n : Namespace = over c.self.inside.set.now c.self.inside.offset c.self.inside.raw [] in
    let first : c.first.result ≡ length n.set * n.offset = c.first.ensures ∙ sym (ap (λ (m : Namespace). length m.set * m.offset) c.self.view_is) in
    let lt : c.args.i < count_of n = subst (λ (m : Namespace). c.args.i < count_of m) (sym c.self.view_is) c.requires in
    let whole : (c.first.result + 8 * c.args.i) % 8 ≡ 0 = ap (λ f. (f + 8 * c.args.i) % 8) first ∙ (byte_is n c.args.i c.self.invariant lt).whole in
    let words : 8 * (c.run_length.result / 8) ≡ c.run_length.result = omega (arith, c.run_length.ensures.words whole) in
    let line : byte_at n c.args.i % line_of n.set + c.run_length.result ≡ line_of n.set =
    subst (λ f. (f + 8 * c.args.i) % line_of n.set + c.run_length.result ≡ line_of n.set) first c.run_length.ensures.line in
    subst (λ (m : Namespace). byte_at m c.args.i % line_of m.set + 8 * (c.run_length.result / 8) ≡ line_of m.set) c.self.view_is
    (ap (λ r. byte_at n c.args.i % line_of n.set + r) words ∙ line)
