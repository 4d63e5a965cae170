use Rattle.std.proofs.Common.{◌≡◌, ◌+◌, ◌*◌, ◌%◌, ◌<◌, [], length, sym, ap, ◌∙◌, subst}
use Rattle.interleave.specs.Places.{LiesAt}
use Rattle.interleave.specs.Sound.{IsRun, line_of, span_of}
use Rattle.power_cut.specs.Namespace.{Namespace, over, raw_byte, raw_bytes}
use Rattle.power_cut.proofs.Places.{raw_in_region}
use Rattle.power_cut.proofs.extent.SetExtent.run_length.Goals as goal

pub run_length-requires : goal.run_length-requires
run_length-requires c =
    let n : Namespace = over c.self.inside.set.now c.self.inside.offset c.self.inside.raw [] in
    let first : c.first.result ≡ length n.set * n.offset = c.first.ensures ∙ sym (ap (λ (m : Namespace). length m.set * m.offset) c.self.view_is) in
    let lt : c.args.byte < raw_bytes n = subst (λ (m : Namespace). c.args.byte < raw_bytes m) (sym c.self.view_is) c.requires in
    subst (λ f. f + c.args.byte < length n.set * span_of n.set) (sym first) (raw_in_region n c.args.byte c.self.invariant lt)

pub returns-clause-run : goal.returns-clause-run
returns-clause-run c = λ which address lies.
    let n : Namespace = over c.self.inside.set.now c.self.inside.offset c.self.inside.raw [] in
    let first : c.first.result ≡ length n.set * n.offset = c.first.ensures ∙ sym (ap (λ (m : Namespace). length m.set * m.offset) c.self.view_is) in
    let here : LiesAt n.set (c.first.result + c.args.byte) which address =
    subst (λ f. LiesAt n.set (f + c.args.byte) which address) (sym first) (subst (λ (m : Namespace). LiesAt m.set (raw_byte m c.args.byte) which address) (sym c.self.view_is) lies) in
    subst (λ (m : Namespace). IsRun m.set (raw_byte m c.args.byte) which address c.run_length.result) c.self.view_is
    (subst (λ f. IsRun n.set (f + c.args.byte) which address c.run_length.result) first (c.run_length.ensures.run which address here))

pub returns-clause-line : goal.returns-clause-line
returns-clause-line c =
    let n : Namespace = over c.self.inside.set.now c.self.inside.offset c.self.inside.raw [] in
    let first : c.first.result ≡ length n.set * n.offset = c.first.ensures ∙ sym (ap (λ (m : Namespace). length m.set * m.offset) c.self.view_is) in
    subst (λ (m : Namespace). raw_byte m c.args.byte % line_of m.set + c.run_length.result ≡ line_of m.set) c.self.view_is
    (subst (λ f. (f + c.args.byte) % line_of n.set + c.run_length.result ≡ line_of n.set) first c.run_length.ensures.line)
