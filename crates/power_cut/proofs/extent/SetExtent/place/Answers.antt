use Rattle.std.proofs.Common.{◌≡◌, ◌+◌, ◌*◌, ◌<◌, [], length, sym, ap, ◌∙◌, subst}
use Rattle.interleave.specs.Places.{LiesAt}
use Rattle.interleave.specs.Sound.{span_of}
use Rattle.power_cut.specs.Namespace.{Namespace, over, raw_byte, raw_bytes}
use Rattle.power_cut.proofs.Places.{raw_in_region}
use Rattle.power_cut.proofs.extent.SetExtent.place.Goals as goal

pub place-requires : goal.place-requires
place-requires c =
    let n : Namespace = over c.self.inside.set.now c.self.inside.offset c.self.inside.raw [] in
    let first : c.first.result ≡ length n.set * n.offset = c.first.ensures ∙ sym (ap (λ (m : Namespace). length m.set * m.offset) c.self.view_is) in
    let lt : c.args.byte < raw_bytes n = subst (λ (m : Namespace). c.args.byte < raw_bytes m) (sym c.self.view_is) c.requires in
    subst (λ f. f + c.args.byte < length n.set * span_of n.set) (sym first) (raw_in_region n c.args.byte c.self.invariant lt)

pub returns : goal.returns
returns c =
    let n : Namespace = over c.self.inside.set.now c.self.inside.offset c.self.inside.raw [] in
    let first : c.first.result ≡ length n.set * n.offset = c.first.ensures ∙ sym (ap (λ (m : Namespace). length m.set * m.offset) c.self.view_is) in
    subst (λ (m : Namespace). LiesAt m.set (raw_byte m c.args.byte) c.place.result.0 c.place.result.1) c.self.view_is
    (subst (λ f. LiesAt n.set (f + c.args.byte) c.place.result.0 c.place.result.1) first c.place.ensures.there)
