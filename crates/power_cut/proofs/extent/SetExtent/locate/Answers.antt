use Rattle.std.proofs.Common.{◌≡◌, ◌+◌, ◌*◌, ◌/◌, ◌%◌, ◌<◌, ℕ, [], length, sym, ap, ◌∙◌, subst, arith}
use Rattle.interleave.specs.Places.{LiesAt}
use Rattle.interleave.specs.Sound.{span_of}
use Rattle.power_cut.specs.Namespace.{Namespace, byte_at, count_of, over}
use Rattle.power_cut.proofs.Places.{aligned, byte_is}
use Rattle.power_cut.proofs.extent.SetExtent.locate.Goals as goal

pub overflow_add-first : goal.overflow_add-first
overflow_add-first c =
    let n : Namespace = over c.self.inside.set.now c.self.inside.offset c.self.inside.raw [] in
    let first : c.first.result ≡ length n.set * n.offset = c.first.ensures ∙ sym (ap (λ (m : Namespace). length m.set * m.offset) c.self.view_is) in
    let lt : c.args.i < count_of n = subst (λ (m : Namespace). c.args.i < count_of m) (sym c.self.view_is) c.requires in
    omega (arith, first, (byte_is n c.args.i c.self.invariant lt).in_region, c.self.invariant.fits)

pub place-module-requires : goal.place-module-requires
place-module-requires c =
    let n : Namespace = over c.self.inside.set.now c.self.inside.offset c.self.inside.raw [] in
    let first : c.first.result ≡ length n.set * n.offset = c.first.ensures ∙ sym (ap (λ (m : Namespace). length m.set * m.offset) c.self.view_is) in
    let lt : c.args.i < count_of n = subst (λ (m : Namespace). c.args.i < count_of m) (sym c.self.view_is) c.requires in
    subst (λ f. f + 8 * c.args.i < length n.set * span_of n.set) (sym first) (byte_is n c.args.i c.self.invariant lt).in_region

pub returns : goal.returns
returns c =
    let n : Namespace = over c.self.inside.set.now c.self.inside.offset c.self.inside.raw [] in
    let first : c.first.result ≡ length n.set * n.offset = c.first.ensures ∙ sym (ap (λ (m : Namespace). length m.set * m.offset) c.self.view_is) in
    let lt : c.args.i < count_of n = subst (λ (m : Namespace). c.args.i < count_of m) (sym c.self.view_is) c.requires in
    let which = c.place-module.result.0 in
    let address : ℕ = c.place-module.result.1 in
    let lies : LiesAt n.set (byte_at n c.args.i) which address = subst (λ f. LiesAt n.set (f + 8 * c.args.i) which address) first c.place-module.ensures.there in
    let whole : address % 8 ≡ 0 = aligned n c.args.i which address c.self.invariant (record { below = lt; lies = lies }) in
    let e : address ≡ 8 * (address / 8) = omega (arith, whole) in
    subst (λ (m : Namespace). LiesAt m.set (byte_at m c.args.i) which (8 * (address / 8))) c.self.view_is (subst (λ a. LiesAt n.set (byte_at n c.args.i) which a) e lies)
