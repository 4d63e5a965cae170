use Rattle.std.proofs.Common.{ℕ, ◌*◌, ◌%◌, ◌^◌, ◌<◌, ◌∙◌, length, sym, ap, subst}
use Rattle.interleave.specs.Sound.{IsPlacing}
use Rattle.served_namespaces.proofs.sets.know_set.Goals as goal

pub returns : goal.returns
returns c =
    let span = c.span-span.ensures in
    record {
      places = subst (λ (s : ℕ). IsPlacing c.args.set.now (length c.args.set.now * s)) c.span-span.ensures.span c.span-span.ensures.places;
      words = c.span-span.ensures.words;
      parts = c.unit-unit.ensures.parts;
      apart = c.span-span.ensures.apart;
      each = λ m among. c.span-span.ensures.each m among ∙ c.span-span.ensures.span;
      fits = subst (λ (s : ℕ). length c.args.set.now * s < 2 ^ 64) c.span-span.ensures.span c.span-span.ensures.fits;
      eights = sym (ap (λ (u : ℕ). u % 8) c.unit-unit.ensures.unit) ∙ c.unit-unit.ensures.whole;
    }
