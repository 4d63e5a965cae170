use Rattle.std.proofs.Common.{ℕ, ◌≡◌, ◌^◌, ◌*◌, ◌<◌, List, length, subst, sym, ap, ◌∙◌}
use Rattle.std.specs.Prelude.{Contains}
use Rattle.nfit_reader.specs.declared.table.Mapping.{Mapping}
use Rattle.interleave.specs.Sound.{AreApart, AreWords, IsPlacing, span_of}
use Rattle.interleave.proofs.Law.{placing_of}
use Rattle.interleave.proofs.Spans.{some_bytes}
use Rattle.interleave.proofs.Stripes.{all_words}
use Rattle.interleave.proofs.set.InterleaveSet.span.Goals as goal

pub returns-clause-some : goal.returns-clause-some
returns-clause-some c =
    let line = 2 ^ c.self.inside.line_bits in
    let lines = 2 ^ c.self.inside.count_bits in
    subst (λ (n : ℕ). 0 < n) (sym c.self.invariant.is_span) (some_bytes line lines c.self.inside.mappings c.self.invariant.made.sound c.self.invariant.some)

pub returns-clause-each : goal.returns-clause-each
returns-clause-each c = λ m among.
    let here : Contains c.self.inside.mappings m = subst (λ (l : List Mapping). Contains l m) (sym c.self.view_is) among in
    (c.self.invariant.made.sound.shares m here).size ∙ sym c.self.invariant.is_span

pub returns-clause-places : goal.returns-clause-places
returns-clause-places c =
    subst (λ (l : List Mapping). IsPlacing l (length l * c.self.inside.span)) c.self.view_is
    (subst (λ (n : ℕ). IsPlacing c.self.inside.mappings (length c.self.inside.mappings * n)) (sym c.self.invariant.is_span)
    (placing_of (2 ^ c.self.inside.line_bits) (2 ^ c.self.inside.count_bits) (span_of c.self.inside.mappings) c.self.inside.mappings c.self.invariant.made.sound))

pub returns-clause-words : goal.returns-clause-words
returns-clause-words c =
    subst (λ (l : List Mapping). AreWords l) c.self.view_is
    (all_words (2 ^ c.self.inside.line_bits) (2 ^ c.self.inside.count_bits) c.self.inside.mappings c.self.inside.table.items c.self.invariant.made)

pub returns-clause-apart : goal.returns-clause-apart
returns-clause-apart c = subst (λ (l : List Mapping). AreApart l) c.self.view_is c.self.invariant.made.sound.apart
