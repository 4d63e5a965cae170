use Rattle.std.proofs.Common.{◌≡◌, ◌⊎◌, ℕ, ◌+◌, ◌-◌, ◌*◌, ◌/◌, ◌%◌, ◌<◌, ◌≤◌, List, length, map, drop, Option, inl, inr, sym, ap, ◌∙◌, subst, arith}
use Rattle.std.specs.List.{range_with_len}
use Rattle.std.proofs.lemmas.Bool.{cases_lt}
use Rattle.nvd_media.specs.Images.{Images}
use Rattle.arena_open.specs.Reading.{entry_at}
use Rattle.arena_open.proofs.Groups.{pushed}
use Rattle.namespace_words.specs.Source.{Reveals, bytes_by, words_by}
use Rattle.namespace_words.proofs.arenas.read_map.Goals as goal

pub read_entries-requires-clause-there : goal.read_entries-requires-clause-there
read_entries-requires-clause-there g c = λ source told. c.requires.there source (sym c.loop-first.invariant.same ∙ told)

pub loop-first-preserved : goal.loop-first-preserved
loop-first-preserved g c =
    let first : ℕ = c.loop-first.first in
    let even : c.loop-first.first % 2 ≡ 0 = elim c.loop-first.invariant.even [ inl e ↦ e | inr last ↦ absurd (omega (arith, last, c.loop-first-test.true)) ] in
    record {
      even = elim (cases_lt (c.loop-first.first + 65536) c.args.layout.now.external) [
        | inl less ↦ inl (omega (arith, even, less, c.min-end.ensures))
        | inr past ↦ inr (omega (arith, past, c.min-end.ensures))
      ];
      within = omega (arith, c.min-end.ensures);
      room = c.in_ok-read_entries.ensures.room ∙ c.loop-first.invariant.room;
      count = pushed c.in_ok-read_entries.field-0 _ c.if-is_err.ensures.value c.in_ok-read_entries.ensures.count ∙ (let e = c.loop-first.invariant.count in omega (arith, e, c.min-end.ensures, c.loop-first-test.true));
      same = c.in_ok-read_entries.ensures.same ∙ c.loop-first.invariant.same;
      later = omega (arith, c.in_ok-read_entries.ensures.cause.later, c.loop-first.invariant.later);
      told = λ contents reveals.
          pushed c.in_ok-read_entries.field-0 _ c.if-is_err.ensures.value
          (c.in_ok-read_entries.ensures.told contents (subst (λ (h : Option Images). Reveals h c.args.extent.now.set contents) (sym c.loop-first.invariant.same) reveals)
          c.args.at c.args.layout.now (omega arith) (omega (arith, c.requires.layout.map_whole)) (c.loop-first.invariant.told contents reveals));
      bytes = λ contents reveals i from to. elim (cases_lt i (8 * c.args.at + c.args.layout.now.map_off + 4 * c.loop-first.first)) [
        | inl before ↦ c.loop-first.invariant.bytes contents reveals i from (omega (arith, before, even))
        | inr here ↦
            c.in_ok-read_entries.ensures.bytes contents (subst (λ (h : Option Images). Reveals h c.args.extent.now.set contents) (sym c.loop-first.invariant.same) reveals) i (omega (arith, here))
            (omega (arith, to, even, c.min-end.ensures, c.loop-first-test.true))
      ];
    }

pub returns-clause-told : goal.returns-clause-told
returns-clause-told g c = λ contents reveals.
    let end : c.loop-first.first ≡ c.args.layout.now.external = omega (arith, c.loop-first.invariant.within, c.loop-first-test.false) in
    c.loop-first.invariant.told contents reveals
    ∙ ap (λ (n : ℕ). map (entry_at c.args.layout.now (drop c.args.at (words_by c.args.extent.now contents))) (range_with_len 0 n)) end
