use Rattle.std.proofs.Common.{◌∙◌, ℕ, None, ◌+◌, ◌/◌, ◌≤◌, List, [], length, drop, refl, ap, sym, subst, arith}
use Rattle.std.proofs.lemmas.List.Elements.{All-nil}
use Rattle.arena_check.specs.Check.{source_of}
use Rattle.namespace_words.specs.Source.{Reveals, words_by}
use Rattle.namespace_words.proofs.HeldArenas.{Follows, follows}
use Rattle.namespace_words.proofs.HeldBytes.{words_long}
use Rattle.power_cut.specs.Namespace.{raw_bytes}
use Rattle.shell_check.proofs.Lanes.{ok_is}
use Rattle.shell_rescue.specs.Reading.{IsBounded, IsFound, IsReadable}
use Rattle.shell_rescue.proofs.Counted.{all_more}
use Rattle.shell_rescue.proofs.Following.{IsSoFar, arenas_end, count_ends, goes_on, refused_are, starts, text_ends}
use Rattle.shell_rescue.proofs.chain.rescue_chain.Goals as goal

pub chain-init : goal.chain-init
chain-init g c = record {
  whole = refl;
  inside = omega (arith, c.requires.pages, c.requires.some);
  ahead = omega arith;
  few = omega arith;
  same = refl;
  later = omega arith;
  readable = all_more (IsReadable (raw_bytes c.args.extent.now)) [] c.new-arenas.result None c.new-arenas.ensures (All-nil (IsReadable (raw_bytes c.args.extent.now))) tt;
  so_far = λ contents reveals. starts c.args.listing (g.B.BadWords.bad c.args.bad.now) (words_by c.args.extent.now contents) c.args.uuid.now c.new-arenas.result c.new-text.result.items _ c.new-arenas.ensures c.new-text.ensures.items;
}

pub overflow_add-count : goal.overflow_add-count
overflow_add-count g c =
    let own = ok_is (IsBounded (raw_bytes c.args.extent.now) c.chain.at c.args.uuid.now) c.in_ok-found.field-0 c.in-Ok.found c.in-Ok.is c.in_ok-found.ensures.bounded in
    omega (arith, c.chain.invariant.few, c.chain.invariant.inside, own.few, c.count-count.ensures, c.requires.few)

pub chain-preserved : goal.chain-preserved
chain-preserved g c =
    let bad = g.B.BadWords.bad c.args.bad.now in
    let bytes : ℕ = raw_bytes c.args.extent.now in
    let own : IsBounded (raw_bytes c.args.extent.now) c.chain.at c.args.uuid.now c.in-Ok.found =
    ok_is (IsBounded (raw_bytes c.args.extent.now) c.chain.at c.args.uuid.now) c.in_ok-found.field-0 c.in-Ok.found c.in-Ok.is c.in_ok-found.ensures.bounded in
    let other = own.next c.if-next-eq0.false in
    let f : Follows (raw_bytes c.args.extent.now) c.chain.at c.in-Ok.found.next =
    subst (λ (n : ℕ). Follows (raw_bytes c.args.extent.now) c.chain.at n) other.2
    (follows (raw_bytes c.args.extent.now) c.chain.at c.args.uuid.now other.0 c.requires.pages c.chain.invariant.whole (omega (arith, c.chain.invariant.inside)) other.1 (λ z. c.if-next-eq0.false (sym other.2 ∙ z))) in
    record {
      whole = omega (arith, f.whole, c.chain.invariant.whole);
      inside = omega (arith, f.whole, f.inside);
      ahead = omega (arith, f.large, c.chain.invariant.ahead);
      few = omega (arith, c.chain.invariant.few, own.few_here c.if-next-eq0.false, f.whole, c.count-count.ensures);
      same = c.in_ok-found.ensures.same ∙ c.chain.invariant.same;
      later = omega (arith, c.in_ok-found.ensures.cause.later, c.chain.invariant.later);
      readable = all_more (IsReadable (raw_bytes c.args.extent.now)) c.chain.arenas c.take_arena.new.arenas c.in-Ok.found.arena c.in-Ok-take_arena.ensures.arenas c.chain.invariant.readable own.readable;
      so_far = λ contents reveals.
          let held = subst (λ h. Reveals h c.args.extent.now.set contents) (sym c.chain.invariant.same) reveals in
          let words : List ℕ = words_by c.args.extent.now contents in
          let found : IsFound c.chain.at bad (drop c.chain.at words) (source_of (drop c.chain.at words) c.args.uuid.now) c.in-Ok.found =
          ok_is (IsFound c.chain.at bad (drop c.chain.at words) (source_of (drop c.chain.at words) c.args.uuid.now)) c.in_ok-found.field-0 c.in-Ok.found c.in-Ok.is
          (c.in_ok-found.ensures.told contents held (drop c.chain.at words) refl) in
          let short : c.chain.k ≤ length words = omega (arith, c.chain.invariant.ahead, c.chain.invariant.inside, words_long c.args.extent.now contents) in
          subst (λ (n : ℕ). IsSoFar c.args.listing bad words c.args.uuid.now (c.chain.k + 1) (c.chain.at + c.in-Ok.found.next / 8) (c.chain.count + n) c.take_arena.new.arenas c.take_arena.new.text.items c.first_refused-refused.result) (sym c.count-count.ensures)
          (goes_on c.args.listing bad words c.args.uuid.now c.chain.k c.chain.at c.chain.count c.chain.arenas c.chain.text.items c.chain.refused (c.chain.invariant.so_far contents reveals) short
          c.in-Ok.found found c.take_arena.new.arenas c.take_arena.new.text.items c.first_refused-refused.result c.in-Ok-take_arena.ensures.arenas c.in-Ok-take_arena.ensures.lines c.first_refused-refused.ensures c.in-Ok.found.next found.next c.if-next-eq0.false);
    }

pub returns-clause-told : goal.returns-clause-told
returns-clause-told g c = λ contents reveals.
    let bad = g.B.BadWords.bad c.args.bad.now in
    let held = subst (λ h. Reveals h c.args.extent.now.set contents) (sym c.chain.invariant.same) reveals in
    let words : List ℕ = words_by c.args.extent.now contents in
    let found : IsFound c.chain.at bad (drop c.chain.at words) (source_of (drop c.chain.at words) c.args.uuid.now) c.in-Ok.found =
    ok_is (IsFound c.chain.at bad (drop c.chain.at words) (source_of (drop c.chain.at words) c.args.uuid.now)) c.in_ok-found.field-0 c.in-Ok.found c.in-Ok.is
    (c.in_ok-found.ensures.told contents held (drop c.chain.at words) refl) in
    let short : c.chain.k ≤ length words = omega (arith, c.chain.invariant.ahead, c.chain.invariant.inside, words_long c.args.extent.now contents) in
    let so_far = c.chain.invariant.so_far contents reveals in
    let last = sym found.next ∙ c.if-next-eq0.true in
    record {
      arenas = arenas_end c.args.listing bad words c.args.uuid.now c.chain.k c.chain.at c.chain.count c.chain.arenas c.chain.text.items c.chain.refused so_far short c.in-Ok.found found c.take_arena.new.arenas c.take_arena.new.text.items c.first_refused-refused.result
          c.in-Ok-take_arena.ensures.arenas c.in-Ok-take_arena.ensures.lines c.first_refused-refused.ensures last;
      refused = refused_are c.args.listing bad words c.args.uuid.now c.chain.k c.chain.at c.chain.count c.chain.arenas c.chain.text.items c.chain.refused so_far short c.in-Ok.found found c.take_arena.new.arenas c.take_arena.new.text.items c.first_refused-refused.result
          c.in-Ok-take_arena.ensures.arenas c.in-Ok-take_arena.ensures.lines c.first_refused-refused.ensures;
      text = text_ends c.args.listing bad words c.args.uuid.now c.chain.k c.chain.at c.chain.count c.chain.arenas c.chain.text.items c.chain.refused so_far short c.in-Ok.found found c.take_arena.new.arenas c.take_arena.new.text.items c.first_refused-refused.result
          c.in-Ok-take_arena.ensures.arenas c.in-Ok-take_arena.ensures.lines c.first_refused-refused.ensures last;
      count = ap (λ (n : ℕ). c.chain.count + n) c.count-count.ensures
          ∙ count_ends c.args.listing bad words c.args.uuid.now c.chain.k c.chain.at c.chain.count c.chain.arenas c.chain.text.items c.chain.refused so_far short c.in-Ok.found found c.take_arena.new.arenas c.take_arena.new.text.items c.first_refused-refused.result
          c.in-Ok-take_arena.ensures.arenas c.in-Ok-take_arena.ensures.lines c.first_refused-refused.ensures last;
    }

pub returns-clause-readable : goal.returns-clause-readable
returns-clause-readable g c =
    let own : IsBounded (raw_bytes c.args.extent.now) c.chain.at c.args.uuid.now c.in-Ok.found =
    ok_is (IsBounded (raw_bytes c.args.extent.now) c.chain.at c.args.uuid.now) c.in_ok-found.field-0 c.in-Ok.found c.in-Ok.is c.in_ok-found.ensures.bounded in
    all_more (IsReadable (raw_bytes c.args.extent.now)) c.chain.arenas c.take_arena.new.arenas c.in-Ok.found.arena c.in-Ok-take_arena.ensures.arenas c.chain.invariant.readable own.readable
