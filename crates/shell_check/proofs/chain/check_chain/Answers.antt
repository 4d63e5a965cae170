use Rattle.std.proofs.Common.{◌≡◌, ◌∙◌, ℕ, ◌+◌, ◌-◌, ◌*◌, ◌/◌, ◌≤◌, ◌++◌, List, [], length, drop, refl, ap, sym, subst, arith}
use Rattle.std.specs.Prelude.{MatchBool}
use Rattle.std.proofs.lemmas.List.{length-append}
use Rattle.cut_words.specs.WordBytes.{words_in}
use Rattle.arena_open.proofs.Groups.{pushed}
use Rattle.namespace_bytes.specs.declared.runs.Run.{Run}
use Rattle.namespace_words.specs.Source.{Reveals, bytes_by, words_by}
use Rattle.namespace_words.proofs.HeldArenas.{Follows, follows}
use Rattle.namespace_words.proofs.HeldBytes.{words_are, words_long}
use Rattle.power_cut.specs.Namespace.{raw_bytes}
use Rattle.shell_check.specs.Reading.{AreRepairsIf, GoesOn, IsChecked, RepairsAll}
use Rattle.shell_check.specs.Text.{arena_lines}
use Rattle.shell_check.proofs.Following.{IsSoFar, count_ends, goes_on, open_long, starts, text_ends}
use Rattle.shell_check.proofs.Lanes.{ok_is}
use Rattle.shell_check.proofs.MendingOne.{MendsIf, NextArena, ends_if, goes_if, next_arena, none_if}
use Rattle.shell_check.proofs.chain.check_chain.Goals as goal

pub arenas-init : goal.arenas-init
arenas-init g c = record {
  whole = refl;
  inside = omega (arith, c.requires.pages, c.requires.some);
  ahead = omega arith;
  few = omega arith;
  same = refl;
  later = omega arith;
  so_far = λ contents reveals. starts c.args.head.now c.args.repair (g.B.BadWords.bad c.args.bad.now) (words_by c.args.extent.now contents) c.args.uuid.now c.new-text.result.items c.new-text.ensures.items;
  mends = λ contents reveals. none_if c.args.repair (g.B.BadWords.bad c.args.bad.now) (bytes_by c.args.extent.now contents) c.args.uuid.now c.new-runs.result.items c.new-runs.ensures.items;
}

pub overflow_add-count : goal.overflow_add-count
overflow_add-count g c =
    let text : c.push_arena.new.text.items ≡ c.arenas.text.items ++ arena_lines c.args.head.now c.args.repair c.arenas.k c.in-Ok.arena.report = c.in-Ok-push_arena.ensures.lines in
    let long : length c.push_arena.new.text.items ≡ length c.arenas.text.items + length (arena_lines c.args.head.now c.args.repair c.arenas.k c.in-Ok.arena.report) =
    ap (λ (t : List ℕ). length t) text ∙ length-append c.arenas.text.items (arena_lines c.args.head.now c.args.repair c.arenas.k c.in-Ok.arena.report) in
    omega (arith, c.arenas.invariant.few, c.in-Ok-push_arena.ensures.count, open_long c.args.head.now c.args.repair c.arenas.k c.in-Ok.arena.report, long, c.push_arena.new.text.ok.0, c.push_arena.new.text.small)

pub arenas-preserved : goal.arenas-preserved
arenas-preserved g c =
    let bad = g.B.BadWords.bad c.args.bad.now in
    let at = c.arenas.at in
    let other : GoesOn c.args.uuid.now (raw_bytes c.args.extent.now - 8 * c.arenas.at) c.in-Ok.arena.next =
    ok_is (λ arena. GoesOn c.args.uuid.now (raw_bytes c.args.extent.now - 8 * c.arenas.at) arena.next) c.in_ok-arena.field-0 c.in-Ok.arena c.in-Ok.is c.in_ok-arena.ensures.sound in
    let own = other c.if-next-eq0.false in
    let f : Follows (raw_bytes c.args.extent.now) c.arenas.at c.in-Ok.arena.next =
    subst (λ (n : ℕ). Follows (raw_bytes c.args.extent.now) c.arenas.at n) own.2
    (follows (raw_bytes c.args.extent.now) c.arenas.at c.args.uuid.now own.0 c.requires.pages c.arenas.invariant.whole (omega (arith, c.arenas.invariant.inside)) own.1 (λ z. c.if-next-eq0.false (sym own.2 ∙ z))) in
    let text : c.push_arena.new.text.items ≡ c.arenas.text.items ++ arena_lines c.args.head.now c.args.repair c.arenas.k c.in-Ok.arena.report = c.in-Ok-push_arena.ensures.lines in
    let long : length c.push_arena.new.text.items ≡ length c.arenas.text.items + length (arena_lines c.args.head.now c.args.repair c.arenas.k c.in-Ok.arena.report) =
    ap (λ (t : List ℕ). length t) text ∙ length-append c.arenas.text.items (arena_lines c.args.head.now c.args.repair c.arenas.k c.in-Ok.arena.report) in
    record {
      whole = omega (arith, f.whole, c.arenas.invariant.whole);
      inside = omega (arith, f.whole, f.inside);
      ahead = omega (arith, f.large, c.arenas.invariant.ahead);
      few = omega (arith, c.arenas.invariant.few, c.in-Ok-push_arena.ensures.count, open_long c.args.head.now c.args.repair c.arenas.k c.in-Ok.arena.report, long);
      same = c.in_ok-push_repairs.ensures.same ∙ c.in_ok-arena.ensures.same ∙ c.arenas.invariant.same;
      later = omega (arith, c.in_ok-push_repairs.ensures.cause.later, c.in_ok-arena.ensures.cause.later, c.arenas.invariant.later);
      so_far = λ contents reveals.
          let held = subst (λ h. Reveals h c.args.extent.now.set contents) (sym c.arenas.invariant.same) reveals in
          let later = subst (λ h. Reveals h c.args.extent.now.set contents) (sym c.in_ok-arena.ensures.same) held in
          let words : List ℕ = words_by c.args.extent.now contents in
          let checked : IsChecked c.arenas.at bad (drop c.arenas.at words) c.args.uuid.now c.in-Ok.arena =
          ok_is (IsChecked c.arenas.at bad (drop c.arenas.at words) c.args.uuid.now) c.in_ok-arena.field-0 c.in-Ok.arena c.in-Ok.is (c.in_ok-arena.ensures.told contents held (drop c.arenas.at words) refl) in
          let short : c.arenas.k ≤ length words = omega (arith, c.arenas.invariant.ahead, c.arenas.invariant.inside, words_long c.args.extent.now contents) in
          subst (λ (t : List ℕ). IsSoFar c.args.head.now c.args.repair bad words c.args.uuid.now (c.arenas.k + 1) (c.arenas.count + c.in-Ok-push_arena.open) (c.arenas.at + c.in-Ok.arena.next / 8) t) (sym text)
          (subst (λ (n : ℕ). IsSoFar c.args.head.now c.args.repair bad words c.args.uuid.now (c.arenas.k + 1) (c.arenas.count + n) (c.arenas.at + c.in-Ok.arena.next / 8) (c.arenas.text.items ++ arena_lines c.args.head.now c.args.repair c.arenas.k c.in-Ok.arena.report))
          (sym c.in-Ok-push_arena.ensures.count)
          (goes_on c.args.head.now c.args.repair bad words c.args.uuid.now c.arenas.k c.arenas.count c.arenas.at c.arenas.text.items (c.arenas.invariant.so_far contents reveals) short c.in-Ok.arena.report checked.report c.in-Ok.arena.next checked.next
          c.if-next-eq0.false));
      mends = λ contents reveals.
          let held = subst (λ h. Reveals h c.args.extent.now.set contents) (sym c.arenas.invariant.same) reveals in
          let later = subst (λ h. Reveals h c.args.extent.now.set contents) (sym c.in_ok-arena.ensures.same) held in
          let row : List ℕ = bytes_by c.args.extent.now contents in
          let e : words_by c.args.extent.now contents ≡ words_in row = words_are c.args.extent.now contents c.requires.laid reveals.reach in
          let n : NextArena bad row c.args.uuid.now c.arenas.at c.in-Ok.arena = next_arena bad c.args.uuid.now c.args.extent.now contents c.arenas.at c.in-Ok.arena e c.requires.pages c.arenas.invariant.inside
          (ok_is _ c.in_ok-arena.field-0 c.in-Ok.arena c.in-Ok.is (c.in_ok-arena.ensures.told contents held (drop c.arenas.at (words_by c.args.extent.now contents)) refl))
          (ok_is _ c.in_ok-arena.field-0 c.in-Ok.arena c.in-Ok.is (c.in_ok-arena.ensures.small contents held)) (ok_is _ c.in_ok-arena.field-0 c.in-Ok.arena c.in-Ok.is c.in_ok-arena.ensures.fits) in
          let made = pushed c.in_ok-push_repairs.field-0 _ c.if-is_err.ensures.value (c.in_ok-push_repairs.ensures.told contents later) in
          let short : c.arenas.k ≤ length (words_in row) = omega (arith, c.arenas.invariant.ahead, n.there) in
          subst (λ (rs : List Run). MendsIf c.args.repair bad row c.args.uuid.now (c.arenas.k + 1) (c.arenas.at + c.in-Ok.arena.next / 8) rs) (sym made.2)
          (goes_if bad row c.args.uuid.now c.arenas.k c.arenas.at c.arenas.runs.items c.in-Ok.arena n short c.args.repair (c.arenas.invariant.mends contents reveals) made.0
          (subst (λ (ws : List ℕ). AreRepairsIf c.args.repair c.arenas.at (drop c.arenas.at ws) c.in-Ok.arena.page c.in-Ok.arena.map made.0) e made.1) c.if-next-eq0.false);
    }

pub returns-clause-told : goal.returns-clause-told
returns-clause-told g c = λ contents reveals.
    let bad = g.B.BadWords.bad c.args.bad.now in
    let held = subst (λ h. Reveals h c.args.extent.now.set contents) (sym c.arenas.invariant.same) reveals in
    let words : List ℕ = words_by c.args.extent.now contents in
    let checked : IsChecked c.arenas.at bad (drop c.arenas.at words) c.args.uuid.now c.in-Ok.arena =
    ok_is (IsChecked c.arenas.at bad (drop c.arenas.at words) c.args.uuid.now) c.in_ok-arena.field-0 c.in-Ok.arena c.in-Ok.is (c.in_ok-arena.ensures.told contents held (drop c.arenas.at words) refl) in
    let short : c.arenas.k ≤ length words = omega (arith, c.arenas.invariant.ahead, c.arenas.invariant.inside, words_long c.args.extent.now contents) in
    let so_far = c.arenas.invariant.so_far contents reveals in
    let last = sym checked.next ∙ c.if-next-eq0.true in
    record {
      text = c.in-Ok-push_arena.ensures.lines
          ∙ text_ends c.args.head.now c.args.repair bad words c.args.uuid.now c.arenas.k c.arenas.count c.arenas.at c.arenas.text.items so_far short c.in-Ok.arena.report checked.report last;
      count = ap (λ (n : ℕ). c.arenas.count + n) c.in-Ok-push_arena.ensures.count
          ∙ count_ends c.args.head.now c.args.repair bad words c.args.uuid.now c.arenas.k c.arenas.count c.arenas.at c.arenas.text.items so_far short c.in-Ok.arena.report checked.report last;
    }

pub returns-clause-few : goal.returns-clause-few
returns-clause-few g c =
    let text : c.push_arena.new.text.items ≡ c.arenas.text.items ++ arena_lines c.args.head.now c.args.repair c.arenas.k c.in-Ok.arena.report = c.in-Ok-push_arena.ensures.lines in
    let long : length c.push_arena.new.text.items ≡ length c.arenas.text.items + length (arena_lines c.args.head.now c.args.repair c.arenas.k c.in-Ok.arena.report) =
    ap (λ (t : List ℕ). length t) text ∙ length-append c.arenas.text.items (arena_lines c.args.head.now c.args.repair c.arenas.k c.in-Ok.arena.report) in
    omega (arith, c.arenas.invariant.few, c.in-Ok-push_arena.ensures.count, open_long c.args.head.now c.args.repair c.arenas.k c.in-Ok.arena.report, long)

pub returns-clause-repairs : goal.returns-clause-repairs
returns-clause-repairs g c = λ contents reveals.
    let bad = g.B.BadWords.bad c.args.bad.now in
    let held = subst (λ h. Reveals h c.args.extent.now.set contents) (sym c.arenas.invariant.same) reveals in
    let later = subst (λ h. Reveals h c.args.extent.now.set contents) (sym c.in_ok-arena.ensures.same) held in
    let row : List ℕ = bytes_by c.args.extent.now contents in
    let e : words_by c.args.extent.now contents ≡ words_in row = words_are c.args.extent.now contents c.requires.laid reveals.reach in
    let n : NextArena bad row c.args.uuid.now c.arenas.at c.in-Ok.arena = next_arena bad c.args.uuid.now c.args.extent.now contents c.arenas.at c.in-Ok.arena e c.requires.pages c.arenas.invariant.inside
    (ok_is _ c.in_ok-arena.field-0 c.in-Ok.arena c.in-Ok.is (c.in_ok-arena.ensures.told contents held (drop c.arenas.at (words_by c.args.extent.now contents)) refl))
    (ok_is _ c.in_ok-arena.field-0 c.in-Ok.arena c.in-Ok.is (c.in_ok-arena.ensures.small contents held)) (ok_is _ c.in_ok-arena.field-0 c.in-Ok.arena c.in-Ok.is c.in_ok-arena.ensures.fits) in
    let made = pushed c.in_ok-push_repairs.field-0 _ c.if-is_err.ensures.value (c.in_ok-push_repairs.ensures.told contents later) in
    let short : c.arenas.k ≤ length (words_in row) = omega (arith, c.arenas.invariant.ahead, n.there) in
    subst (λ (rs : List Run). MatchBool c.args.repair (RepairsAll bad c.args.uuid.now row rs) (rs ≡ [])) (sym made.2 ∙ sym c.from_vec.ensures)
    (ends_if bad row c.args.uuid.now c.arenas.k c.arenas.at c.arenas.runs.items c.in-Ok.arena n short c.args.repair (c.arenas.invariant.mends contents reveals) made.0
    (subst (λ (ws : List ℕ). AreRepairsIf c.args.repair c.arenas.at (drop c.arenas.at ws) c.in-Ok.arena.page c.in-Ok.arena.map made.0) e made.1) c.if-next-eq0.true)
