use Rattle.std.proofs.Common.{◌≡◌, ℕ, ◌+◌, ◌-◌, ◌*◌, ◌/◌, List, [], ◌∷◌, ◌++◌, length, drop, map, refl, Ok, Err, ap, sym, subst, ◌∙◌, arith}
use Rattle.std.proofs.lemmas.List.Elements.{All-nil}
use Rattle.std.specs.Prelude.{sum_by}
use Rattle.std.specs.List.{All}
use Rattle.arena_layout.specs.Info.{IsArenaOf}
use Rattle.arena_open.specs.declared.chain_refused.ChainRefused.{ChainRefused}
use Rattle.arena_open.specs.declared.opened.Opened.{Opened}
use Rattle.arena_open.specs.declared.refused.OpenRefused.TheVariants as refused
use Rattle.arena_open.specs.Chain.{Link, state_at}
use Rattle.arena_open.specs.Reading.{opening}
use Rattle.arena_open.proofs.ChainInPlace.{ReadSoFar, read_last, read_on, read_refused, read_starts}
use Rattle.namespace_bytes.specs.Putting.{Linked, link_bytes}
use Rattle.namespace_bytes.specs.SectorBytes.{HaveMapsOfBytes}
use Rattle.namespace_bytes.specs.SectorPut.{HasBlocks}
use Rattle.power_cut.specs.Namespace.{raw_bytes}
use Rattle.namespace_words.specs.Source.{AreWithin, IsMapOfBytes, IsWithin, Reveals, bytes_by, sizes_of, words_by}
use Rattle.namespace_bytes.proofs.Sizes.{joined_linked}
use Rattle.namespace_words.proofs.HeldArenas.{Follows, answered_err, answered_ok, blocks_more, follows, links_long, maps_more, ok_holds, sizes_next, sum_next, within_more}
use Rattle.namespace_words.proofs.HeldBytes.{words_long}
use Rattle.namespace_words.proofs.arenas.read_chain_from.Goals as goal

pub overflow_cast-arena : goal.overflow_cast-arena
overflow_cast-arena g c =
    omega (arith, c.len-arena.ensures ∙ c.arenas.arenas.ok.0, c.arenas.invariant.ahead, c.arenas.invariant.inside, c.requires.small)

pub arenas-init : goal.arenas-init
arenas-init g c = record {
  whole = c.requires.from;
  inside = omega (arith, c.requires.from, c.requires.to, c.requires.inside);
  ahead = omega (arith, ap (λ (ls : List Link). length ls) c.new-arenas.ensures.items);
  each = subst (λ (ls : List Link). All HasBlocks ls) (sym c.new-arenas.ensures.items) (All-nil HasBlocks);
  within = subst (λ (ls : List Link). AreWithin (raw_bytes c.args.extent.now) ls) (sym c.new-arenas.ensures.items) (All-nil (IsWithin (raw_bytes c.args.extent.now)));
  sum = omega (arith, ap (sum_by link_bytes) c.new-arenas.ensures.items);
  sizes = omega (arith, ap sizes_of c.new-arenas.ensures.items);
  same = refl;
  later = omega arith;
  so_far = λ contents reveals.
      subst (λ (ls : List Link). ReadSoFar (words_by c.args.extent.now contents) c.args.first c.args.parent.now c.args.first ls) (sym c.new-arenas.ensures.items)
      (read_starts (words_by c.args.extent.now contents) c.args.first c.args.parent.now c.requires.from (omega (arith, words_long c.args.extent.now contents, c.requires.to)) (omega (arith, words_long c.args.extent.now contents, c.requires.inside)));
  maps = λ contents reveals.
      subst (λ (ls : List Link). HaveMapsOfBytes (bytes_by c.args.extent.now contents) ls) (sym c.new-arenas.ensures.items)
      (All-nil (λ (link : Link). IsMapOfBytes (bytes_by c.args.extent.now contents) link.at link.opened.info.layout));
}

pub read_arena_from-requires-clause-there : goal.read_arena_from-requires-clause-there
read_arena_from-requires-clause-there g c = λ source told. c.requires.there source (sym c.arenas.invariant.same ∙ told)

pub returns-then-next-eq0-clause-read : goal.returns-then-next-eq0-clause-read
returns-then-next-eq0-clause-read g c = λ contents reveals.
    let links_are : c.from_vec.result ≡ c.arenas.arenas.items ++ record { at = c.arenas.at; opened = c.in-Ok.opened } ∷ [] =
    c.from_vec.ensures ∙ c.push_reserved.ensures.items ∙ ap (λ (ls : List Link). ls ++ c.new.result ∷ []) c.reserve.ensures.items ∙ ap (λ (link : Link). c.arenas.arenas.items ++ link ∷ []) c.new.ensures in
    let held = subst (λ h. Reveals h c.args.extent.now.set contents) (sym c.arenas.invariant.same) reveals in
    let opens : opening (drop c.arenas.at (words_by c.args.extent.now contents)) c.args.parent.now ≡ Ok c.in-Ok.opened =
    answered_ok refused.OutOfMemory c.in_ok-opened.field-0 (opening (drop c.arenas.at (words_by c.args.extent.now contents)) c.args.parent.now) c.in-Ok.opened (c.in_ok-opened.ensures.told contents held) c.in-Ok.is in
    ap (λ (ls : List Link). Ok (map (state_at (words_by c.args.extent.now contents)) ls)) links_are
    ∙ read_last (words_by c.args.extent.now contents) c.args.first c.args.parent.now c.arenas.at c.arenas.arenas.items (c.arenas.invariant.so_far contents reveals) c.in-Ok.opened opens c.if-next-eq0.true

pub returns-then-next-eq0-clause-linked : goal.returns-then-next-eq0-clause-linked
returns-then-next-eq0-clause-linked g c = λ contents reveals.
    let links_are : c.from_vec.result ≡ c.arenas.arenas.items ++ record { at = c.arenas.at; opened = c.in-Ok.opened } ∷ [] =
    c.from_vec.ensures ∙ c.push_reserved.ensures.items ∙ ap (λ (ls : List Link). ls ++ c.new.result ∷ []) c.reserve.ensures.items ∙ ap (λ (link : Link). c.arenas.arenas.items ++ link ∷ []) c.new.ensures in
    let held = subst (λ h. Reveals h c.args.extent.now.set contents) (sym c.arenas.invariant.same) reveals in
    let opens : opening (drop c.arenas.at (words_by c.args.extent.now contents)) c.args.parent.now ≡ Ok c.in-Ok.opened =
    answered_ok refused.OutOfMemory c.in_ok-opened.field-0 (opening (drop c.arenas.at (words_by c.args.extent.now contents)) c.args.parent.now) c.in-Ok.opened (c.in_ok-opened.ensures.told contents held) c.in-Ok.is in
    subst (λ (ls : List Link). Linked (words_by c.args.extent.now contents) c.args.parent.now c.args.first ls) (sym links_are)
    (joined_linked c.arenas.arenas.items (words_by c.args.extent.now contents) c.args.parent.now c.args.first c.arenas.at c.in-Ok.opened (c.arenas.invariant.so_far contents reveals).joined
    (omega (arith, (c.arenas.invariant.so_far contents reveals).inside)) opens c.if-next-eq0.true)

pub returns-then-next-eq0-clause-bytes : goal.returns-then-next-eq0-clause-bytes
returns-then-next-eq0-clause-bytes g c = λ contents reveals.
    let links_are : c.from_vec.result ≡ c.arenas.arenas.items ++ record { at = c.arenas.at; opened = c.in-Ok.opened } ∷ [] =
    c.from_vec.ensures ∙ c.push_reserved.ensures.items ∙ ap (λ (ls : List Link). ls ++ c.new.result ∷ []) c.reserve.ensures.items ∙ ap (λ (link : Link). c.arenas.arenas.items ++ link ∷ []) c.new.ensures in
    let held = subst (λ h. Reveals h c.args.extent.now.set contents) (sym c.arenas.invariant.same) reveals in
    subst (λ (ls : List Link). HaveMapsOfBytes (bytes_by c.args.extent.now contents) ls) (sym links_are)
    (maps_more (bytes_by c.args.extent.now contents) c.arenas.arenas.items c.arenas.at c.in-Ok.opened (c.arenas.invariant.maps contents reveals)
    (ok_holds (λ (o : Opened). IsMapOfBytes (bytes_by c.args.extent.now contents) c.arenas.at o.info.layout) c.in_ok-opened.field-0 c.in-Ok.opened c.in-Ok.is (c.in_ok-opened.ensures.bytes contents held)))

pub returns-then-next-eq0-clause-sized : goal.returns-then-next-eq0-clause-sized
returns-then-next-eq0-clause-sized g c =
    let links_are : c.from_vec.result ≡ c.arenas.arenas.items ++ record { at = c.arenas.at; opened = c.in-Ok.opened } ∷ [] =
    c.from_vec.ensures ∙ c.push_reserved.ensures.items ∙ ap (λ (ls : List Link). ls ++ c.new.result ∷ []) c.reserve.ensures.items ∙ ap (λ (link : Link). c.arenas.arenas.items ++ link ∷ []) c.new.ensures in
    let blocks : HasBlocks (record { at = c.arenas.at; opened = c.in-Ok.opened }) =
    ok_holds (λ (o : Opened). HasBlocks (record { at = c.arenas.at; opened = o })) c.in_ok-opened.field-0 c.in-Ok.opened c.in-Ok.is c.in_ok-opened.ensures.blocks in
    let sound : IsArenaOf c.args.parent.now (raw_bytes c.args.extent.now - 8 * c.arenas.at) c.in-Ok.opened.info =
    ok_holds (λ (o : Opened). IsArenaOf c.args.parent.now (raw_bytes c.args.extent.now - 8 * c.arenas.at) o.info) c.in_ok-opened.field-0 c.in-Ok.opened c.in-Ok.is c.in_ok-opened.ensures.sound in
    let fits = (sum_next (raw_bytes c.args.extent.now) c.arenas.at c.args.parent.now c.arenas.arenas.items c.from_vec.result c.in-Ok.opened links_are sound (omega (arith, c.arenas.invariant.inside)) c.arenas.invariant.sum).0 in
    record {
      each = subst (λ (ls : List Link). All HasBlocks ls) (sym links_are) (blocks_more c.arenas.arenas.items (record { at = c.arenas.at; opened = c.in-Ok.opened }) c.arenas.invariant.each blocks);
      small = omega (arith, fits, c.requires.small);
    }

pub returns-then-next-eq0-clause-within : goal.returns-then-next-eq0-clause-within
returns-then-next-eq0-clause-within g c =
    let links_are : c.from_vec.result ≡ c.arenas.arenas.items ++ record { at = c.arenas.at; opened = c.in-Ok.opened } ∷ [] =
    c.from_vec.ensures ∙ c.push_reserved.ensures.items ∙ ap (λ (ls : List Link). ls ++ c.new.result ∷ []) c.reserve.ensures.items ∙ ap (λ (link : Link). c.arenas.arenas.items ++ link ∷ []) c.new.ensures in
    let sound : IsArenaOf c.args.parent.now (raw_bytes c.args.extent.now - 8 * c.arenas.at) c.in-Ok.opened.info =
    ok_holds (λ (o : Opened). IsArenaOf c.args.parent.now (raw_bytes c.args.extent.now - 8 * c.arenas.at) o.info) c.in_ok-opened.field-0 c.in-Ok.opened c.in-Ok.is c.in_ok-opened.ensures.sound in
    within_more (raw_bytes c.args.extent.now) c.arenas.at c.args.parent.now c.arenas.arenas.items c.from_vec.result c.in-Ok.opened links_are sound (omega (arith, c.arenas.invariant.inside)) c.arenas.invariant.within

pub returns-then-next-eq0-clause-total : goal.returns-then-next-eq0-clause-total
returns-then-next-eq0-clause-total g c =
    let links_are : c.from_vec.result ≡ c.arenas.arenas.items ++ record { at = c.arenas.at; opened = c.in-Ok.opened } ∷ [] =
    c.from_vec.ensures ∙ c.push_reserved.ensures.items ∙ ap (λ (ls : List Link). ls ++ c.new.result ∷ []) c.reserve.ensures.items ∙ ap (λ (link : Link). c.arenas.arenas.items ++ link ∷ []) c.new.ensures in
    let sound : IsArenaOf c.args.parent.now (raw_bytes c.args.extent.now - 8 * c.arenas.at) c.in-Ok.opened.info =
    ok_holds (λ (o : Opened). IsArenaOf c.args.parent.now (raw_bytes c.args.extent.now - 8 * c.arenas.at) o.info) c.in_ok-opened.field-0 c.in-Ok.opened c.in-Ok.is c.in_ok-opened.ensures.sound in
    (sizes_next (raw_bytes c.args.extent.now) c.arenas.at c.args.parent.now c.arenas.arenas.items c.from_vec.result c.in-Ok.opened links_are sound (omega (arith, c.arenas.invariant.inside)) c.arenas.invariant.sizes).0

pub arenas-smaller : goal.arenas-smaller
arenas-smaller g c =
    let sound : IsArenaOf c.args.parent.now (raw_bytes c.args.extent.now - 8 * c.arenas.at) c.in-Ok.opened.info =
    ok_holds (λ (o : Opened). IsArenaOf c.args.parent.now (raw_bytes c.args.extent.now - 8 * c.arenas.at) o.info) c.in_ok-opened.field-0 c.in-Ok.opened c.in-Ok.is c.in_ok-opened.ensures.sound in
    let next : Follows (raw_bytes c.args.extent.now) c.arenas.at c.in-Ok.opened.info.next =
    follows (raw_bytes c.args.extent.now) c.arenas.at c.args.parent.now c.in-Ok.opened.info c.requires.to c.arenas.invariant.whole (omega (arith, c.arenas.invariant.inside)) sound c.if-next-eq0.false in
    omega (arith, next.whole, next.large, next.inside)

pub arenas-preserved : goal.arenas-preserved
arenas-preserved g c =
    let links_are : c.push_reserved.new.self.items ≡ c.arenas.arenas.items ++ record { at = c.arenas.at; opened = c.in-Ok.opened } ∷ [] =
    c.push_reserved.ensures.items ∙ ap (λ (ls : List Link). ls ++ c.new.result ∷ []) c.reserve.ensures.items ∙ ap (λ (link : Link). c.arenas.arenas.items ++ link ∷ []) c.new.ensures in
    let sound : IsArenaOf c.args.parent.now (raw_bytes c.args.extent.now - 8 * c.arenas.at) c.in-Ok.opened.info =
    ok_holds (λ (o : Opened). IsArenaOf c.args.parent.now (raw_bytes c.args.extent.now - 8 * c.arenas.at) o.info) c.in_ok-opened.field-0 c.in-Ok.opened c.in-Ok.is c.in_ok-opened.ensures.sound in
    let next : Follows (raw_bytes c.args.extent.now) c.arenas.at c.in-Ok.opened.info.next =
    follows (raw_bytes c.args.extent.now) c.arenas.at c.args.parent.now c.in-Ok.opened.info c.requires.to c.arenas.invariant.whole (omega (arith, c.arenas.invariant.inside)) sound c.if-next-eq0.false in
    let blocks : HasBlocks (record { at = c.arenas.at; opened = c.in-Ok.opened }) =
    ok_holds (λ (o : Opened). HasBlocks (record { at = c.arenas.at; opened = o })) c.in_ok-opened.field-0 c.in-Ok.opened c.in-Ok.is c.in_ok-opened.ensures.blocks in
    record {
      whole = omega (arith, next.whole, c.arenas.invariant.whole);
      inside = omega (arith, next.whole, next.inside);
      ahead = omega (arith, next.large, c.arenas.invariant.ahead, links_long c.arenas.arenas.items c.push_reserved.new.self.items c.arenas.at c.in-Ok.opened links_are);
      each = subst (λ (ls : List Link). All HasBlocks ls) (sym links_are) (blocks_more c.arenas.arenas.items (record { at = c.arenas.at; opened = c.in-Ok.opened }) c.arenas.invariant.each blocks);
      within = within_more (raw_bytes c.args.extent.now) c.arenas.at c.args.parent.now c.arenas.arenas.items c.push_reserved.new.self.items c.in-Ok.opened links_are sound (omega (arith, c.arenas.invariant.inside)) c.arenas.invariant.within;
      sum = (sum_next (raw_bytes c.args.extent.now) c.arenas.at c.args.parent.now c.arenas.arenas.items c.push_reserved.new.self.items c.in-Ok.opened links_are sound (omega (arith, c.arenas.invariant.inside)) c.arenas.invariant.sum).1
          c.if-next-eq0.false;
      sizes = (sizes_next (raw_bytes c.args.extent.now) c.arenas.at c.args.parent.now c.arenas.arenas.items c.push_reserved.new.self.items c.in-Ok.opened links_are sound (omega (arith, c.arenas.invariant.inside)) c.arenas.invariant.sizes).1
          c.if-next-eq0.false;
      same = c.in_ok-opened.ensures.same ∙ c.arenas.invariant.same;
      later = omega (arith, c.in_ok-opened.ensures.cause.later, c.arenas.invariant.later);
      so_far = λ contents reveals.
          let held = subst (λ h. Reveals h c.args.extent.now.set contents) (sym c.arenas.invariant.same) reveals in
          let opens : opening (drop c.arenas.at (words_by c.args.extent.now contents)) c.args.parent.now ≡ Ok c.in-Ok.opened =
          answered_ok refused.OutOfMemory c.in_ok-opened.field-0 (opening (drop c.arenas.at (words_by c.args.extent.now contents)) c.args.parent.now) c.in-Ok.opened (c.in_ok-opened.ensures.told contents held) c.in-Ok.is in
          subst (λ (ls : List Link). ReadSoFar (words_by c.args.extent.now contents) c.args.first c.args.parent.now (c.arenas.at + c.in-Ok.opened.info.next / 8) ls) (sym links_are)
          (read_on (words_by c.args.extent.now contents) c.args.first c.args.parent.now c.arenas.at c.arenas.arenas.items (c.arenas.invariant.so_far contents reveals) c.in-Ok.opened opens c.if-next-eq0.false
          (omega (arith, words_long c.args.extent.now contents, c.requires.to)) c.requires.from);
      maps = λ contents reveals.
          let held = subst (λ h. Reveals h c.args.extent.now.set contents) (sym c.arenas.invariant.same) reveals in
          subst (λ (ls : List Link). HaveMapsOfBytes (bytes_by c.args.extent.now contents) ls) (sym links_are)
          (maps_more (bytes_by c.args.extent.now contents) c.arenas.arenas.items c.arenas.at c.in-Ok.opened (c.arenas.invariant.maps contents reveals)
          (ok_holds (λ (o : Opened). IsMapOfBytes (bytes_by c.args.extent.now contents) c.arenas.at o.info.layout) c.in_ok-opened.field-0 c.in-Ok.opened c.in-Ok.is (c.in_ok-opened.ensures.bytes contents held)));
    }

pub returns-in-Err-clause-refused : goal.returns-in-Err-clause-refused
returns-in-Err-clause-refused g c = λ contents reveals f e finding.
    let same : record { arena = c.len-arena.result; fault = c.in-Err.fault } ≡ f = cc in
    let held = subst (λ h. Reveals h c.args.extent.now.set contents) (sym c.arenas.invariant.same) reveals in
    let answer : opening (drop c.arenas.at (words_by c.args.extent.now contents)) c.args.parent.now ≡ Err c.in-Err.fault =
    answered_err refused.OutOfMemory c.in_ok-opened.field-0 (opening (drop c.arenas.at (words_by c.args.extent.now contents)) c.args.parent.now) c.in-Err.fault (c.in_ok-opened.ensures.told contents held) c.in-Err.is
    (λ memory. finding (ap (λ (r : ChainRefused). r.fault) (sym same) ∙ memory)) in
    sym (ap (λ (n : ℕ). Err (record { arena = n; fault = c.in-Err.fault })) (c.len-arena.ensures ∙ c.arenas.arenas.ok.0)
    ∙ read_refused (words_by c.args.extent.now contents) c.args.first c.args.parent.now c.arenas.at c.arenas.arenas.items (c.arenas.invariant.so_far contents reveals) c.in-Err.fault answer)
    ∙ ap (λ (r : ChainRefused). Err r) same
