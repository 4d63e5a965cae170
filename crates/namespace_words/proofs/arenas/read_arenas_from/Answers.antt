use Rattle.std.proofs.Common.{◌≡◌, ◌≢◌, ◌%◌, ◌≤◌, List, [], length, Err, ap, sym, subst, ◌∙◌, arith}
use Rattle.std.specs.Prelude.{IfOk}
use Rattle.arena_open.specs.declared.chain_refused.ChainRefused.{ChainRefused}
use Rattle.arena_open.specs.Chain.{Link}
use Rattle.power_cut.specs.Namespace.{Namespace, over, raw_bytes}
use Rattle.sector_namespaces.specs.Changing.{IsFinding}
use Rattle.sector_namespaces.specs.View.{opened_view}
use Rattle.sector_namespaces.proofs.Views.{no_words}
use Rattle.namespace_bytes.specs.Putting.{AreAll}
use Rattle.namespace_bytes.specs.SectorBytes.{HaveMapsOfBytes}
use Rattle.namespace_words.specs.Source.{AreWithin, HasEnds, Reveals, bytes_by, sizes_of, words_by}
use Rattle.namespace_words.proofs.HeldArenas.{all_found, refused_found}
use Rattle.namespace_words.proofs.HeldBytes.{words_long}
use Rattle.namespace_words.proofs.arenas.read_arenas_from.Goals as goal

pub returns-then-bytes-eq0-clause-refused : goal.returns-then-bytes-eq0-clause-refused
returns-then-bytes-eq0-clause-refused g c = λ contents reveals f e finding.
    let place : Namespace = over c.args.set.now c.args.offset c.args.raw [] in
    let none : raw_bytes place ≡ 0 = ap (λ (n : Namespace). raw_bytes n) (sym c.of-extent.ensures.made) ∙ sym c.bytes.ensures.bytes ∙ c.if-bytes-eq0.true in
    no_words (words_by place contents) c.args.uuid.now (omega (arith, words_long place contents, none))
    ∙ ap (λ (r : ChainRefused). Err r) (let same : _ ≡ f = cc in same)

pub read_chain_from-requires-clause-there : goal.read_chain_from-requires-clause-there
read_chain_from-requires-clause-there g c = λ source told.
    subst (λ (e : Namespace). HasEnds (g.S.ImageSource.held c.args.images.now) e.set) (sym c.of-extent.ensures.made) c.requires.there source told

pub returns-clause-all : goal.returns-clause-all
returns-clause-all g c = λ contents reveals.
    let held = subst (λ (e : Namespace). Reveals (g.S.ImageSource.held c.args.images.now) e.set contents) (sym c.of-extent.ensures.made) reveals in
    let pages : raw_bytes c.of-extent.result % 8 ≡ 0 = subst (λ (e : Namespace). raw_bytes e % 8 ≡ 0) (sym c.of-extent.ensures.made) (omega (arith, c.requires.pages)) in
    let some : length (words_by c.of-extent.result contents) ≢ 0 = λ none. c.if-bytes-eq0.false (omega (arith, words_long c.of-extent.result contents, none, c.bytes.ensures.bytes, pages)) in
    subst (λ (e : Namespace). IfOk c.read_chain_from.result (λ found. IfOk found (λ links. AreAll (words_by e contents) c.args.uuid.now links))) c.of-extent.ensures.made
    (all_found (λ (links : List Link). links) (words_by c.of-extent.result contents) c.args.uuid.now c.first_arena.result c.read_chain_from.result c.first_arena.ensures some
    (c.read_chain_from.ensures.read contents held) (c.read_chain_from.ensures.linked contents held))

pub returns-clause-refused : goal.returns-clause-refused
returns-clause-refused g c = λ contents reveals.
    let held = subst (λ (e : Namespace). Reveals (g.S.ImageSource.held c.args.images.now) e.set contents) (sym c.of-extent.ensures.made) reveals in
    let pages : raw_bytes c.of-extent.result % 8 ≡ 0 = subst (λ (e : Namespace). raw_bytes e % 8 ≡ 0) (sym c.of-extent.ensures.made) (omega (arith, c.requires.pages)) in
    let some : length (words_by c.of-extent.result contents) ≢ 0 = λ none. c.if-bytes-eq0.false (omega (arith, words_long c.of-extent.result contents, none, c.bytes.ensures.bytes, pages)) in
    subst (λ (e : Namespace). IfOk c.read_chain_from.result (λ found. (f : ChainRefused) → found ≡ Err f → IsFinding f → opened_view (words_by e contents) c.args.uuid.now ≡ Err f)) c.of-extent.ensures.made
    (refused_found (words_by c.of-extent.result contents) c.args.uuid.now c.first_arena.result c.read_chain_from.result c.first_arena.ensures some (c.read_chain_from.ensures.refused contents held))

pub returns-clause-bytes : goal.returns-clause-bytes
returns-clause-bytes g c = λ contents reveals.
    let held = subst (λ (e : Namespace). Reveals (g.S.ImageSource.held c.args.images.now) e.set contents) (sym c.of-extent.ensures.made) reveals in
    subst (λ (e : Namespace). IfOk c.read_chain_from.result (λ found. IfOk found (HaveMapsOfBytes (bytes_by e contents)))) c.of-extent.ensures.made (c.read_chain_from.ensures.bytes contents held)

pub returns-clause-within : goal.returns-clause-within
returns-clause-within g c =
    subst (λ (e : Namespace). IfOk c.read_chain_from.result (λ found. IfOk found (AreWithin (raw_bytes e)))) c.of-extent.ensures.made c.read_chain_from.ensures.within

pub returns-clause-total : goal.returns-clause-total
returns-clause-total g c =
    subst (λ (e : Namespace). IfOk c.read_chain_from.result (λ found. IfOk found (λ links. sizes_of links ≤ raw_bytes e))) c.of-extent.ensures.made c.read_chain_from.ensures.total
