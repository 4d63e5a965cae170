use Rattle.std.proofs.Common.{◌≡◌, ◌<◌, ◌∙◌, get_or, sym, subst}
use Rattle.std.specs.Prelude.{IfOk}
use Rattle.std.proofs.lemmas.List.Elements.{All-get_or}
use Rattle.arena_open.specs.declared.cell.Cell.{Cell}
use Rattle.arena_open.specs.Chain.{Link}
use Rattle.arena_open.specs.InPlace.{external_in}
use Rattle.namespace_bytes.specs.SectorPut.{HasBlocks}
use Rattle.power_cut.specs.Namespace.{raw_bytes}
use Rattle.namespace_words.specs.Source.{IsWithin, words_by}
use Rattle.namespace_words.proofs.HeldCells.{cell_found}
use Rattle.namespace_words.proofs.cell.read_cell.Goals as goal

pub read_own-requires-clause-blocks : goal.read_own-requires-clause-blocks
read_own-requires-clause-blocks g c =
    let link : Link = record { at = c.first.result; opened = c.parts.result.now } in
    let is : link ≡ get_or c.args.arenas.now c.in-Some.k link = (λ i. record { at = c.first.ensures i; opened = c.parts.ensures i }) ∙ c.arena_at-arena.ensures link in
    subst (λ (it : Link). HasBlocks it) (sym is) (All-get_or HasBlocks c.args.arenas.now c.in-Some.k link c.in-Some.ensures.there c.requires.sized.each)

pub read_own-requires-clause-within : goal.read_own-requires-clause-within
read_own-requires-clause-within g c =
    let link : Link = record { at = c.first.result; opened = c.parts.result.now } in
    let is : link ≡ get_or c.args.arenas.now c.in-Some.k link = (λ i. record { at = c.first.ensures i; opened = c.parts.ensures i }) ∙ c.arena_at-arena.ensures link in
    subst (λ (it : Link). IsWithin (raw_bytes c.args.extent.now) it) (sym is)
    (All-get_or (IsWithin (raw_bytes c.args.extent.now)) c.args.arenas.now c.in-Some.k link c.in-Some.ensures.there c.requires.within)

pub read_own-requires-clause-own : goal.read_own-requires-clause-own
read_own-requires-clause-own g c =
    let link : Link = record { at = c.first.result; opened = c.parts.result.now } in
    let is : link ≡ get_or c.args.arenas.now c.in-Some.k link = (λ i. record { at = c.first.ensures i; opened = c.parts.ensures i }) ∙ c.arena_at-arena.ensures link in
    subst (λ (it : Link). c.in-Some.own < external_in it) (sym is) (c.in-Some.ensures.inside link)

pub returns-clause-told : goal.returns-clause-told
returns-clause-told g c = λ contents reveals uuid all.
    let link : Link = record { at = c.first.result; opened = c.parts.result.now } in
    let same = cell_found (words_by c.args.extent.now contents) uuid c.args.arenas.now c.args.sector c.in-Some.k c.in-Some.own link all c.in-Some.ensures
    (λ d. (λ i. record { at = c.first.ensures i; opened = c.parts.ensures i }) ∙ c.arena_at-arena.ensures d) in
    subst (λ (x : Cell). IfOk c.read_own.result (λ answer. IfOk answer (λ found. found ≡ x))) (sym same) (c.read_own.ensures.told contents reveals)
