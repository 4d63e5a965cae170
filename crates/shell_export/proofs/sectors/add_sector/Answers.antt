use Rattle.std.proofs.Common.{◌∙◌, ◌++◌, ℕ, List, take, sym, subst, ap}
use Rattle.std.proofs.lemmas.List.Elements.{All-get_or}
use Rattle.arena_open.specs.Chain.{Link}
use Rattle.namespace_bytes.specs.SectorPut.{HasBlocks}
use Rattle.power_cut.specs.Namespace.{raw_bytes}
use Rattle.namespace_words.specs.Source.{IsWithin, words_by}
use Rattle.shell_reports.proofs.More.{if_more}
use Rattle.shell_export.proofs.SectorBytes.{sector_is}
use Rattle.shell_export.proofs.sectors.add_sector.Goals as goal

pub add_own-requires-clause-blocks : goal.add_own-requires-clause-blocks
add_own-requires-clause-blocks g c =
    let link : Link = c.arena_at-arena.result.now in
    subst (λ (it : Link). HasBlocks it) (sym (c.arena_at-arena.ensures link)) (All-get_or HasBlocks c.args.arenas.now c.in-Some.k link c.in-Some.ensures.there c.requires.sized.each)

pub add_own-requires-clause-within : goal.add_own-requires-clause-within
add_own-requires-clause-within g c =
    let link : Link = c.arena_at-arena.result.now in
    subst (λ (it : Link). IsWithin (raw_bytes c.args.extent.now) it) (sym (c.arena_at-arena.ensures link))
    (All-get_or (IsWithin (raw_bytes c.args.extent.now)) c.args.arenas.now c.in-Some.k link c.in-Some.ensures.there c.requires.within)

pub returns-clause-all : goal.returns-clause-all
returns-clause-all g c =
    if_more _ _ c.add_own.result
    (λ end said. (
      said.0,
      said.1,
      (λ contents known.
          ap (λ (xs : List ℕ). take c.args.filled c.args.buffer.now ++ xs)
          (sector_is (words_by c.args.extent.now contents) known.1.0 c.args.arenas.now c.args.sector c.in-Some.k c.in-Some.own c.arena_at-arena.result.now known.1.1 c.in-Some.ensures c.arena_at-arena.ensures)
          ∙ said.2 contents known.0),
    ))
    c.add_own.ensures.all
