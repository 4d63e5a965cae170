use Rattle.std.proofs.Common.{◌≡◌, ◌∙◌, ℕ, ◌+◌, ◌≤◌, ◌^◌, ◌∷◌, drop, Option, Some, ap, sym, arith}
use Rattle.std.specs.Prelude.{sum_by}
use Rattle.std.proofs.lemmas.List.{drop_all, drop_more}
use Rattle.std.proofs.lemmas.List.Sums.{sum_by_more_le}
use Rattle.arena_open.specs.Chain.{Link}
use Rattle.arena_open.specs.declared.opened.Opened.{Opened}
use Rattle.namespace_bytes.specs.Bad.{bad_from, or_behind}
use Rattle.namespace_bytes.proofs.Flagged.{first_bad_is, link_sectors}
use Rattle.namespace_words.proofs.HeldCells.{few_sectors}
use Rattle.shell_export.proofs.bad.first_bad.Goals as goal

pub overflow_add-result : goal.overflow_add-result
overflow_add-result c =
    let few : sum_by link_sectors c.args.arenas.now ≤ 2 ^ 55 = few_sectors c.args.arenas.now c.requires in
    omega (
      arith,
      c.loop-arena.invariant.before,
      c.from.ensures,
      c.in-Some.ensures.inside,
      ap link_sectors c.arena-item.is,
      sum_by_more_le link_sectors c.args.arenas.now c.loop-arena.arena-index c.arena-item.result c.loop-arena-test.true,
      few,
    )

pub overflow_add-before : goal.overflow_add-before
overflow_add-before c =
    let few : sum_by link_sectors c.args.arenas.now ≤ 2 ^ 55 = few_sectors c.args.arenas.now c.requires in
    omega (
      arith,
      c.loop-arena.invariant.before,
      c.from-before.ensures,
      ap (λ (o : Opened). o.info.layout.external) c.parts.ensures,
      ap link_sectors c.arena-item.is,
      sum_by_more_le link_sectors c.args.arenas.now c.loop-arena.arena-index c.arena-item.result c.loop-arena-test.true,
      few,
    )

pub returns-in-Some : goal.returns-in-Some
returns-in-Some c = λ words uuid all.
    let links_are : drop c.loop-arena.arena-index c.args.arenas.now ≡ c.arena-item.result ∷ drop (c.loop-arena.arena-index + 1) c.args.arenas.now =
    drop_more c.args.arenas.now c.loop-arena.arena-index c.arena-item.result c.loop-arena-test.true
    ∙ ap (λ (l : Link). l ∷ drop (c.loop-arena.arena-index + 1) c.args.arenas.now) (sym c.arena-item.is) in
    ap (λ (own : ℕ). Some (c.loop-arena.before + own)) c.from.ensures
    ∙ ap (λ (o : Option ℕ). or_behind c.loop-arena.before o (bad_from (c.loop-arena.before + c.arena-item.result.opened.info.layout.external) (drop (c.loop-arena.arena-index + 1) c.args.arenas.now)))
    c.in-Some.ensures.first
    ∙ ap (bad_from c.loop-arena.before) (sym links_are) ∙ c.loop-arena.invariant.rest ∙ first_bad_is c.args.arenas.now words uuid all

pub returns : goal.returns
returns c = λ words uuid all.
    ap (bad_from c.loop-arena.before) (sym (drop_all c.loop-arena.arena-index c.args.arenas.now (omega (arith, c.loop-arena-test.false))))
    ∙ c.loop-arena.invariant.rest ∙ first_bad_is c.args.arenas.now words uuid all
