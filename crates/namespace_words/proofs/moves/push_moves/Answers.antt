use Rattle.std.proofs.Common.{◌∙◌, ◌++◌, ◌∷◌, [], List, map, sym, ap, subst, arith}
use Rattle.std.specs.List.{All}
use Rattle.std.proofs.lemmas.List.{append-nil, take_all}
use Rattle.flog.specs.declared.half.Half.{Half}
use Rattle.arena_open.specs.declared.opened.Opened.{Opened}
use Rattle.arena_open.specs.Halves.{IsMove}
use Rattle.namespace_words.specs.Moves.{move_run}
use Rattle.namespace_words.proofs.MadeMoves.{runs_more}
use Rattle.namespace_words.proofs.moves.push_moves.Goals as goal

pub loop-half-init : goal.loop-half-init
loop-half-init c = sym (append-nil c.args.runs.now.items)

pub move_run-requires-clause-block : goal.move_run-requires-clause-block
move_run-requires-clause-block c = (small c.loop-half.half-index _ (omega (arith, c.loop-half-test.true))).block
  where
    small : All (IsMove c.args.arena.now.opened.info.layout.external) c.as_slice-half-items.result.now
    small = subst (λ (hs : List Half). All (IsMove c.args.arena.now.opened.info.layout.external) hs)
        (sym (c.as_slice-half-items.ensures ∙ ap (λ (o : Opened). o.moves) c.parts-opened.ensures)) c.requires.moves

pub loop-half-preserved : goal.loop-half-preserved
loop-half-preserved c =
    c.in_ok-push.ensures.items
    ∙ (λ i. c.loop-half.invariant i ++ c.in_ok-run.ensures i ∷ [])
    ∙ runs_more c.args.arena.now c.as_slice-half-items.result.now c.args.runs.now.items c.loop-half.half-index _ c.loop-half-test.true

pub returns : goal.returns
returns c =
    c.loop-half.invariant
    ∙ ap (λ (hs : List Half). c.args.runs.now.items ++ map (move_run c.args.arena.now) hs)
    (take_all c.loop-half.half-index c.as_slice-half-items.result.now (omega (arith, c.loop-half-test.false)) ∙ c.as_slice-half-items.ensures ∙ ap (λ (o : Opened). o.moves) c.parts-opened.ensures)
