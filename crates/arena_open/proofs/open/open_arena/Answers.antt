use Rattle.std.proofs.Common.{◌*◌, length, ◌∙◌, Err, drop, ap, sym, arith}
use Rattle.std.specs.Prelude.{is_ok}
use Rattle.std.proofs.lemmas.Result.{err_from_is_err_and}
use Rattle.cut_words.specs.Fuses.{lasts}
use Rattle.arena_open.specs.Moves.{answer_of}
use Rattle.arena_open.proofs.Opening.{Sound, sound, arena_inside}
use Rattle.arena_open.proofs.States.{settles, again, answered_state}
use Rattle.arena_open.proofs.Answering.{open_refused, refused_recovers, opened_recovers}
use Rattle.arena_open.proofs.open.open_arena.Goals as goal

pub returns-in_err-opened-clause-answer : goal.returns-in_err-opened-clause-answer
returns-in_err-opened-clause-answer g c =
    let p = err_from_is_err_and c.from_residual.result c.from_residual.ensures.1 in
    open_refused c.args.fuse.now (drop c.args.at (g.W.WordSpace.words c.args.space.now).kept) c.args.parent.now c.from_residual.result c.read_arena.result c.in_err-opened.field-0.0 (p.1 ∙ ap (λ f. Err f) p.2) c.read_arena.ensures c.in_err-opened.was

pub returns-in_err-opened-clause-made : goal.returns-in_err-opened-clause-made
returns-in_err-opened-clause-made g c =
    let p = err_from_is_err_and c.from_residual.result c.from_residual.ensures.1 in
    refused_recovers (g.W.WordSpace.words c.args.space.now) c.args.fuse.now c.args.at c.args.parent.now c.from_residual.result c.read_arena.result c.in_err-opened.field-0.0
    (p.1 ∙ ap (λ f. Err f) p.2) c.read_arena.ensures c.in_err-opened.was

pub recover-requires-clause-layout : goal.recover-requires-clause-layout
recover-requires-clause-layout g c =
    let s : Sound (drop c.args.at (g.W.WordSpace.words c.args.space.now).kept) c.args.parent.now c.in_ok-opened.opened = sound (drop c.args.at (g.W.WordSpace.words c.args.space.now).kept) c.args.parent.now c.in_ok-opened.opened (sym (c.in_ok-opened.ensures (λ e. cc))) in
    s.arena.sound.layout

pub recover-requires-clause-moves : goal.recover-requires-clause-moves
recover-requires-clause-moves g c =
    let s : Sound (drop c.args.at (g.W.WordSpace.words c.args.space.now).kept) c.args.parent.now c.in_ok-opened.opened = sound (drop c.args.at (g.W.WordSpace.words c.args.space.now).kept) c.args.parent.now c.in_ok-opened.opened (sym (c.in_ok-opened.ensures (λ e. cc))) in
    s.moves

pub recover-requires-clause-few : goal.recover-requires-clause-few
recover-requires-clause-few g c =
    let s : Sound (drop c.args.at (g.W.WordSpace.words c.args.space.now).kept) c.args.parent.now c.in_ok-opened.opened = sound (drop c.args.at (g.W.WordSpace.words c.args.space.now).kept) c.args.parent.now c.in_ok-opened.opened (sym (c.in_ok-opened.ensures (λ e. cc))) in
    s.few

pub recover-requires-clause-space : goal.recover-requires-clause-space
recover-requires-clause-space g c =
    let s : Sound (drop c.args.at (g.W.WordSpace.words c.args.space.now).kept) c.args.parent.now c.in_ok-opened.opened = sound (drop c.args.at (g.W.WordSpace.words c.args.space.now).kept) c.args.parent.now c.in_ok-opened.opened (sym (c.in_ok-opened.ensures (λ e. cc))) in
    record {
      inside = arena_inside (g.W.WordSpace.words c.args.space.now).kept c.args.parent.now c.args.at c.in_ok-opened.opened.info (omega (arith, c.requires.space.inside)) s.arena;
      small = c.requires.space.small;
      settled = c.requires.space.settled;
    }

pub returns-clause-answer : goal.returns-clause-answer
returns-clause-answer g c =
    λ not_memory. c.recover.ensures.answer not_memory ∙ ap (answer_of c.args.fuse.now (drop c.args.at (g.W.WordSpace.words c.args.space.now).kept)) (c.in_ok-opened.ensures (λ e. cc))

pub returns-clause-made : goal.returns-clause-made
returns-clause-made g c =
    λ not_memory. opened_recovers (g.W.WordSpace.words c.args.space.now) (g.W.WordSpace.words c.recover.new.space) c.args.fuse.now c.recover.new.fuse c.args.at c.args.parent.now
    c.in_ok-opened.opened (is_ok c.recover.result) (sym (c.in_ok-opened.ensures (λ e. cc))) (c.recover.ensures.made not_memory)

pub returns-clause-settles : goal.returns-clause-settles
returns-clause-settles g c = settles (g.W.WordSpace.words c.args.space.now) (g.W.WordSpace.words c.recover.new.space) c.args.fuse.now c.recover.new.fuse c.args.at c.args.parent.now c.in_ok-opened.opened c.requires.space.settled (sym (c.in_ok-opened.ensures (λ e. cc))) c.recover.result c.recover.ensures.made

pub returns-clause-state : goal.returns-clause-state
returns-clause-state g c =
    answered_state (lasts c.args.fuse.now (2 * length c.in_ok-opened.opened.moves)) (drop c.args.at (g.W.WordSpace.words c.args.space.now).kept) c.args.parent.now c.in_ok-opened.opened c.recover.result (sym (c.in_ok-opened.ensures (λ e. cc))) c.recover.ensures.answer

pub returns-clause-again : goal.returns-clause-again
returns-clause-again g c = again (g.W.WordSpace.words c.args.space.now) (g.W.WordSpace.words c.recover.new.space) c.args.fuse.now c.recover.new.fuse c.args.at c.args.parent.now c.in_ok-opened.opened c.requires.space.settled (sym (c.in_ok-opened.ensures (λ e. cc))) c.recover.result c.recover.ensures.made
