use Rattle.std.proofs.Common.{◌≡◌, ◌/◌, ◌∙◌, List, true, false, length, map, take, drop, ap, arith}
use Rattle.std.proofs.lemmas.List.{length-drop, length-take-le}
use Rattle.flog.specs.declared.group.Group.{Group}
use Rattle.arena_open.specs.Moves.{lane_of, move_writes, state_of, recovered}
use Rattle.arena_open.proofs.Written.{length_over}
use Rattle.arena_open.proofs.Recovering.{written_back, steps_by, words_by, answers_cut, answers_state}
use Rattle.arena_open.proofs.open.recover.Goals as goal

pub make_good-requires-clause-space : goal.make_good-requires-clause-space
make_good-requires-clause-space g c = record {
  inside = omega (arith, c.requires.space.inside, ap length (c.deref_mut.ensures.value ∙ c.in-Ok-read_words.ensures), length-take-le (c.args.opened.info.layout.size / 8) (drop c.args.at (g.W.WordSpace.words c.args.space.now).kept) (omega (arith, c.requires.space.inside, length-drop c.args.at (g.W.WordSpace.words c.args.space.now).kept)));
  small = c.requires.space.small;
  settled = c.requires.space.settled;
}

pub returns-in-Ok-make_good-clause-made : goal.returns-in-Ok-make_good-clause-made
returns-in-Ok-make_good-clause-made g c = λ not_memory. (steps_by c.args.at (drop c.args.at (g.W.WordSpace.words c.args.space.now).kept) c.args.opened c.requires.layout c.requires.moves (g.W.WordSpace.words c.args.space.now) (g.W.WordSpace.words c.make_good.new.space) c.args.fuse.now c.make_good.new.fuse c.deref_mut.result.now c.as_slice-moves.result.now true (c.deref_mut.ensures.value ∙ c.in-Ok-read_words.ensures) c.as_slice-moves.ensures c.in-Ok-make_good.ensures.made)

pub returns-in-Ok-make_good-clause-answer : goal.returns-in-Ok-make_good-clause-answer
returns-in-Ok-make_good-clause-answer g c =
    let words_are : c.from_vec.result ≡ take (c.args.opened.info.layout.size / 8) (recovered (drop c.args.at (g.W.WordSpace.words c.args.space.now).kept) c.args.opened) =
    c.from_vec.ensures ∙ written_back c.in-Ok-read_words.words.len c.make_good.new.words c.in-Ok-read_words.words.items c.in-Ok-read_words.words.ok.0
    (ap length c.in-Ok-make_good.ensures.copy ∙ length_over c.deref_mut.result.now (move_writes c.args.opened.info.layout c.deref_mut.result.now c.as_slice-moves.result.now)
    ∙ ap length c.deref_mut.ensures.value)
    ∙ words_by c.args.at (drop c.args.at (g.W.WordSpace.words c.args.space.now).kept) c.args.opened c.requires.layout c.requires.moves c.deref_mut.result.now c.make_good.new.words c.as_slice-moves.result.now (c.deref_mut.ensures.value ∙ c.in-Ok-read_words.ensures) c.as_slice-moves.ensures c.in-Ok-make_good.ensures.copy in
    let lanes_are : c.from_vec-in-Ok-make_good.result ≡ map lane_of c.args.opened.groups =
    c.from_vec-in-Ok-make_good.ensures ∙ c.in-Ok.ensures ∙ ap (λ (gs : List Group). map lane_of gs) c.as_slice.ensures in
    let made_is : length c.as_slice-moves.result.now ≡ length c.args.opened.moves = ap length c.as_slice-moves.ensures in
    let state_is : c.new.result ≡ state_of (drop c.args.at (g.W.WordSpace.words c.args.space.now).kept) c.args.opened =
    c.new.ensures ∙ (λ i. record { info = c.args.opened.info; words = words_are i; lanes = lanes_are i; made = made_is i }) in
    λ not_memory. answers_state c.args.at (drop c.args.at (g.W.WordSpace.words c.args.space.now).kept) c.args.opened c.requires.layout c.requires.moves (g.W.WordSpace.words c.args.space.now) (g.W.WordSpace.words c.make_good.new.space) c.args.fuse.now c.make_good.new.fuse c.new.result (steps_by c.args.at (drop c.args.at (g.W.WordSpace.words c.args.space.now).kept) c.args.opened c.requires.layout c.requires.moves (g.W.WordSpace.words c.args.space.now) (g.W.WordSpace.words c.make_good.new.space) c.args.fuse.now c.make_good.new.fuse c.deref_mut.result.now c.as_slice-moves.result.now true (c.deref_mut.ensures.value ∙ c.in-Ok-read_words.ensures) c.as_slice-moves.ensures c.in-Ok-make_good.ensures.made) state_is

pub returns-clause-made : goal.returns-clause-made
returns-clause-made g c = λ not_memory. (steps_by c.args.at (drop c.args.at (g.W.WordSpace.words c.args.space.now).kept) c.args.opened c.requires.layout c.requires.moves (g.W.WordSpace.words c.args.space.now) (g.W.WordSpace.words c.make_good.new.space) c.args.fuse.now c.make_good.new.fuse c.deref_mut.result.now c.as_slice-moves.result.now false (c.deref_mut.ensures.value ∙ c.in-Ok-read_words.ensures) c.as_slice-moves.ensures c.in-Err.ensures.made)

pub returns-clause-answer : goal.returns-clause-answer
returns-clause-answer g c = λ not_memory. answers_cut c.args.at (drop c.args.at (g.W.WordSpace.words c.args.space.now).kept) c.args.opened c.requires.layout c.requires.moves (g.W.WordSpace.words c.args.space.now) (g.W.WordSpace.words c.make_good.new.space) c.args.fuse.now c.make_good.new.fuse (steps_by c.args.at (drop c.args.at (g.W.WordSpace.words c.args.space.now).kept) c.args.opened c.requires.layout c.requires.moves (g.W.WordSpace.words c.args.space.now) (g.W.WordSpace.words c.make_good.new.space) c.args.fuse.now c.make_good.new.fuse c.deref_mut.result.now c.as_slice-moves.result.now false (c.deref_mut.ensures.value ∙ c.in-Ok-read_words.ensures) c.as_slice-moves.ensures c.in-Err.ensures.made)
