use Rattle.std.proofs.Common.{◌≡◌, length, true, false, Ok, sym, ap, ◌∙◌, subst}
use Rattle.cut_words.specs.Fuses.{Makes}
use Rattle.label_index.specs.declared.index.Side.TheVariants as side
use Rattle.label_area.specs.declared.read.Shown.{Shown}
use Rattle.label_area.specs.Init.{empty_block, init_steps, IsInit}
use Rattle.label_area.specs.State.{AreaState}
use Rattle.label_area.specs.Opened.{IsReady}
use Rattle.label_area.specs.Initialise.{size_for, slots_for}
use Rattle.label_area.proofs.Blocks.{is_init, initial_is, initial_ready, both_burnt, both_whole, done_answer, cut_answer}
use Rattle.label_area.proofs.labels.initialise.Goals as goal

pub write_both-requires-clause-init : goal.write_both-requires-clause-init
write_both-requires-clause-init c =
    subst (λ (s : Shown). IsInit c.args.words.kept s.block.size s.block.slots) (sym c.requires.first) (is_init c.args.words.kept c.requires.size c.requires.none)

pub invariant_of-result : goal.invariant_of-result
invariant_of-result c running =
    let made = subst (λ (s : Shown). Makes c.args.words c.write_both.new.words c.args.fuse.now c.write_both.new.fuse (init_steps c.args.words.kept s.block.size s.block.slots) true) c.requires.first c.in-Ok.ensures.made in
    let second = subst (λ (s : Shown). c.write_both.new.block ≡ empty_block s.block.size s.block.slots side.Zero 3) c.requires.first c.in-Ok.ensures.second in
    subst IsReady
    (sym (initial_is c.args.words c.write_both.new.words c.args.fuse.now c.write_both.new.fuse c.write_both.new.block c.args.shown.labels c.requires.settled c.requires.size c.requires.none made second
    (ap (λ (s : Shown). s.labels) c.requires.first)))
    (initial_ready c.args.words.kept c.requires.size (is_init c.args.words.kept c.requires.size c.requires.none))

pub returns-in-Ok-clause-answer : goal.returns-in-Ok-clause-answer
returns-in-Ok-clause-answer c =
    let made = subst (λ (s : Shown). Makes c.args.words c.write_both.new.words c.args.fuse.now c.write_both.new.fuse (init_steps c.args.words.kept s.block.size s.block.slots) true) c.requires.first c.in-Ok.ensures.made in
    let second = subst (λ (s : Shown). c.write_both.new.block ≡ empty_block s.block.size s.block.slots side.Zero 3) c.requires.first c.in-Ok.ensures.second in
    ap (λ (a : AreaState). Ok a)
    (initial_is c.args.words c.write_both.new.words c.args.fuse.now c.write_both.new.fuse c.write_both.new.block c.args.shown.labels c.requires.settled c.requires.size c.requires.none made second
    (ap (λ (s : Shown). s.labels) c.requires.first))
    ∙ done_answer c.args.words c.write_both.new.words c.args.fuse.now c.write_both.new.fuse c.requires.size c.requires.none made

pub returns-in-Ok-clause-spent : goal.returns-in-Ok-clause-spent
returns-in-Ok-clause-spent c =
    let made = subst (λ (s : Shown). Makes c.args.words c.write_both.new.words c.args.fuse.now c.write_both.new.fuse (init_steps c.args.words.kept s.block.size s.block.slots) true) c.requires.first c.in-Ok.ensures.made in
    both_burnt c.args.words.kept (size_for (length c.args.words.kept)) (slots_for (length c.args.words.kept)) (is_init c.args.words.kept c.requires.size c.requires.none)
    c.args.words c.write_both.new.words c.args.fuse.now c.write_both.new.fuse true made

pub returns-in-Ok-clause-whole : goal.returns-in-Ok-clause-whole
returns-in-Ok-clause-whole c =
    let made = subst (λ (s : Shown). Makes c.args.words c.write_both.new.words c.args.fuse.now c.write_both.new.fuse (init_steps c.args.words.kept s.block.size s.block.slots) true) c.requires.first c.in-Ok.ensures.made in
    both_whole c.args.words.kept (size_for (length c.args.words.kept)) (slots_for (length c.args.words.kept)) (is_init c.args.words.kept c.requires.size c.requires.none)
    c.args.words c.write_both.new.words c.args.fuse.now c.write_both.new.fuse true c.requires.settled made

pub returns-in-Err-clause-answer : goal.returns-in-Err-clause-answer
returns-in-Err-clause-answer c =
    let made = subst (λ (s : Shown). Makes c.args.words c.write_both.new.words c.args.fuse.now c.write_both.new.fuse (init_steps c.args.words.kept s.block.size s.block.slots) false) c.requires.first c.in-Err.ensures.made in
    cut_answer c.args.words c.write_both.new.words c.args.fuse.now c.write_both.new.fuse c.requires.settled c.requires.size c.requires.none made

pub returns-in-Err-clause-spent : goal.returns-in-Err-clause-spent
returns-in-Err-clause-spent c =
    let made = subst (λ (s : Shown). Makes c.args.words c.write_both.new.words c.args.fuse.now c.write_both.new.fuse (init_steps c.args.words.kept s.block.size s.block.slots) false) c.requires.first c.in-Err.ensures.made in
    both_burnt c.args.words.kept (size_for (length c.args.words.kept)) (slots_for (length c.args.words.kept)) (is_init c.args.words.kept c.requires.size c.requires.none)
    c.args.words c.write_both.new.words c.args.fuse.now c.write_both.new.fuse false made

pub returns-in-Err-clause-whole : goal.returns-in-Err-clause-whole
returns-in-Err-clause-whole c is =
    let made = subst (λ (s : Shown). Makes c.args.words c.write_both.new.words c.args.fuse.now c.write_both.new.fuse (init_steps c.args.words.kept s.block.size s.block.slots) false) c.requires.first c.in-Err.ensures.made in
    both_whole c.args.words.kept (size_for (length c.args.words.kept)) (slots_for (length c.args.words.kept)) (is_init c.args.words.kept c.requires.size c.requires.none)
    c.args.words c.write_both.new.words c.args.fuse.now c.write_both.new.fuse false c.requires.settled made
