use Rattle.std.proofs.Common.{◌≡◌, Bool, List, get_or, take, ℕ, refl, sym, ap, ◌∙◌, arith}
use Rattle.std.specs.Prelude.{◌&&◌}
use Rattle.std.specs.List.{list_all}
use Rattle.std.proofs.lemmas.List.{take_all}
use Rattle.std.proofs.lemmas.List.Folds.{list_all_at, list_all_more}
use Rattle.session_script.proofs.Fill.{fill_words, fills, others_fill, same_fills}
use Rattle.session_script.proofs.texts.is_fill.Goals as goal

pub loop-word-init : goal.loop-word-init
loop-word-init c = refl

pub returns-then-word-full : goal.returns-then-word-full
returns-then-word-full c =
    let b = c.args.byte in
    let words = c.args.words.now in
    let other = others_fill b (get_or words c.loop-word.word-index 0) (let fits = c.type_inv.words c.loop-word.word-index in omega (arith, fits.fits)) (λ is. c.if-word-full.true (is ∙ sym c.from_le_bytes-full.ensures)) in
    sym (fill_words b words ∙ list_all_at (fills b) words c.loop-word.word-index 0 c.loop-word-test.true other)

pub loop-word-preserved : goal.loop-word-preserved
loop-word-preserved c =
    let b = c.args.byte in
    let words = c.args.words.now in
    let same = same_fills b (get_or words c.loop-word.word-index 0) c.ranges.byte.fits (c.if-word-full.false ∙ c.from_le_bytes-full.ensures) in
    list_all_more (fills b) words c.loop-word.word-index 0 c.loop-word-test.true ∙ ap (λ (x : Bool). x && fills b (get_or words c.loop-word.word-index 0)) c.loop-word.invariant ∙ same

pub returns : goal.returns
returns c =
    let words = c.args.words.now in
    let all : take c.loop-word.word-index words ≡ words = take_all c.loop-word.word-index words (omega (arith, c.loop-word-test.false)) in
    sym (fill_words c.args.byte words ∙ ap (λ (ws : List ℕ). list_all (fills c.args.byte) ws) (sym all) ∙ c.loop-word.invariant)
