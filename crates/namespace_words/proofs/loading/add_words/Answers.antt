use Rattle.std.proofs.Common.{ℕ, ◌+◌, ◌*◌, ◌≤◌, ◌++◌, List, [], ◌∷◌, length, take, ap, ◌∙◌, append_assoc, arith}
use Rattle.std.proofs.lemmas.List.{take_all}
use Rattle.cut_words.specs.WordBytes.{words_in}
use Rattle.arena_open.proofs.Bytes.{length_words}
use Rattle.namespace_words.proofs.HeldCells.{words_more}
use Rattle.namespace_words.proofs.loading.add_words.Goals as goal

pub loop-k-preserved : goal.loop-k-preserved
loop-k-preserved c =
    let fits : 8 * c.loop-k.k + 8 ≤ length c.args.bytes.now = omega (arith, c.loop-k-test.true) in
    c.in_ok-push.ensures.items ∙ ap (λ (ws : List ℕ). ws ++ c.word_at.result ∷ []) c.loop-k.invariant
    ∙ append_assoc c.args.words.now.items (take c.loop-k.k (words_in c.args.bytes.now)) (c.word_at.result ∷ [])
    ∙ ap (λ (ws : List ℕ). c.args.words.now.items ++ ws) (words_more c.args.bytes.now c.loop-k.k c.word_at.result fits c.word_at.ensures)

pub returns : goal.returns
returns c =
    c.loop-k.invariant
    ∙ ap (λ (ws : List ℕ). c.args.words.now.items ++ ws) (take_all c.loop-k.k (words_in c.args.bytes.now) (omega (arith, c.loop-k-test.false, length_words c.args.bytes.now)))
