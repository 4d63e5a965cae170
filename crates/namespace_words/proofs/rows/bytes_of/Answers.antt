use Rattle.std.proofs.Common.{◌∙◌, ◌≤◌, length, ap, arith}
use Rattle.std.proofs.lemmas.List.{take_all}
use Rattle.cut_words.specs.WordBytes.{bytes_of, words_in}
use Rattle.namespace_words.proofs.WordRows.{words_back, words_fit}
use Rattle.namespace_words.proofs.rows.bytes_of.Goals as goal

pub returns-clause-back : goal.returns-clause-back
returns-clause-back c =
    let end : length c.args.words.now ≤ c.loop-word.word-index = omega (arith, c.loop-word-test.false) in
    ap words_in (c.loop-word.invariant.bytes ∙ ap bytes_of (take_all c.loop-word.word-index c.args.words.now end))
    ∙ words_back c.args.words.now (words_fit c.args.words.now (λ i lt. c.loop-word.invariant.fit i (omega (arith, lt, end))))
