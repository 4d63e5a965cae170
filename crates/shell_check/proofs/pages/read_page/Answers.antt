use Rattle.std.proofs.Common.{◌≡◌, ℕ, ◌+◌, ◌*◌, ◌/◌, ◌%◌, drop, subst, ◌∙◌, arith}
use Rattle.std.proofs.lemmas.List.{length-replicate}
use Rattle.namespace_words.specs.Source.{AreBytesOf, words_by}
use Rattle.namespace_words.proofs.HeldArenas.{area_words, info_is}
use Rattle.shell_check.proofs.pages.read_page.Goals as goal

pub returns-clause-told : goal.returns-clause-told
returns-clause-told g c = λ contents reveals.
    let from : 8 * c.args.word % 8 ≡ 0 = omega arith in
    let place : 8 * c.args.word / 8 ≡ (8 * c.args.word + 0) / 8 = omega arith in
    info_is (drop c.args.word (words_by c.args.extent.now contents)) c.read_extent.new.into (c.read_extent.auto.into ∙ length-replicate {A = ℕ} 4096 0) c.in_ok-read_extent.ensures.fit
    (area_words (words_by c.args.extent.now contents) c.args.word 0 c.read_extent.new.into (omega arith)
    (subst (λ (n : ℕ). AreBytesOf (words_by c.args.extent.now contents) n c.read_extent.new.into) place (c.in_ok-read_extent.ensures.words contents reveals from)))

pub returns-clause-words : goal.returns-clause-words
returns-clause-words g c = λ contents reveals.
    let from : 8 * c.args.word % 8 ≡ 0 = omega arith in
    let place : 8 * c.args.word / 8 ≡ c.args.word = omega arith in
    subst (λ (n : ℕ). AreBytesOf (words_by c.args.extent.now contents) n c.read_extent.new.into) place (c.in_ok-read_extent.ensures.words contents reveals from)
