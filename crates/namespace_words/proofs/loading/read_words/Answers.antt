use Rattle.std.proofs.Common.{◌≡◌, List, ℕ, length, refl, sym, subst, Vec, Global}
use Rattle.namespace_words.specs.Source.{IsFront, words_by}
use Rattle.namespace_words.proofs.WordRows.{words_made}
use Rattle.namespace_words.proofs.loading.read_words.Goals as goal

pub returns-clause-told : goal.returns-clause-told
returns-clause-told g c = λ contents reveals.
    let none : IsFront c.in-Ok.words.items (words_by c.args.extent.now contents) = subst (λ (ws : List ℕ). IsFront ws (words_by c.args.extent.now contents)) (sym c.in-Ok.ensures.items) refl in
    words_made (λ (words : Vec ℕ Global). IsFront words.items (words_by c.args.extent.now contents)) c.read_pieces.new.words c.words_if.result c.in_ok-done.done c.words_if.ensures
    (c.in_ok-done.ensures.told contents reveals none)

pub returns-clause-count : goal.returns-clause-count
returns-clause-count g c =
    words_made (λ (words : Vec ℕ Global). length words.items ≡ c.args.count) c.read_pieces.new.words c.words_if.result c.in_ok-done.done c.words_if.ensures c.in_ok-done.ensures.count
