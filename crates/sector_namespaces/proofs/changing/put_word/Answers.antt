use Rattle.std.proofs.Common.{◌∙◌, ℕ, [], ◌∷◌, Option, ap}
use Rattle.cut_words.specs.Fuses.{allowed}
use Rattle.cut_words.specs.Groups.{written}
use Rattle.cut_words.specs.Words.{Words, after}
use Rattle.arena_open.proofs.Written.{writes_settle}
use Rattle.sector_namespaces.proofs.changing.put_word.Goals as goal

pub returns-clause-put : goal.returns-clause-put
returns-clause-put g c =
    let words = g.W.WordSpace.words c.args.space.now in
    c.write_word-all.ensures.made.words
    ∙ ap (λ (f : Option ℕ). after (g.W.WordSpace.words c.args.space.now) (allowed f (written c.args.at c.args.word))) c.none-fuse.ensures
    ∙ ap (λ (w : Words). after w (written c.args.at c.args.word)) c.requires.settled
    ∙ writes_settle (g.W.WordSpace.words c.args.space.now).kept (record { place = c.args.at; value = c.args.word } ∷ [])
