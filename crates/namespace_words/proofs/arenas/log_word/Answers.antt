use Rattle.std.proofs.Common.{◌+◌, ◌*◌, ◌/◌, ap, ◌∙◌, arith}
use Rattle.std.specs.Int.{w64}
use Rattle.nvd_words.specs.Bytes.{number_at}
use Rattle.namespace_words.proofs.HeldArenas.{word_from}
use Rattle.namespace_words.proofs.arenas.log_word.Goals as goal

pub returns : goal.returns
returns c = λ words l are.
    c.word_at.ensures ∙ ap (number_at w64 c.args.log.now) (omega arith)
    ∙ word_from words (l.flog_off / 8) c.args.log.now (8 * c.args.lane + c.args.k) are (omega (arith, c.requires.lane, c.requires.word))
