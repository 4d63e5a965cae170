use Rattle.std.proofs.Common.{◌∙◌, sym}
use Rattle.arena_open.proofs.Bytes.{word_index}
use Rattle.arena_open.proofs.area.InfoBlockAreaWords.word.Goals as goal

pub returns : goal.returns
returns c = c.word_at.ensures ∙ sym (word_index c.args.self.now.bytes c.args.i c.requires.inside)
