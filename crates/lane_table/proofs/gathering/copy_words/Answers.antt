use Rattle.std.proofs.Common.{◌++◌, ◌∷◌, [], sym, ap, ◌∙◌}
use Rattle.lane_table.proofs.Gathers.{take_on}
use Rattle.lane_table.proofs.gathering.copy_words.Goals as goal

pub loop-i-preserved : goal.loop-i-preserved
loop-i-preserved c = record {
  copied = c.push_reserved.ensures.items ∙ ap (λ l. l ++ c.word.result ∷ []) c.loop-i.invariant.copied ∙ sym (take_on _ c.args.first c.loop-i.i c.word.result c.word.ensures);
  room = c.push_reserved.ensures.capacity ∙ c.loop-i.invariant.room;
}
