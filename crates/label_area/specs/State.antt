-- What contracts see of an open label area.
use Rattle.std.specs.Prelude.{Bool, List, Option}
use Rattle.label_codec.specs.declared.label.Label.{Label}
use Rattle.label_index.specs.declared.index.IndexBlock.{IndexBlock}
use Rattle.cut_words.specs.Words.{Words}

-- its words; its current index block; the label of each slot that has one; and whether power was cut in a change
pub record AreaState : Type 0 where
  pub words : Words
  pub block : IndexBlock
  pub labels : List (Option Label)
  pub stopped : Bool
