use Rattle.interleave.proofs.Checked.{ways_first}
use Rattle.interleave.proofs.reading.ways_said.Goals as goal

pub returns : goal.returns
returns c = λ none. rw c.as_slice.ensures (ways_first c.args.region.now c.index-as_slice-0.result c.requires none)
