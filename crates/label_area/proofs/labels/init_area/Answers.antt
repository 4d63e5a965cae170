use Rattle.std.proofs.Common.{length}
use Rattle.cut_words.specs.WordBytes.{bytes_of}
use Rattle.label_area.proofs.Blocks.{blank_fault}
use Rattle.label_area.proofs.labels.init_area.Goals as goal

pub returns-in-Err-clause-whole : goal.returns-in-Err-clause-whole
returns-in-Err-clause-whole c is = absurd (blank_fault (length c.args.words.kept) (bytes_of c.args.words.kept) c.in-Err.fault c.in-Err.ensures is)
