use Rattle.label_repair.proofs.Found.{read_seq}
use Rattle.label_repair.proofs.read.read_side.Goals as goal

pub returns-clause-seq : goal.returns-clause-seq
returns-clause-seq c = read_seq c.args.area.now c.args.side c.read_index-read.result c.requires c.read_index-read.ensures
