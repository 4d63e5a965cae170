use Rattle.std.proofs.Common.{sym}
use Rattle.arena_open.proofs.Counts.{length_log}
use Rattle.arena_open.proofs.area.NewLogAreaWords.count.Goals as goal

pub returns : goal.returns
returns c = sym (length_log c.args.self.now.external c.args.self.now.lanes c.args.self.now.count)
