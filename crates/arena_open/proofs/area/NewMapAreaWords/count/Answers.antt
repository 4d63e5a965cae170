use Rattle.std.proofs.Common.{sym}
use Rattle.arena_open.proofs.Counts.{length_map}
use Rattle.arena_open.proofs.area.NewMapAreaWords.count.Goals as goal

pub returns : goal.returns
returns c = sym (length_map c.args.self.now.external c.args.self.now.count)
