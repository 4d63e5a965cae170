use Rattle.std.proofs.Common.{sym}
use Rattle.image_set.proofs.Patched.{same_row}
use Rattle.image_set.proofs.patch.NoPatchPatch.patch.Goals as goal

pub returns : goal.returns
returns c = sym (same_row c.args.«_module» c.args.«_at» c.args._piece.now)
