use Rattle.std.proofs.Common.{◌≡◌, drop}
use Rattle.nvd_media.specs.Memory.{lookup}
use Rattle.nvd_media.proofs.mem_images.find.Given as goal

abbrev pub invariant-loop-stored : goal.invariant-loop-stored
invariant-loop-stored l = lookup (drop l.stored-index l.objects) l.object ≡ lookup l.objects l.object
