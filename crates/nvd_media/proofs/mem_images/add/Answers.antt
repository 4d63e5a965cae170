use Rattle.std.proofs.Common.{refl}
use Rattle.nvd_media.proofs.Grown.{pushed}
use Rattle.nvd_media.proofs.mem_images.add.Goals as goal

pub returns-clause-more : goal.returns-clause-more
returns-clause-more c =
    pushed c.args.objects.now.items c.push.new.self.items (record { object = c.args.object; bytes = c.in_ok-bytes.bytes }) c.args.object c.args.bytes.now
    c.requires c.in_ok-push.ensures.items refl c.in_ok-bytes.ensures.items
