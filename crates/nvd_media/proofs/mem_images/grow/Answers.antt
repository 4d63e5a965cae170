use Rattle.std.proofs.Common.{refl}
use Rattle.nvd_media.proofs.Grown.{extended}
use Rattle.nvd_media.proofs.mem_images.grow.Goals as goal

pub returns-clause-more : goal.returns-clause-more
returns-clause-more c =
    (extended c.extend_from_slice.result c.args.objects.now.items c.args.place c.index_mut.result.now
    (record { object = c.index_mut.result.now.object; bytes = c.extend_from_slice.new.self }) c.args.object c.args.bytes.now
    c.requires c.index_mut.ensures.value refl c.extend_from_slice.ensures.items).0

pub returns-clause-same : goal.returns-clause-same
returns-clause-same c =
    (extended c.extend_from_slice.result c.args.objects.now.items c.args.place c.index_mut.result.now
    (record { object = c.index_mut.result.now.object; bytes = c.extend_from_slice.new.self }) c.args.object c.args.bytes.now
    c.requires c.index_mut.ensures.value refl c.extend_from_slice.ensures.items).1
