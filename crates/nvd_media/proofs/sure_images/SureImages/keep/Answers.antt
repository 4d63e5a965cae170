use Rattle.std.proofs.Common.{rules}
use Rattle.nvd_media.specs.Images.{Images, IsSameSet, with_more}
use Rattle.nvd_media.specs.Memory.{lookup}
use Rattle.nvd_media.proofs.Keeping.{still_whole}
use Rattle.nvd_media.proofs.sure_images.SureImages.keep.Goals as goal

pub returns-else-is_err : goal.returns-else-is_err
returns-else-is_err c =
    record {
      kept = still_whole c.args.self.now.whole (lookup c.args.self.now.objects.items) (lookup c.append.new.objects.items)
          (λ (set : Images) (now : Images). IsSameSet now (with_more set c.args.object c.args.bytes.now)) (search rules);
    }
