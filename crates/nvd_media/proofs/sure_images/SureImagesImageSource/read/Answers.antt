use Rattle.std.proofs.Common.{refl}
use Rattle.nvd_media.proofs.sure_images.SureImagesImageSource.read.Goals as goal

pub copy_from-requires : goal.copy_from-requires
copy_from-requires c = rw (c.bytes_in.ensures, c.deref.ensures.value) (c.requires _ refl)
