use Rattle.std.proofs.Common.{sym}
use Rattle.label_codec.proofs.Laws.{sound_if_read}
use Rattle.formats_tests.proofs.label_tests.a_label_of_linux.Goals as goal

pub write_label-requires : goal.write_label-requires
write_label-requires g c = sound_if_read _ _ _ (sym c.in-Ok.ensures)
