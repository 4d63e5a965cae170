use Rattle.shell_rescue.proofs.SoundLaws.{sound_list_ends_as_export}
use Rattle.shell_rescue.proofs.law.sound_list_ends_as_export.Goals as goal

pub returns : goal.returns
returns c = sound_list_ends_as_export
