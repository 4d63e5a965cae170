use Rattle.shell_rescue.proofs.SoundLaws.{sound_rescue_ends_as_export}
use Rattle.shell_rescue.proofs.law.sound_rescue_ends_as_export.Goals as goal

pub returns : goal.returns
returns c = sound_rescue_ends_as_export
