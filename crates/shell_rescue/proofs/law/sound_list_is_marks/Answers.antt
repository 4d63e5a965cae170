use Rattle.shell_rescue.proofs.SoundLaws.{sound_list_is_marks}
use Rattle.shell_rescue.proofs.law.sound_list_is_marks.Goals as goal

pub returns : goal.returns
returns c = sound_list_is_marks
