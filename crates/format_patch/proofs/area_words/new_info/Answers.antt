use Rattle.std.proofs.Common.{refl}
use Rattle.arena_layout.specs.Info.{is_version}
use Rattle.format_patch.proofs.area_words.new_info.Goals as goal

pub returns-clause-sound : goal.returns-clause-sound
unfolding is_version
returns-clause-sound c = record { layout = c.requires; flags = refl; version = refl; next = refl }
