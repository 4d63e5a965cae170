use Rattle.arena_layout.proofs.Reading.{sound_at}
use Rattle.arena_layout.proofs.Stands.{reading_stands}
use Rattle.arena_layout.proofs.OneSpelling.{one_spelling}
use Rattle.arena_layout.proofs.info.read_info.Goals as goal

pub returns-clause-sound : goal.returns-clause-sound
returns-clause-sound c = sound_at _ _ _ _ c.read_checked.ensures

pub returns-clause-one_spelling : goal.returns-clause-one_spelling
returns-clause-one_spelling c = one_spelling _ _ _ _ c.told-bytes c.fits-bytes c.read_checked.ensures

pub returns-clause-stands : goal.returns-clause-stands
returns-clause-stands c = reading_stands _ _ _ _ c.read_checked.ensures
