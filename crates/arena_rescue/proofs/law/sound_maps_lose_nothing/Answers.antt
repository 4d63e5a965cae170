use Rattle.arena_rescue.proofs.Laws.{sound_maps_lose_nothing}
use Rattle.arena_rescue.proofs.law.sound_maps_lose_nothing.Goals as goal

pub returns : goal.returns
returns c = sound_maps_lose_nothing
