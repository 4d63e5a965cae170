-- What an image set in memory holds.
use Rattle.std.specs.Prelude.{Bool, List, [], ◌∷◌, Option, Some, None, if◌then◌else◌}
use Rattle.nvd_media.specs.declared.mem_images.Stored.{Stored}
use Rattle.nvd_media.specs.Images.{Images, is_object}

-- the first object of a list that has the name
abbrev pub lookup : List Stored → Images
lookup [] object = None
lookup (stored ∷ others) object = if is_object stored.object object then Some stored.bytes.items else lookup others object

-- what is held, if all of it was stored
abbrev pub while_whole : {A : Type 0} → Bool → A → Option A
while_whole whole held = if whole then Some held else None
