-- Why `rescue` ends with its status: this project's rules.
use Rattle.std.specs.Prelude.{ℕ, ◌==◌, not, Bool, false, ◌||◌, if◌then◌else◌, List, is_err, is_some, Result, Ok, Err}
use Rattle.arena_check.specs.Check.{source_of}
use Rattle.image_set.specs.Load.{ImageSet}
use Rattle.label_rescue.specs.declared.rescued.RescueFound.{RescueFound}
use Rattle.namespace_map.specs.declared.refused.OpRefused.{OpRefused}
use Rattle.shell_reports.specs.Causes.{fault_in}
use Rattle.shell_sectors.specs.Write.{loaded_words}
use Rattle.shell_check.specs.Comes.{bad_in}
use Rattle.shell_rescue.specs.Found.{rescued_in}
use Rattle.shell_rescue.specs.Lost.{count_in, lost_arenas}
use Rattle.shell_rescue.specs.Reading.{refused_by}

-- a sector is lost, and they are listed; or no arena can be read, whose bytes are printed
abbrev pub is_lost : List ℕ → Bool → (ℕ → Bool) → List ℕ → Bool
is_lost uuid listing bad words = if listing then not (count_in (lost_arenas bad words uuid) == 0) else is_some (refused_by (source_of words uuid))

abbrev pub loses : List ℕ → Bool → ImageSet → Result RescueFound OpRefused → Bool
loses uuid listing loaded (Ok place) = is_lost uuid listing (bad_in loaded place.found) (loaded_words loaded place.found)
loses uuid listing loaded (Err refusal) = false

-- the table or the labels have a fault, or the namespace is found and so ends
abbrev pub breaks_rescue : ImageSet → List ℕ → Bool → Bool
breaks_rescue loaded uuid listing = is_some (fault_in loaded) || loses uuid listing loaded (rescued_in loaded uuid)

-- the namespace isn't found, or it can't be rescued
abbrev pub refuses_rescue : ImageSet → List ℕ → Bool
refuses_rescue loaded uuid = is_err (rescued_in loaded uuid)
