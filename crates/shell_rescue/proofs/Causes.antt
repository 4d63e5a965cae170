-- Why `rescue` ends with its status.
use Rattle.std.proofs.Common.{◌≡◌, ℕ, Bool, true, false, List, Option, Some, None, Result, Ok, Err, refl}
use Rattle.std.specs.Prelude.{◌==◌, ◌||◌, not, if◌then◌else◌, is_err, is_some}
use Rattle.arena_layout.specs.declared.info.InfoFault.{InfoFault}
use Rattle.arena_check.specs.Check.{source_of}
use Rattle.image_set.specs.Load.{ImageSet}
use Rattle.label_rescue.specs.declared.rescued.RescueFound.{RescueFound}
use Rattle.namespace_map.specs.declared.refused.OpRefused.{OpRefused}
use Rattle.namespace_ops.specs.declared.registry.OpenFault.{OpenFault}
use Rattle.shell_reports.specs.Causes.{fault_in}
use Rattle.shell_reports.specs.Sectors.{unless_fault}
use Rattle.shell_sectors.specs.Write.{loaded_words}
use Rattle.shell_check.specs.Comes.{bad_in}
use Rattle.shell_reports.specs.declared.status.Ending.TheVariants as ending
use Rattle.shell_export.proofs.Causes.{EndsAs, ending_for}
use Rattle.shell_rescue.specs.Causes.{breaks_rescue, is_lost, loses, refuses_rescue}
use Rattle.shell_rescue.specs.Comes.{bytes_unless, on_named, rescue_outcome, words_outcome}
use Rattle.shell_rescue.specs.Found.{rescued_in}
use Rattle.shell_rescue.specs.Lost.{count_in, lost_arenas}
use Rattle.shell_rescue.specs.Reading.{refused_by}
use Rattle.shell_rescue.specs.Rescue.{rescued_bytes}

module _ (loaded : ImageSet) (uuid : List ℕ) (listing : Bool) where
  by_first : (refused : Option InfoFault) (bytes : List ℕ) → EndsAs (is_some refused) false (bytes_unless uuid refused bytes)
  by_first None bytes = (refl, refl)
  by_first (Some fault) bytes = (refl, refl)

  by_none : (none : Bool) → ((if none then ending.Done else ending.Image) ≡ ending_for (not none) false)
  by_none true = refl
  by_none false = refl

  by_listing : (list : Bool) (missing : List ℕ) (bad : ℕ → Bool) (words : List ℕ) → EndsAs (is_lost uuid list bad words) false (words_outcome uuid list missing bad words)
  by_listing true missing bad words = (by_none (count_in (lost_arenas bad words uuid) == 0), refl)
  by_listing false missing bad words = by_first (refused_by (source_of words uuid)) (rescued_bytes bad words uuid)

  by_found : (answer : Result RescueFound OpRefused) → EndsAs (loses uuid listing loaded answer) (is_err answer) (on_named uuid listing loaded answer)
  by_found (Ok place) = by_listing listing place.missing (bad_in loaded place.found) (loaded_words loaded place.found)
  by_found (Err refusal) = (refl, refl)

  by_fault : (fault : Option OpenFault) → EndsAs (is_some fault || loses uuid listing loaded (rescued_in loaded uuid)) (is_err (rescued_in loaded uuid)) (unless_fault fault (on_named uuid listing loaded (rescued_in loaded uuid)))
  by_fault None = by_found (rescued_in loaded uuid)
  by_fault (Some fault) = (refl, refl)

  pub rescue_ends : EndsAs (breaks_rescue loaded uuid listing) (refuses_rescue loaded uuid) (rescue_outcome uuid listing loaded)
  unfolding rescue_outcome
  rescue_ends = by_fault (fault_in loaded)
