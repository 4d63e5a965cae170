-- Why `export` ends with its status.
use Rattle.std.proofs.Common.{◌≡◌, ℕ, Bool, true, false, List, Option, Some, None, Result, Ok, Err, refl}
use Rattle.std.specs.Prelude.{◌&&◌, ◌||◌, if◌then◌else◌, is_some, is_err}
use Rattle.cut_words.specs.WordBytes.{bytes_of}
use Rattle.arena_open.specs.declared.state.ArenaState.{ArenaState}
use Rattle.arena_open.specs.declared.chain_refused.ChainRefused.{ChainRefused}
use Rattle.namespace_map.specs.Commands.{is_sector}
use Rattle.namespace_map.specs.declared.refused.OpRefused.{OpRefused}
use Rattle.namespace_areas.specs.declared.found.Found.{Found}
use Rattle.namespace_areas.specs.Finding.{set_at}
use Rattle.namespace_ops.specs.declared.registry.OpenFault.{OpenFault}
use Rattle.namespace_ops.specs.Opening.{sets_of}
use Rattle.image_set.specs.Load.{ImageSet}
use Rattle.sector_namespaces.specs.View.{rows_of, view_words}
use Rattle.shell_reports.specs.declared.status.Ending.{Ending}
use Rattle.shell_reports.specs.declared.status.Ending.TheVariants as ending
use Rattle.shell_reports.specs.Outcome.{Outcome, printed}
use Rattle.shell_reports.specs.Sectors.{on_arenas, unless_fault}
use Rattle.shell_reports.specs.Causes.{fault_in, opened_in}
use Rattle.shell_export.specs.Causes.{bars_placed, breaks_export, breaks_placed, has_bad, placed_in, refuses_export}
use Rattle.shell_export.specs.Export.{export_outcome, on_place, refused_at, sectors_bytes, sectors_outcome, unless_bad}

-- the ending for images that are refused or not, and a command that is
abbrev pub ending_for : Bool → Bool → Ending
ending_for broken barred = if broken then ending.Image else if barred then ending.Refused else ending.Done

-- an outcome has this ending, and saves nothing
abbrev pub EndsAs : Bool → Bool → Outcome → Type 0
EndsAs broken barred outcome = (outcome.ending ≡ ending_for broken barred) × (outcome.saved ≡ None)

module _ (loaded : ImageSet) (uuid : List ℕ) (zeros : Bool) where
  by_bad : (states : List ArenaState) (bad : Option ℕ) → EndsAs false (is_some bad) (unless_bad bad (printed (sectors_bytes states)))
  by_bad states None = (refl, refl)
  by_bad states (Some sector) = (refl, refl)

  by_arenas : (opened : Result (List ArenaState) ChainRefused) → EndsAs (is_err opened) (has_bad zeros opened) (on_arenas uuid (sectors_outcome zeros) opened)
  by_arenas (Ok states) = by_bad states (refused_at zeros states)
  by_arenas (Err fault) = (refl, refl)

  by_mode : (sector : Bool) (opened : Result (List ArenaState) ChainRefused) (words : List ℕ)
      → EndsAs (sector && is_err opened) (sector && has_bad zeros opened) (if sector then on_arenas uuid (sectors_outcome zeros) opened else printed (bytes_of words))
  by_mode true opened words = by_arenas opened
  by_mode false opened words = (refl, refl)

  by_place : (place : Result Found OpRefused) → EndsAs (breaks_placed loaded uuid place) (bars_placed loaded uuid zeros place) (on_place uuid zeros (sets_of loaded.nfit) loaded.contents place)
  by_place (Ok found) = by_mode (is_sector found.mode) (opened_in loaded uuid found) (view_words (set_at (sets_of loaded.nfit) found.region) found (rows_of loaded.contents))
  by_place (Err refusal) = (refl, refl)

  by_fault : (fault : Option OpenFault) → EndsAs (is_some fault || breaks_placed loaded uuid (placed_in loaded uuid)) (bars_placed loaded uuid zeros (placed_in loaded uuid))
      (unless_fault fault (on_place uuid zeros (sets_of loaded.nfit) loaded.contents (placed_in loaded uuid)))
  by_fault None = by_place (placed_in loaded uuid)
  by_fault (Some fault) = (refl, refl)

  pub export_ends : EndsAs (breaks_export loaded uuid) (refuses_export loaded uuid zeros) (export_outcome uuid zeros loaded)
  unfolding export_outcome
  export_ends = by_fault (fault_in loaded)
