-- Why `import` ends with its status.
use Rattle.std.proofs.Common.{◌≡◌, ℕ, ◌*◌, Bool, true, false, not, eqb, List, length, Option, Some, None, Result, Ok, Err, ap}
use Rattle.std.specs.Prelude.{◌&&◌, ◌||◌, if◌then◌else◌, MatchOption, is_err, is_some, sum}
use Rattle.cut_words.specs.WordBytes.{words_in}
use Rattle.arena_open.specs.declared.state.ArenaState.{ArenaState}
use Rattle.arena_open.specs.declared.chain_refused.ChainRefused.{ChainRefused}
use Rattle.arena_open.specs.ChainCells.{sizes_of}
use Rattle.namespace_map.specs.Commands.{is_sector}
use Rattle.namespace_map.specs.declared.refused.OpRefused.{OpRefused}
use Rattle.namespace_areas.specs.declared.found.Found.{Found}
use Rattle.namespace_areas.specs.Finding.{set_at}
use Rattle.namespace_ops.specs.declared.registry.OpenFault.{OpenFault}
use Rattle.namespace_ops.specs.Opening.{sets_of}
use Rattle.image_set.specs.Load.{ImageSet}
use Rattle.sector_namespaces.specs.View.{rows_of, view_words}
use Rattle.namespace_bytes.specs.Contents.{HasContents}
use Rattle.shell_reports.specs.declared.status.Ending.TheVariants as ending
use Rattle.shell_reports.specs.Causes.{fault_in, opened_in}
use Rattle.shell_reports.specs.Cut.{done_text}
use Rattle.shell_reports.specs.Faults.{refused_outcome}
use Rattle.shell_reports.specs.List.{open_outcome}
use Rattle.shell_reports.specs.Outcome.{Outcome}
use Rattle.shell_sectors.specs.Found.{OnArenas, SavesNamespace}
use Rattle.shell_sectors.specs.Write.{length_text}
use Rattle.shell_export.specs.Causes.{breaks_export, breaks_placed}
use Rattle.shell_export.proofs.Causes.{ending_for}
use Rattle.shell_import.specs.Causes.{bars_found, misfits, refuses_import}
use Rattle.shell_import.specs.Import.{ImportComes, ImportsArenas, OnMode, OnPlace, place_in}

module _ (uuid bytes : List ℕ) (loaded : ImageSet) (outcome : Outcome) where
  fit_by : (found : Found) (said had : ℕ) (Like : List ℕ → Type 0) (same : Bool)
      → MatchOption (if same then None else Some (length_text said had)) (SavesNamespace found loaded Like ending.Done done_text outcome) (λ refusal. outcome ≡ refused_outcome refusal)
      → outcome.ending ≡ ending_for false (not same)
  fit_by found said had Like true it = it.saves.ends
  fit_by found said had Like false it = ap (λ (o : Outcome). o.ending) it

  on_states : (found : Found) (r : Result (List ArenaState) ChainRefused) → OnArenas (ImportsArenas uuid bytes loaded outcome found) uuid outcome r → outcome.ending ≡ ending_for (is_err r) (misfits (length bytes) r)
  on_states found (Ok states) it = fit_by found (length bytes) (sum (sizes_of states)) (HasContents uuid bytes states (view_words (set_at (sets_of loaded.nfit) found.region) found (rows_of loaded.contents))) (eqb (length bytes) (sum (sizes_of states))) it
  on_states found (Err fault) it = ap (λ (o : Outcome). o.ending) it

  abbrev has : Found → ℕ
  has found = 8 * length (view_words (set_at (sets_of loaded.nfit) found.region) found (rows_of loaded.contents))

  on_mode : (found : Found) (sector : Bool) → OnMode sector uuid bytes loaded outcome found
      → outcome.ending ≡ ending_for (sector && is_err (opened_in loaded uuid found)) (if sector then misfits (length bytes) (opened_in loaded uuid found) else not (eqb (length bytes) (has found)))
  on_mode found true it = on_states found (opened_in loaded uuid found) it
  on_mode found false it = fit_by found (length bytes) (has found) (λ now. now ≡ words_in bytes) (eqb (length bytes) (has found)) it

  on_place : (place : Result Found OpRefused) → OnPlace uuid bytes loaded outcome place → outcome.ending ≡ ending_for (breaks_placed loaded uuid place) (bars_found loaded uuid (length bytes) place)
  on_place (Ok found) it = on_mode found (is_sector found.mode) it
  on_place (Err refusal) it = ap (λ (o : Outcome). o.ending) it

  on_fault : (fault : Option OpenFault) → MatchOption fault (OnPlace uuid bytes loaded outcome (place_in loaded uuid)) (λ f. outcome ≡ open_outcome f)
      → outcome.ending ≡ ending_for (is_some fault || breaks_placed loaded uuid (place_in loaded uuid)) (bars_found loaded uuid (length bytes) (place_in loaded uuid))
  on_fault None it = on_place (place_in loaded uuid) it
  on_fault (Some fault) it = ap (λ (o : Outcome). o.ending) it

  pub import_ends : ImportComes uuid bytes loaded outcome → outcome.ending ≡ ending_for (breaks_export loaded uuid) (refuses_import loaded uuid (length bytes))
  import_ends it = on_fault (fault_in loaded) it
