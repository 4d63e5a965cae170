-- The commands `info` and `read`: the arenas of a sector namespace, and one of its sectors. UEFI 2.10, chapter 6.
use Rattle.std.specs.Prelude.{ℕ, ◌+◌, nat_lt, if◌then◌else◌, List, [], ◌∷◌, ◌++◌, slice_index_or, Option, Some, None, Result, Ok, Err, codes}
use Rattle.std.specs.Fmt.{decimal}
use Rattle.nvd_words.specs.Checks.{first_fault}
use Rattle.nfit_reader.specs.declared.table.Mapping.{Mapping}
use Rattle.nfit_reader.specs.declared.table.Nfit.{Nfit}
use Rattle.label_set.specs.declared.placed.Placed.{Placed}
use Rattle.arena_layout.specs.declared.layout.Layout.{Layout}
use Rattle.arena_open.specs.declared.state.ArenaState.{ArenaState}
use Rattle.arena_open.specs.declared.cell.Cell.TheVariants as cell
use Rattle.arena_open.specs.Moves.{moves_made}
use Rattle.arena_open.specs.declared.chain_refused.ChainRefused.{ChainRefused}
use Rattle.arena_open.specs.ChainCells.{contents_of, sectors_of}
use Rattle.namespace_map.specs.Namespaces.{entry_at}
use Rattle.namespace_map.specs.declared.refused.OpRefused.{OpRefused}
use Rattle.namespace_areas.specs.declared.found.Found.{Found}
use Rattle.namespace_areas.specs.Finding.{found_of, set_at}
use Rattle.namespace_ops.specs.declared.registry.OpenFault.{OpenFault}
use Rattle.namespace_ops.specs.Opening.{set_fault_from, sets_of, overlap_fault}
use Rattle.image_set.specs.Load.{ImageSet}
use Rattle.session_script.specs.Texts.{cell_text}
use Rattle.sector_namespaces.specs.View.{rows_of, view_words, opened_view}
use Rattle.shell_reports.specs.Outcome.{Outcome, printed, joined, lf}
use Rattle.shell_reports.specs.List.{labels_in_set, open_outcome}
use Rattle.shell_reports.specs.Faults.{arena_outcome, range_text, refusal_text, refused_outcome}

-- ---- opening a namespace

-- a region that isn't an interleave set, or labels with overlapping extents
abbrev pub registry_fault : Nfit → List Placed → Option OpenFault
registry_fault nfit labels = first_fault (set_fault_from 0 nfit.regions ∷ overlap_fault labels ∷ [])

-- continues with the arenas, or answers why they aren't opened
abbrev pub on_arenas : List ℕ → (List ArenaState → Outcome) → Result (List ArenaState) ChainRefused → Outcome
on_arenas uuid f (Ok states) = f states
on_arenas uuid f (Err fault) = arena_outcome uuid fault

-- continues with the namespace, or answers why it isn't found
abbrev pub on_found : List ℕ → (List ArenaState → Outcome) → List (List Mapping) → List (List ℕ) → Result Found OpRefused → Outcome
on_found uuid f sets contents (Ok found) = on_arenas uuid f (opened_view (view_words (set_at sets found.region) found (rows_of contents)) uuid)
on_found uuid f sets contents (Err refusal) = refused_outcome (refusal_text refusal)

abbrev pub unless_fault : Option OpenFault → Outcome → Outcome
unless_fault (Some fault) outcome = open_outcome fault
unless_fault None outcome = outcome

-- the outcome of a command on the arenas of a namespace: first the table and the labels are checked, then the namespace is found,
-- and then all of its arenas are opened
unfoldable pub on_sectors : (List ArenaState → Outcome) → ImageSet → List ℕ → Outcome
on_sectors f loaded uuid =
    unless_fault (registry_fault loaded.nfit (labels_in_set loaded))
    (on_found uuid f (sets_of loaded.nfit) loaded.contents (found_of (sets_of loaded.nfit) (entry_at (sets_of loaded.nfit) (labels_in_set loaded) uuid)))

-- ---- info

-- sector S sectors E blocks I lanes N moves P
abbrev pub arena_facts : Layout → ℕ → List ℕ
arena_facts layout moves = joined (codes "sector " ∷ decimal layout.sector ∷ codes " sectors " ∷ decimal layout.external ∷ codes " blocks " ∷ decimal layout.internal
    ∷ codes " lanes " ∷ decimal layout.lanes ∷ codes " moves " ∷ decimal moves ∷ [])

-- arena K and its facts
abbrev pub arena_line : ℕ → ArenaState → List ℕ
arena_line k state = joined (codes "arena " ∷ decimal k ∷ codes " " ∷ arena_facts state.info.layout (moves_made state) ∷ lf ∷ [])

-- from arena k on
abbrev pub arena_lines : ℕ → List ArenaState → List ℕ
arena_lines k [] = []
arena_lines k (state ∷ states) = arena_line k state ++ arena_lines (k + 1) states

abbrev pub info_outcome : List ℕ → ImageSet → Outcome
info_outcome uuid loaded = on_sectors (λ states. printed (arena_lines 0 states)) loaded uuid

-- ---- read

-- the cell of a sector, if the namespace has it
abbrev pub sector_outcome : ℕ → List ArenaState → Outcome
sector_outcome sector states =
    if nat_lt sector (sectors_of states) then printed (cell_text (slice_index_or (contents_of states) sector cell.Bad))
    else refused_outcome (range_text (sectors_of states))

abbrev pub read_outcome : List ℕ → ℕ → ImageSet → Outcome
read_outcome uuid sector loaded = on_sectors (sector_outcome sector) loaded uuid
