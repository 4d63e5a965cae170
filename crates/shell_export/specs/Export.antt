-- The command `export`: the bytes of a whole namespace. UEFI 2.10, chapter 6 (BTT) and section 13.19 (labels), with this project's rules.
use Rattle.std.specs.Prelude.{◌≡◌, ℕ, ◌/◌, Bool, true, false, not, ◌||◌, if◌then◌else◌, List, ◌++◌, replicate, slice_index_or, Option, Some, None, Result, Ok, Err, codes}
use Rattle.std.specs.List.{flat_map, range_with_len}
use Rattle.std.specs.Fmt.{decimal}
use Rattle.cut_words.specs.WordBytes.{bytes_of}
use Rattle.nfit_reader.specs.declared.table.Mapping.{Mapping}
use Rattle.label_codec.specs.declared.mode.Mode.{Mode}
use Rattle.label_codec.specs.declared.mode.Mode.TheVariants as mode
use Rattle.arena_open.specs.declared.chain_refused.ChainRefused.{ChainRefused}
use Rattle.arena_open.specs.declared.state.ArenaState.{ArenaState}
use Rattle.arena_open.specs.declared.cell.Cell.{Cell}
use Rattle.arena_open.specs.declared.cell.Cell.TheVariants as cell
use Rattle.arena_open.specs.ChainCells.{contents_of, sectors_of, sizes_of}
use Rattle.namespace_map.specs.Namespaces.{NamespaceEntry, entry_at}
use Rattle.namespace_map.specs.Commands.{is_complete, is_sector}
use Rattle.namespace_map.specs.declared.refused.OpRefused.{OpRefused}
use Rattle.namespace_map.specs.declared.refused.OpRefused.TheVariants.{NoSuch, NotComplete, NotSector}
use Rattle.namespace_areas.specs.declared.found.Found.{Found}
use Rattle.namespace_areas.specs.Finding.{found_by, set_at}
use Rattle.namespace_ops.specs.Opening.{sets_of}
use Rattle.image_set.specs.Load.{ImageSet}
use Rattle.sector_namespaces.specs.View.{rows_of, view_words, opened_view}
use Rattle.namespace_bytes.specs.Bad.{first_bad}
use Rattle.shell_reports.specs.Outcome.{Outcome, printed}
use Rattle.shell_reports.specs.List.{labels_in_set}
use Rattle.shell_reports.specs.Faults.{refusal_text, refused_outcome}
use Rattle.shell_reports.specs.Sectors.{on_arenas, registry_fault, unless_fault}

-- ---- the namespace

-- byte access, without an abstraction
abbrev pub is_raw : Mode → Bool
is_raw mode.Raw = true
is_raw other = false

-- the place of a complete namespace, of sectors or raw, by its entry; or why there is none
abbrev pub place_of : List (List Mapping) → Option NamespaceEntry → Result Found OpRefused
place_of sets None = Err NoSuch
place_of sets (Some e) =
    if not (is_complete e.status) then Err NotComplete
    else if not (is_sector e.mode || is_raw e.mode) then Err NotSector
    else found_by sets e.mode e.region e.parts

-- ---- its sectors

-- the cell of a sector
abbrev pub cell_in : List ArenaState → ℕ → Cell
cell_in states sector = slice_index_or (contents_of states) sector cell.Bad

-- how many words a sector has
abbrev pub sector_words : List ArenaState → ℕ → ℕ
sector_words states sector = slice_index_or (sizes_of states) sector 0 / 8

-- the words of a cell; a bad one counts as so many zeros
abbrev pub cell_words : ℕ → Cell → List ℕ
cell_words count (cell.Bytes words) = words
cell_words count cell.Bad = replicate count 0

-- the bytes of a sector
abbrev pub sector_bytes : List ArenaState → ℕ → List ℕ
sector_bytes states sector = bytes_of (cell_words (sector_words states sector) (cell_in states sector))

-- the bytes of all sectors, in order
abbrev pub sectors_bytes : List ArenaState → List ℕ
sectors_bytes states = flat_map (sector_bytes states) (range_with_len 0 (sectors_of states))

-- the bad sector for which the export is refused; none if bad sectors count as zeros
abbrev pub refused_at : Bool → List ArenaState → Option ℕ
refused_at true states = None
refused_at false states = first_bad states

-- it is this one, if the arenas are opened
abbrev pub IsRefusedAt : Bool → Result (List ArenaState) ChainRefused → Option ℕ → Type 0
IsRefusedAt zeros opened bad = (states : List ArenaState) → opened ≡ Ok states → bad ≡ refused_at zeros states

-- ---- the outcome

abbrev pub unless_bad : Option ℕ → Outcome → Outcome
unless_bad None outcome = outcome
unless_bad (Some sector) outcome = refused_outcome (codes "BadSector " ++ decimal sector)

-- the bytes of all sectors, or the refusal for a bad one
abbrev pub bytes_unless : Option ℕ → List ArenaState → Outcome
bytes_unless bad states = unless_bad bad (printed (sectors_bytes states))

abbrev pub sectors_outcome : Bool → List ArenaState → Outcome
sectors_outcome zeros states = bytes_unless (refused_at zeros states) states

-- of a namespace of this mode with these words
abbrev pub words_outcome : List ℕ → Bool → Mode → List ℕ → Outcome
words_outcome uuid zeros mode words =
    if is_sector mode then on_arenas uuid (sectors_outcome zeros) (opened_view words uuid) else printed (bytes_of words)

-- continues with the namespace's words, or answers why it isn't found
abbrev pub on_place : List ℕ → Bool → List (List Mapping) → List (List ℕ) → Result Found OpRefused → Outcome
on_place uuid zeros sets contents (Ok found) = words_outcome uuid zeros found.mode (view_words (set_at sets found.region) found (rows_of contents))
on_place uuid zeros sets contents (Err refusal) = refused_outcome (refusal_text refusal)

-- the outcome of `export` on a loaded set: first the table and the labels are checked, then the namespace is found, and then, if it is one
-- of sectors, all of its arenas are opened and its bad sectors are looked for
unfoldable pub export_outcome : List ℕ → Bool → ImageSet → Outcome
export_outcome uuid zeros loaded =
    unless_fault (registry_fault loaded.nfit (labels_in_set loaded))
    (on_place uuid zeros (sets_of loaded.nfit) loaded.contents (place_of (sets_of loaded.nfit) (entry_at (sets_of loaded.nfit) (labels_in_set loaded) uuid)))
