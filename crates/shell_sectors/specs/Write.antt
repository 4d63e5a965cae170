-- The command `write`: one sector of a sector namespace gets a value. UEFI 2.10, chapter 6; the order of refusals is this project's rule.
use Rattle.std.specs.Prelude.{◌≡◌, ◌≢◌, ℕ, ◌==◌, nat_lt, if◌then◌else◌, List, ◌++◌, length, map, slice_index, slice_set, Option, Some, None, Ok, MatchOption, codes}
use Rattle.std.specs.Option.{option_map}
use Rattle.std.specs.List.{All, slice_get}
use Rattle.std.specs.Fmt.{decimal}
use Rattle.cut_words.specs.WordBytes.{words_in}
use Rattle.arena_open.specs.declared.cell.Cell.TheVariants as cell
use Rattle.arena_open.specs.declared.state.ArenaState.{ArenaState}
use Rattle.arena_open.specs.Chain.{found_again}
use Rattle.arena_open.specs.ChainCells.{LiesIn, contents_of, sectors_of, sizes_of}
use Rattle.arena_open.specs.Moves.{moves_made}
use Rattle.lane_core.specs.Arenas.{shape_in}
use Rattle.lane_core.specs.Fixed.{SameFixed}
use Rattle.power_cut.specs.Namespace.{words_of as namespace_words}
use Rattle.image_set.specs.Load.{ImageSet}
use Rattle.namespace_areas.specs.declared.found.Found.{Found}
use Rattle.sector_namespaces.specs.View.{opened_view, rows_of}
use Rattle.served_namespaces.specs.Places.{KeepsBehind}
use Rattle.session_script.specs.declared.payload.Payload.{Payload}
use Rattle.shell_reports.specs.declared.status.Ending.TheVariants as ending
use Rattle.shell_reports.specs.Cut.{done_text}
use Rattle.shell_reports.specs.Faults.{range_text, refused_outcome}
use Rattle.shell_reports.specs.Outcome.{Outcome}
use Rattle.shell_sectors.specs.Found.{OnSet, SavesNamespace, place_of}
use Rattle.shell_sectors.specs.Value.{bytes_for}

-- ---- refusals

-- the value and the sector have these lengths, which differ
abbrev pub length_text : ℕ → ℕ → List ℕ
length_text said had = codes "Length " ++ (decimal said ++ (codes " " ++ decimal had))

-- the value doesn't have the sector's length
abbrev pub length_refusal : ℕ → ℕ → Option (List ℕ)
length_refusal said had = if said == had then None else Some (length_text said had)

-- the first refusal of a write into a chain of arenas, if there is one
abbrev pub write_refusal : ℕ → Payload → List ArenaState → Option (List ℕ)
write_refusal sector value states =
    if nat_lt sector (sectors_of states) then length_refusal (length (bytes_for (slice_index (sizes_of states) sector) value)) (slice_index (sizes_of states) sector)
    else Some (range_text (sectors_of states))

-- ---- the change

-- The words of a namespace after a write of `words` to a sector, of which these were the arenas, and of the words that it had.
pub record HasSector (uuid : List ℕ) (sector : ℕ) (words : List ℕ) (states : List ArenaState) (was now : List ℕ) : Type 0 where
  -- the sector's arena, and its number there
  pub which : ℕ
  pub own : ℕ
  pub lies : LiesIn states sector which own
  -- all arenas open
  pub news : List ArenaState
  pub opens : opened_view now uuid ≡ Ok news
  -- with the same info blocks, and no move pending
  pub infos : map (λ (s : ArenaState). s.info) news ≡ map (λ (s : ArenaState). s.info) states
  pub none : All (λ s. moves_made s ≡ 0) news
  -- each other arena has the words that it had, with its pending moves made
  pub others : (j : ℕ) → j ≢ which → slice_get news j ≡ option_map found_again (slice_get states j)
  -- in the sector's arena no word has changed that is no word of a block, the map or the log
  pub fixed : (old new : ArenaState) → slice_get states which ≡ Some old → slice_get news which ≡ Some new → SameFixed (shape_in old) old.words new.words
  -- the words behind all arenas are as they were
  pub behind : KeepsBehind was now states
  -- of all sectors that one alone has another cell
  pub cells : contents_of news ≡ slice_set (contents_of states) sector (cell.Bytes words)

-- ---- the command

-- the words of a namespace as they were loaded
abbrev pub loaded_words : ImageSet → Found → List ℕ
loaded_words loaded found = (namespace_words (place_of loaded found (rows_of loaded.contents))).kept

-- the loaded set is saved, with the sector's value in the namespace
abbrev pub Writes : Found → List ℕ → ℕ → Payload → ImageSet → List ArenaState → Outcome → Type 0
Writes found uuid sector value loaded states outcome =
    SavesNamespace found loaded (HasSector uuid sector (words_in (bytes_for (slice_index (sizes_of states) sector) value)) states (loaded_words loaded found)) ending.Done done_text outcome

-- on the arenas of a namespace
abbrev pub WritesArenas : List ℕ → ℕ → Payload → ImageSet → Outcome → Found → List ArenaState → Type 0
WritesArenas uuid sector value loaded outcome found states =
    MatchOption (write_refusal sector value states) (Writes found uuid sector value loaded states outcome) (λ refusal. outcome ≡ refused_outcome refusal)

-- what the command may come to
abbrev pub WriteComes : List ℕ → ℕ → Payload → ImageSet → Outcome → Type 0
WriteComes uuid sector value loaded outcome = OnSet (WritesArenas uuid sector value loaded outcome) uuid loaded outcome
