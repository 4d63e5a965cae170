-- Making the pending moves of a namespace's arenas: UEFI 2.10, section 6.3 (BTT theory of operation, the Flog).
use Rattle.std.specs.Prelude.{◌≡◌, ℕ, List, length, drop, map, Ok}
use Rattle.std.specs.List.{flat_map}
use Rattle.flog.specs.declared.half.Half.{Half}
use Rattle.cut_words.specs.WordBytes.{words_in}
use Rattle.arena_open.specs.Chain.{Link, found_again, state_at}
use Rattle.namespace_bytes.specs.declared.runs.Run.{Run}
use Rattle.namespace_bytes.specs.Contents.{arena_words}
use Rattle.namespace_bytes.specs.Runs.{entry_run}
use Rattle.namespace_bytes.specs.SectorBytes.{HaveMapsOfBytes}
use Rattle.sector_namespaces.specs.View.{opened_view}

-- the map entry of a move's sector: the normal one of its new block
abbrev pub move_run : Link → Half → Run
move_run link half = entry_run link.at link.opened.info.layout half.lba half.new

-- those of all pending moves of an arena
abbrev pub link_runs : Link → List Run
link_runs link = map (move_run link) link.opened.moves

-- and of all arenas
abbrev pub move_runs : List Link → List Run
move_runs links = flat_map link_runs links

-- The bytes of a namespace once the pending moves of these, all of its arenas, are made.
pub record HaveMoves (uuid row now : List ℕ) (links : List Link) : Type 0 where
  pub size : length now ≡ length row
  -- they hold the same arenas, and no move is pending
  pub found : opened_view (words_in now) uuid ≡ Ok (map found_again (map (state_at (words_in row)) links))
  pub maps : HaveMapsOfBytes now links
  -- the words behind all arenas are as they were
  pub behind : drop (arena_words (map (state_at (words_in row)) links)) (words_in now) ≡ drop (arena_words (map (state_at (words_in row)) links)) (words_in row)
