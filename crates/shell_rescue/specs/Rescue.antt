-- What can still be read of the arenas of a sector namespace: UEFI 2.10, chapter 6. Which parts of a damaged arena count is this project's rule.
use Rattle.std.specs.Prelude.{ℕ, zero, suc, ◌+◌, ◌*◌, ◌/◌, ◌==◌, Bool, if◌then◌else◌, List, [], ◌∷◌, ◌++◌, length, drop, Option, Some, None, Result, Ok, Err}
use Rattle.std.specs.List.{filter_map, flat_map, list_any, range_with_len}
use Rattle.cut_words.specs.WordBytes.{bytes_of}
use Rattle.arena_layout.specs.declared.info.Info.{Info}
use Rattle.arena_layout.specs.declared.layout.Layout.{Layout}
use Rattle.flog.specs.declared.group.FlogFault.{FlogFault}
use Rattle.flog.specs.declared.group.Group.{Group}
use Rattle.flog.specs.declared.half.Half.{Half}
use Rattle.flog.specs.Group.{group_reading}
use Rattle.map_table.specs.Entry.{entry_of}
use Rattle.arena_open.specs.Places.{group_words}
use Rattle.arena_open.specs.Reading.{cell_with, map_in, moves_of}
use Rattle.arena_check.specs.Check.{in_arena, info_used, next_of, recovered_map, source_of}
use Rattle.arena_rescue.specs.declared.loss.Loss.{Loss}
use Rattle.arena_rescue.specs.Rescue.{losses_of, rescued_map}
use Rattle.shell_export.specs.Export.{cell_words}
use Rattle.shell_rescue.specs.declared.arena.ArenaRescued.{ArenaRescued}

-- ---- the lanes that count

abbrev pub accepted : Result Group FlogFault → Option Group
accepted (Ok group) = Some group
accepted (Err fault) = None

-- a lane's group, if none of its words is bad and it is accepted
abbrev pub counted_group : Layout → (ℕ → Bool) → List ℕ → ℕ → Option Group
counted_group l bad words lane =
    if list_any bad (range_with_len (l.flog_off / 8 + 8 * lane) 8) then None
    else accepted (group_reading (group_words l words lane) l.external l.internal)

abbrev pub counted_groups : Layout → (ℕ → Bool) → List ℕ → List Group
counted_groups l bad words = filter_map (counted_group l bad words) (range_with_len 0 l.lanes)

-- ---- one arena; words and bad words are those from its first word on

abbrev pub moves_in : Layout → (ℕ → Bool) → List ℕ → List Half
moves_in l bad words = moves_of (map_in l words) (counted_groups l bad words)

-- the map with the pending moves of the lanes that count
abbrev pub map_moved : Layout → (ℕ → Bool) → List ℕ → List ℕ
map_moved l bad words = recovered_map (map_in l words) (counted_groups l bad words)

abbrev pub losses_in : Layout → (ℕ → Bool) → List ℕ → List Loss
losses_in l bad words = losses_of l bad (map_moved l bad words) (counted_groups l bad words)

-- the entries by which its sectors are read; a lost one has that of a sector of zeros
abbrev pub entries_in : Layout → (ℕ → Bool) → List ℕ → List ℕ
entries_in l bad words = rescued_map l bad (map_moved l bad words) (counted_groups l bad words)

-- an arena by the info block that is used; `at` is its first word in the namespace
abbrev pub arena_in : ℕ → (ℕ → Bool) → List ℕ → Layout → ArenaRescued
arena_in at bad words l = record { at = at; layout = l; entries = entries_in l (in_arena at bad) words }

abbrev pub arena_by : ℕ → (ℕ → Bool) → List ℕ → Option Info → List ArenaRescued
arena_by at bad words None = []
arena_by at bad words (Some info) = arena_in at bad words info.layout ∷ []

-- ---- all arenas

-- what is behind an arena: the next one begins so many bytes after its start, and there is none if the number is 0
abbrev pub behind : {X : Type 0} → ℕ → ℕ → (ℕ → List X) → List X
behind next at from = if next == 0 then [] else from (at + next / 8)

-- the arenas from a word on, at most n of them
unfoldable pub arenas_within : ℕ → (ℕ → Bool) → List ℕ → List ℕ → ℕ → List ArenaRescued
arenas_within zero bad words parent at = []
arenas_within (suc n) bad words parent at =
    let used = source_of (drop at words) parent in
    arena_by at bad (drop at words) (info_used used) ++ behind (next_of used) at (arenas_within n bad words parent)

-- all of them; each arena but the first begins behind the one before, so there are no more than words
abbrev pub rescued_arenas : (ℕ → Bool) → List ℕ → List ℕ → List ArenaRescued
rescued_arenas bad words parent = arenas_within (length words + 1) bad words parent 0

-- ---- their bytes; words are those of the namespace

-- the bytes of a sector by its entry
abbrev pub entry_bytes : Layout → List ℕ → ℕ → ℕ → List ℕ
entry_bytes l words entry sector = bytes_of (cell_words (l.sector / 8) (cell_with l words (entry_of entry sector)))

-- those of all sectors from number `sector` on
abbrev pub entries_bytes : Layout → List ℕ → ℕ → List ℕ → List ℕ
entries_bytes l words sector [] = []
entries_bytes l words sector (entry ∷ entries) = entry_bytes l words entry sector ++ entries_bytes l words (sector + 1) entries

abbrev pub arena_bytes : List ℕ → ArenaRescued → List ℕ
arena_bytes words a = entries_bytes a.layout (drop a.at words) 0 a.entries

abbrev pub arenas_bytes : List ℕ → List ArenaRescued → List ℕ
arenas_bytes words arenas = flat_map (arena_bytes words) arenas

-- the bytes that can still be read, a lost sector as zeros
abbrev pub rescued_bytes : (ℕ → Bool) → List ℕ → List ℕ → List ℕ
rescued_bytes bad words parent = arenas_bytes words (rescued_arenas bad words parent)
