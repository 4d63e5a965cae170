-- What a repair changes of an arena, as a function of the words from its first one to the namespace's end: the info block and its backup are
-- copies of each other, and pending moves are made, by UEFI 2.10, sections 6.2 and 6.3. Which findings are repaired is this project's rule:
-- those for which nothing has to be guessed.
use Rattle.std.specs.Prelude.{ℕ, ◌+◌, ◌/◌, ◌^◌, length, Bool, true, false, not, if◌then◌else◌, List, [], ◌∷◌, take, drop, map, filter, slice_index, slice_set, Option, Some, None, Result, Ok, Err}
use Rattle.std.specs.List.{range_with_len}
use Rattle.cut_words.specs.WordBytes.{put_at}
use Rattle.arena_layout.specs.declared.layout.Layout.{Layout}
use Rattle.arena_layout.specs.declared.info.InfoFault.{InfoFault}
use Rattle.arena_layout.specs.declared.info.InfoFault.TheVariants as fault
use Rattle.flog.specs.declared.half.Half.{Half}
use Rattle.flog.specs.declared.group.Group.{Group}
use Rattle.map_table.specs.Entry.{entry_of, with_entry}
use Rattle.map_table.specs.Blocks.{blocks_of}
use Rattle.arena_open.specs.declared.refused.OpenRefused.{OpenRefused}
use Rattle.arena_open.specs.Places.{map_word, value_at, word_of}
use Rattle.arena_open.specs.Reading.{free_of, groups_in, map_in, moved, moves_of}
use Rattle.arena_check.specs.declared.finding.Finding.{Finding}
use Rattle.arena_check.specs.declared.finding.Finding.TheVariants as found
use Rattle.arena_check.specs.declared.finding.Report.{Report}
use Rattle.arena_check.specs.declared.info.InfoSource.{InfoSource}
use Rattle.arena_check.specs.declared.info.InfoSource.TheVariants as source
use Rattle.arena_check.specs.Check.{bad_sectors, block_findings, in_arena, info_findings, is_bad_data, source_of}
use Rattle.arena_repair.specs.declared.page.PageCopy.{PageCopy}

-- ---- which findings are repaired

-- A page that isn't an info block any more. One of another version, parent or layout, or in the error state, is an info block that someone wrote so.
abbrev pub is_damage : InfoFault → Bool
is_damage fault.Signature = true
is_damage fault.Checksum = true
is_damage (fault.Version major minor) = false
is_damage fault.Parent = false
is_damage fault.ErrorState = false
is_damage (fault.Layout field) = false

abbrev pub is_repaired : Finding → Bool
is_repaired (found.Info fault) = is_damage fault
is_repaired (found.Backup fault) = true
is_repaired found.Unequal = true
is_repaired (found.Flog lane fault) = false
is_repaired (found.Range block) = false
is_repaired (found.Twice block) = false
is_repaired (found.Missing block) = false
is_repaired (found.BadData sector) = true
is_repaired (found.BadMeta word) = false

-- with an info block that can be used; without one nothing is repaired
abbrev pub repaired_in : List Finding → Option ℕ → List Finding
repaired_in findings None = []
repaired_in findings (Some size) = filter is_repaired findings

abbrev pub open_in : List Finding → Option ℕ → List Finding
open_in findings None = findings
open_in findings (Some size) = filter (λ finding. not (is_repaired finding)) findings

-- the findings that a repair answers, and those that stay open
abbrev pub repaired_of : Report → List Finding
repaired_of report = repaired_in report.findings report.size

abbrev pub open_of : Report → List Finding
open_of report = open_in report.findings report.size

-- the report without those that are repaired
abbrev pub mended : Report → Report
mended report = record { findings = open_of report; size = report.size }

-- ---- the info block and its backup

abbrev pub when_found : List Finding → PageCopy → Option PageCopy
when_found [] copy = None
when_found (finding ∷ findings) copy = Some copy

-- the first page over a backup that has a finding; the backup over a first page that is damaged
abbrev pub page_by : List Finding → InfoSource → Option PageCopy
page_by findings (source.First info) = when_found findings (record { from = 0; to = info.layout.info_off / 8 })
page_by findings (source.Last fault info) = if is_damage fault then Some (record { from = info.layout.info_off / 8; to = 0 }) else None
page_by findings (source.Neither fault) = None

abbrev pub page_repair : List ℕ → List ℕ → InfoSource → Option PageCopy
page_repair words parent source = page_by (info_findings words parent source) source

abbrev pub with_page : List ℕ → Option PageCopy → List ℕ
with_page words None = words
with_page words (Some copy) = put_at words copy.to (take 512 (drop copy.from words))

-- ---- the map

-- Error alone, with the block kept
abbrev pub bad_of : ℕ → ℕ
bad_of block = 2 ^ 30 + block

-- the entry of a sector, marked as bad if its bytes have a bad word
abbrev pub marked_entry : Layout → (ℕ → Bool) → ℕ → ℕ → ℕ
marked_entry l bad sector word = if is_bad_data l bad (entry_of word sector) then bad_of (entry_of word sector).block else word

abbrev pub marked_map : Layout → (ℕ → Bool) → List ℕ → List ℕ
marked_map l bad entries = map (λ sector. marked_entry l bad sector (slice_index entries sector)) (range_with_len 0 (length entries))

-- a map is written if a move is pending or a sector is bad
abbrev pub if_changed : List Half → List ℕ → List ℕ → Option (List ℕ)
if_changed [] [] entries = None
if_changed [] (sector ∷ sectors) entries = Some entries
if_changed (half ∷ halves) sectors entries = Some entries

abbrev pub unless_found : List Finding → Option (List ℕ) → Option (List ℕ)
unless_found [] entries = entries
unless_found (finding ∷ findings) entries = None

-- all entries after a repair, with the moves made and then bad sectors marked, by the map as read; None if the map stays
abbrev pub entries_repair : Layout → (ℕ → Bool) → List ℕ → List Group → Option (List ℕ)
entries_repair l bad entries groups =
    let moves = moves_of entries groups in
    let recovered = moved entries moves in
    unless_found (block_findings l.internal (blocks_of recovered (free_of groups))) (if_changed moves (bad_sectors l bad recovered) (marked_map l bad recovered))

-- the map stays too if a lane's group is refused
abbrev pub map_repair : Layout → (ℕ → Bool) → List ℕ → Result (List Group) OpenRefused → Option (List ℕ)
map_repair l bad words (Err refused) = None
map_repair l bad words (Ok groups) = entries_repair l bad (map_in l words) groups

-- these entries, from a sector on, one after another
abbrev pub with_map : Layout → List ℕ → ℕ → List ℕ → List ℕ
with_map l words sector [] = words
with_map l words sector (entry ∷ entries) =
    with_map l (slice_set words (word_of l (map_word (sector / 2))) (with_entry (value_at l words (map_word (sector / 2))) sector entry)) (sector + 1) entries

abbrev pub with_entries : Layout → List ℕ → Option (List ℕ) → List ℕ
with_entries l words None = words
with_entries l words (Some entries) = with_map l words 0 entries

-- ---- the whole; `at` is the arena's first word in the namespace, and `bad` speaks of the namespace's words

abbrev pub repaired_with : ℕ → (ℕ → Bool) → List ℕ → Option PageCopy → Layout → List ℕ
repaired_with at bad words copy l = with_entries l (with_page words copy) (map_repair l (in_arena at bad) words (groups_in l words))

abbrev pub repaired_by : ℕ → (ℕ → Bool) → List ℕ → List ℕ → InfoSource → List ℕ
repaired_by at bad words parent (source.First info) = repaired_with at bad words (page_repair words parent (source.First info)) info.layout
repaired_by at bad words parent (source.Last fault info) = repaired_with at bad words (page_repair words parent (source.Last fault info)) info.layout
repaired_by at bad words parent (source.Neither fault) = words

-- the words after a repair of the arena that begins with these
unfoldable pub repaired_words : ℕ → (ℕ → Bool) → List ℕ → List ℕ → List ℕ
repaired_words at bad words parent = repaired_by at bad words parent (source_of words parent)
