-- The findings of a check, in order, as a function of the words from an arena's first one to the namespace's end: UEFI 2.10,
-- sections 6.2 and 6.3. It is this project's rule that all violations are listed, and in which order.
use Rattle.std.specs.Prelude.{ℕ, ◌+◌, ◌-◌, ◌*◌, ◌/◌, ◌==◌, nat_lt, nat_le, length, Bool, true, false, if◌then◌else◌, List, [], ◌∷◌, ◌++◌, take, drop, map, filter, slice_index, Option, Some, None, Result, Ok, Err}
use Rattle.std.specs.List.{range_with_len, filter_map, cons_option, list_any}
use Rattle.std.specs.Str.{bytes_eq}
use Rattle.cut_words.specs.WordBytes.{bytes_of}
use Rattle.arena_layout.specs.declared.layout.Layout.{Layout}
use Rattle.arena_layout.specs.declared.info.Info.{Info}
use Rattle.arena_layout.specs.declared.info.InfoFault.{InfoFault}
use Rattle.arena_layout.specs.Info.{info_reading}
use Rattle.flog.specs.declared.group.Group.{Group}
use Rattle.flog.specs.declared.group.FlogFault.{FlogFault}
use Rattle.flog.specs.Group.{group_reading}
use Rattle.map_table.specs.declared.kinds.Kind.{Kind}
use Rattle.map_table.specs.declared.kinds.Kind.TheVariants as kind
use Rattle.map_table.specs.declared.kinds.MapEntry.{MapEntry}
use Rattle.map_table.specs.Entry.{entry_of}
use Rattle.map_table.specs.Blocks.{blocks_of, count_of}
use Rattle.arena_open.specs.declared.refused.OpenRefused.{OpenRefused}
use Rattle.arena_open.specs.Places.{block_word, word_of, group_words}
use Rattle.arena_open.specs.Reading.{info_bytes, map_in, groups_in, moves_of, moved, free_of}
use Rattle.arena_check.specs.declared.finding.Finding.{Finding}
use Rattle.arena_check.specs.declared.finding.Finding.TheVariants as found
use Rattle.arena_check.specs.declared.finding.Report.{Report}
use Rattle.arena_check.specs.declared.info.InfoSource.{InfoSource}
use Rattle.arena_check.specs.declared.info.InfoSource.TheVariants as source

-- ---- the info block, its backup, and which of them is used

-- the 4,096 bytes from a word on
abbrev pub page_at : ℕ → List ℕ → List ℕ
page_at word words = bytes_of (take 512 (drop word words))

-- a page of the words, read as the info block of an arena that begins with them
abbrev pub page_reading : ℕ → List ℕ → List ℕ → Result Info InfoFault
page_reading word words parent = info_reading (page_at word words) parent (8 * length words)

-- the last page, if it is the backup of an arena that ends there
abbrev pub or_last : ℕ → InfoFault → Result Info InfoFault → InfoSource
or_last rest fault (Err other) = source.Neither fault
or_last rest fault (Ok info) = if info.layout.size == rest then source.Last fault info else source.Neither fault

-- the first page if it is accepted, else the last one
abbrev pub source_by : ℕ → Result Info InfoFault → Result Info InfoFault → InfoSource
source_by rest (Ok info) last = source.First info
source_by rest (Err fault) last = or_last rest fault last

abbrev pub source_of : List ℕ → List ℕ → InfoSource
source_of words parent =
    source_by (8 * length words) (info_reading (info_bytes words) parent (8 * length words)) (page_reading (length words - 512) words parent)

-- the info that is used
abbrev pub info_used : InfoSource → Option Info
info_used (source.First info) = Some info
info_used (source.Last fault info) = Some info
info_used (source.Neither fault) = None

-- the distance to the next arena in bytes, 0 if there is none
abbrev pub next_of : InfoSource → ℕ
next_of (source.First info) = info.next
next_of (source.Last fault info) = info.next
next_of (source.Neither fault) = 0

-- the backup of an arena whose first block is used: whether it has the same bytes, and how it reads
abbrev pub backup_finding : Bool → Result Info InfoFault → Option Finding
backup_finding same (Err fault) = Some (found.Backup fault)
backup_finding same (Ok info) = if same then None else Some found.Unequal

abbrev pub info_findings : List ℕ → List ℕ → InfoSource → List Finding
info_findings words parent (source.First info) =
    let at = info.layout.info_off / 8 in
    cons_option (backup_finding (bytes_eq (info_bytes words) (page_at at words)) (page_reading at words parent)) []
info_findings words parent (source.Last fault info) = found.Info fault ∷ []
info_findings words parent (source.Neither fault) = found.Info fault ∷ []

-- ---- the lanes' groups

abbrev pub group_finding : ℕ → Result Group FlogFault → Option Finding
group_finding lane (Err fault) = Some (found.Flog lane fault)
group_finding lane (Ok group) = None

abbrev pub flog_findings_of : Layout → List ℕ → List ℕ → List Finding
flog_findings_of l words lanes = filter_map (λ lane. group_finding lane (group_reading (group_words l words lane) l.external l.internal)) lanes

abbrev pub flog_findings : Layout → List ℕ → List Finding
flog_findings l words = flog_findings_of l words (range_with_len 0 l.lanes)

-- ---- the blocks that the recovered map and the lanes name

-- each naming of a block that doesn't exist, by place
abbrev pub range_findings : ℕ → List ℕ → List Finding
range_findings internal blocks = map found.Range (filter (nat_le internal) blocks)

-- each block that is named more than once, rising
abbrev pub twice_findings : ℕ → List ℕ → List Finding
twice_findings internal blocks = map found.Twice (filter (λ block. nat_lt 1 (count_of block blocks)) (range_with_len 0 internal))

-- each block that isn't named, rising
abbrev pub missing_findings : ℕ → List ℕ → List Finding
missing_findings internal blocks = map found.Missing (filter (λ block. count_of block blocks == 0) (range_with_len 0 internal))

abbrev pub block_findings : ℕ → List ℕ → List Finding
block_findings internal blocks = range_findings internal blocks ++ (twice_findings internal blocks ++ missing_findings internal blocks)

-- ---- sectors with bad words; words are those of the arena

-- a sector with an entry of this kind has the block's bytes
abbrev pub has_bytes : Kind → Bool
has_bytes kind.Initial = true
has_bytes kind.Normal = true
has_bytes kind.Zero = false
has_bytes kind.Bad = false

-- one of the block's words that a sector has is bad
abbrev pub has_bad_word : Layout → (ℕ → Bool) → ℕ → Bool
has_bad_word l bad block = list_any (λ k. bad (word_of l (block_word block k))) (range_with_len 0 (l.sector / 8))

abbrev pub is_bad_data : Layout → (ℕ → Bool) → MapEntry → Bool
is_bad_data l bad entry = if has_bytes entry.kind then has_bad_word l bad entry.block else false

-- the sectors, by their entries in the recovered map
abbrev pub bad_sectors : Layout → (ℕ → Bool) → List ℕ → List ℕ
bad_sectors l bad entries = filter (λ sector. is_bad_data l bad (entry_of (slice_index entries sector) sector)) (range_with_len 0 l.external)

abbrev pub data_findings : Layout → (ℕ → Bool) → List ℕ → List Finding
data_findings l bad entries = map found.BadData (bad_sectors l bad entries)

-- ---- bad words of the info block, the map area, the log area and the backup; words are those of the namespace

-- of `count` words, from `first` on
unfoldable pub bad_meta : (ℕ → Bool) → ℕ → ℕ → List Finding
bad_meta bad first count = map found.BadMeta (filter bad (range_with_len first count))

-- all from MapOff on is the map area, the log area and the backup; `at` is the arena's first word
unfoldable pub meta_findings : ℕ → (ℕ → Bool) → Layout → List Finding
meta_findings at bad l = bad_meta bad at 512 ++ bad_meta bad (at + l.map_off / 8) (l.size / 8 - l.map_off / 8)

-- ---- the whole; `at` is the arena's first word in the namespace, and `bad` speaks of the namespace's words

abbrev pub in_arena : ℕ → (ℕ → Bool) → ℕ → Bool
in_arena at bad i = bad (at + i)

-- the entries with all pending moves made, by the map as read
abbrev pub recovered_map : List ℕ → List Group → List ℕ
recovered_map entries groups = moved entries (moves_of entries groups)

-- sectors have findings only if blocks have none
abbrev pub or_data : List Finding → List Finding → List Finding
or_data [] behind = behind
or_data (finding ∷ findings) behind = finding ∷ findings

-- of the recovered map
abbrev pub map_findings : Layout → (ℕ → Bool) → List ℕ → List Group → List Finding
map_findings l bad entries groups = or_data (block_findings l.internal (blocks_of entries (free_of groups))) (data_findings l bad entries)

-- blocks and sectors have findings only if all groups are accepted
abbrev pub group_findings : Layout → (ℕ → Bool) → List ℕ → Result (List Group) OpenRefused → List Finding
group_findings l bad words (Err refused) = flog_findings l words
group_findings l bad words (Ok groups) = map_findings l bad (recovered_map (map_in l words) groups) groups

abbrev pub findings_with : ℕ → (ℕ → Bool) → List ℕ → Layout → List Finding
findings_with at bad words l = group_findings l (in_arena at bad) words (groups_in l words) ++ meta_findings at bad l

abbrev pub report_by : ℕ → (ℕ → Bool) → List ℕ → List ℕ → InfoSource → Report
report_by at bad words parent (source.First info) =
    record { findings = info_findings words parent (source.First info) ++ findings_with at bad words info.layout; size = Some info.layout.size }
report_by at bad words parent (source.Last fault info) =
    record { findings = found.Info fault ∷ findings_with at bad words info.layout; size = Some info.layout.size }
report_by at bad words parent (source.Neither fault) = record { findings = found.Info fault ∷ []; size = None }

-- the report on the arena that begins with these words
unfoldable pub report_of : ℕ → (ℕ → Bool) → List ℕ → List ℕ → Report
report_of at bad words parent = report_by at bad words parent (source_of words parent)
