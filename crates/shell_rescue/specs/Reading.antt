-- What was read of the arenas of a namespace whose contents stay in an image source.
use Rattle.std.specs.Prelude.{◌≡◌, ◌≢◌, ℕ, ◌+◌, ◌-◌, ◌*◌, ◌<◌, ◌≤◌, Bool, List, [], ◌++◌, length, All, IfSome, MatchBool, Option, Some, None}
use Rattle.std.specs.List.{cons_option}
use Rattle.arena_layout.specs.declared.info.Info.{Info}
use Rattle.arena_layout.specs.declared.info.InfoFault.{InfoFault}
use Rattle.arena_layout.specs.declared.layout.Layout.{Layout}
use Rattle.arena_layout.specs.Layout.{IsLayout}
use Rattle.map_table.specs.Blocks.{blocks_from}
use Rattle.arena_check.specs.declared.info.InfoSource.{InfoSource}
use Rattle.arena_check.specs.declared.info.InfoSource.TheVariants as source
use Rattle.arena_check.specs.Check.{flog_findings, in_arena, info_used, next_of, source_of}
use Rattle.shell_check.specs.Reading.{GoesOn}
use Rattle.shell_rescue.specs.declared.arena.ArenaFound.{ArenaFound}
use Rattle.shell_rescue.specs.declared.arena.ArenaRescued.{ArenaRescued}
use Rattle.shell_rescue.specs.declared.arena.SectorsRead.{SectorsRead}
use Rattle.shell_rescue.specs.declared.chain.Rescued.{Rescued}
use Rattle.shell_rescue.specs.declared.log.LogRead.{LogRead}
use Rattle.shell_rescue.specs.Lost.{count_in, lines_from, lost_arenas, lost_by, lost_in, missing_lines, notes_with}
use Rattle.shell_rescue.specs.Rescue.{arena_by, counted_groups, entries_in, losses_in, moves_in, rescued_arenas}

-- An arena of a namespace of so many bytes, with an entry for each sector, which names a block that exists.
pub record IsReadable (bytes : ℕ) (a : ArenaRescued) : Type 0 where
  pub layout : IsLayout a.layout
  pub within : 8 * a.at + a.layout.size ≤ bytes
  pub entries : length a.entries ≡ a.layout.external
  pub blocks : All (λ block. block < a.layout.internal) (blocks_from 0 a.entries)

-- ---- the log and the map; words are those from the arena's first one on

-- The groups of the lanes that count, and a finding for each lane whose group is refused.
pub record IsLogRead (l : Layout) (bad : ℕ → Bool) (words : List ℕ) (log : LogRead) : Type 0 where
  pub groups : log.groups ≡ counted_groups l bad words
  pub findings : log.findings ≡ flog_findings l words

-- What can be read of the sectors of an arena of this layout, and what that stands on.
pub record AreRead (at : ℕ) (bad : ℕ → Bool) (words : List ℕ) (l : Layout) (read : SectorsRead) : Type 0 where
  pub notes : read.notes ≡ notes_with at bad words l
  pub moves : read.map.moves ≡ moves_in l (in_arena at bad) words
  pub losses : read.map.losses ≡ losses_in l (in_arena at bad) words
  pub entries : read.map.entries ≡ entries_in l (in_arena at bad) words

-- There is an entry for each sector, which names a block that exists, and no sector is lost twice.
pub record IsSized (l : Layout) (read : SectorsRead) : Type 0 where
  pub losses : length read.map.losses ≤ l.external
  pub entries : length read.map.entries ≡ l.external
  pub blocks : All (λ block. block < l.internal) (blocks_from 0 read.map.entries)

-- ---- an arena

-- the info block that is used, by why the first one isn't
abbrev pub source_with : Option InfoFault → Info → InfoSource
source_with None info = source.First info
source_with (Some fault) info = source.Last fault info

-- why no info block can be used
abbrev pub refused_by : InfoSource → Option InfoFault
refused_by (source.First info) = None
refused_by (source.Last fault info) = None
refused_by (source.Neither fault) = Some fault

-- What was read of the arena that begins with these words, by the info block that is used.
pub record IsFound (at : ℕ) (bad : ℕ → Bool) (words : List ℕ) (used : InfoSource) (found : ArenaFound) : Type 0 where
  pub lost : found.lost ≡ lost_by at bad words used
  pub arena : cons_option found.arena [] ≡ arena_by at bad words (info_used used)
  pub next : found.next ≡ next_of used
  pub refused : found.refused ≡ refused_by used

-- It lies in a namespace of so many bytes, as the next one does. Of 8 bytes at most one sector is lost.
pub record IsBounded (bytes at : ℕ) (parent : List ℕ) (found : ArenaFound) : Type 0 where
  pub readable : IfSome found.arena (IsReadable bytes)
  pub next : GoesOn parent (bytes - 8 * at) found.next
  pub few : 8 * lost_in found.lost ≤ bytes - 8 * at
  pub few_here : found.next ≢ 0 → 8 * lost_in found.lost ≤ found.next

-- ---- all arenas

-- What can be read of the namespace with these words, and, if they are asked for, the lines on what can't.
pub record IsRescued (listing : Bool) (bad : ℕ → Bool) (words parent : List ℕ) (r : Rescued) : Type 0 where
  pub arenas : r.arenas ≡ rescued_arenas bad words parent
  pub refused : r.refused ≡ refused_by (source_of words parent)
  pub text : MatchBool listing (r.text.items ≡ lines_from 0 (lost_arenas bad words parent)) (r.text.items ≡ [])
  pub count : r.count ≡ count_in (lost_arenas bad words parent)

-- The same, with a line before the others for each module without a label.
pub record IsTold (listing : Bool) (missing : List ℕ) (bad : ℕ → Bool) (words parent : List ℕ) (r : Rescued) : Type 0 where
  pub arenas : r.arenas ≡ rescued_arenas bad words parent
  pub refused : r.refused ≡ refused_by (source_of words parent)
  pub text : MatchBool listing (r.text.items ≡ missing_lines missing ++ lines_from 0 (lost_arenas bad words parent)) (r.text.items ≡ [])
  pub count : r.count ≡ count_in (lost_arenas bad words parent)
