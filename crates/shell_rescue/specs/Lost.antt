-- The lines on what can't be read of a sector namespace, and on what the rest stands on. This project's rules.
use Rattle.std.specs.Prelude.{ℕ, zero, suc, ◌+◌, ◌==◌, Bool, true, false, if◌then◌else◌, List, [], ◌∷◌, ◌++◌, length, drop, sum_by, codes, Option, Some, None}
use Rattle.std.specs.Fmt.{decimal}
use Rattle.arena_layout.specs.declared.info.InfoFault.{InfoFault}
use Rattle.arena_layout.specs.declared.layout.Layout.{Layout}
use Rattle.flog.specs.declared.half.Half.{Half}
use Rattle.arena_check.specs.declared.finding.Finding.{Finding}
use Rattle.arena_check.specs.declared.finding.Finding.TheVariants as found
use Rattle.arena_check.specs.declared.info.InfoSource.{InfoSource}
use Rattle.arena_check.specs.declared.info.InfoSource.TheVariants as source
use Rattle.arena_check.specs.Check.{flog_findings, in_arena, meta_findings, next_of, source_of}
use Rattle.arena_rescue.specs.declared.loss.Loss.{Loss}
use Rattle.arena_rescue.specs.declared.loss.Loss.TheVariants as loss
use Rattle.shell_reports.specs.Outcome.{joined, lf}
use Rattle.shell_check.specs.Text.{lines_of}
use Rattle.shell_rescue.specs.declared.arena.ArenaLost.{ArenaLost}
use Rattle.shell_rescue.specs.Rescue.{behind, losses_in, moves_in}

-- ---- lines

-- the number of a lost sector, and why it is lost
abbrev pub loss_text : Loss → List ℕ
loss_text (loss.BadMap sector) = joined (decimal sector ∷ codes " BadMap" ∷ [])
loss_text (loss.Range sector block) = codes "" ++ (decimal sector ++ (codes " Range " ++ decimal block))
loss_text (loss.Twice sector block) = codes "" ++ (decimal sector ++ (codes " Twice " ++ decimal block))
loss_text (loss.Marked sector) = joined (decimal sector ∷ codes " Marked" ∷ [])
loss_text (loss.BadData sector) = joined (decimal sector ∷ codes " BadData" ∷ [])

-- arena K lost SECTOR WHY
abbrev pub loss_line : ℕ → Loss → List ℕ
loss_line k l = joined (codes "arena " ∷ decimal k ∷ codes " lost " ∷ loss_text l ∷ lf ∷ [])

abbrev pub loss_lines : ℕ → List Loss → List ℕ
loss_lines k [] = []
loss_lines k (l ∷ losses) = loss_line k l ++ loss_lines k losses

-- arena K moved SECTOR OLD NEW: a pending move that was made, from a block to another one
abbrev pub move_line : ℕ → Half → List ℕ
move_line k half = joined (codes "arena " ∷ decimal k ∷ codes " moved " ∷ decimal half.lba ∷ codes " " ∷ decimal half.old ∷ codes " " ∷ decimal half.new ∷ lf ∷ [])

abbrev pub move_lines : ℕ → List Half → List ℕ
move_lines k [] = []
move_lines k (half ∷ halves) = move_line k half ++ move_lines k halves

-- labels M Missing: the module has no label of the namespace
abbrev pub missing_line : ℕ → List ℕ
missing_line number = joined (codes "labels " ∷ decimal number ∷ codes " Missing" ∷ lf ∷ [])

abbrev pub missing_lines : List ℕ → List ℕ
missing_lines [] = []
missing_lines (number ∷ numbers) = missing_line number ++ missing_lines numbers

-- ---- an arena

-- a finding if the first info block isn't used, by why not
abbrev pub info_notes : Option InfoFault → List Finding
info_notes None = []
info_notes (Some fault) = found.Info fault ∷ []

-- what its sectors stand on besides: lanes whose group is refused, and bad words
abbrev pub notes_with : ℕ → (ℕ → Bool) → List ℕ → Layout → List Finding
notes_with at bad words l = flog_findings l words ++ meta_findings at bad l

-- an arena of this layout
abbrev pub lost_with : ℕ → (ℕ → Bool) → List ℕ → Option InfoFault → Layout → ArenaLost
lost_with at bad words fault l =
    record { notes = info_notes fault ++ notes_with at bad words l; moves = moves_in l (in_arena at bad) words; losses = losses_in l (in_arena at bad) words; whole = true }

-- one without an info block
abbrev pub lost_whole : InfoFault → ArenaLost
lost_whole fault = record { notes = found.Info fault ∷ []; moves = []; losses = []; whole = false }

abbrev pub lost_by : ℕ → (ℕ → Bool) → List ℕ → InfoSource → ArenaLost
lost_by at bad words (source.First info) = lost_with at bad words None info.layout
lost_by at bad words (source.Last fault info) = lost_with at bad words (Some fault) info.layout
lost_by at bad words (source.Neither fault) = lost_whole fault

-- arena K FINDING, then its moves, and then its lost sectors
abbrev pub arena_lines : ℕ → ArenaLost → List ℕ
arena_lines k a = lines_of (codes "arena ") k a.notes ++ (move_lines k a.moves ++ loss_lines k a.losses)

-- how many sectors are lost; an arena without an info block counts as one
abbrev pub lost_in : ArenaLost → ℕ
lost_in a = if a.whole then length a.losses else 1

-- ---- all arenas

unfoldable pub lost_within : ℕ → (ℕ → Bool) → List ℕ → List ℕ → ℕ → List ArenaLost
lost_within zero bad words parent at = []
lost_within (suc n) bad words parent at =
    let used = source_of (drop at words) parent in
    lost_by at bad (drop at words) used ∷ behind (next_of used) at (lost_within n bad words parent)

abbrev pub lost_arenas : (ℕ → Bool) → List ℕ → List ℕ → List ArenaLost
lost_arenas bad words parent = lost_within (length words + 1) bad words parent 0

abbrev pub lines_from : ℕ → List ArenaLost → List ℕ
lines_from k [] = []
lines_from k (a ∷ arenas) = arena_lines k a ++ lines_from (k + 1) arenas

abbrev pub count_in : List ArenaLost → ℕ
count_in arenas = sum_by lost_in arenas

-- whole, or lost N
abbrev pub last_line : ℕ → List ℕ
last_line count = if count == 0 then codes "whole" ++ lf else joined (codes "lost " ∷ decimal count ∷ lf ∷ [])

abbrev pub lost_text : (ℕ → Bool) → List ℕ → List ℕ → List ℕ
lost_text bad words parent = lines_from 0 (lost_arenas bad words parent) ++ last_line (count_in (lost_arenas bad words parent))
