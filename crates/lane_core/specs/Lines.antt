-- What the lines of the code do to a row and a lane of a core.
use Rattle.std.specs.Prelude.{ℕ, ◌+◌, ◌*◌, ◌<◌, ◌^◌, ◌==◌, if◌then◌else◌, length, slice_index, suc}
use Rattle.map_table.specs.Entry.{entry_in}
use Rattle.arena_open.specs.declared.cell.Cell.{Cell}
use Rattle.lane_core.specs.declared.history.Entry.{Entry}
use Rattle.lane_core.specs.declared.history.Act.TheVariants as act
use Rattle.lane_core.specs.declared.now.LaneNow.{LaneNow}
use Rattle.lane_core.specs.declared.phase.Phase.{Phase}
use Rattle.lane_core.specs.declared.phase.Phase.TheVariants.{Scanning, Staging, Staged}
use Rattle.lane_core.specs.declared.shape.Shape.{Shape}
use Rattle.lane_core.specs.Areas.{block_in}
use Rattle.lane_core.specs.Places.{Place, word_of}
use Rattle.lane_core.specs.Rows.{RowWords}

-- the row has a word at a place
pub record HasWord (x : Shape) (row : RowWords) (p : Place) : Type 0 where
  pub there : word_of x p < length row.words
  pub small : word_of x p < 2 ^ 60

-- and it is a word of the arena, as it is seen
pub record HasArenaWord (x : Shape) (row : RowWords) (p : Place) : Type 0 where
  pub there : word_of x p < length row.pending
  pub words : word_of x p < length row.words
  pub small : word_of x p < 2 ^ 60

-- the word at a place
abbrev pub word_at : Shape → RowWords → Place → ℕ
word_at x row p = slice_index row.words (word_of x p)

-- the block of the sector's entry in the loaded word
abbrev pub looked_now : LaneNow → ℕ
looked_now p = block_in (entry_in p.loaded p.sector) p.sector

-- the next phase of a scan that found a reader word
abbrev pub scanned : Shape → ℕ → ℕ → ℕ → Phase
scanned x word block j = if word == suc block then Scanning 0 else (if j + 2 == x.lanes then Staging 0 else Scanning (j + 1))

-- the next phase of a write after the keep of a word
abbrev pub kept_phase : Shape → ℕ → Phase
kept_phase x k = if k + 1 == 2 * x.width then Staged else Staging (k + 1)

abbrev pub wrote_now : ℕ → LaneNow → Entry
wrote_now l p = record { lane = l; tag = p.tag; sector = p.sector; act = act.Write p.words }

abbrev pub read_now : ℕ → LaneNow → Cell → Entry
read_now l p c = record { lane = l; tag = p.tag; sector = p.sector; act = act.Read c }
