-- What a call on a lane returns.
use Rattle.std.specs.Prelude.{◌≡◌, ◌≢◌, ◌⊎◌, ℕ, ◌+◌, ◌<◌, false, List, [], ◌∷◌, ◌++◌, map, suc}
use Rattle.map_table.specs.Entry.{entry_in}
use Rattle.lane_core.specs.declared.history.Act.TheVariants as act
use Rattle.lane_core.specs.declared.history.Entry.{Entry}
use Rattle.arena_open.specs.declared.cell.CellKind.{CellKind}
use Rattle.lane_core.specs.Areas.{kind_in}
use Rattle.lane_core.specs.Cut.{is_open}
use Rattle.lane_core.specs.declared.lane.Lane.{Lane as Lane_now}
use Rattle.lane_core.specs.declared.phase.Phase.TheVariants.{Idle, Staged as InStaged}
use Rattle.lane_core.specs.Machine.{other_lane}
use Rattle.lane_table.specs.declared.lanes.Lane.{Lane}
use Rattle.lane_table.specs.declared.lanes.Staged.{Staged}
use Rattle.lane_table.specs.declared.outcome.CommitOutcome.{CommitOutcome}
use Rattle.lane_table.specs.declared.outcome.CommitOutcome.TheVariants.{Done, MapBusy, Cut}
use Rattle.lane_table.specs.declared.outcome.ReadOutcome.{ReadOutcome}
use Rattle.lane_table.specs.declared.outcome.ReadOutcome.TheVariants as reads
use Rattle.lane_table.specs.declared.outcome.StageOutcome.{StageOutcome}
use Rattle.lane_table.specs.declared.outcome.StageOutcome.TheVariants as stage
use Rattle.lane_table.specs.declared.table.Call.{Call}
use Rattle.lane_table.specs.Committed.{way}
use Rattle.lane_table.specs.Fuse.{Fell, Burnt}
use Rattle.lane_table.specs.Kits.{IsSame, held_in, log_in, spare_in}
use Rattle.lane_table.specs.Law.{noted}
use Rattle.lane_table.specs.Reads.{Gets, Stops, calling, cell_of_kind}
use Rattle.lane_table.specs.Stages.{stage_steps}
use Rattle.lane_table.specs.Told.{missed, IsAfter}

-- Staged: a scan of each other lane, and two steps for each word. Tracked: the last of the scans
-- found one more than the free block in that lane's reader word, and the lane is idle. Cut: as many
-- steps as the fuse had, and no log entry of the lane is stored
abbrev pub Stages : List ℕ → Lane → StageOutcome → Type 0
Stages ws l (stage.Staged s) = IsAfter (stage_steps l.kit.seat.me.0.shape) l.kit.seat.me (record (l.kit.seat.me.0.lane) { phase = InStaged; words = ws }) s.kit.seat.me × (spare_in l.kit ≡ suc (spare_in s.kit)) × IsSame l.kit s.kit × Fell (stage_steps l.kit.seat.me.0.shape) l.kit.fuse s.kit.fuse
Stages ws l (stage.Tracked k r b) = (j : ℕ) × (j + 1 < l.kit.seat.me.0.shape.lanes) × (r ≡ other_lane l.kit.number j) × (b ≡ l.mine.block) × IsAfter (j + 1) l.kit.seat.me (record (l.kit.seat.me.0.lane) { phase = Idle; words = [] }) k.kit.seat.me
    × (k.kit.seat.me.0.count.last ≡ suc b) × (k.kit.log ≡ l.kit.log) × IsSame l.kit k.kit × Fell (j + 1) l.kit.fuse k.kit.fuse
Stages ws l (stage.Cut k) = (n : ℕ) × (p : Lane_now) × (n < stage_steps l.kit.seat.me.0.shape) × IsAfter n l.kit.seat.me p k.kit.seat.me × (p.log ≡ l.kit.seat.me.0.lane.log) × (is_open p.phase ≡ false) × IsSame l.kit k.kit × Burnt n l.kit.fuse k.kit.fuse

-- Done: nine steps. MapBusy: one, which found one more than the holder; the lane is as it was, with
-- its words.
-- Cut: as many steps as the fuse had
abbrev pub Commits : Call → Staged → CommitOutcome → Type 0
Commits t s (Done k) = (w : ℕ) × (k.kit.seat.me ≡ way t w 9 s.kit.seat.me) × (spare_in k.kit ≡ spare_in s.kit) × IsSame s.kit k.kit × Fell 9 s.kit.fuse k.kit.fuse
Commits t s (MapBusy z holder) = (z.kit.seat.me ≡ missed (suc holder) s.kit.seat.me) × (holder < s.kit.seat.me.0.shape.lanes) × (z.kit.log ≡ s.kit.log) × IsSame s.kit z.kit × Fell 1 s.kit.fuse z.kit.fuse
Commits t s (Cut k) = (w : ℕ) × (n : ℕ) × (n < 9) × (k.kit.seat.me ≡ way t w n s.kit.seat.me) × IsSame s.kit k.kit × Burnt n s.kit.fuse k.kit.fuse

-- Got: one step if the entry says zeros or bad, else four and one for each word. Moved: four steps;
-- the last two looks at the map word found the two entries, and the lane is idle. Cut: as many
-- steps as the fuse had
abbrev pub Reads : Call → List ℕ → List ℕ → Lane → ReadOutcome → Type 0
Reads t old new l (reads.Got k kind) =
    (w : ℕ) × Gets l.kit.seat.me k.kit.seat.me l.kit.fuse k.kit.fuse old new t w (kind_in (entry_in w t.sector)) kind × IsSame l.kit k.kit × (spare_in l.kit ≡ suc (spare_in k.kit))
Reads t old new l (reads.Moved k e f) =
    (e ≡ entry_in k.kit.seat.me.0.count.before t.sector) × (f ≡ entry_in k.kit.seat.me.0.count.last t.sector) × (e ≢ f)
    × IsAfter 4 l.kit.seat.me (record (calling t l.kit.seat.me.0.lane) { phase = Idle; loaded = k.kit.seat.me.0.count.before }) k.kit.seat.me
    × (new ≡ old) × (k.kit.log ≡ l.kit.log) × IsSame l.kit k.kit × Fell 4 l.kit.fuse k.kit.fuse
Reads t old new l (reads.Cut k) = Stops l.kit.seat.me k.kit.seat.me l.kit.fuse k.kit.fuse old new (l.kit.seat.me.0.shape.width + 4) × IsSame l.kit k.kit

-- a read that got a cell stands in the lane's part of the history with it
abbrev pub Stands : Call → List ℕ → Lane → ReadOutcome → Type 0
Stands t new l (reads.Got k kind) = log_in k.kit ≡ log_in l.kit ++ record { lane = l.kit.number; tag = t.tag; sector = t.sector; act = act.Read (cell_of_kind kind new) } ∷ []
Stands t new l (reads.Moved k e f) = log_in k.kit ≡ log_in l.kit
Stands t new l (reads.Cut k) = log_in k.kit ≡ log_in l.kit

-- ---- what a call leaves in the pass that its lane holds

-- the entries of a write and of a read
abbrev pub written_as : Call → Staged → Entry
written_as t s = record { lane = s.kit.number; tag = t.tag; sector = t.sector; act = act.Write s.kit.seat.me.0.lane.words }

abbrev pub read_as : Call → List ℕ → Lane → CellKind → Entry
read_as t new l kind = record { lane = l.kit.number; tag = t.tag; sector = t.sector; act = act.Read (cell_of_kind kind new) }

-- Done: the write. MapBusy: nothing. Cut: nothing or the write, if its map word was stored
abbrev pub CommitNotes : Call → Staged → CommitOutcome → Type 0
CommitNotes t s (Done k) = held_in k.kit ≡ map (noted (written_as t s)) (held_in s.kit)
CommitNotes t s (MapBusy z holder) = held_in z.kit ≡ held_in s.kit
CommitNotes t s (Cut k) = (held_in k.kit ≡ held_in s.kit) ⊎ (held_in k.kit ≡ map (noted (written_as t s)) (held_in s.kit))

-- Got: the read with its cell. Moved and Cut: nothing
abbrev pub ReadNotes : Call → List ℕ → Lane → ReadOutcome → Type 0
ReadNotes t new l (reads.Got k kind) = held_in k.kit ≡ map (noted (read_as t new l kind)) (held_in l.kit)
ReadNotes t new l (reads.Moved k e f) = held_in k.kit ≡ held_in l.kit
ReadNotes t new l (reads.Cut k) = held_in k.kit ≡ held_in l.kit
