-- What staging a write does to its seat and to its fuse.
use Rattle.std.specs.Prelude.{◌≡◌, ℕ, ◌+◌, ◌-◌, ◌*◌, ◌<◌, ◌≤◌, nat_lt, if◌then◌else◌, false, min, List, [], length, take, suc}
use Rattle.atomic_table.specs.Table.{Me}
use Rattle.lane_core.specs.declared.lane.Lane.{Lane}
use Rattle.lane_core.specs.declared.phase.Phase.TheVariants.{Idle, Staging, Staged}
use Rattle.lane_core.specs.declared.shape.Shape.{Shape}
use Rattle.lane_core.specs.Cut.{is_open}
use Rattle.lane_core.specs.Machine.{other_lane}
use Rattle.lane_table.specs.declared.fuse.Fuse.{Fuse}
use Rattle.lane_table.specs.declared.staging.Looked.{Looked}
use Rattle.lane_table.specs.declared.staging.Looked.TheVariants.{Clear, Reader, Cut}
use Rattle.lane_table.specs.declared.staging.StageFate.{StageFate}
use Rattle.lane_table.specs.declared.staging.StageFate.TheVariants as fate
use Rattle.lane_table.specs.declared.table.View.{View}
use Rattle.lane_table.specs.Fuse.{Fell, Burnt}
use Rattle.lane_table.specs.Told.{IsAfter, scan_phase, keep_phase}

-- the lane after j scans, after k stores of these words, and after k keeps
abbrev pub after_scans : Shape → ℕ → Lane → Lane
after_scans x j p = record p { phase = scan_phase x j; words = [] }

abbrev pub after_stores : List ℕ → ℕ → Lane → Lane
after_stores words k p = record p { phase = Staging k; words = take k words }

abbrev pub after_keeps : Shape → ℕ → Lane → Lane
after_keeps x k p = record p { phase = keep_phase x k }

-- how many lanes have numbers below l, without lane `number`
abbrev pub others_below : ℕ → ℕ → ℕ
others_below number l = if nat_lt number l then l - 1 else l

-- how many scans are made before those of this row of 32 lanes
abbrev pub scans_before : ℕ → Shape → ℕ → ℕ
scans_before number x row = others_below number (min x.lanes (32 * row))

-- the steps of staging
abbrev pub stage_steps : Shape → ℕ
stage_steps x = x.lanes - 1 + (x.width + x.width)

module _ {S : Type 0} (me me' : Me S View) (a b : Fuse) where
  -- Clear: one scan for each other lane. Reader: the last scan found one more than the free block
  -- in that lane's reader word
  abbrev pub Scanned : Looked → Type 0
  Scanned Clear = IsAfter (me.0.shape.lanes - 1) me (after_scans me.0.shape (me.0.shape.lanes - 1) me.0.lane) me' × Fell (me.0.shape.lanes - 1) a b
  Scanned (Reader r n) = (j : ℕ) × (n ≡ j + 1) × (n < me.0.shape.lanes) × (r ≡ other_lane me.0.number j) × IsAfter n me (record (me.0.lane) { phase = Idle; words = [] }) me' × (me'.0.count.last ≡ suc me.0.lane.block) × Fell n a b
  Scanned (Cut n) = (n < me.0.shape.lanes - 1) × IsAfter n me (after_scans me.0.shape n me.0.lane) me' × Burnt n a b

  -- the same of the scans of one row, which are those from the first one to before the last one
  abbrev pub ScannedPart : ℕ → ℕ → Looked → Type 0
  ScannedPart first last Clear = IsAfter (last - first) me (after_scans me.0.shape last me.0.lane) me' × Fell (last - first) a b
  ScannedPart first last (Reader r n) = (j : ℕ) × (n ≡ j + 1) × (first ≤ j) × (j < last) × (r ≡ other_lane me.0.number j) × IsAfter (n - first) me (record (me.0.lane) { phase = Idle; words = [] }) me' × (me'.0.count.last ≡ suc me.0.lane.block) × Fell (n - first) a b
  ScannedPart first last (Cut n) = (first ≤ n) × (n < last) × IsAfter (n - first) me (after_scans me.0.shape n me.0.lane) me' × Burnt (n - first) a b

  abbrev pub ScannedRow : ℕ → Looked → Type 0
  ScannedRow row = ScannedPart (scans_before me.0.number me.0.shape row) (scans_before me.0.number me.0.shape (row + 1))

  -- how many of these words were stored: all, or as many as the fuse had steps
  abbrev pub Stored : List ℕ → ℕ → Type 0
  Stored words n = (n ≤ length words) × IsAfter n me (after_stores words n me.0.lane) me' × (n ≡ length words → Fell n a b) × (n < length words → Burnt n a b)

  abbrev pub Kept : Shape → ℕ → Type 0
  Kept x n = (n ≤ x.width) × IsAfter n me (after_keeps x n me.0.lane) me' × (n ≡ x.width → Fell n a b) × (n < x.width → Burnt n a b)

  -- Staged: one step for each other lane, and two for each word. Tracked: the last of these scans
  -- found one more than the free block in that lane's reader word, and the write is given up. Cut:
  -- as many steps as the fuse had
  abbrev pub StageEnds : List ℕ → StageFate → Type 0
  StageEnds ws fate.Staged = IsAfter (stage_steps me.0.shape) me (record (me.0.lane) { phase = Staged; words = ws }) me' × Fell (stage_steps me.0.shape) a b
  StageEnds ws (fate.Tracked r) = (j : ℕ) × (j + 1 < me.0.shape.lanes) × (r ≡ other_lane me.0.number j) × IsAfter (j + 1) me (record (me.0.lane) { phase = Idle; words = [] }) me' × (me'.0.count.last ≡ suc me.0.lane.block) × Fell (j + 1) a b
  StageEnds ws fate.Cut = (n : ℕ) × (p : Lane) × (n < stage_steps me.0.shape) × IsAfter n me p me' × (p.log ≡ me.0.lane.log) × (is_open p.phase ≡ false) × Burnt n a b
