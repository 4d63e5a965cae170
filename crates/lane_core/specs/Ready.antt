-- What a step of a lane of a core needs of its row, its lane and the room in the history.
use Rattle.std.specs.Prelude.{◌≡◌, ℕ, ◌+◌, ◌-◌, ◌*◌, ◌^◌, ◌<◌, ◌≤◌, true, length}
use Rattle.lane_core.specs.declared.now.LaneNow.{LaneNow}
use Rattle.lane_core.specs.declared.phase.Phase.TheVariants.{Scanning, Staging, Reading}
use Rattle.lane_core.specs.declared.shape.Shape.{Shape}
use Rattle.lane_core.specs.Places.{IsShape, word_of, SeenData, Reader}
use Rattle.lane_core.specs.Rows.{RowWords, IsRow}
use Rattle.lane_core.specs.Lines.{looked_now, HasArenaWord, HasWord}
use Rattle.lane_core.specs.Invariant.{uses_sector}
use Rattle.lane_core.specs.After.{wants_lock, uses_words, uses_cell, owes_entry, uses_looked}

-- what the core itself keeps of a lane: the words of its call, or the room for them, the sector of
-- a staged write, and that the block that a read looks at is one of the arena
pub record IsFilled (x : Shape) (p : LaneNow) : Type 0 where
  pub words : uses_words p.phase ≡ true → length p.words ≡ x.width
  pub cell : uses_cell p.phase ≡ true → length p.cell ≡ x.width
  pub next : wants_lock p.phase ≡ true → p.next_sector < x.sectors
  pub looked : uses_looked p.phase ≡ true → looked_now p < x.sectors + x.lanes

-- the rest follows from the invariant
pub record IsReady (x : Shape) (r : RowWords) (l : ℕ) (p : LaneNow) (left : ℕ) : Type 0 where
  pub shape : IsShape x
  pub row : IsRow x r
  pub lane : l < x.lanes
  pub filled : IsFilled x p
  pub room : owes_entry p.phase ≡ true → 0 < left
  pub block : p.block < x.sectors + x.lanes
  pub side : p.side < 2
  pub seq_low : 1 ≤ p.half.seq
  pub seq_high : p.half.seq ≤ 3
  pub scans : (j : ℕ) → p.phase ≡ Scanning j → j + 2 ≤ x.lanes
  pub stages : (k : ℕ) → p.phase ≡ Staging k → k < 2 * x.width
  pub reads : (k : ℕ) → p.phase ≡ Reading k → k ≤ x.width
  pub sector : uses_sector p.phase ≡ true → p.sector < x.sectors

-- ---- what single lines need

-- a write has the word that it stores or keeps
pub record StagesWord (x : Shape) (row : RowWords) (p : LaneNow) (k : ℕ) : Type 0 where
  pub store : k < x.width → HasArenaWord x row (SeenData p.block k)
  pub keep : x.width ≤ k → HasArenaWord x row (SeenData p.block (k - x.width))
  pub words : length p.words ≡ x.width
  pub few : k < 2 ^ 30
  pub short : x.width < 2 ^ 20

-- a read has the words of its block
pub record HasCell (x : Shape) (row : RowWords) (p : LaneNow) : Type 0 where
  pub first : HasWord x row (SeenData (looked_now p) 0)
  pub words : word_of x (SeenData (looked_now p) 0) + x.width < length row.words
  pub cell : length p.cell ≡ x.width

-- a read has the word that it loads, and its reader word
pub record ReadsWord (x : Shape) (row : RowWords) (l : ℕ) (p : LaneNow) (k : ℕ) : Type 0 where
  pub word : k < x.width → HasWord x row (SeenData (looked_now p) k)
  pub reader : HasWord x row (Reader l)
  pub words : length p.words ≡ x.width
  pub few : k < 2 ^ 30
