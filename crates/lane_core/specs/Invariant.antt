-- The invariant of lane steps.
use Rattle.std.specs.Prelude.{◌≡◌, ℕ, ◌+◌, ◌-◌, ◌*◌, ◌/◌, ◌<◌, ◌≤◌, ◌≢◌, ◌⊎◌, min, if◌then◌else◌, List, [], ◌∷◌, ◌++◌, get_or, length, suc, Bool, true, false, nat_lt}
use Rattle.map_table.specs.Entry.{entry_in, with_entry}
use Rattle.lane_core.specs.Areas.{Geometry, IsGeometry, Areas, Half, mapped, block_in, kind_in, has_bytes, normal, word_a, word_b, blocks_of, half_in, IsNewer, seq_in, next_seq}
use Rattle.lane_core.specs.History.{Entry, Cell, listed, cell_of, of_lane, end_of, IsLegal}
use Rattle.lane_core.specs.Machine.{Phase, Idle, Scanning, Staging, Staged, Locked, Known, LogAStored, LogA, LogBStored, Logged, Switched, Kept, Looking, Published, Moved, Reading, Lane, State, other, lock_of, looked}
use Rattle.arena_open.specs.declared.cell.Cell.TheVariants as cell
use Rattle.lane_core.specs.declared.history.Act.TheVariants as act
use Rattle.nvd_words.specs.declared.tag.Tag.{Tag}

-- from Locked to Kept
abbrev pub is_locked : Phase → Bool
is_locked Locked = true
is_locked Known = true
is_locked LogAStored = true
is_locked LogA = true
is_locked LogBStored = true
is_locked Logged = true
is_locked Switched = true
is_locked Kept = true
is_locked _ = false

-- from Known up to MapStore
abbrev pub is_known : Phase → Bool
is_known Known = true
is_known LogAStored = true
is_known LogA = true
is_known LogBStored = true
is_known Logged = true
is_known _ = false

-- the call has a sector
abbrev pub uses_sector : Phase → Bool
uses_sector Idle = false
uses_sector (Scanning j) = false
uses_sector (Staging k) = false
uses_sector Staged = false
uses_sector _ = true

-- from Staging to Logged
abbrev pub is_filling : Phase → Bool
is_filling (Staging k) = true
is_filling Staged = true
is_filling Locked = true
is_filling Known = true
is_filling LogAStored = true
is_filling LogA = true
is_filling LogBStored = true
is_filling Logged = true
is_filling _ = false

-- a write's words are there
abbrev pub has_words : Phase → Bool
has_words p = is_filling p

abbrev pub is_reading : Phase → Bool
is_reading (Reading k) = true
is_reading _ = false

-- the loaded entry is normal or initial
abbrev pub is_seeking : Phase → Bool
is_seeking Looking = true
is_seeking Published = true
is_seeking _ = false

-- a reader word is set
abbrev pub is_published : Phase → Bool
is_published Published = true
is_published Moved = true
is_published (Reading k) = true
is_published _ = false

abbrev pub is_logged : Phase → Bool
is_logged Logged = true
is_logged _ = false

abbrev pub is_switched : Phase → Bool
is_switched Switched = true
is_switched _ = false

abbrev pub is_log_a_stored : Phase → Bool
is_log_a_stored LogAStored = true
is_log_a_stored _ = false

abbrev pub is_log_b_stored : Phase → Bool
is_log_b_stored LogBStored = true
is_log_b_stored _ = false

-- the phases in which a half, or the map word, is as in an idle lane
abbrev pub is_plain : Phase → Bool
is_plain LogAStored = false
is_plain LogA = false
is_plain LogBStored = false
is_plain Logged = false
is_plain Switched = false
is_plain _ = true

-- word A of the other half names the move
abbrev pub has_log_a : Phase → Bool
has_log_a LogAStored = true
has_log_a LogA = true
has_log_a LogBStored = true
has_log_a _ = false

-- how many of the call's words are stored in the lane's block, and how many are kept
abbrev pub stored : ℕ → Phase → ℕ
stored e (Staging k) = min k e
stored e Staged = e
stored e Locked = e
stored e Known = e
stored e LogAStored = e
stored e LogA = e
stored e LogBStored = e
stored e Logged = e
stored e _ = 0

abbrev pub saved : ℕ → Phase → ℕ
saved e (Staging k) = k - e
saved e p = stored e p

-- one more than the lock that the lane has, and one more than the block that it has published
abbrev pub claim : Geometry → Lane → ℕ
claim g p = if is_locked p.phase then suc (lock_of g p.sector) else 0

-- one more than the map word in which a lane has switched an entry that isn't kept yet
abbrev pub switching : Lane → ℕ
switching p = if is_switched p.phase then suc (p.sector / 2) else 0

abbrev pub notice : Lane → ℕ
notice p = if is_published p.phase then suc (looked p) else 0

-- the place of r among the lanes other than w
abbrev pub place : ℕ → ℕ → ℕ
place w r = if nat_lt r w then r else r - 1

-- the map and the lanes name each block once
pub record Blocks (g : Geometry) (map_at : ℕ → ℕ) (lanes : ℕ → Lane) : Type 0 where
  pub map_in : (s : ℕ) → s < g.sectors → mapped map_at s < blocks_of g
  pub lane_in : (l : ℕ) → l < g.lanes → (lanes l).block < blocks_of g
  pub map_once : (s t : ℕ) → s < g.sectors → t < g.sectors → mapped map_at s ≡ mapped map_at t → s ≡ t
  pub lane_once : (l m : ℕ) → l < g.lanes → m < g.lanes → (lanes l).block ≡ (lanes m).block → l ≡ m
  pub apart : (s l : ℕ) → s < g.sectors → l < g.lanes → mapped map_at s ≢ (lanes l).block

pub record Locks (g : Geometry) (locks : ℕ → ℕ) (lanes : ℕ → Lane) : Type 0 where
  pub taken : (l k : ℕ) → l < g.lanes → claim g (lanes l) ≡ suc k → locks k ≡ suc l
  pub holder : (l k : ℕ) → k < g.lanes → locks k ≡ suc l → (l < g.lanes) × (claim g (lanes l) ≡ suc k)

abbrev pub Readers : Geometry → (ℕ → ℕ) → (ℕ → Lane) → Type 0
Readers g readers lanes = (l : ℕ) → l < g.lanes → readers l ≡ notice (lanes l)

-- nobody stores in a block that is read
pub record Quiet (g : Geometry) (lanes : ℕ → Lane) : Type 0 where
  pub still : (r w : ℕ) → r < g.lanes → w < g.lanes → r ≢ w → is_reading (lanes r).phase ≡ true → looked (lanes r) ≡ (lanes w).block → is_filling (lanes w).phase ≡ false
  pub unscanned : (r w j : ℕ) → r < g.lanes → w < g.lanes → r ≢ w → is_reading (lanes r).phase ≡ true → looked (lanes r) ≡ (lanes w).block → (lanes w).phase ≡ Scanning j → j ≤ place w r

-- the words of a lane's block, those seen and those kept
pub record Stages (width : ℕ) (seen kept : ℕ → ℕ) (phase : Phase) (words : List ℕ) : Type 0 where
  pub size : has_words phase ≡ true → length words ≡ stored width phase
  pub seen_words : (j : ℕ) → j < stored width phase → seen j ≡ get_or words j 0
  pub kept_words : (j : ℕ) → j < saved width phase → kept j ≡ get_or words j 0
  pub clean : (j : ℕ) → j < width → stored width phase ≤ j → kept j ≡ seen j

-- the words of the map's blocks are kept
abbrev pub Settled : Geometry → (ℕ → ℕ → ℕ) → (ℕ → ℕ → ℕ) → (ℕ → ℕ) → Type 0
Settled g seen kept map_at = (s j : ℕ) → s < g.sectors → j < g.width → kept (mapped map_at s) j ≡ seen (mapped map_at s) j

-- a map word is kept unless a lane has just switched an entry of it
abbrev pub MapKept : Geometry → (ℕ → ℕ) → (ℕ → ℕ) → (ℕ → Lane) → Type 0
MapKept g seen kept lanes = (m : ℕ) → (kept m ≡ seen m) ⊎ ((l : ℕ) × (l < g.lanes) × (switching (lanes l) ≡ suc m))

-- what a lane knows of the map word of its sector
pub record Knows (g : Geometry) (word : ℕ) (phase : Phase) (sector loaded : ℕ) (half : Half) : Type 0 where
  pub in_range : uses_sector phase ≡ true → sector < g.sectors
  pub same : is_known phase ≡ true → word ≡ loaded
  pub bytes : is_seeking phase ≡ true → has_bytes (kind_in (entry_in loaded sector)) ≡ true
  pub wrote : is_switched phase ≡ true → word ≡ with_entry loaded sector (normal half.new)
  pub stages : (k : ℕ) → phase ≡ Staging k → k < 2 * g.width
  pub scans : (j : ℕ) → phase ≡ Scanning j → j + 2 ≤ g.lanes

-- a half that opening takes
pub record Sized (g : Geometry) (half : Half) : Type 0 where
  pub old : half.old < g.sectors + g.lanes
  pub new : half.new < g.sectors + g.lanes
  pub lba : (half.old ≡ half.new) ⊎ (half.lba < g.sectors)

-- a lane's two halves, with the seen and the kept map word of its sector
pub record Halves (seen_a seen_b kept_a kept_b : ℕ → ℕ) (word kept_word : ℕ) (phase : Phase) (side : ℕ) (half : Half) (block sector : ℕ) : Type 0 where
  pub two : side < 2
  pub current_a : kept_a side ≡ seen_a side
  pub current_b : kept_b side ≡ seen_b side
  pub other_a : is_log_a_stored phase ≡ false → kept_a (other side) ≡ seen_a (other side)
  pub other_b : is_log_b_stored phase ≡ false → kept_b (other side) ≡ seen_b (other side)
  pub current : half_in (kept_a side) (kept_b side) ≡ half
  pub newer : IsNewer half.seq (seq_in (kept_b (other side)))
  pub old : is_logged phase ≡ false → half.old ≡ block
  pub logged : is_logged phase ≡ true → (half.lba ≡ sector) × (half.old ≡ block_in (entry_in word sector) sector) × (half.new ≡ block)
  pub switched : is_switched phase ≡ true → (half.lba ≡ sector) × (half.new ≡ block_in (entry_in word sector) sector) × (block_in (entry_in kept_word sector) sector ≡ block) × (entry_in word sector ≡ normal half.new)
  pub switched_rest : is_switched phase ≡ true → (t : ℕ) → t / 2 ≡ sector / 2 → t ≢ sector → entry_in kept_word t ≡ entry_in word t
  pub named_a : has_log_a phase ≡ true → seen_a (other side) ≡ word_a sector (block_in (entry_in word sector) sector)
  pub named_b : is_log_b_stored phase ≡ true → seen_b (other side) ≡ word_b block (next_seq half.seq)

-- the entries of a lane in the history that its log doesn't have: the read whose words it loads,
-- which `row` has
abbrev pub open_entry : ℕ → (ℕ → ℕ) → ℕ → Tag → ℕ → Entry
open_entry width row l tag sector = record { lane = l; tag = tag; sector = sector; act = act.Read (cell.Bytes (listed width row)) }

abbrev pub only_if : Bool → Entry → List Entry
only_if true e = e ∷ []
only_if false e = []

pub record Tells (width : ℕ) (row : ℕ → ℕ) (history : List Entry) (l : ℕ) (phase : Phase) (tag : Tag) (sector : ℕ) (log : List Entry) (got : List ℕ) : Type 0 where
  pub entries : of_lane l history ≡ log ++ only_if (is_reading phase) (open_entry width row l tag sector)
  pub loaded : (k : ℕ) → phase ≡ Reading k → (k ≤ width) × (got ≡ listed k row)

-- what holds of each lane by itself
pub record IsLaneSound (g : Geometry) (seen kept : Areas) (history : List Entry) (l : ℕ) (p : Lane) : Type 0 where
  pub stages : Stages g.width (seen.data_at p.block) (kept.data_at p.block) p.phase p.words
  pub knows : Knows g (seen.map_at (p.sector / 2)) p.phase p.sector p.loaded p.half
  pub halves : Halves (seen.log_a l) (seen.log_b l) (kept.log_a l) (kept.log_b l) (seen.map_at (p.sector / 2)) (kept.map_at (p.sector / 2)) p.phase p.side p.half p.block p.sector
  pub sized : Sized g p.half
  pub tells : Tells g.width (seen.data_at (looked p)) history l p.phase p.tag p.sector p.log p.got

pub record IsSound (g : Geometry) (opening : ℕ → Cell) (s : State) : Type 0 where
  pub geometry : IsGeometry g
  pub blocks : Blocks g s.seen.map_at s.lanes
  pub locks : Locks g s.locks s.lanes
  pub readers : Readers g s.readers s.lanes
  pub quiet : Quiet g s.lanes
  pub settled : Settled g s.seen.data_at s.kept.data_at s.seen.map_at
  pub map_kept : MapKept g s.seen.map_at s.kept.map_at s.lanes
  pub each : (l : ℕ) → l < g.lanes → IsLaneSound g s.seen s.kept s.history l (s.lanes l)
  pub legal : IsLegal opening s.history
  pub cells : (t : ℕ) → t < g.sectors → end_of opening s.history t ≡ cell_of g s.seen.data_at s.seen.map_at t
  pub known_lanes : (l : ℕ) → g.lanes ≤ l → of_lane l s.history ≡ []
