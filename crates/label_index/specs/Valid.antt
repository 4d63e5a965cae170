-- The records that can be written as an index block.
use Rattle.std.specs.Prelude.{◌≡◌, ℕ, ◌+◌, ◌*◌, ◌/◌, ◌≤◌, length}
use Rattle.label_index.specs.declared.index.IndexBlock.{IndexBlock}
use Rattle.label_index.specs.Area.{block_size_of, IsAreaSize}

-- the record of a block in an area of this size
pub record IsValid (area : ℕ) (b : IndexBlock) : Type 0 where
  pub sized : IsAreaSize area
  -- a number of the ring
  pub seq_low : 1 ≤ b.seq
  pub seq_high : b.seq ≤ 3
  -- the size of a block in that area, and slots whose bits fit it and which fit the area
  pub whole : b.size ≡ block_size_of area
  pub some : 1 ≤ b.slots
  pub bits : 72 + (b.slots + 7) / 8 ≤ b.size
  pub fits : 2 * b.size + 256 * b.slots ≤ area
  -- an entry for each slot
  pub listed : length b.free ≡ b.slots

-- the record of a block in some area
abbrev pub IsWritable : IndexBlock → Type 0
IsWritable b = (area : ℕ) × IsValid area b
