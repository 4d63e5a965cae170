-- The grammar of an index block as a relation: UEFI 2.10, section 13.19, EFI_NVDIMM_LABEL_INDEX_BLOCK, label version 1.2.
use Rattle.std.specs.Prelude.{◌≡◌, ◌≢◌, ℕ, ◌+◌, ◌*◌, ◌/◌, ◌%◌, ◌<◌, ◌≤◌, ◌↔◌, List, length, take, drop, slice_index, slice_get, Some, Ok}
use Rattle.std.specs.Int.{w16, w32, w64}
use Rattle.nvd_words.specs.Bytes.{number_at}
use Rattle.nvd_words.specs.Fletcher.{fletcher64_of, without_eight}
use Rattle.label_index.specs.declared.index.Side.{Side}
use Rattle.label_index.specs.declared.index.IndexBlock.{IndexBlock}
use Rattle.label_index.specs.Area.{block_size_of}
use Rattle.label_index.specs.Index.{place_of, other_place_of, signature, is_free, index_reading}

-- a block on side s, for blocks of `size` bytes in an area of `area` bytes, encodes a record
pub record IsBlockOf (area size : ℕ) (s : Side) (block : List ℕ) (b : IndexBlock) : Type 0 where
  -- Sig
  pub signed : take 16 block ≡ signature
  -- Seq: not closed
  pub numbered : number_at w32 block 20 % 4 ≢ 0
  -- Major and Minor: version 1.2
  pub major : number_at w16 block 60 ≡ 1
  pub minor : number_at w16 block 62 ≡ 2
  -- MyOff, MySize, OtherOff and LabelOff
  pub my_offset : number_at w64 block 24 ≡ place_of size s
  pub my_size : number_at w64 block 32 ≡ size
  pub other_offset : number_at w64 block 40 ≡ other_place_of size s
  pub label_offset : number_at w64 block 48 ≡ 2 * size
  -- LabelSize and NSlot: labels of 256 bytes, whose bits fit the block, and which fit the area
  pub label_size : slice_index block 19 ≡ 1
  pub some : 1 ≤ number_at w32 block 56
  pub bits : 72 + (number_at w32 block 56 + 7) / 8 ≤ size
  pub fits : 2 * size + 256 * number_at w32 block 56 ≤ area
  -- Checksum, over the block with that field as zero
  pub sum : number_at w64 block 64 ≡ fletcher64_of (without_eight block 64)
  -- the record has the fields; Free is one bit for each slot
  pub same_side : b.side ≡ s
  pub same_seq : b.seq ≡ number_at w32 block 20 % 4
  pub same_size : b.size ≡ number_at w64 block 32
  pub same_slots : b.slots ≡ number_at w32 block 56
  pub listed : length b.free ≡ number_at w32 block 56
  pub free : (n : ℕ) → n < number_at w32 block 56 → slice_get b.free n ≡ Some (is_free block n)

-- the bytes of a side of an area encode a record
abbrev pub StandsFor : List ℕ → Side → IndexBlock → Type 0
StandsFor area s b =
    let size = block_size_of (length area) in
    IsBlockOf (length area) size s (take size (drop (place_of size s) area)) b

-- a law: a side is read as a record exactly if its bytes encode it
abbrev pub GrammarIsReading : Type 0
GrammarIsReading = (area : List ℕ) (s : Side) (b : IndexBlock) → (index_reading area s ≡ Ok b) ↔ StandsFor area s b
