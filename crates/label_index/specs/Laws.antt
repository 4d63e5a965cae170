-- Laws of the canonical encoding of index blocks.
use Rattle.std.specs.Prelude.{◌≡◌, ℕ, ◌-◌, ◌*◌, ◌<◌, ◌≤◌, false, List, length, take, drop, replicate, Ok}
use Rattle.std.specs.Int.{w32}
use Rattle.nvd_words.specs.Bytes.{number_at, AreBytes}
use Rattle.label_index.specs.declared.index.Side.{Side}
use Rattle.label_index.specs.declared.index.IndexBlock.{IndexBlock}
use Rattle.label_index.specs.Area.{block_size_of, IsAreaSize}
use Rattle.label_index.specs.Index.{place_of, is_free, block_reading, index_reading}
use Rattle.label_index.specs.Grammar.{IsBlockOf}
use Rattle.label_index.specs.Valid.{IsValid, IsWritable}
use Rattle.label_index.specs.Spelling.{spelling_of}

-- a block is read as a record, on the record's side of each area in which it is valid
abbrev pub ReadsBack : List ℕ → IndexBlock → Type 0
ReadsBack block b = (area : ℕ) → IsValid area b → block_reading area b.size b.side block ≡ Ok b

-- a law: the canonical encoding of a record encodes it, on its side of an area in which it is valid
abbrev pub SpellingStands : Type 0
SpellingStands = (area : ℕ) (b : IndexBlock) → IsValid area b → IsBlockOf area b.size b.side (spelling_of b) b

-- a law: an area with the canonical encoding of a record on its side is read as that record
abbrev pub SpellingReadsBack : Type 0
SpellingReadsBack = (area : List ℕ) (b : IndexBlock) → IsValid (length area) b
    → take (block_size_of (length area)) (drop (place_of (block_size_of (length area)) b.side) area) ≡ spelling_of b → index_reading area b.side ≡ Ok b

-- a block with zeros in the bytes and bits that readers ignore
pub record IsClean (size : ℕ) (block : List ℕ) : Type 0 where
  -- Flags
  pub flags : take 3 (drop 16 block) ≡ replicate 3 0
  -- the high bits of Seq
  pub seq : number_at w32 block 20 < 4
  -- the bits of Free from NSlot on
  pub free : (n : ℕ) → number_at w32 block 56 ≤ n → n < 8 * (size - 72) → is_free block n ≡ false

-- a law: only the canonical encoding encodes a record and has zeros there
abbrev pub SpellingIsTheOne : Type 0
SpellingIsTheOne = (area size : ℕ) (s : Side) (block : List ℕ) (b : IndexBlock) → AreBytes block → length block ≡ size
    → IsBlockOf area size s block b → IsClean size block → block ≡ spelling_of b

-- a law: the canonical encoding has zeros there
abbrev pub SpellingIsClean : Type 0
SpellingIsClean = (b : IndexBlock) → IsWritable b → IsClean b.size (spelling_of b)

-- a law: no two records share a canonical encoding
abbrev pub NoSharedSpelling : Type 0
NoSharedSpelling = (a b : IndexBlock) → IsWritable a → IsWritable b → spelling_of a ≡ spelling_of b → a ≡ b

-- a law: a canonical encoding doesn't encode two records, whatever the area's size and the side
abbrev pub NoDoubleReading : Type 0
NoDoubleReading = (b : IndexBlock) → IsWritable b → (area size : ℕ) (s : Side) (c : IndexBlock) → IsBlockOf area size s (spelling_of b) c → c ≡ b

-- a law: a record that was read can be written
abbrev pub ReadIsValid : Type 0
ReadIsValid = (area : List ℕ) (s : Side) (b : IndexBlock) → IsAreaSize (length area) → index_reading area s ≡ Ok b → IsValid (length area) b
