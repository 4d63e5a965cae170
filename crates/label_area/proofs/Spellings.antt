-- The encodings that are written read back.
use Rattle.std.proofs.Common.{◌≡◌, ℕ, length, Ok}
use Rattle.nvd_words.specs.Bytes.{AreBytes}
use Rattle.label_codec.specs.declared.label.Label.{Label}
use Rattle.label_codec.specs.Label.{label_reading, spelling_of as label_spelling}
use Rattle.label_codec.specs.Writable.{IsWritable}
use Rattle.label_codec.proofs.Spelled.{length_spelling as label_length, bytes_spelling as label_bytes, spelled as label_back}
use Rattle.label_index.specs.declared.index.IndexBlock.{IndexBlock}
use Rattle.label_index.specs.Index.{block_reading}
use Rattle.label_index.specs.Spelling.{spelling_of as block_spelling}
use Rattle.label_index.specs.Valid.{IsValid}
use Rattle.label_index.proofs.Spelled.{enough, length_spelling, bytes_spelling, spelled as reads_back}

-- a block's encoding encodes it in an area of this size
pub record IsSpelled (area : ℕ) (block : IndexBlock) : Type 0 where
  pub len : length (block_spelling block) ≡ block.size
  pub bytes : AreBytes (block_spelling block)
  pub reads : block_reading area block.size block.side (block_spelling block) ≡ Ok block

-- a label's encoding encodes it
pub record IsSpelledLabel (label : Label) : Type 0 where
  pub len : length (label_spelling label) ≡ 256
  pub bytes : AreBytes (label_spelling label)
  pub reads : label_reading (label_spelling label) label.slot ≡ Ok label

pub valid_spelled : (area : ℕ) (b : IndexBlock) → IsValid area b → IsSpelled area b
valid_spelled area b ok = record { len = length_spelling b (enough area b ok); bytes = bytes_spelling b; reads = reads_back area b ok }

pub writable_spelled : (l : Label) → IsWritable l → IsSpelledLabel l
writable_spelled l ok = record { len = label_length l ok; bytes = label_bytes l ok; reads = label_back l ok }
