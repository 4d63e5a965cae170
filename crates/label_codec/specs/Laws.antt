-- Laws of the canonical encoding of labels.
use Rattle.std.specs.Prelude.{◌≡◌, ℕ, ◌-◌, List, length, drop, replicate, Ok}
use Rattle.nvd_words.specs.Bytes.{AreBytes}
use Rattle.label_codec.specs.declared.label.Label.{Label}
use Rattle.label_codec.specs.Label.{bytes_at, name_in, label_reading, spelling_of}
use Rattle.label_codec.specs.Grammar.{StandsFor}
use Rattle.label_codec.specs.Writable.{IsWritable}

-- a law: the canonical encoding of a label encodes it, in the slot that it names
abbrev pub SpellingStands : Type 0
SpellingStands = (l : Label) → IsWritable l → StandsFor (spelling_of l) l.slot l

-- a law: the canonical encoding of a label is read as that label
abbrev pub SpellingReadsBack : Type 0
SpellingReadsBack = (l : Label) → IsWritable l → label_reading (spelling_of l) l.slot ≡ Ok l

-- a slot with zeros in the bytes that readers ignore
pub record IsClean (bytes : List ℕ) : Type 0 where
  -- the bytes of Name after the name
  pub name : drop (length (name_in bytes)) (bytes_at bytes 16 64) ≡ replicate (64 - length (name_in bytes)) 0
  -- the reserved bytes
  pub after_align : bytes_at bytes 125 3 ≡ replicate 3 0
  pub after_cookie : bytes_at bytes 168 80 ≡ replicate 80 0

-- a law: only the canonical encoding encodes a label and has zeros there
abbrev pub SpellingIsTheOne : Type 0
SpellingIsTheOne = (bytes : List ℕ) (number : ℕ) (l : Label) → AreBytes bytes → length bytes ≡ 256 → StandsFor bytes number l → IsClean bytes → bytes ≡ spelling_of l

-- a law: the canonical encoding has zeros there
abbrev pub SpellingIsClean : Type 0
SpellingIsClean = (l : Label) → IsWritable l → IsClean (spelling_of l)

-- a law: no two labels share a canonical encoding
abbrev pub NoSharedSpelling : Type 0
NoSharedSpelling = (a b : Label) → IsWritable a → IsWritable b → spelling_of a ≡ spelling_of b → a ≡ b

-- a law: a canonical encoding doesn't encode two labels, whatever the slot
abbrev pub NoDoubleReading : Type 0
NoDoubleReading = (l : Label) → IsWritable l → (number : ℕ) (other : Label) → StandsFor (spelling_of l) number other → other ≡ l

-- a law: a label that was read can be written
abbrev pub ReadIsWritable : Type 0
ReadIsWritable = (bytes : List ℕ) (number : ℕ) (l : Label) → AreBytes bytes → length bytes ≡ 256 → label_reading bytes number ≡ Ok l → IsWritable l
