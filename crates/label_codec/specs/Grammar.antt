-- The grammar of a label as a relation: UEFI 2.10, section 13.19, EFI_NVDIMM_LABEL, label version 1.2.
use Rattle.std.specs.Prelude.{◌≡◌, ℕ, ◌+◌, ◌%◌, ◌^◌, ◌≤◌, ◌↔◌, List, slice_index, Ok}
use Rattle.std.specs.Int.{w16, w32, w64}
use Rattle.uuid.specs.Parts.{swap_fields}
use Rattle.nvd_words.specs.Bytes.{number_at}
use Rattle.nvd_words.specs.Fletcher.{fletcher64_of, without_eight}
use Rattle.label_codec.specs.declared.label.Label.{Label}
use Rattle.label_codec.specs.Label.{bytes_at, name_in, label_reading}

-- the 256 bytes of a slot encode a label
pub record StandsFor (bytes : List ℕ) (number : ℕ) (l : Label) : Type 0 where
  -- Checksum, over the bytes with that field as zero
  pub sum : number_at w64 bytes 248 ≡ fletcher64_of (without_eight bytes 248)
  -- Slot: the label is in the slot that it names
  pub numbered : number_at w32 bytes 120 ≡ number
  -- Dpa and RawSize: multiples of 4,096, RawSize not 0, their sum at most 2^63
  pub dpa_whole : l.dpa % 4096 ≡ 0
  pub raw_whole : l.raw % 4096 ≡ 0
  pub raw_some : 1 ≤ l.raw
  pub raw_ends : l.dpa + l.raw ≤ 2 ^ 63
  -- the label has the fields; the two GUIDs have their first three fields byte-swapped
  pub uuid : l.uuid ≡ bytes_at bytes 0 16
  pub name : l.name ≡ name_in bytes
  pub flags : l.flags ≡ number_at w32 bytes 80
  pub count : l.count ≡ number_at w16 bytes 84
  pub position : l.position ≡ number_at w16 bytes 86
  pub cookie : l.cookie ≡ number_at w64 bytes 88
  pub lba : l.lba ≡ number_at w64 bytes 96
  pub dpa : l.dpa ≡ number_at w64 bytes 104
  pub raw : l.raw ≡ number_at w64 bytes 112
  pub slot : l.slot ≡ number_at w32 bytes 120
  pub align : l.align ≡ slice_index bytes 124
  pub kind : l.kind ≡ swap_fields (bytes_at bytes 128 16)
  pub abstraction : l.abstraction ≡ swap_fields (bytes_at bytes 144 16)
  pub spa_cookie : l.spa_cookie ≡ number_at w64 bytes 160

-- a law: a slot is read as a label exactly if its bytes encode it
abbrev pub GrammarIsReading : Type 0
GrammarIsReading = (bytes : List ℕ) (number : ℕ) (l : Label) → (label_reading bytes number ≡ Ok l) ↔ StandsFor bytes number l
