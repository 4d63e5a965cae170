-- The encoding of an info block: UEFI 2.10, section 6.2; the unused bytes are zero.
use Rattle.std.specs.Prelude.{◌≡◌, ℕ, ◌^◌, ◌<◌, length, List, ◌++◌, replicate}
use Rattle.std.specs.Int.{w16, w32, w64, to_le_bytes}
use Rattle.nvd_words.specs.Bytes.{number_at}
use Rattle.nvd_words.specs.Fletcher.{fletcher64_of}
use Rattle.arena_layout.specs.declared.info.Info.{Info}
use Rattle.arena_layout.specs.declared.layout.Layout.{Layout}
use Rattle.arena_layout.specs.Info.{signature, bytes_at}

-- bytes 56 to 79: sector size, sectors, block size, blocks, lanes, and InfoSize
abbrev pub counts_of : Layout → List ℕ
counts_of l =
    to_le_bytes w32 l.sector ++ (to_le_bytes w32 l.external ++ (to_le_bytes w32 l.inner ++ (to_le_bytes w32 l.internal
    ++ (to_le_bytes w32 l.lanes ++ to_le_bytes w32 4096))))

-- bytes 80 to 119: NextOff and the offsets of the areas
abbrev pub places_of : ℕ → Layout → List ℕ
places_of next l =
    to_le_bytes w64 next ++ (to_le_bytes w64 l.data_off ++ (to_le_bytes w64 l.map_off ++ (to_le_bytes w64 l.flog_off ++ to_le_bytes w64 l.info_off)))

-- bytes 48 to 119
abbrev pub fields_of : Info → List ℕ
fields_of info =
    to_le_bytes w32 info.flags ++ (to_le_bytes w16 info.major ++ (to_le_bytes w16 info.minor ++ (counts_of info.layout ++ places_of info.next info.layout)))

-- bytes 120 to 4087
unfoldable pub unused : List ℕ
unused = replicate 3968 0

-- all bytes before the Checksum
abbrev pub body_of : Info → List ℕ
body_of info = signature ++ (info.uuid ++ (info.parent ++ (fields_of info ++ unused)))

unfoldable pub spelling_of : Info → List ℕ
spelling_of info = body_of info ++ to_le_bytes w64 (fletcher64_of (body_of info ++ replicate 8 0))

-- the widths of an info's fields, from their types
pub record HasWidths (info : Info) : Type 0 where
  pub uuid_len : length info.uuid ≡ 16
  pub parent_len : length info.parent ≡ 16
  pub inner : info.layout.inner < 2 ^ 32

-- the bytes that a reader ignores are zero
pub record HasZeros (bytes : List ℕ) : Type 0 where
  pub flags : number_at w32 bytes 48 < 2
  pub unused_bytes : bytes_at bytes 120 3968 ≡ unused
