-- The info block: UEFI 2.10, section 6.2, BTT Info Block.
use Rattle.std.specs.Prelude.{◌≡◌, ℕ, ◌+◌, ◌%◌, ◌<◌, ◌≤◌, ◌==◌, ◌↔◌, Bool, not, ◌&&◌, ◌||◌, IsTrue, List, [], ◌∷◌, ◌++◌, take, drop, codes, Option, Result, Ok}
use Rattle.std.specs.Str.{bytes_eq}
use Rattle.std.specs.Option.{option_map}
use Rattle.std.specs.Int.{w16, w32, w64}
use Rattle.nvd_words.specs.Bytes.{number_at}
use Rattle.nvd_words.specs.Checks.{first_fault, fault_if, value_unless}
use Rattle.nvd_words.specs.Fletcher.{fletcher64_of, without_eight}
use Rattle.arena_layout.specs.declared.layout.Layout.{Layout}
use Rattle.arena_layout.specs.declared.layout.LayoutField.{LayoutField}
use Rattle.arena_layout.specs.declared.layout.LayoutField.TheVariants as field
use Rattle.arena_layout.specs.declared.info.Info.{Info}
use Rattle.arena_layout.specs.declared.info.InfoFault.{InfoFault}
use Rattle.arena_layout.specs.declared.info.InfoFault.TheVariants as fault
use Rattle.arena_layout.specs.Layout.{IsLayout, has_sector, has_inner, has_lanes, has_blocks, has_pages, has_order, has_size, has_next}

-- `count` bytes at an offset
abbrev pub bytes_at : List ℕ → ℕ → ℕ → List ℕ
bytes_at bytes at count = take count (drop at bytes)

-- Sig: BTT_ARENA_INFO and two zero bytes
abbrev pub signature : List ℕ
signature = codes "BTT_ARENA_INFO" ++ 0 ∷ 0 ∷ []

-- ---- the checks

unfoldable pub has_signature : List ℕ → Bool
has_signature bytes = bytes_eq (take 16 bytes) signature

-- Checksum, over the block with that field as zero
unfoldable pub has_checksum : List ℕ → Bool
has_checksum bytes = number_at w64 bytes 4088 == fletcher64_of (without_eight bytes 4088)

-- the versions that are supported: 2.0, and 1.1 of older drivers. No other definition decides it.
unfoldable pub is_version : ℕ → ℕ → Bool
is_version major minor = ((major == 2) && (minor == 0)) || ((major == 1) && (minor == 1))

unfoldable pub has_parent : List ℕ → List ℕ → Bool
has_parent bytes parent = bytes_eq (bytes_at bytes 32 16) parent

-- bit 0 of Flags: the arena is in the error state
unfoldable pub has_error : List ℕ → Bool
has_error bytes = number_at w32 bytes 48 % 2 == 1

-- the layout in the fields; the backup of the info block is its end
unfoldable pub layout_of : List ℕ → Layout
layout_of bytes = record {
  size = number_at w64 bytes 112 + 4096;
  sector = number_at w32 bytes 56;
  inner = number_at w32 bytes 64;
  external = number_at w32 bytes 60;
  internal = number_at w32 bytes 68;
  lanes = number_at w32 bytes 72;
  data_off = number_at w64 bytes 88;
  map_off = number_at w64 bytes 96;
  flog_off = number_at w64 bytes 104;
  info_off = number_at w64 bytes 112;
}

-- the info in the fields; of Flags only bit 0 is read
unfoldable pub info_of : List ℕ → Info
info_of bytes = record {
  uuid = bytes_at bytes 16 16;
  parent = bytes_at bytes 32 16;
  flags = number_at w32 bytes 48 % 2;
  major = number_at w16 bytes 52;
  minor = number_at w16 bytes 54;
  next = number_at w64 bytes 80;
  layout = layout_of bytes;
}

-- InfoSize, and the offsets of the areas
unfoldable pub has_areas : List ℕ → Bool
has_areas bytes = (number_at w32 bytes 76 == 4096) && has_pages (layout_of bytes) && has_order (layout_of bytes)

-- the first part of the layout relation that fails, with `rest` bytes up to the namespace's end
unfoldable pub layout_fault_of : List ℕ → ℕ → Option LayoutField
layout_fault_of bytes rest = first_fault (
    fault_if (not (has_sector (layout_of bytes))) field.Sector
    ∷ fault_if (not (has_inner (layout_of bytes))) field.Inner
    ∷ fault_if (not (has_lanes (layout_of bytes))) field.Free
    ∷ fault_if (not (has_blocks (layout_of bytes))) field.Blocks
    ∷ fault_if (not (has_areas bytes)) field.Areas
    ∷ fault_if (not (has_size (layout_of bytes) rest)) field.Size
    ∷ fault_if (not (has_next (layout_of bytes) (number_at w64 bytes 80) rest)) field.Next
    ∷ [])

-- the checks of 4,096 bytes, in their order
abbrev pub info_faults : List ℕ → List ℕ → ℕ → List (Option InfoFault)
info_faults bytes parent rest =
    fault_if (not (has_signature bytes)) fault.Signature
    ∷ fault_if (not (has_checksum bytes)) fault.Checksum
    ∷ fault_if (not (is_version (number_at w16 bytes 52) (number_at w16 bytes 54))) (fault.Version (number_at w16 bytes 52) (number_at w16 bytes 54))
    ∷ fault_if (not (has_parent bytes parent)) fault.Parent
    ∷ fault_if (has_error bytes) fault.ErrorState
    ∷ option_map fault.Layout (layout_fault_of bytes rest)
    ∷ []

-- the decoded info, or the first check that fails
abbrev pub info_reading : List ℕ → List ℕ → ℕ → Result Info InfoFault
info_reading bytes parent rest = value_unless (info_of bytes) (first_fault (info_faults bytes parent rest))

-- ---- valid infos

-- an info that can be written
pub record IsInfo (info : Info) : Type 0 where
  pub layout : IsLayout info.layout
  pub flags : info.flags ≡ 0
  pub version : IsTrue (is_version info.major info.minor)
  pub next : IsTrue ((info.next == 0) || (info.next == info.layout.size))

-- an arena of a namespace with `rest` bytes from the arena's first byte on
pub record IsArenaOf (parent : List ℕ) (rest : ℕ) (info : Info) : Type 0 where
  pub sound : IsInfo info
  pub parent_is : info.parent ≡ parent
  pub size_inside : info.layout.size ≤ rest
  pub next_inside : info.next < rest

-- 4,096 bytes encode an info: the fields are the info's, the checksum is correct, and the arena is valid
pub record StandsFor (bytes parent : List ℕ) (rest : ℕ) (info : Info) : Type 0 where
  pub signature_is : take 16 bytes ≡ signature
  pub checksum_is : number_at w64 bytes 4088 ≡ fletcher64_of (without_eight bytes 4088)
  pub info_size : number_at w32 bytes 76 ≡ 4096
  pub fields : info_of bytes ≡ info
  pub sound : IsArenaOf parent rest info

-- the result is Ok exactly if the bytes encode the info
abbrev pub IsReading : List ℕ → List ℕ → ℕ → Result Info InfoFault → Type 0
IsReading bytes parent rest result = (info : Info) → (result ≡ Ok info) ↔ StandsFor bytes parent rest info

-- the bytes are read as the info, wherever its arena is in the namespace
abbrev pub ReadsBack : List ℕ → Info → Type 0
ReadsBack bytes info = (rest : ℕ) → info.layout.size ≤ rest → info.next < rest → info_reading bytes info.parent rest ≡ Ok info
