-- Worked examples, computed on the definitions.
use Rattle.std.proofs.Common.{◌≡◌, ℕ, ◌+◌, ◌*◌, ◌^◌, eqb, Bool, false, List, [], ◌∷◌, ◌++◌, Ok, Err, refl}
use Rattle.std.specs.List.{list_any}
use Rattle.nvd_words.specs.Checks.{first_fault}
use Rattle.arena_layout.specs.declared.layout.Layout.{Layout}
use Rattle.arena_layout.specs.declared.info.Info.{Info}
use Rattle.arena_layout.specs.declared.info.InfoFault.TheVariants.{Checksum}
use Rattle.flog.specs.declared.group.FlogFault.TheVariants.{Sequences, Padding}
use Rattle.flog.specs.Group.{place_of, is_padded, are_ordered, out_of_range, current_side}
use Rattle.map_table.specs.Entry.{entry_of, entry_in}
use Rattle.map_table.specs.Blocks.{blocks_of}
use Rattle.arena_open.specs.Reading.{groups_in}
use Rattle.arena_check.specs.declared.finding.Finding.{Finding}
use Rattle.arena_check.specs.declared.finding.Finding.TheVariants as found
use Rattle.arena_check.specs.declared.info.InfoSource.TheVariants.{Last, Neither}
use Rattle.arena_check.specs.Check.{block_findings, group_findings, bad_meta, meta_findings, source_by}

-- ---- the blocks

-- a map in range whose blocks and free ones are each named once
pub sound_blocks : block_findings 5 (blocks_of (0x80000004 ∷ 0 ∷ 0xC0000000 ∷ []) (2 ∷ 3 ∷ [])) ≡ []
unfolding entry_of
sound_blocks = refl

-- block 4 is named twice, and so block 1 not at all: the two come together
pub twice_and_missing : block_findings 5 (blocks_of (0x80000004 ∷ 0xC0000000 ∷ 0xC0000004 ∷ []) (2 ∷ 3 ∷ [])) ≡ found.Twice 4 ∷ found.Missing 1 ∷ []
unfolding entry_of
twice_and_missing = refl

-- one entry out of range; two of the same block, out of range, are a finding each
pub out_of_range_alone : block_findings 5 (blocks_of (0x80000004 ∷ 0xC0000009 ∷ 0xC0000000 ∷ []) (2 ∷ 3 ∷ [])) ≡ found.Range 9 ∷ found.Missing 1 ∷ []
unfolding entry_of
out_of_range_alone = refl

pub range_for_each_naming : block_findings 4 (blocks_of (0xC0000009 ∷ 0xC0000009 ∷ []) (2 ∷ 3 ∷ [])) ≡ found.Range 9 ∷ found.Range 9 ∷ found.Missing 0 ∷ found.Missing 1 ∷ []
unfolding entry_of
range_for_each_naming = refl

-- by place, the map in front of the free blocks: neither by number, nor one for each block
pub range_by_place : block_findings 3 (blocks_of (0xC0000009 ∷ 0xC0000000 ∷ 0xC0000005 ∷ []) (7 ∷ 5 ∷ [])) ≡ found.Range 9 ∷ found.Range 5 ∷ found.Range 7 ∷ found.Range 5 ∷ found.Missing 1 ∷ found.Missing 2 ∷ []
unfolding entry_of
range_by_place = refl

-- a block that three entries name is one finding; two are missing; an initial entry's low bits aren't looked at
pub thrice : block_findings 5 (blocks_of (0xC0000001 ∷ 7 ∷ 0x40000001 ∷ []) (3 ∷ 4 ∷ [])) ≡ found.Twice 1 ∷ found.Missing 0 ∷ found.Missing 2 ∷ []
unfolding entry_of
thrice = refl

-- ---- an arena of four sectors of 16 bytes and two lanes, without its info blocks

abbrev tiny : Layout
tiny = record { size = 248; sector = 16; inner = 16; external = 4; internal = 6; lanes = 2; data_off = 0; map_off = 96; flog_off = 112; info_off = 240 }

abbrev blocks_at : List ℕ
blocks_at = 0 ∷ 1 ∷ 2 ∷ 3 ∷ 4 ∷ 5 ∷ 6 ∷ 7 ∷ 8 ∷ 9 ∷ 10 ∷ 11 ∷ []

abbrev lane : ℕ → ℕ → ℕ → List ℕ
lane lba old new = (lba + 2 ^ 32 * old) ∷ (new + 2 ^ 32 * 1) ∷ 0 ∷ 0 ∷ 0 ∷ 0 ∷ 0 ∷ 0 ∷ []

-- sector 0 is initial and has block 0; 1 has block 1; 2 reads as zeros with block 2; 3 has block 3
abbrev arena : List ℕ → List ℕ → List ℕ
arena first second = blocks_at ++ (0 + 2 ^ 32 * 0xC0000001) ∷ (0x80000002 + 2 ^ 32 * 0xC0000003) ∷ first ++ second ++ 0 ∷ []

abbrev sound : List ℕ
sound = arena (lane 0 4 4) (lane 1 5 5)

abbrev none : ℕ → Bool
none i = false

abbrev found_in : (ℕ → Bool) → List ℕ → List Finding
found_in bad words = group_findings tiny bad words (groups_in tiny words)

pub sound_arena : found_in none sound ≡ []
unfolding entry_of entry_in first_fault place_of is_padded are_ordered out_of_range current_side
sound_arena = refl

-- a bad word of block 1; one of block 2, whose sector reads as zeros; one of block 4, which is free
pub bad_words : (found_in (eqb 3) sound ≡ found.BadData 1 ∷ []) × (found_in (eqb 4) sound ≡ []) × (found_in (eqb 9) sound ≡ [])
unfolding entry_of entry_in first_fault place_of is_padded are_ordered out_of_range current_side
bad_words = (refl, refl, refl)

-- a sector with an initial entry has its block's bytes
pub bad_initial : found_in (eqb 1) sound ≡ found.BadData 0 ∷ []
unfolding entry_of entry_in first_fault place_of is_padded are_ordered out_of_range current_side
bad_initial = refl

-- lane 1 moves sector 3 from block 3 to 5: its bytes are those of block 5, so that one counts, and block 3 is free
abbrev moving : List ℕ
moving = arena (lane 0 4 4) (lane 3 3 5)

pub moved_data : (found_in (eqb 10) moving ≡ found.BadData 3 ∷ []) × (found_in (eqb 6) moving ≡ [])
unfolding entry_of entry_in first_fault place_of is_padded are_ordered out_of_range current_side
moved_data = (refl, refl)

-- both lanes name one free block; a bad word of block 1 is no finding then
pub blocks_before_data : found_in (eqb 3) (arena (lane 0 4 4) (lane 1 4 4)) ≡ found.Twice 4 ∷ found.Missing 5 ∷ []
unfolding entry_of entry_in first_fault place_of is_padded are_ordered out_of_range current_side
blocks_before_data = refl

-- both lanes' groups are refused; nothing is said of blocks then
pub both_lanes : found_in (eqb 3) (arena (0 ∷ 0 ∷ 0 ∷ 0 ∷ 0 ∷ 0 ∷ 0 ∷ 0 ∷ []) (0 ∷ 2 ^ 32 ∷ 0 ∷ 0 ∷ 0 ∷ 0 ∷ 0 ∷ 9 ∷ [])) ≡ found.Flog 0 (Sequences 0 0) ∷ found.Flog 1 Padding ∷ []
unfolding entry_of entry_in first_fault place_of is_padded are_ordered out_of_range current_side
both_lanes = refl

-- ---- bad words beside the blocks

-- Words are numbered in the namespace. An arena at word 10: the info block's page, a page of blocks, and two pages of map, log and backup. The first and the last word of each run count.
-- No word before the arena, of the blocks, or behind the arena does.
abbrev pages : Layout
pages = record { size = 16384; sector = 512; inner = 512; external = 1; internal = 2; lanes = 1; data_off = 4096; map_off = 8192; flog_off = 8192; info_off = 12288 }

pub both_runs :
    meta_findings 10 (λ i. list_any (eqb i) (9 ∷ 10 ∷ 521 ∷ 522 ∷ 1033 ∷ 1034 ∷ 2057 ∷ 2058 ∷ [])) pages
    ≡ found.BadMeta 10 ∷ found.BadMeta 521 ∷ found.BadMeta 1034 ∷ found.BadMeta 2057 ∷ []
unfolding bad_meta meta_findings
both_runs = refl

-- ---- which info block is used

-- an info of an arena of so many bytes
abbrev of_size : ℕ → Info
of_size size = record { uuid = []; parent = []; flags = 0; major = 2; minor = 0; next = 0; layout = record { size = size; sector = 512; inner = 512; external = 1; internal = 2; lanes = 1; data_off = 4096; map_off = 8192; flog_off = 8192; info_off = 12288 } }

-- the last page of 16,384 bytes is taken for an arena of that size, and not for a smaller one
pub last_page :
    (source_by 16384 (Err Checksum) (Ok (of_size 16384)) ≡ Last Checksum (of_size 16384)) × (source_by 16384 (Err Checksum) (Ok (of_size 12288)) ≡ Neither Checksum)
last_page = (refl, refl)
