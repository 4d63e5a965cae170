-- Worked examples, computed on the definitions.
use Rattle.std.proofs.Common.{◌≡◌, ℕ, ◌-◌, ◌%◌, ◌++◌, List, [], ◌∷◌, Some, Ok, Err, replicate, sum, length, codes, refl}
use Rattle.std.specs.Int.{w16, w32, w64, to_le_bytes}
use Rattle.nvd_words.specs.Bytes.{number_at}
use Rattle.nvd_words.specs.Checks.{first_fault}
use Rattle.nfit_reader.specs.declared.table.Mapping.{Mapping}
use Rattle.nfit_reader.specs.declared.table.NfitFault.TheVariants.{Length, Signature, Structure, MissingIndex, TwiceIndex, Alias}
use Rattle.nfit_reader.specs.Structures.{spans_from, structure_of, range_structure, interleave_structure, control_structure, least_length, is_structure, has_lines, range_of, link_of, lines_of, identity_of}
use Rattle.nfit_reader.specs.Table.{nfit_reading, distinct_after, twice_in, alias_in, is_alias, mapping_of, region_of, regions_of, missing_of, lacks_range, lacks_identity, lacks_lines, dpa_range_of, table_reading, said_of, header_fault}
use Rattle.nfit_reader.specs.Structures.{persistent_memory}

-- an SPA range: index, base, length
abbrev range : ℕ → ℕ → ℕ → List ℕ
range index base len = to_le_bytes w16 0 ++ to_le_bytes w16 56 ++ to_le_bytes w16 index ++ replicate 10 0 ++ persistent_memory ++ to_le_bytes w64 base ++ to_le_bytes w64 len ++ replicate 8 0

-- a mapping of 32 MiB: handle, range, control region, region offset, start, interleave
abbrev mapping : ℕ → ℕ → ℕ → ℕ → ℕ → ℕ → List ℕ
mapping handle into control offset start lines = to_le_bytes w16 1 ++ to_le_bytes w16 48 ++ to_le_bytes w32 handle ++ replicate 4 0 ++ to_le_bytes w16 into ++ to_le_bytes w16 control
    ++ to_le_bytes w64 33554432 ++ to_le_bytes w64 offset ++ to_le_bytes w64 start ++ to_le_bytes w16 lines ++ to_le_bytes w16 2 ++ replicate 4 0

abbrev interleave : ℕ → List ℕ
interleave index = to_le_bytes w16 2 ++ to_le_bytes w16 20 ++ to_le_bytes w16 index ++ replicate 2 0 ++ to_le_bytes w32 1 ++ to_le_bytes w32 4096 ++ to_le_bytes w32 0

abbrev control : ℕ → ℕ → List ℕ
control index serial = to_le_bytes w16 4 ++ to_le_bytes w16 32 ++ to_le_bytes w16 index ++ to_le_bytes w16 0x1234 ++ replicate 16 0 ++ to_le_bytes w32 serial ++ replicate 4 0

abbrev structures : List ℕ
structures = range 1 4294967296 67108864 ++ mapping 1 1 1 0 0 1 ++ mapping 2 1 2 4096 0 1 ++ interleave 1 ++ control 1 1 ++ control 2 2

abbrev table_of : ℕ → List ℕ → List ℕ
table_of said body =
    let head = codes "NFIT" ++ to_le_bytes w32 said in
    head ++ (1 ∷ (256 - sum (head ++ 1 ∷ body) % 256) % 256 ∷ replicate 30 0) ++ body

pub pair_length : length (table_of 276 structures) ≡ 276
pair_length = refl

abbrev pub pair_mapping : ℕ → ℕ → ℕ → Mapping
pair_mapping number offset serial = record {
  «module» = number;
  size = 33554432;
  offset = offset;
  start = 0;
  ways = 2;
  lines = Some (record { size = 4096; offsets = 0 ∷ [] });
  identity = record { vendor = 0x1234; date = 0; location = 0; serial = serial };
}

pub pair_read : nfit_reading (table_of 276 structures) ≡ Ok (record {
  modules = 1 ∷ 2 ∷ [];
  regions = record { index = 1; base = 4294967296; length = 67108864; mappings = pair_mapping 0 0 1 ∷ pair_mapping 1 4096 2 ∷ [] } ∷ [];
})
unfolding number_at first_fault spans_from structure_of range_structure interleave_structure control_structure least_length is_structure has_lines range_of link_of lines_of identity_of distinct_after twice_in alias_in is_alias mapping_of region_of regions_of missing_of lacks_range lacks_identity lacks_lines dpa_range_of table_reading said_of header_fault
pair_read = refl

-- four bytes short
pub pair_short : nfit_reading (table_of 276 (range 1 4294967296 67108864 ++ mapping 1 1 1 0 0 1 ++ mapping 2 1 2 4096 0 1 ++ interleave 1 ++ control 1 1 ++ replicate 28 0)) ≡ Err (Length 276 272)
unfolding number_at first_fault said_of header_fault
pair_short = refl

pub signature_alone : nfit_reading (codes "NFIT") ≡ Err (Length 0 4)
unfolding number_at first_fault said_of header_fault
signature_alone = refl

pub nothing : nfit_reading [] ≡ Err Signature
unfolding number_at first_fault said_of header_fault
nothing = refl

-- a structure of Length 3 at byte 40
pub short_structure : nfit_reading (table_of 44 (9 ∷ 0 ∷ 3 ∷ 0 ∷ [])) ≡ Err (Structure 40)
unfolding number_at first_fault said_of header_fault spans_from is_structure least_length has_lines
short_structure = refl

-- of the indices 1, 2, 2, 1 the first that occurs again is 1
pub doubled : nfit_reading (table_of 264 (range 1 0 4096 ++ range 2 0 4096 ++ range 2 0 4096 ++ range 1 0 4096)) ≡ Err (TwiceIndex 0 1)
unfolding number_at first_fault spans_from structure_of range_structure interleave_structure control_structure least_length is_structure has_lines range_of link_of lines_of identity_of distinct_after twice_in alias_in is_alias mapping_of region_of regions_of missing_of lacks_range lacks_identity lacks_lines dpa_range_of table_reading said_of header_fault
doubled = refl

-- control index 0 names nothing, which a mapping into persistent memory must not do
pub no_control : nfit_reading (table_of 144 (range 1 0 4096 ++ mapping 1 1 0 0 0 0)) ≡ Err (MissingIndex 4 0)
unfolding number_at first_fault spans_from structure_of range_structure interleave_structure control_structure least_length is_structure has_lines range_of link_of lines_of identity_of distinct_after twice_in alias_in is_alias mapping_of region_of regions_of missing_of lacks_range lacks_identity lacks_lines dpa_range_of table_reading said_of header_fault
no_control = refl

-- an interleave structure with no lines is invalid, even with index 0
pub no_lines : nfit_reading (table_of 56 (2 ∷ 0 ∷ 16 ∷ 0 ∷ replicate 12 0)) ≡ Err (Structure 40)
unfolding number_at first_fault spans_from is_structure has_lines least_length said_of header_fault
no_lines = refl

-- the mapping into region 1 comes first, and is named first
pub crossed : nfit_reading (table_of 280 (mapping 7 2 1 0 4096 0 ++ mapping 7 1 1 0 8192 0 ++ range 1 0 4096 ++ range 2 0 4096 ++ control 1 1)) ≡ Err (Alias 0 1 0)
unfolding number_at first_fault spans_from structure_of range_structure interleave_structure control_structure least_length is_structure has_lines range_of link_of lines_of identity_of distinct_after twice_in alias_in is_alias mapping_of region_of regions_of missing_of lacks_range lacks_identity lacks_lines dpa_range_of table_reading said_of header_fault
crossed = refl

-- a missing byte of the Length field counts as zero
pub length_cut : nfit_reading (codes "NFIT" ++ 41 ∷ []) ≡ Err (Length 41 5)
unfolding number_at first_fault said_of header_fault
length_cut = refl
