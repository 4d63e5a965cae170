-- Worked examples, computed on the definitions.
use Rattle.std.proofs.Common.{◌≡◌, ℕ, ◌-◌, ◌%◌, ◌++◌, List, [], ◌∷◌, Option, Some, None, Ok, Err, replicate, sum, codes, refl}
use Rattle.std.specs.Int.{w16, w32, w64, to_le_bytes}
use Rattle.nvd_words.specs.Bytes.{number_at}
use Rattle.nvd_words.specs.Checks.{first_fault}
use Rattle.nvd_media.specs.declared.object.Object.TheVariants.{Mark, Nfit, Labels, Contents, BadRanges}
use Rattle.nvd_media.specs.Images.{Images}
use Rattle.nfit_reader.specs.declared.table.NfitFault.TheVariants as table_fault_of
use Rattle.nfit_reader.specs.Structures.{persistent_memory, spans_from, structure_of, range_structure, interleave_structure, control_structure, least_length, is_structure, has_lines, range_of, link_of, lines_of, identity_of}
use Rattle.nfit_reader.specs.Table.{distinct_after, twice_in, alias_in, is_alias, mapping_of, region_of, regions_of, missing_of, lacks_range, lacks_identity, lacks_lines, dpa_range_of, table_reading, said_of, header_fault}
use Rattle.image_set.specs.declared.fault.LoadFault.TheVariants as fault
use Rattle.image_set.specs.Load.{table_fault, module_fault, modules_fault, mapping_fault, mappings_fault, image_set_of, loading}

-- ---- tables

-- a mapping of a size, of the module with handle 9, into a range
abbrev mapping : ℕ → ℕ → List ℕ
mapping into size = to_le_bytes w16 1 ++ to_le_bytes w16 48 ++ to_le_bytes w32 9 ++ replicate 4 0 ++ to_le_bytes w16 into ++ to_le_bytes w16 1
    ++ to_le_bytes w64 size ++ replicate 18 0 ++ to_le_bytes w16 1 ++ replicate 4 0

-- a range of persistent memory, and a control region
abbrev region : List ℕ
region = to_le_bytes w16 0 ++ to_le_bytes w16 56 ++ to_le_bytes w16 1 ++ replicate 10 0 ++ persistent_memory ++ replicate 24 0
    ++ to_le_bytes w16 4 ++ to_le_bytes w16 32 ++ to_le_bytes w16 1 ++ replicate 26 0

abbrev table_of : ℕ → List ℕ → List ℕ
table_of said body =
    let head = codes "NFIT" ++ to_le_bytes w32 said in
    head ++ (1 ∷ (256 - sum (head ++ 1 ∷ body) % 256) % 256 ∷ replicate 30 0) ++ body

-- ---- image sets

-- a set whose modules have these objects
abbrev set_of : List ℕ → Option (List ℕ) → Option (List ℕ) → Option (List ℕ) → Images
set_of table labels contents bad Mark = Some []
set_of table labels contents bad Nfit = Some table
set_of table labels contents bad (Labels m) = labels
set_of table labels contents bad (Contents m) = contents
set_of table labels contents bad (BadRanges m) = bad

pub nothing : loading (λ _. None) ≡ Err (fault.Missing Mark)
unfolding first_fault table_fault loading
nothing = refl

pub no_table : loading (set_of (codes "NFIS") None None None) ≡ Err (fault.Nfit table_fault_of.Signature)
unfolding first_fault table_fault loading number_at said_of header_fault
no_table = refl

-- a table that names no module, and objects of a module it doesn't name
pub no_module : loading (set_of (table_of 40 []) (Some (1 ∷ [])) None None)
    ≡ Ok (record { nfit = record { modules = []; regions = [] }; nfit_bytes = table_of 40 []; labels = []; contents = []; bad = [] })
unfolding first_fault table_fault loading modules_fault mappings_fault image_set_of number_at said_of header_fault spans_from distinct_after twice_in alias_in regions_of table_reading
no_module = refl

-- a label area's size is checked before the missing contents
pub labels_first : loading (set_of (table_of 88 (mapping 0 0)) (Some (1 ∷ 2 ∷ 3 ∷ [])) None None) ≡ Err (fault.Size (Labels 0) 3)
unfolding first_fault table_fault loading modules_fault module_fault mappings_fault image_set_of number_at said_of header_fault spans_from structure_of least_length is_structure has_lines link_of distinct_after twice_in alias_in regions_of table_reading missing_of lacks_range lacks_identity lacks_lines dpa_range_of
labels_first = refl

pub no_contents : loading (set_of (table_of 88 (mapping 0 0)) None None (Some (1 ∷ []))) ≡ Err (fault.Missing (Contents 0))
unfolding first_fault table_fault loading modules_fault module_fault mappings_fault image_set_of number_at said_of header_fault spans_from structure_of least_length is_structure has_lines link_of distinct_after twice_in alias_in regions_of table_reading missing_of lacks_range lacks_identity lacks_lines dpa_range_of
no_contents = refl

-- the mapping passes the contents' end by one byte
pub past_the_end : loading (set_of (table_of 176 (mapping 1 4097 ++ region)) None (Some (replicate 4096 0)) (Some [])) ≡ Err (fault.Size (Contents 0) 4096)
unfolding first_fault table_fault loading modules_fault module_fault mappings_fault mapping_fault image_set_of number_at said_of header_fault spans_from structure_of range_structure interleave_structure control_structure least_length is_structure has_lines range_of link_of lines_of identity_of distinct_after twice_in alias_in is_alias mapping_of region_of regions_of missing_of lacks_range lacks_identity lacks_lines dpa_range_of table_reading
past_the_end = refl
