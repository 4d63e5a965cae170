-- Worked examples, computed on the definitions.
use Rattle.std.proofs.Common.{◌≡◌, ℕ, [], ◌∷◌, Some, None, Err, replicate, refl}
use Rattle.std.specs.Prelude.{◌==◌, if◌then◌else◌}
use Rattle.nvd_words.specs.Checks.{first_fault}
use Rattle.nvd_media.specs.declared.object.Object.TheVariants.{Mark, Nfit, Labels, Contents, BadRanges}
use Rattle.nvd_media.specs.Images.{Images}
use Rattle.nfit_reader.specs.declared.table.Mapping.{Mapping}
use Rattle.nfit_reader.specs.declared.table.Nfit.{Nfit as Table}
use Rattle.image_set.specs.declared.fault.LoadFault.TheVariants as fault
use Rattle.image_set.specs.Load.{mapping_fault, table_fault}
use Rattle.set_objects.specs.Objects.{bad_there, contents_fault, faults_in, labels_there, mappings_fault_on, module_faults, object_faults, table_reading}

-- a mapping of 8,192 bytes of a module from address 0 on
abbrev mapping : ℕ → Mapping
mapping m = record {
  «module» = m;
  size = 8192;
  offset = 0;
  start = 0;
  ways = 1;
  lines = None;
  identity = record { vendor = 0; date = 0; location = 0; serial = 0 };
}

-- two modules, each in a region of its own
abbrev two_modules : Table
two_modules = record {
  modules = 9 ∷ 4 ∷ [];
  regions = record { index = 1; base = 0; length = 8192; mappings = mapping 0 ∷ [] } ∷ record { index = 2; base = 8192; length = 8192; mappings = mapping 1 ∷ [] } ∷ [];
}

-- the label area of module 0 is too short, and a mapping passes the end of its contents; those of module 1 are missing, and its list of
-- bad ranges isn't a multiple of 16
abbrev broken : Images
broken Mark = Some []
broken Nfit = None
broken (Labels m) = if m == 0 then Some (1 ∷ 2 ∷ 3 ∷ []) else None
broken (Contents m) = if m == 0 then Some (replicate 4096 0) else None
broken (BadRanges m) = if m == 0 then Some (replicate 16 5) else Some (1 ∷ [])

pub four_faults : object_faults broken two_modules
    ≡ fault.Size (Labels 0) 3 ∷ fault.Size (Contents 0) 4096 ∷ fault.Missing (Contents 1) ∷ fault.Size (BadRanges 1) 1 ∷ []
unfolding object_faults module_faults faults_in contents_fault mappings_fault_on mapping_fault first_fault
four_faults = refl

pub no_area : labels_there broken 0 ≡ None
no_area = refl

pub one_list : bad_there broken 0 ≡ Some (replicate 16 5)
one_list = refl

pub nothing : table_reading (λ _. None) ≡ Err (fault.Missing Mark)
unfolding table_reading table_fault first_fault
nothing = refl

pub no_table : table_reading broken ≡ Err (fault.Missing Nfit)
unfolding table_reading table_fault first_fault
no_table = refl
