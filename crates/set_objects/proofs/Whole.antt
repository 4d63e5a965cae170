-- What is read of a set whose table is read.
use Rattle.std.proofs.Common.{◌≡◌, ℕ, List, [], length, map, Ok, sym, ap, ◌∙◌, subst, arith}
use Rattle.std.specs.Prelude.{unwrap_or}
use Rattle.std.specs.Option.{option_map}
use Rattle.std.specs.List.{All, flat_map, range_with_len}
use Rattle.std.proofs.lemmas.List.{length-map}
use Rattle.nvd_media.specs.Images.{Images}
use Rattle.nfit_reader.specs.declared.table.Nfit.{Nfit}
use Rattle.nfit_reader.specs.declared.table.Region.{Region}
use Rattle.image_set.specs.declared.fault.LoadFault.{LoadFault}
use Rattle.image_set.specs.Load.{bytes_kept}
use Rattle.image_set.specs.Sound.{IsArea}
use Rattle.set_objects.specs.declared.found.Found.{Found}
use Rattle.set_objects.specs.declared.objects.SetRead.{SetRead}
use Rattle.set_objects.specs.Found.{AreFoundIn, contents_of, found_in}
use Rattle.set_objects.specs.Objects.{bad_there, labels_there, module_faults, object_faults}
use Rattle.set_objects.specs.Read.{IsFinding, IsSetRead, ReadsSet}
use Rattle.set_objects.specs.Table.{IsTable, IsTableOf}
use Rattle.set_objects.proofs.Findings.{findings}
use Rattle.set_objects.proofs.Modules.{loads}
use Rattle.set_objects.proofs.Sized.{found_with_them, loadable, set_with, sizes_found, whole_set}

-- the faults follow from the lengths, whatever set has them
abbrev pub AreFaultsOf : List Region → List Found → List LoadFault → Type 0
AreFaultsOf regions found faults = (set : Images) → AreFoundIn found set → faults ≡ flat_map (module_faults set regions) (range_with_len 0 (length found))

pub found_told : (set : Images) (found : List Found) (count : ℕ) → found ≡ map (found_in set) (range_with_len 0 count) → length found ≡ count → AreFoundIn found set
found_told set found count told is = told ∙ ap (λ n. map (found_in set) (range_with_len 0 n)) (sym is)

faults_are : (set : Images) (nfit : Nfit) (found : List Found) (faults : List LoadFault) → AreFaultsOf nfit.regions found faults → length found ≡ length nfit.modules → AreFoundIn found set → faults ≡ object_faults set nfit
unfolding object_faults
faults_are set nfit found faults are count there =
    are set there ∙ ap (λ n. flat_map (module_faults set nfit.regions) (range_with_len 0 n)) count

sizes_count : (found : List Found) (sizes : List ℕ) → sizes ≡ contents_of found → length sizes ≡ length found
sizes_count found sizes is = ap length is ∙ length-map found (λ (f : Found). unwrap_or f.contents 0)

pub reads_set : (set : Images) (found : List Found) (read : SetRead) → IsTable (record { nfit = read.outline.nfit; bytes = read.outline.nfit_bytes })
    → IsTableOf (record { nfit = read.outline.nfit; bytes = read.outline.nfit_bytes }) set
    → AreFoundIn found set → length found ≡ length read.outline.nfit.modules → AreFaultsOf read.outline.nfit.regions found read.faults → read.outline.sizes ≡ contents_of found
    → map (option_map bytes_kept) read.outline.labels ≡ map (labels_there set) (range_with_len 0 (length found))
    → read.outline.bad ≡ map (bad_there set) (range_with_len 0 (length found))
    → ReadsSet read set
reads_set set found read table of_set there count are sizes labels bad =
    let faults : read.faults ≡ object_faults set read.outline.nfit = faults_are set read.outline.nfit found read.faults are count there in
    let areas : map (option_map bytes_kept) read.outline.labels ≡ map (labels_there set) (range_with_len 0 (length read.outline.nfit.modules)) =
    labels ∙ ap (λ n. map (labels_there set) (range_with_len 0 n)) count in
    let ranges : read.outline.bad ≡ map (bad_there set) (range_with_len 0 (length read.outline.nfit.modules)) =
    bad ∙ ap (λ n. map (bad_there set) (range_with_len 0 n)) count in
    record {
      table = of_set.reading;
      bytes = of_set.bytes;
      labels = areas;
      bad = ranges;
      sizes = sizes_found set found read.outline.sizes sizes there;
      faults = faults;
      whole = λ none.
          let no_faults : object_faults set read.outline.nfit ≡ [] = sym faults ∙ none in
          loads set read.outline.nfit of_set.reading table.modules no_faults
          ∙ ap (λ s. Ok s) (sym (whole_set set read.outline no_faults (sizes_count found read.outline.sizes sizes ∙ count) of_set.bytes areas ranges));
    }

pub set_is_read : (found : List Found) (read : SetRead) → IsTable (record { nfit = read.outline.nfit; bytes = read.outline.nfit_bytes })
    → length found ≡ length read.outline.nfit.modules → AreFaultsOf read.outline.nfit.regions found read.faults → read.outline.sizes ≡ contents_of found
    → length read.outline.labels ≡ length found → All IsArea read.outline.labels → length read.outline.bad ≡ length found
    → IsSetRead read
set_is_read found read table count are sizes labels areas bad =
    let set : Images = set_with found in
    let there : AreFoundIn found set = found_with_them found in
    let long : length read.outline.sizes ≡ length found = sizes_count found read.outline.sizes sizes in
    record {
      outlined = record {
        table = table.reading;
        counted = table.counted;
        regions = table.few;
        labels = labels ∙ sym long;
        bad = bad ∙ sym long;
        few = let f = table.modules.few in omega arith;
        areas = areas;
      };
      count = long ∙ count;
      findings = subst (All IsFinding) (sym (are set there)) (findings set read.outline.nfit.regions (range_with_len 0 (length found)));
      loadable = λ none.
          loadable set read.outline table.modules (sizes_found set found read.outline.sizes sizes there) (long ∙ count)
          (sym (faults_are set read.outline.nfit found read.faults are count there) ∙ none);
    }
