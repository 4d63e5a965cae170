-- A set that loads, and its repaired set as it is saved.
use Rattle.std.proofs.Common.{◌≡◌, ℕ, ◌+◌, ◌*◌, ◌/◌, ◌<◌, Bool, true, List, [], ◌∷◌, ◌++◌, length, map, Option, Some, None, Result, Ok, Err, refl, sym, ap, ◌∙◌, subst, arith, inl, inr}
use Rattle.std.specs.Prelude.{sum, unwrap_or}
use Rattle.std.specs.Option.{option_map}
use Rattle.std.specs.List.{All, range_with_len}
use Rattle.std.proofs.Math.ListN.{get_or-map}
use Rattle.std.proofs.lemmas.Bool.{cases_Bool}
use Rattle.std.proofs.lemmas.Bool.Decides.{nat_tests}
use Rattle.std.proofs.lemmas.Simd.{map-map}
use Rattle.std.proofs.lemmas.Option.{slice_get-get_or}
use Rattle.std.proofs.lemmas.List.Elements.{All-head, All-tail}
use Rattle.std.proofs.lemmas.List.FromFn.{get_or-map-range_with_len, length-map-range_with_len}
use Rattle.nvd_words.specs.Checks.{first_fault}
use Rattle.nvd_media.specs.declared.object.Object.{Object}
use Rattle.nvd_media.specs.declared.object.Object.TheVariants as object
use Rattle.nvd_media.specs.Images.{Images, bytes_of}
use Rattle.cut_words.specs.WordBytes.{words_in}
use Rattle.cut_words.proofs.Bytes.{length_bytes}
use Rattle.nfit_reader.specs.declared.table.Nfit.{Nfit}
use Rattle.nfit_reader.specs.Counted.{NamesItsModules}
use Rattle.label_index.specs.Area.{IsAreaSize, is_area_size}
use Rattle.label_area.proofs.Filled.{count_is}
use Rattle.label_repair.specs.Repair.{repaired_words}
use Rattle.label_repair.proofs.Repaired.{repair_is_once, repaired_length}
use Rattle.image_set.specs.declared.fault.LoadFault.{LoadFault}
use Rattle.image_set.specs.Changed.{objects_of}
use Rattle.image_set.specs.Limits.{is_bad_size, is_contents_size, is_nfit_size}
use Rattle.image_set.specs.Load.{ImageSet, image_set_of, loading, needed_fault, optional_fault, size_before, table_fault}
use Rattle.set_objects.specs.Found.{found_in}
use Rattle.set_objects.specs.Objects.{bad_there, if_sized, labels_there, module_faults, object_faults, table_reading}
use Rattle.set_objects.proofs.Lengths.{found_same}
use Rattle.set_objects.proofs.Lists.{all_empty, empty_all, map_same, none_here, none_next, of_modules, on_modules}
use Rattle.set_objects.proofs.Modules.{NoneAt, loaded_is_faultless, loads, none_at}
use Rattle.set_objects.proofs.Tables.{IsOpen, loading_closed, loading_open, opened, reading_open, set_unless}
use Rattle.shell_set_check.specs.Laws.{LinesAreLoaded, RepairEndsAsCheck, RepairedLoads, SetRepairIsOnce}
use Rattle.shell_set_check.specs.Repair.{loaded_lines, repair_lines, repair_part_of, repaired_area, repaired_set, with_last_line}
use Rattle.shell_set_check.specs.Whole.{arenas_part, lines_by, outline_lines}

-- ---- a set that loads

-- its table is read, and no object has a fault
record IsLoadedFrom (set : Images) (loaded : ImageSet) : Type 0 where
  nfit : Nfit
  table : table_reading set ≡ Ok nfit
  is : loaded ≡ image_set_of set nfit
  faultless : object_faults set nfit ≡ []

set_is : (set : Images) (nfit : Nfit) (loaded : ImageSet) (f : Option LoadFault) → set_unless set nfit f ≡ Ok loaded → loaded ≡ image_set_of set nfit
set_is set nfit loaded None is = let same : image_set_of set nfit ≡ loaded = cc in sym same
set_is set nfit loaded (Some f) is = absurd (cc)

from_by : (set : Images) (loaded : ImageSet) → loading set ≡ Ok loaded → (t : Result Nfit LoadFault) → table_reading set ≡ t → IsLoadedFrom set loaded
from_by set loaded is (Ok nfit) reading = record {
  nfit = nfit;
  table = reading;
  is = set_is set nfit loaded _ (sym (loading_open set nfit reading) ∙ is);
  faultless = loaded_is_faultless set nfit loaded reading is;
}
from_by set loaded is (Err f) reading = absurd (let e = sym (loading_closed set f reading) ∙ is in cc)

loaded_from : (set : Images) (loaded : ImageSet) → loading set ≡ Ok loaded → IsLoadedFrom set loaded
loaded_from set loaded is = from_by set loaded is (table_reading set) refl

-- ---- one object

optional_sized : (test : ℕ → Bool) (o : Object) (bytes : List ℕ) → optional_fault test o (Some bytes) ≡ None → test (length bytes) ≡ true
optional_sized test o bytes is = elim (cases_Bool (test (length bytes))) [
  | inl fits ↦ fits
  | inr odd ↦ absurd (let h = rw odd at is in cc)
]

whole_there : (test : ℕ → Bool) (o : Object) (x : Option (List ℕ)) → optional_fault test o x ≡ None → if_sized test x ≡ x
whole_there test o None is = refl
whole_there test o (Some bytes) is = rw (optional_sized test o bytes is) refl

needed_there : (test : ℕ → Bool) (o : Object) (x : Option (List ℕ)) → needed_fault test o x ≡ None → x ≡ Some (unwrap_or x [])
needed_there test o None is = absurd (cc)
needed_there test o (Some bytes) is = refl

area_size : (area : ℕ) → is_area_size area ≡ true → IsAreaSize area
area_size area fits = record { multiple = grind (arith, nat_tests); low = grind (arith, nat_tests); high = grind (arith, nat_tests) }

-- ---- one label area

words_sized : (area : List ℕ) → IsAreaSize (length area) → 8 * length (words_in area) ≡ length area
words_sized area sized =
    let whole : (n : ℕ) × (length area ≡ 8 * n) = (length area / 8, omega (arith, sized.multiple)) in
    omega (arith, whole.1, count_is area whole.0 whole.1)

area_long : (area : List ℕ) → IsAreaSize (length area) → length (repaired_area area) ≡ length area
area_long area sized =
    let words = words_sized area sized in
    length_bytes (repaired_words (words_in area)) ∙ ap (λ (n : ℕ). 8 * n) (repaired_length (words_in area) (subst IsAreaSize (sym words) sized)) ∙ words

same_long : (o : Object) (area : Option (List ℕ)) → optional_fault is_area_size o area ≡ None → option_map length (option_map repaired_area area) ≡ option_map length area
same_long o None is = refl
same_long o (Some area) is = ap (λ (n : ℕ). Some n) (area_long area (area_size (length area) (optional_sized is_area_size o area is)))

part_none : (o : Object) (area : Option (List ℕ)) (m : ℕ) → optional_fault is_area_size o area ≡ None → repair_part_of m (option_map repaired_area area) ≡ []
part_none o None m is = refl
part_none o (Some area) m is =
    let sized = area_size (length area) (optional_sized is_area_size o area is) in
    rw (repair_is_once (words_in area) (subst IsAreaSize (sym (words_sized area sized)) sized)) refl

-- ---- all modules

module _ (set : Images) (nfit : Nfit) (table : table_reading set ≡ Ok nfit) (none : object_faults set nfit ≡ []) where
  abbrev modules : List ℕ
  modules = range_with_len 0 (length nfit.modules)

  faults_at : (m : ℕ) → m < length nfit.modules → module_faults set nfit.regions m ≡ []
  unfolding object_faults
  faults_at m lt = of_modules (λ k. module_faults set nfit.regions k ≡ []) (length nfit.modules) (empty_all (module_faults set nfit.regions) modules none) m lt

  at : (m : ℕ) → m < length nfit.modules → NoneAt set nfit.regions m
  at m lt = none_at set nfit.regions m (faults_at m lt)

  same_each : {B : Type 0} (f g : ℕ → B) → ((m : ℕ) → m < length nfit.modules → f m ≡ g m) → map f modules ≡ map g modules
  same_each f g each = map_same f g modules (on_modules (λ m. f m ≡ g m) (length nfit.modules) each)

  areas : map (labels_there set) modules ≡ map (λ m. set (object.Labels m)) modules
  areas = same_each (labels_there set) (λ m. set (object.Labels m)) (λ m lt. whole_there is_area_size (object.Labels m) (set (object.Labels m)) (at m lt).labels)

  ranges : map (bad_there set) modules ≡ map (λ m. set (object.BadRanges m)) modules
  ranges = same_each (bad_there set) (λ m. set (object.BadRanges m)) (λ m lt. whole_there is_bad_size (object.BadRanges m) (set (object.BadRanges m)) (at m lt).bad)

  lines_loaded : loading set ≡ Ok (image_set_of set nfit) → lines_by set (table_reading set) ≡ loaded_lines (image_set_of set nfit)
  unfolding image_set_of
  lines_loaded is = ap (lines_by set) table ∙ (λ i. outline_lines nfit (none i) (areas i) (ranges i) ++ arenas_part (is i))

  -- ---- the repaired set, as it is saved

  abbrev loaded : ImageSet
  loaded = image_set_of set nfit

  abbrev saved : Images
  saved = objects_of (repaired_set loaded)

  labels_at : (m : ℕ) → m < length nfit.modules → saved (object.Labels m) ≡ option_map repaired_area (set (object.Labels m))
  unfolding objects_of image_set_of
  labels_at m lt =
      get_or-map (option_map repaired_area) (map (λ k. set (object.Labels k)) modules) m None
      ∙ ap (option_map repaired_area) (get_or-map-range_with_len (λ k. set (object.Labels k)) 0 (length nfit.modules) m m None lt (omega arith))

  contents_at : (m : ℕ) → m < length nfit.modules → saved (object.Contents m) ≡ set (object.Contents m)
  unfolding objects_of image_set_of
  contents_at m lt =
      let f : ℕ → List ℕ = λ k. bytes_of set (object.Contents k) in
      slice_get-get_or (map f modules) m [] (omega (arith, lt, length-map-range_with_len f 0 (length nfit.modules)))
      ∙ ap (λ (bytes : List ℕ). Some bytes) (get_or-map-range_with_len f 0 (length nfit.modules) m m [] lt (omega arith))
      ∙ sym (needed_there (is_contents_size (size_before set m)) (object.Contents m) (set (object.Contents m)) (at m lt).contents)

  bad_at : (m : ℕ) → m < length nfit.modules → saved (object.BadRanges m) ≡ set (object.BadRanges m)
  unfolding objects_of image_set_of
  bad_at m lt = get_or-map-range_with_len (λ k. set (object.BadRanges k)) 0 (length nfit.modules) m m None lt (omega arith)

  -- the lengths are those of the set that was loaded
  found_at : (m : ℕ) → m < length nfit.modules → found_in set m ≡ found_in saved m
  found_at m lt = λ i. record {
    labels = sym (ap (option_map length) (labels_at m lt) ∙ same_long (object.Labels m) (set (object.Labels m)) (at m lt).labels) i;
    contents = option_map length (sym (contents_at m lt) i);
    bad = option_map length (sym (bad_at m lt) i);
  }

  before_at : (m : ℕ) → m < length nfit.modules → size_before set m ≡ size_before saved m
  before_at m lt =
      ap sum (map_same (λ k. length (bytes_of set (object.Contents k))) (λ k. length (bytes_of saved (object.Contents k))) (range_with_len 0 m)
      (on_modules (λ k. length (bytes_of set (object.Contents k)) ≡ length (bytes_of saved (object.Contents k))) m
      (λ k low. ap (λ (x : Option (List ℕ)). length (unwrap_or x [])) (sym (contents_at k (omega (arith, low, lt)))))))

  -- so no object has a fault
  saved_at : (m : ℕ) → m < length nfit.modules → module_faults saved nfit.regions m ≡ []
  saved_at m lt =
      sym (found_same saved nfit.regions m (size_before set m) (found_in set m) (found_at m lt) (before_at m lt))
      ∙ found_same set nfit.regions m (size_before set m) (found_in set m) refl refl ∙ faults_at m lt

  saved_faultless : object_faults saved nfit ≡ []
  unfolding object_faults
  saved_faultless = all_empty (module_faults saved nfit.regions) modules (on_modules (λ m. module_faults saved nfit.regions m ≡ []) (length nfit.modules) saved_at)

  nfit_there : (x : Option (List ℕ)) → needed_fault is_nfit_size object.Nfit x ≡ None → needed_fault is_nfit_size object.Nfit (Some (unwrap_or x [])) ≡ None
  nfit_there None is = absurd (cc)
  nfit_there (Some bytes) is = is

  saved_open : IsOpen saved nfit
  unfolding table_fault first_fault objects_of image_set_of
  saved_open =
      let was = opened set nfit table in
      let marked : Option LoadFault = needed_fault (λ _. true) object.Mark (set object.Mark) in
      let sized : Option LoadFault = needed_fault is_nfit_size object.Nfit (set object.Nfit) in
      let now : Option LoadFault = needed_fault is_nfit_size object.Nfit (Some (bytes_of set object.Nfit)) in
      let there = none_here sized [] (none_here marked (sized ∷ []) was.none).1 in
      record { none = none_next None (now ∷ []) refl ∙ none_next now [] (nfit_there (set object.Nfit) there.0); reading = was.reading }

  saved_is : image_set_of saved nfit ≡ repaired_set loaded
  unfolding objects_of image_set_of
  saved_is = λ i. record {
    nfit = nfit;
    nfit_bytes = bytes_of set object.Nfit;
    labels = (same_each (λ m. saved (object.Labels m)) (λ m. option_map repaired_area (set (object.Labels m))) labels_at ∙ sym (map-map (option_map repaired_area) (λ m. set (object.Labels m)) modules)) i;
    contents = same_each (λ m. bytes_of saved (object.Contents m)) (λ m. bytes_of set (object.Contents m)) (λ m lt. ap (λ (x : Option (List ℕ)). unwrap_or x []) (contents_at m lt)) i;
    bad = same_each (λ m. saved (object.BadRanges m)) (λ m. set (object.BadRanges m)) bad_at i;
  }

  saved_loads : NamesItsModules nfit → loading saved ≡ Ok (repaired_set loaded)
  saved_loads names = loads saved nfit (reading_open saved nfit saved_open) names saved_faultless ∙ ap (λ (s : ImageSet). Ok s) saved_is

  -- ---- nothing to repair

  none_from : (f : ℕ → Option (List ℕ)) (ms : List ℕ) (m : ℕ) → All (λ k. optional_fault is_area_size (object.Labels k) (f k) ≡ None) ms → repair_lines m (map (option_map repaired_area) (map f ms)) ≡ []
  none_from f [] m all = refl
  none_from f (k ∷ ks) m all =
      let P : ℕ → Type 0 = λ j. optional_fault is_area_size (object.Labels j) (f j) ≡ None in
      λ i. part_none (object.Labels k) (f k) m (All-head P k ks all) i ++ none_from f ks (m + 1) (All-tail P k ks all) i

  repaired_once : repair_lines 0 (repaired_set loaded).labels ≡ []
  unfolding image_set_of
  repaired_once =
      none_from (λ m. set (object.Labels m)) modules 0
      (on_modules (λ m. optional_fault is_area_size (object.Labels m) (set (object.Labels m)) ≡ None) (length nfit.modules) (λ m lt. (at m lt).labels))

-- ---- the laws

pub lines_are_loaded : LinesAreLoaded
lines_are_loaded set loaded is =
    let from = loaded_from set loaded is in
    lines_loaded set from.nfit from.table from.faultless (is ∙ ap (λ (s : ImageSet). Ok s) from.is) ∙ ap loaded_lines (sym from.is)

pub repaired_loads : RepairedLoads
unfolding image_set_of
repaired_loads set loaded names is =
    let from = loaded_from set loaded is in
    subst (λ (s : ImageSet). loading (objects_of (repaired_set s)) ≡ Ok (repaired_set s)) (sym from.is)
    (saved_loads set from.nfit from.table from.faultless (subst (λ (s : ImageSet). NamesItsModules s.nfit) from.is names))

pub repair_ends_as_check : RepairEndsAsCheck
repair_ends_as_check set loaded names is =
    ap (λ (lines : List ℕ). repair_lines 0 loaded.labels ++ with_last_line lines)
    (sym (lines_are_loaded (objects_of (repaired_set loaded)) (repaired_set loaded) (repaired_loads set loaded names is)))

pub set_repair_is_once : SetRepairIsOnce
set_repair_is_once set loaded is =
    let from = loaded_from set loaded is in
    subst (λ (s : ImageSet). repair_lines 0 (repaired_set s).labels ≡ []) (sym from.is) (repaired_once set from.nfit from.table from.faultless)
