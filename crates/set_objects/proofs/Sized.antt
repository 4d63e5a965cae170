-- A set whose objects have no fault is within its limits, and all of it is read.
use Rattle.std.proofs.Common.{◌≡◌, ℕ, zero, suc, ◌+◌, ◌<◌, ◌≤◌, Bool, true, List, [], length, map, get_or, replicate, Option, Some, None, refl, sym, ap, ◌∙◌, subst, arith, inl, inr}
use Rattle.std.specs.Prelude.{nat_lt, sum, unwrap_or}
use Rattle.std.specs.Option.{option_map}
use Rattle.std.specs.List.{range_with_len}
use Rattle.std.proofs.lemmas.Bool.{cases_Bool}
use Rattle.std.proofs.lemmas.Bool.Decides.{nat_tests}
use Rattle.std.proofs.lemmas.Simd.{map-map}
use Rattle.std.proofs.lemmas.List.{ext_get_or, get_or_default, length-map, length-replicate}
use Rattle.std.proofs.lemmas.List.FromFn.{get_or-map-range_with_len, length-map-range_with_len}
use Rattle.nvd_media.specs.declared.object.Object.{Object}
use Rattle.nvd_media.specs.declared.object.Object.TheVariants as object
use Rattle.nvd_media.specs.Images.{Images, bytes_of}
use Rattle.nfit_reader.specs.declared.table.Mapping.{Mapping}
use Rattle.nfit_reader.specs.Counted.{NamesItsModules}
use Rattle.image_set.specs.declared.outline.Outline.{Outline}
use Rattle.label_index.specs.Area.{is_area_size}
use Rattle.image_set.specs.Limits.{is_bad_size, is_contents_size, most_contents}
use Rattle.image_set.specs.Load.{bytes_kept, image_set_of, mapping_fault, needed_fault, optional_fault, size_before}
use Rattle.image_set.specs.Outline.{HasContents, IsLoadable, contents_in, image_set_with}
use Rattle.image_set.specs.Sizes.{IsContentsSize}
use Rattle.image_set.specs.Sound.{IsMapped}
use Rattle.image_set.proofs.Chain.{outline_is}
use Rattle.image_set.proofs.Copied.{size_at}
use Rattle.image_set.proofs.Sized.{contents_sized}
use Rattle.set_objects.specs.declared.found.Found.{Found}
use Rattle.set_objects.specs.Found.{AreFoundIn, contents_of, found_in}
use Rattle.set_objects.specs.Objects.{bad_there, if_sized, labels_there, object_faults}
use Rattle.set_objects.proofs.Lengths.{length_or, size_more}
use Rattle.set_objects.proofs.Lists.{map_same, on_modules}
use Rattle.set_objects.proofs.Modules.{NoneAt, each_fits, none_everywhere}

-- ---- one object

needed_sized : (test : ℕ → Bool) (o : Object) (x : Option (List ℕ)) → needed_fault test o x ≡ None → test (length (unwrap_or x [])) ≡ true
needed_sized test o None is = absurd (cc)
needed_sized test o (Some bytes) is = elim (cases_Bool (test (length bytes))) [
  | inl fits ↦ fits
  | inr odd ↦ absurd (let h = rw odd at is in cc)
]

whole_there : (test : ℕ → Bool) (o : Object) (x : Option (List ℕ)) → optional_fault test o x ≡ None → if_sized test x ≡ x
whole_there test o None is = refl
whole_there test o (Some bytes) is = elim (cases_Bool (test (length bytes))) [
  | inl fits ↦ rw fits refl
  | inr odd ↦ absurd (let h = rw odd at is in cc)
]

-- ---- the sizes of contents

-- the sum of all sizes is the size before the module past the last one
sum_is : (set : Images) (sizes : List ℕ) → HasContents sizes set → sum sizes ≡ size_before set (length sizes)
sum_is set sizes has = ap sum (has ∙ map-map (λ (row : List ℕ). length row) (λ (k : ℕ). bytes_of set (object.Contents k)) (range_with_len 0 (length sizes)))

total_from : (set : Images) (n : ℕ) → ((m : ℕ) → m < n → size_before set m + length (bytes_of set (object.Contents m)) ≤ most_contents) → size_before set n ≤ most_contents
total_from set zero each = omega arith
total_from set (suc n) each =
    let more : size_before set (n + 1) ≡ size_before set n + length (bytes_of set (object.Contents n)) = size_more set n in
    let here : size_before set n + length (bytes_of set (object.Contents n)) ≤ most_contents = each n (omega arith) in
    let next : n + 1 ≡ suc n = omega arith in
    subst (λ k. size_before set k ≤ most_contents) next (subst (λ k. k ≤ most_contents) (sym more) here)

within_end : (set : Images) (sizes : List ℕ) (mapping : Mapping) → HasContents sizes set → mapping.«module» < length sizes → mapping_fault set mapping ≡ None → IsMapped sizes mapping
unfolding mapping_fault
within_end set sizes mapping has there none =
    let long : length (bytes_of set (object.Contents mapping.«module»)) ≡ get_or sizes mapping.«module» 0 = size_at sizes set mapping.«module» has there in
    elim (cases_Bool (nat_lt (length (bytes_of set (object.Contents mapping.«module»))) (mapping.start + mapping.size))) [
      | inl past ↦ absurd (let h = rw past at none in cc)
      | inr on ↦ record {
        there = there;
        inside = let le : mapping.start + mapping.size ≤ length (bytes_of set (object.Contents mapping.«module»)) = grind (arith, nat_tests) in omega arith;
      }
    ]

-- without a fault, the contents can be read later
pub loadable : (set : Images) (outline : Outline) → NamesItsModules outline.nfit → HasContents outline.sizes set → length outline.sizes ≡ length outline.nfit.modules
    → object_faults set outline.nfit ≡ [] → IsLoadable outline
loadable set outline names has count none =
    let at : (m : ℕ) → m < length outline.nfit.modules → NoneAt set outline.nfit.regions m = none_everywhere set outline.nfit none in
    let fits : (m : ℕ) → m < length outline.nfit.modules → is_contents_size (size_before set m) (length (bytes_of set (object.Contents m))) ≡ true =
    λ m lt. needed_sized (is_contents_size (size_before set m)) (object.Contents m) (set (object.Contents m)) (at m lt).contents in
    record {
      count = count;
      sized = λ k d lt.
          let inside : k < length outline.nfit.modules = omega arith in
          let s = contents_sized (size_before set k) (length (bytes_of set (object.Contents k))) (fits k inside) in
          let long : length (bytes_of set (object.Contents k)) ≡ get_or outline.sizes k d = size_at outline.sizes set k has lt ∙ get_or_default outline.sizes k 0 d lt in
          subst IsContentsSize long (record { some = s.0; multiple = s.1 });
      total = subst (λ n. n ≤ most_contents) (sym (sum_is set outline.sizes has))
          (total_from set (length outline.sizes) (λ m lt. (contents_sized (size_before set m) (length (bytes_of set (object.Contents m))) (fits m (omega arith))).2));
      mapped = λ k d lt k' d' lt'.
          let there = names.each k d lt k' d' lt' in
          within_end set outline.sizes (get_or (get_or outline.nfit.regions k d).mappings k' d') has (omega arith) (each_fits set outline.nfit names at k d lt k' d' lt');
    }

-- ---- the whole set

pub whole_set : (set : Images) (outline : Outline) → object_faults set outline.nfit ≡ [] → length outline.sizes ≡ length outline.nfit.modules → outline.nfit_bytes ≡ bytes_of set object.Nfit
    → map (option_map bytes_kept) outline.labels ≡ map (labels_there set) (range_with_len 0 (length outline.nfit.modules))
    → outline.bad ≡ map (bad_there set) (range_with_len 0 (length outline.nfit.modules))
    → image_set_with outline (contents_in set (length outline.sizes)) ≡ image_set_of set outline.nfit
whole_set set outline none count bytes labels bad =
    let at : (m : ℕ) → m < length outline.nfit.modules → NoneAt set outline.nfit.regions m = none_everywhere set outline.nfit none in
    let n = length outline.nfit.modules in
    let areas : map (labels_there set) (range_with_len 0 n) ≡ map (λ m. set (object.Labels m)) (range_with_len 0 n) =
    map_same (labels_there set) (λ m. set (object.Labels m)) (range_with_len 0 n)
    (on_modules (λ m. labels_there set m ≡ set (object.Labels m)) n (λ m lt. whole_there is_area_size (object.Labels m) (set (object.Labels m)) (at m lt).labels)) in
    let ranges : map (bad_there set) (range_with_len 0 n) ≡ map (λ m. set (object.BadRanges m)) (range_with_len 0 n) =
    map_same (bad_there set) (λ m. set (object.BadRanges m)) (range_with_len 0 n)
    (on_modules (λ m. bad_there set m ≡ set (object.BadRanges m)) n (λ m lt. whole_there is_bad_size (object.BadRanges m) (set (object.BadRanges m)) (at m lt).bad)) in
    outline_is set outline.nfit n (length outline.sizes) outline.nfit_bytes outline.labels outline.sizes outline.bad refl count bytes (labels ∙ areas) (bad ∙ ranges)

-- ---- whatever the source reveals

-- a set whose objects have these lengths
abbrev pub zeros : Option ℕ → Option (List ℕ)
zeros None = None
zeros (Some bytes) = Some (replicate bytes 0)

abbrev none_found : Found
none_found = record { labels = None; contents = None; bad = None }

abbrev pub set_with : List Found → Images
set_with found object.Mark = None
set_with found object.Nfit = None
set_with found (object.Labels m) = zeros (get_or found m none_found).labels
set_with found (object.Contents m) = zeros (get_or found m none_found).contents
set_with found (object.BadRanges m) = zeros (get_or found m none_found).bad

zeros_length : (x : Option ℕ) → option_map length (zeros x) ≡ x
zeros_length None = refl
zeros_length (Some bytes) = ap (λ n. Some n) (length-replicate bytes 0)

found_with : (found : Found) (labels contents bad : Option ℕ) → labels ≡ found.labels → contents ≡ found.contents → bad ≡ found.bad → record { labels = labels; contents = contents; bad = bad } ≡ found
found_with found labels contents bad a b d = rw (a, b, d) refl

pub found_with_them : (found : List Found) → AreFoundIn found (set_with found)
found_with_them found =
    ext_get_or none_found found (map (found_in (set_with found)) (range_with_len 0 (length found))) (sym (length-map-range_with_len (found_in (set_with found)) 0 (length found)))
    (λ m lt.
    let f : Found = get_or found m none_found in
    sym (get_or-map-range_with_len (found_in (set_with found)) 0 (length found) m m none_found lt (omega arith)
    ∙ found_with f _ _ _ (zeros_length f.labels) (zeros_length f.contents) (zeros_length f.bad)))

-- the lengths found are those of the contents
pub sizes_found : (set : Images) (found : List Found) (sizes : List ℕ) → sizes ≡ contents_of found → AreFoundIn found set → HasContents sizes set
sizes_found set found sizes is are =
    let n = length found in
    let long : length sizes ≡ length found = ap length is ∙ length-map found (λ (f : Found). unwrap_or f.contents 0) in
    is ∙ ap contents_of are
    ∙ map-map (λ (f : Found). unwrap_or f.contents 0) (found_in set) (range_with_len 0 n)
    ∙ map_same (λ m. unwrap_or (found_in set m).contents 0) (λ m. length (bytes_of set (object.Contents m))) (range_with_len 0 n) (λ k d lt. length_or (set (object.Contents (get_or (range_with_len 0 n) k d))))
    ∙ sym (map-map (λ (row : List ℕ). length row) (λ (k : ℕ). bytes_of set (object.Contents k)) (range_with_len 0 n))
    ∙ ap (λ k. map (λ (row : List ℕ). length row) (contents_in set k)) (sym long)
