-- The faults of a module's objects from their lengths.
use Rattle.std.proofs.Common.{◌≡◌, ℕ, ◌+◌, ◌<◌, ◌++◌, Bool, true, false, List, [], ◌∷◌, length, map, get_or, Option, Some, None, refl, sym, ap, ◌∙◌, arith, inl, inr}
use Rattle.std.specs.Prelude.{◌==◌, nat_lt, ◌&&◌, if◌then◌else◌, not, unwrap_or, sum}
use Rattle.std.specs.Option.{option_map}
use Rattle.std.specs.List.{flat_map, range_with_len}
use Rattle.std.proofs.lemmas.Bool.{cases_Bool}
use Rattle.std.proofs.lemmas.Bool.Decides.{nat_tests}
use Rattle.std.proofs.lemmas.Grind.{flat_map-append}
use Rattle.std.proofs.lemmas.List.{append-nil}
use Rattle.std.proofs.lemmas.List.FromFn.{get_or-map-range_with_len, map-range_with_len_more}
use Rattle.std.proofs.lemmas.List.Sums.{sum_by-append}
use Rattle.nvd_words.specs.Checks.{first_fault, fault_if}
use Rattle.nvd_media.specs.declared.object.Object.{Object}
use Rattle.nvd_media.specs.declared.object.Object.TheVariants as object
use Rattle.nvd_media.specs.Images.{Images, bytes_of}
use Rattle.nfit_reader.specs.declared.table.Region.{Region}
use Rattle.nfit_reader.specs.declared.table.Mapping.{Mapping}
use Rattle.label_index.specs.Area.{is_area_size}
use Rattle.image_set.specs.declared.fault.LoadFault.{LoadFault}
use Rattle.image_set.specs.declared.fault.LoadFault.TheVariants as fault
use Rattle.image_set.specs.Limits.{is_bad_size, is_contents_size}
use Rattle.image_set.specs.Load.{mapping_fault, needed_fault, optional_fault, size_before}
use Rattle.set_objects.specs.declared.found.Found.{Found}
use Rattle.set_objects.specs.Found.{AreFoundIn, contents_length_fault, end_fault, found_faults, found_in, length_fault, region_end_fault, regions_end_fault}
use Rattle.set_objects.specs.Objects.{contents_fault, faults_in, mapping_fault_on, mappings_fault_on, module_faults}
use Rattle.set_objects.proofs.Lists.{map_same}

-- ---- one object

pub by_length : (test : ℕ → Bool) (o : Object) (x : Option (List ℕ)) → length_fault test o (option_map length x) ≡ optional_fault test o x
by_length test o None = refl
by_length test o (Some bytes) = refl

-- ---- mappings

end_at : (set : Images) (m k total bytes : ℕ) → bytes ≡ length (bytes_of set (object.Contents m))
    → fault_if ((k == m) && nat_lt bytes total) (fault.Size (object.Contents m) bytes)
    ≡ (if k == m then fault_if (nat_lt (length (bytes_of set (object.Contents k))) total) (fault.Size (object.Contents k) (length (bytes_of set (object.Contents k)))) else None)
end_at set m k total bytes is = elim (cases_Bool (k == m)) [
  | inl same ↦ rw same (let e : k ≡ m = grind (arith, nat_tests) in rw e (rw (← is) refl))
  | inr other ↦ rw other refl
]

end_same : (set : Images) (m bytes : ℕ) (mapping : Mapping) → bytes ≡ length (bytes_of set (object.Contents m)) → end_fault m bytes mapping ≡ mapping_fault_on set m mapping
unfolding mapping_fault
end_same set m bytes mapping is = end_at set m mapping.«module» (mapping.start + mapping.size) bytes is

pub ends_same : (set : Images) (m bytes : ℕ) (regions : List Region) → bytes ≡ length (bytes_of set (object.Contents m)) → regions_end_fault m bytes regions ≡ mappings_fault_on set regions m
unfolding mappings_fault_on
ends_same set m bytes regions is =
    ap first_fault (map_same (λ (region : Region). region_end_fault m bytes region.mappings) (λ region. first_fault (map (mapping_fault_on set m) region.mappings)) regions
    (λ k d lt. ap first_fault (map_same (end_fault m bytes) (mapping_fault_on set m) (get_or regions k d).mappings (λ k' d' lt'. end_same set m bytes _ is))))

-- ---- contents

contents_by : (set : Images) (regions : List Region) (m before : ℕ) (x : Option (List ℕ)) → set (object.Contents m) ≡ x
    → contents_length_fault regions m before (option_map length x) ≡ first_fault (needed_fault (is_contents_size before) (object.Contents m) x ∷ mappings_fault_on set regions m ∷ [])
unfolding first_fault
contents_by set regions m before None is = refl
contents_by set regions m before (Some bytes) is =
    ap (λ o. first_fault (fault_if (not (is_contents_size before (length bytes))) (fault.Size (object.Contents m) (length bytes)) ∷ o ∷ []))
    (ends_same set m (length bytes) regions (ap (λ (y : Option (List ℕ)). length (unwrap_or y [])) (sym is)))

alone : (o : Option LoadFault) → first_fault (o ∷ []) ≡ o
unfolding first_fault
alone None = refl
alone (Some f) = refl

pub contents_fit : (regions : List Region) (m before n : ℕ) (found : Option ℕ) (o : Option LoadFault) → found ≡ Some n → is_contents_size before n ≡ true → o ≡ regions_end_fault m n regions
    → o ≡ contents_length_fault regions m before found
unfolding first_fault
contents_fit regions m before n found o is fits same = rw (is, fits) (same ∙ sym (alone (regions_end_fault m n regions)))

pub contents_odd : (regions : List Region) (m before n n' : ℕ) (found : Option ℕ) → found ≡ Some n → found ≡ Some n' → is_contents_size before n ≡ false
    → Some (fault.Size (object.Contents m) n') ≡ contents_length_fault regions m before found
unfolding first_fault
contents_odd regions m before n n' found is is' odd =
    let same : n' ≡ n = let e = sym is' ∙ is in cc in
    rw (is, odd) (ap (λ k. Some (fault.Size (object.Contents m) k)) same)

-- ---- a module

pub found_same : (set : Images) (regions : List Region) (m before : ℕ) (found : Found) → found ≡ found_in set m → before ≡ size_before set m
    → found_faults regions m before found ≡ module_faults set regions m
unfolding module_faults contents_fault
found_same set regions m before found is sum =
    ap (found_faults regions m before) is
    ∙ ap (λ b. found_faults regions m b (found_in set m)) sum
    ∙ ap (λ o. faults_in (o ∷ contents_length_fault regions m (size_before set m) (option_map length (set (object.Contents m))) ∷ length_fault is_bad_size (object.BadRanges m) (option_map length (set (object.BadRanges m))) ∷ []))
    (by_length is_area_size (object.Labels m) (set (object.Labels m)))
    ∙ ap (λ o. faults_in (optional_fault is_area_size (object.Labels m) (set (object.Labels m)) ∷ o ∷ length_fault is_bad_size (object.BadRanges m) (option_map length (set (object.BadRanges m))) ∷ []))
    (contents_by set regions m (size_before set m) (set (object.Contents m)) refl)
    ∙ ap (λ o. faults_in (optional_fault is_area_size (object.Labels m) (set (object.Labels m))
    ∷ first_fault (needed_fault (is_contents_size (size_before set m)) (object.Contents m) (set (object.Contents m)) ∷ mappings_fault_on set regions m ∷ []) ∷ o ∷ []))
    (by_length is_bad_size (object.BadRanges m) (set (object.BadRanges m)))

-- the lengths of a module
pub found_at : (set : Images) (found : List Found) (m : ℕ) (d : Found) → AreFoundIn found set → m < length found → get_or found m d ≡ found_in set m
found_at set found m d are lt =
    ap (λ (xs : List Found). get_or xs m d) are ∙ get_or-map-range_with_len (found_in set) 0 (length found) m m d lt (omega arith)

-- ---- module by module

map_id : (xs : List ℕ) → map (λ x. x) xs ≡ xs
map_id [] = refl
map_id (x ∷ xs) = ap (λ ys. x ∷ ys) (map_id xs)

pub flat_more : {B : Type 0} (f : ℕ → List B) (m : ℕ) → flat_map f (range_with_len 0 (m + 1)) ≡ flat_map f (range_with_len 0 m) ++ f m
flat_more f m =
    ap (flat_map f) (sym (map_id (range_with_len 0 (m + 1))) ∙ map-range_with_len_more (λ (k : ℕ). k) 0 m m (omega arith) ∙ ap (λ (xs : List ℕ). xs ++ m ∷ []) (map_id (range_with_len 0 m)))
    ∙ flat_map-append f (range_with_len 0 m) (m ∷ []) ∙ ap (λ ys. flat_map f (range_with_len 0 m) ++ ys) (append-nil (f m))

sum_more : (xs : List ℕ) (x : ℕ) → sum (xs ++ x ∷ []) ≡ sum xs + x
sum_more xs x = sum_by-append (λ (y : ℕ). y) xs (x ∷ []) ∙ omega arith

pub size_more : (set : Images) (m : ℕ) → size_before set (m + 1) ≡ size_before set m + length (bytes_of set (object.Contents m))
size_more set m =
    ap sum (map-range_with_len_more (λ k. length (bytes_of set (object.Contents k))) 0 m m (omega arith))
    ∙ sum_more (map (λ k. length (bytes_of set (object.Contents k))) (range_with_len 0 m)) (length (bytes_of set (object.Contents m)))

pub length_or : (x : Option (List ℕ)) → unwrap_or (option_map length x) 0 ≡ length (unwrap_or x [])
length_or None = refl
length_or (Some bytes) = refl

-- the faults of the first modules, and the size of their contents
pub record AreCounted (regions : List Region) (set : Images) (list : List LoadFault) (before m : ℕ) : Type 0 where
  pub faults : list ≡ flat_map (module_faults set regions) (range_with_len 0 m)
  pub size : before ≡ size_before set m

pub counted_none : (regions : List Region) (set : Images) → AreCounted regions set [] 0 0
counted_none regions set = record { faults = refl; size = refl }

pub counted_more : (regions : List Region) (set : Images) (faults more : List LoadFault) (before m bytes : ℕ) (found : Found) → AreCounted regions set faults before m → found ≡ found_in set m
    → more ≡ faults ++ found_faults regions m before found → bytes ≡ unwrap_or found.contents 0 → AreCounted regions set more (before + bytes) (m + 1)
counted_more regions set faults more before m bytes found so_far is added long = record {
  faults = added ∙ ap (λ front. front ++ found_faults regions m before found) so_far.faults
      ∙ ap (λ back. flat_map (module_faults set regions) (range_with_len 0 m) ++ back) (found_same set regions m before found is so_far.size)
      ∙ sym (flat_more (module_faults set regions) m);
  size = ap (λ b. b + bytes) so_far.size
      ∙ ap (λ n. size_before set m + n) (long ∙ ap (λ (f : Found). unwrap_or f.contents 0) is ∙ length_or (set (object.Contents m)))
      ∙ sym (size_more set m);
}
