-- Mappings and the ends of contents.
use Rattle.std.proofs.Common.{◌≡◌, ℕ, ◌+◌, ◌<◌, ◌≤◌, List, [], ◌∷◌, length, map, get_or, Option, Some, None, refl, sym, ap, ◌∙◌, arith, inl, inr}
use Rattle.std.specs.Prelude.{nat_lt}
use Rattle.std.specs.List.{All, range_with_len}
use Rattle.std.proofs.lemmas.Bool.{cases_Bool}
use Rattle.std.proofs.lemmas.Bool.Decides.{nat_tests}
use Rattle.std.proofs.lemmas.List.{get_or-map, length-map}
use Rattle.std.proofs.lemmas.List.Elements.{All-nil, All-cons, All-head, All-tail}
use Rattle.std.proofs.lemmas.List.FromFn.{get_or-map-range_with_len}
use Rattle.nvd_words.specs.Checks.{first_fault}
use Rattle.nvd_words.proofs.Checks.{fault_if-true, fault_if-false}
use Rattle.nvd_media.specs.declared.object.Object.TheVariants as object
use Rattle.nvd_media.specs.Images.{Images, bytes_of}
use Rattle.nfit_reader.specs.declared.table.Mapping.{Mapping}
use Rattle.nfit_reader.specs.declared.table.Nfit.{Nfit}
use Rattle.nfit_reader.specs.declared.table.Region.{Region}
use Rattle.nfit_reader.specs.Counted.{NamesItsModules}
use Rattle.image_set.specs.declared.fault.LoadFault.{LoadFault}
use Rattle.image_set.specs.declared.fault.LoadFault.TheVariants as fault
use Rattle.image_set.specs.declared.sizes.Sizes.{Sizes}
use Rattle.image_set.specs.Load.{mapping_fault, mappings_fault}
use Rattle.image_set.specs.Sizes.{sizes_of, AreSizesOf, contents_of, mapping_fault_by, region_fault_by, mappings_fault_by}
use Rattle.image_set.specs.Sound.{IsMapped, AreMapped}
use Rattle.image_set.proofs.Counting.{contents_by}

pub contents_at : (sizes : List Sizes) (m : ℕ) (d : Sizes) → m < length sizes → (get_or sizes m d).contents ≡ get_or (contents_of sizes) m 0
contents_at sizes m d lt = sym (get_or-map (λ (s : Sizes). s.contents) sizes m d 0 lt)

pub passes : (sizes : List Sizes) (m : Mapping) (bytes : ℕ) → bytes ≡ get_or (contents_of sizes) m.«module» 0 → bytes < m.start + m.size
    → Some (fault.Size (object.Contents m.«module») bytes) ≡ mapping_fault_by (contents_of sizes) m
unfolding mapping_fault_by
passes sizes m bytes is lt = rw (← is) (sym (fault_if-true (nat_lt bytes (m.start + m.size)) _ (grind (arith, nat_tests))))

pub inside : (sizes : List Sizes) (m : Mapping) (bytes : ℕ) → bytes ≡ get_or (contents_of sizes) m.«module» 0 → m.start + m.size ≤ bytes
    → None ≡ mapping_fault_by (contents_of sizes) m
unfolding mapping_fault_by
inside sizes m bytes is le = rw (← is) (sym (fault_if-false (nat_lt bytes (m.start + m.size)) _ (grind (arith, nat_tests))))

-- ---- all mappings

none_here : (o : Option LoadFault) (faults : List (Option LoadFault)) → first_fault (o ∷ faults) ≡ None → (o ≡ None) × (first_fault faults ≡ None)
unfolding first_fault
none_here None faults is = (refl, is)
none_here (Some f) faults is = absurd (cc)

-- if no fault is found, no item has one
none_all : {A : Type 0} (f : A → Option LoadFault) (xs : List A) → first_fault (map f xs) ≡ None → All (λ x. f x ≡ None) xs
none_all f [] is = All-nil (λ x. f x ≡ None)
none_all f (x ∷ xs) is = let p = none_here (f x) (map f xs) is in All-cons (λ y. f y ≡ None) x xs p.0 (none_all f xs p.1)

within_end : (sizes : List ℕ) (m : Mapping) → m.«module» < length sizes → mapping_fault_by sizes m ≡ None → IsMapped sizes m
unfolding mapping_fault_by
within_end sizes m there none = elim (cases_Bool (nat_lt (get_or sizes m.«module» 0) (m.start + m.size))) [
  | inl past ↦ absurd (let h = rw past at none in cc)
  | inr on ↦ record { there = there; inside = grind (arith, nat_tests) }
]

pub all_mapped : (sizes : List Sizes) (nfit : Nfit) → NamesItsModules nfit → length sizes ≡ length nfit.modules → None ≡ mappings_fault_by (contents_of sizes) nfit.regions
    → All (AreMapped (contents_of sizes)) nfit.regions
all_mapped sizes nfit names count none k d lt k' d' lt' =
    let there = names.each k d lt k' d' lt' in
    let len : length (contents_of sizes) ≡ length sizes = length-map sizes (λ (s : Sizes). s.contents) in
    let in_region = none_all (λ (region : Region). region_fault_by (contents_of sizes) region.mappings) nfit.regions (sym none) k d lt in
    within_end (contents_of sizes) (get_or (get_or nfit.regions k d).mappings k' d') (omega arith)
    (none_all (mapping_fault_by (contents_of sizes)) (get_or nfit.regions k d).mappings in_region k' d' lt')

-- ---- the sizes of a set

map_same : {A B : Type 0} (f g : A → B) (xs : List A) → All (λ x. f x ≡ g x) xs → map f xs ≡ map g xs
map_same f g [] all = refl
map_same f g (x ∷ xs) all =
    ap (λ y. y ∷ map f xs) (All-head (λ y. f y ≡ g y) x xs all) ∙ ap (λ ys. g x ∷ ys) (map_same f g xs (All-tail (λ y. f y ≡ g y) x xs all))

size_in : (set : Images) (sizes : List Sizes) (m : ℕ) → AreSizesOf set sizes → m < length sizes → get_or (contents_of sizes) m 0 ≡ length (bytes_of set (object.Contents m))
size_in set sizes m are lt =
    ap (λ (xs : List Sizes). get_or (contents_of xs) m 0) are ∙ ap (λ (xs : List ℕ). get_or xs m 0) (contents_by set (range_with_len 0 (length sizes)))
    ∙ get_or-map-range_with_len (λ (k : ℕ). length (bytes_of set (object.Contents k))) 0 (length sizes) m m 0 lt (omega arith)

same_fault : (set : Images) (sizes : List Sizes) (m : Mapping) → AreSizesOf set sizes → m.«module» < length sizes → mapping_fault_by (contents_of sizes) m ≡ mapping_fault set m
unfolding mapping_fault_by mapping_fault
same_fault set sizes m are lt = rw (size_in set sizes m.«module» are lt) refl

pub same_faults : (set : Images) (sizes : List Sizes) (nfit : Nfit) → AreSizesOf set sizes → NamesItsModules nfit → length sizes ≡ length nfit.modules
    → mappings_fault_by (contents_of sizes) nfit.regions ≡ mappings_fault set nfit.regions
unfolding mappings_fault
same_faults set sizes nfit are names count =
    ap first_fault (map_same (λ (region : Region). region_fault_by (contents_of sizes) region.mappings) (λ region. first_fault (map (mapping_fault set) region.mappings)) nfit.regions
    (λ k d lt. ap first_fault (map_same (mapping_fault_by (contents_of sizes)) (mapping_fault set) (get_or nfit.regions k d).mappings
    (λ k' d' lt'. let there = names.each k d lt k' d' lt' in same_fault set sizes (get_or (get_or nfit.regions k d).mappings k' d') are (omega arith)))))

pub sizes_told : (set : Images) (sizes : List Sizes) (count : ℕ) → sizes ≡ map (sizes_of set) (range_with_len 0 count) → length sizes ≡ count → AreSizesOf set sizes
sizes_told set sizes count told is = told ∙ ap (λ n. map (sizes_of set) (range_with_len 0 n)) (sym is)
