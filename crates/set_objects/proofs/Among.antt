-- The fault for which a set isn't loaded is among those of its objects.
use Rattle.std.proofs.Common.{◌≡◌, ◌⊎◌, ℕ, zero, suc, ◌+◌, ◌<◌, Bool, List, [], ◌∷◌, length, map, get_or, Option, Some, None, Err, refl, sym, ap, ◌∙◌, subst, arith, inl, inr, if◌then◌else◌}
use Rattle.std.specs.Prelude.{nat_lt, ◌==◌, Contains}
use Rattle.std.specs.List.{flat_map, range_with_len}
use Rattle.std.proofs.lemmas.Bool.{cases_Bool}
use Rattle.std.proofs.lemmas.Bool.Decides.{nat_tests}
use Rattle.std.proofs.lemmas.List.Elements.{Contains-append_left, Contains-append_right}
use Rattle.std.proofs.lemmas.List.FromFn.{get_or-range_with_len, length-range_with_len}
use Rattle.nvd_words.specs.Checks.{first_fault, fault_if}
use Rattle.nvd_media.specs.declared.object.Object.TheVariants as object
use Rattle.nvd_media.specs.Images.{Images, bytes_of}
use Rattle.nfit_reader.specs.declared.table.Nfit.{Nfit}
use Rattle.nfit_reader.specs.declared.table.Region.{Region}
use Rattle.nfit_reader.specs.declared.table.Mapping.{Mapping}
use Rattle.nfit_reader.specs.Counted.{NamesItsModules}
use Rattle.image_set.specs.declared.fault.LoadFault.{LoadFault}
use Rattle.image_set.specs.declared.fault.LoadFault.TheVariants as fault
use Rattle.image_set.specs.Limits.{is_contents_size}
use Rattle.image_set.specs.Load.{mapping_fault, mappings_fault, module_fault, modules_fault, needed_fault, size_before}
use Rattle.set_objects.specs.Laws.{FirstIsAmongAll}
use Rattle.set_objects.specs.Objects.{bad_fault, contents_fault, faults_in, labels_fault, mapping_fault_on, mappings_fault_on, module_faults, object_faults}
use Rattle.set_objects.proofs.Lists.{none_all, none_here, none_next, of_modules}
use Rattle.set_objects.proofs.Modules.{none_on, on_its_module}
use Rattle.set_objects.proofs.Tables.{loading_open, set_unless}

-- ---- lists

has_here : {A : Type 0} (x f : A) (xs : List A) → x ≡ f → Contains (x ∷ xs) f
has_here x f xs is = (0, omega arith, is)

has_past : {A : Type 0} (x f : A) (xs : List A) → Contains xs f → Contains (x ∷ xs) f
has_past x f xs has = Contains-append_right (x ∷ []) xs f has

-- an item of one of the lists
has_in : {A B : Type 0} (g : A → List B) (xs : List A) (f : B) (k : ℕ) (d : A) → k < length xs → Contains (g (get_or xs k d)) f → Contains (flat_map g xs) f
has_in g [] f k d lt has = absurd (omega arith)
has_in g (x ∷ xs) f zero d lt has = Contains-append_left (g x) (flat_map g xs) f has
has_in g (x ∷ xs) f (suc k) d lt has = Contains-append_right (g x) (flat_map g xs) f (has_in g xs f k d (omega arith) has)

-- the item whose fault is the first
pub record IsFirst {A : Type 0} (g : A → Option LoadFault) (xs : List A) (f : LoadFault) : Type 0 where
  pub place : ℕ
  pub inside : place < length xs
  pub is : (d : A) → g (get_or xs place d) ≡ Some f

first_by : {A : Type 0} (g : A → Option LoadFault) (x : A) (xs : List A) (f : LoadFault) (o : Option LoadFault) → g x ≡ o → first_fault (o ∷ map g xs) ≡ Some f
    → (first_fault (map g xs) ≡ Some f → IsFirst g xs f) → IsFirst g (x ∷ xs) f
unfolding first_fault
first_by g x xs f None here is rest =
    let r = rest is in
    record { place = suc r.place; inside = let i = r.inside in omega arith; is = λ d. r.is d }
first_by g x xs f (Some e) here is rest = record { place = 0; inside = omega arith; is = λ d. here ∙ is }

is_first : {A : Type 0} (g : A → Option LoadFault) (xs : List A) (f : LoadFault) → first_fault (map g xs) ≡ Some f → IsFirst g xs f
unfolding first_fault
is_first g [] f is = absurd (cc)
is_first g (x ∷ xs) f is = first_by g x xs f (g x) refl is (is_first g xs f)

-- ---- one module

past_two : (o : Option LoadFault) (x f : LoadFault) → x ≡ f → Contains (faults_in (o ∷ Some x ∷ [])) f
unfolding faults_in
past_two None x f is = has_here x f [] is
past_two (Some e) x f is = has_past e f (x ∷ []) (has_here x f [] is)

-- the first fault by sizes is among a module's faults
among_sizes : (l n b : Option LoadFault) (more : List (Option LoadFault)) (f : LoadFault) → first_fault (l ∷ n ∷ b ∷ []) ≡ Some f
    → Contains (faults_in (l ∷ first_fault (n ∷ more) ∷ b ∷ [])) f
unfolding first_fault faults_in
among_sizes (Some x) n b more f is = has_here x f _ (let same : x ≡ f = cc in same)
among_sizes None (Some x) b more f is = has_here x f _ (let same : x ≡ f = cc in same)
among_sizes None None (Some x) more f is = past_two (first_fault more) x f (let same : x ≡ f = cc in same)
among_sizes None None None more f is = absurd (cc)

-- so is that of the contents
among_contents : (l c b : Option LoadFault) (f : LoadFault) → c ≡ Some f → Contains (faults_in (l ∷ c ∷ b ∷ [])) f
unfolding faults_in
among_contents None (Some y) b f is = has_here y f _ (let same : y ≡ f = cc in same)
among_contents (Some x) (Some y) b f is = has_past x f (y ∷ faults_in (b ∷ [])) (has_here y f (faults_in (b ∷ [])) (let same : y ≡ f = cc in same))
among_contents l None b f is = absurd (cc)

in_module : (set : Images) (nfit : Nfit) (m : ℕ) (f : LoadFault) → m < length nfit.modules → Contains (module_faults set nfit.regions m) f → Contains (object_faults set nfit) f
unfolding object_faults
in_module set nfit m f lt has =
    let n = length nfit.modules in
    let is : get_or (range_with_len 0 n) m 0 ≡ m = get_or-range_with_len 0 n m 0 lt ∙ omega arith in
    has_in (module_faults set nfit.regions) (range_with_len 0 n) f m 0 (omega (arith, lt, length-range_with_len 0 n))
    (subst (λ k. Contains (module_faults set nfit.regions k) f) (sym is) has)

sizes_among : (set : Images) (regions : List Region) (m : ℕ) (f : LoadFault) → module_fault set (size_before set m) m ≡ Some f → Contains (module_faults set regions m) f
unfolding module_fault module_faults contents_fault
sizes_among set regions m f is =
    among_sizes (labels_fault set m) (needed_fault (is_contents_size (size_before set m)) (object.Contents m) (set (object.Contents m))) (bad_fault set m)
    (mappings_fault_on set regions m ∷ []) f is

-- ---- mappings

-- each fault of a mapping on a module is the same
abbrev pub end_of : Images → ℕ → LoadFault
end_of set m = fault.Size (object.Contents m) (length (bytes_of set (object.Contents m)))

abbrev pub IsThisOrNone : LoadFault → Option LoadFault → Type 0
IsThisOrNone v o = (o ≡ None) ⊎ (o ≡ Some v)

this_if : (b : Bool) (v : LoadFault) → IsThisOrNone v (fault_if b v)
this_if b v = elim (cases_Bool b) [
  | inl holds ↦ inr (rw holds refl)
  | inr fails ↦ inl (rw fails refl)
]

this_on : (set : Images) (m k total : ℕ)
    → IsThisOrNone (end_of set m) (if k == m then fault_if (nat_lt (length (bytes_of set (object.Contents k))) total) (end_of set k) else None)
this_on set m k total = elim (cases_Bool (k == m)) [
  | inl holds ↦ let same : k ≡ m = grind (arith, nat_tests) in rw holds (rw same (this_if _ (end_of set m)))
  | inr fails ↦ inl (rw fails refl)
]

this_mapping : (set : Images) (m : ℕ) (mapping : Mapping) → IsThisOrNone (end_of set m) (mapping_fault_on set m mapping)
unfolding mapping_fault
this_mapping set m mapping = this_on set m mapping.«module» (mapping.start + mapping.size)

this_first : {A : Type 0} (g : A → Option LoadFault) (v : LoadFault) (xs : List A) → ((x : A) → IsThisOrNone v (g x)) → IsThisOrNone v (first_fault (map g xs))
unfolding first_fault
this_first g v [] each = inl refl
this_first g v (x ∷ xs) each = elim (each x) [
  | inl none ↦ subst (IsThisOrNone v) (sym (none_next (g x) (map g xs) none)) (this_first g v xs each)
  | inr this ↦ inr (rw this refl)
]

pub this_all : (set : Images) (regions : List Region) (m : ℕ) → IsThisOrNone (end_of set m) (mappings_fault_on set regions m)
unfolding mappings_fault_on
this_all set regions m =
    this_first (λ (region : Region). first_fault (map (mapping_fault_on set m) region.mappings)) (end_of set m) regions
    (λ region. this_first (mapping_fault_on set m) (end_of set m) region.mappings (this_mapping set m))

same_value : (v f : LoadFault) (o : Option LoadFault) → IsThisOrNone v o → o ≡ Some f → v ≡ f
same_value v f o this is = elim this [
  | inl none ↦ absurd (let e = sym none ∙ is in cc)
  | inr some ↦ (let e = sym some ∙ is in cc)
]

-- the fault of a mapping is that of all mappings on its module
on_module : (set : Images) (regions : List Region) (k k' : ℕ) (d : Region) (d' : Mapping) (f : LoadFault) → k < length regions → k' < length (get_or regions k d).mappings
    → mapping_fault set (get_or (get_or regions k d).mappings k' d') ≡ Some f → mappings_fault_on set regions (get_or (get_or regions k d).mappings k' d').«module» ≡ Some f
on_module set regions k k' d d' f lt lt' is =
    let mapping : Mapping = get_or (get_or regions k d).mappings k' d' in
    let here : mapping_fault_on set mapping.«module» mapping ≡ Some f = on_its_module set mapping ∙ is in
    elim (this_all set regions mapping.«module») [
      | inl none ↦ absurd (let e = sym (none_on set regions mapping.«module» none k d lt k' d' lt') ∙ here in cc)
      | inr this ↦ this ∙ ap (λ x. Some x) (same_value (end_of set mapping.«module») f (mapping_fault_on set mapping.«module» mapping) (this_mapping set mapping.«module» mapping) here)
    ]

-- ---- the law

-- which of the two has the first fault
abbrev Splits : Option LoadFault → Option LoadFault → LoadFault → Type 0
Splits a b f = (a ≡ Some f) ⊎ ((a ≡ None) × (b ≡ Some f))

splits : (a b : Option LoadFault) (f : LoadFault) → first_fault (a ∷ b ∷ []) ≡ Some f → Splits a b f
unfolding first_fault
splits (Some x) b f is = inl is
splits None (Some x) f is = inr (refl, is)
splits None None f is = absurd (cc)

err_is : (set : Images) (nfit : Nfit) (o : Option LoadFault) (f : LoadFault) → set_unless set nfit o ≡ Err f → o ≡ Some f
err_is set nfit None f is = absurd (cc)
err_is set nfit (Some e) f is = let same : e ≡ f = cc in ap (λ x. Some x) same

sizes_case : (set : Images) (nfit : Nfit) (f : LoadFault) → modules_fault set (length nfit.modules) ≡ Some f → Contains (object_faults set nfit) f
unfolding modules_fault
sizes_case set nfit f is =
    let n = length nfit.modules in
    let r = is_first (λ m. module_fault set (size_before set m) m) (range_with_len 0 n) f is in
    let m = r.place in
    let lt : m < n = let i = r.inside in omega (arith, i, length-range_with_len 0 n) in
    let at : get_or (range_with_len 0 n) m 0 ≡ m = get_or-range_with_len 0 n m 0 lt ∙ omega arith in
    in_module set nfit m f lt (sizes_among set nfit.regions m f (subst (λ k. module_fault set (size_before set k) k ≡ Some f) at (r.is 0)))

contents_among : (set : Images) (regions : List Region) (m : ℕ) (f : LoadFault) → module_fault set (size_before set m) m ≡ None → mappings_fault_on set regions m ≡ Some f
    → Contains (module_faults set regions m) f
unfolding module_fault module_faults contents_fault first_fault
contents_among set regions m f sizes on =
    let a = none_here (labels_fault set m) _ sizes in
    let b = none_here (needed_fault (is_contents_size (size_before set m)) (object.Contents m) (set (object.Contents m))) _ a.1 in
    among_contents (labels_fault set m) (contents_fault set regions m) (bad_fault set m) f (none_next _ _ b.0 ∙ rw on refl)

-- what stands past the ends of lists
abbrev no_mapping : Mapping
no_mapping = record { «module» = 0; size = 0; offset = 0; start = 0; ways = 0; lines = None; identity = record { vendor = 0; date = 0; location = 0; serial = 0 } }

abbrev no_region : Region
no_region = record { index = 0; base = 0; length = 0; mappings = [] }

mappings_case : (set : Images) (nfit : Nfit) (f : LoadFault) → NamesItsModules nfit → modules_fault set (length nfit.modules) ≡ None → mappings_fault set nfit.regions ≡ Some f
    → Contains (object_faults set nfit) f
unfolding modules_fault mappings_fault
mappings_case set nfit f names none is =
    let n = length nfit.modules in
    let r = is_first (λ (region : Region). first_fault (map (mapping_fault set) region.mappings)) nfit.regions f is in
    let region : Region = get_or nfit.regions r.place no_region in
    let s = is_first (mapping_fault set) region.mappings f (r.is no_region) in
    let mapping : Mapping = get_or region.mappings s.place no_mapping in
    let m = mapping.«module» in
    let lt : m < n = names.each r.place no_region r.inside s.place no_mapping s.inside in
    let on : mappings_fault_on set nfit.regions m ≡ Some f = on_module set nfit.regions r.place s.place no_region no_mapping f r.inside s.inside (s.is no_mapping) in
    let sizes : module_fault set (size_before set m) m ≡ None =
    of_modules (λ k. module_fault set (size_before set k) k ≡ None) n (none_all (λ k. module_fault set (size_before set k) k) (range_with_len 0 n) none) m lt in
    in_module set nfit m f lt (contents_among set nfit.regions m f sizes on)

pub first_is_among_all : FirstIsAmongAll
first_is_among_all set nfit f reading names is =
    let first = err_is set nfit (first_fault (modules_fault set (length nfit.modules) ∷ mappings_fault set nfit.regions ∷ [])) f (sym (loading_open set nfit reading) ∙ is) in
    elim (splits (modules_fault set (length nfit.modules)) (mappings_fault set nfit.regions) f first) [
      | inl sizes ↦ sizes_case set nfit f sizes
      | inr mappings ↦ mappings_case set nfit f names mappings.0 mappings.1
    ]
