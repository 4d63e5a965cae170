-- A set whose objects have no fault, and one that is loaded.
use Rattle.std.proofs.Common.{◌≡◌, ℕ, ◌<◌, Bool, List, [], ◌∷◌, length, map, get_or, Option, Some, None, Ok, refl, sym, ap, ◌∙◌, inl, inr, if◌then◌else◌}
use Rattle.std.specs.List.{All, range_with_len}
use Rattle.std.proofs.lemmas.Bool.{cases_Bool, eq-eqb}
use Rattle.nvd_words.specs.Checks.{first_fault}
use Rattle.nvd_media.specs.declared.object.Object.TheVariants as object
use Rattle.nvd_media.specs.Images.{Images}
use Rattle.nfit_reader.specs.declared.table.Nfit.{Nfit}
use Rattle.nfit_reader.specs.declared.table.Region.{Region}
use Rattle.nfit_reader.specs.declared.table.Mapping.{Mapping}
use Rattle.nfit_reader.specs.Counted.{NamesItsModules}
use Rattle.image_set.specs.declared.fault.LoadFault.{LoadFault}
use Rattle.image_set.specs.Limits.{is_contents_size}
use Rattle.image_set.specs.Load.{ImageSet, image_set_of, loading, mapping_fault, mappings_fault, module_fault, modules_fault, needed_fault, size_before}
use Rattle.set_objects.specs.Laws.{FaultlessLoads, LoadedIsFaultless, NoTableNoSet}
use Rattle.set_objects.specs.Objects.{bad_fault, contents_fault, labels_fault, mapping_fault_on, mappings_fault_on, module_faults, object_faults, table_reading}
use Rattle.set_objects.proofs.Lists.{all_empty, empty_all, no_fault_end, no_fault_here, no_fault_next, none_all, none_found, none_here, none_next, of_modules, on_modules}
use Rattle.set_objects.proofs.Tables.{loading_closed, loading_open, set_unless}

-- ---- one module

-- no object of a module has a fault
pub record NoneAt (set : Images) (regions : List Region) (m : ℕ) : Type 0 where
  pub labels : labels_fault set m ≡ None
  pub contents : needed_fault (is_contents_size (size_before set m)) (object.Contents m) (set (object.Contents m)) ≡ None
  pub mapped : mappings_fault_on set regions m ≡ None
  pub bad : bad_fault set m ≡ None

pub none_at : (set : Images) (regions : List Region) (m : ℕ) → module_faults set regions m ≡ [] → NoneAt set regions m
unfolding module_faults contents_fault
none_at set regions m is =
    let a = no_fault_here (labels_fault set m) _ is in
    let b = no_fault_here (contents_fault set regions m) _ a.1 in
    let d = no_fault_here (bad_fault set m) _ b.1 in
    let e = none_here (needed_fault (is_contents_size (size_before set m)) (object.Contents m) (set (object.Contents m))) _ b.0 in
    let f = none_here (mappings_fault_on set regions m) _ e.1 in
    record { labels = a.0; contents = e.0; mapped = f.0; bad = d.0 }

at_none : (set : Images) (regions : List Region) (m : ℕ) → NoneAt set regions m → module_faults set regions m ≡ []
unfolding module_faults contents_fault first_fault
at_none set regions m none =
    let contents : contents_fault set regions m ≡ None = none_next _ _ none.contents ∙ none_next _ _ none.mapped in
    no_fault_next _ _ none.labels (no_fault_next _ _ contents (no_fault_next _ _ none.bad no_fault_end))

sizes_none : (set : Images) (regions : List Region) (m : ℕ) → NoneAt set regions m → module_fault set (size_before set m) m ≡ None
unfolding module_fault first_fault
sizes_none set regions m none = none_next _ _ none.labels ∙ none_next _ _ none.contents ∙ none_next _ _ none.bad

-- ---- all modules

pub none_everywhere : (set : Images) (nfit : Nfit) → object_faults set nfit ≡ [] → (m : ℕ) → m < length nfit.modules → NoneAt set nfit.regions m
unfolding object_faults
none_everywhere set nfit is m lt =
    none_at set nfit.regions m
    (of_modules (λ k. module_faults set nfit.regions k ≡ []) (length nfit.modules) (empty_all (module_faults set nfit.regions) (range_with_len 0 (length nfit.modules)) is) m lt)

pub everywhere_none : (set : Images) (nfit : Nfit) → ((m : ℕ) → m < length nfit.modules → NoneAt set nfit.regions m) → object_faults set nfit ≡ []
unfolding object_faults
everywhere_none set nfit none =
    all_empty (module_faults set nfit.regions) (range_with_len 0 (length nfit.modules))
    (on_modules (λ k. module_faults set nfit.regions k ≡ []) (length nfit.modules) (λ m lt. at_none set nfit.regions m (none m lt)))

-- ---- mappings

-- a mapping on a module has the fault that it has by itself
pub on_its_module : (set : Images) (mapping : Mapping) → mapping_fault_on set mapping.«module» mapping ≡ mapping_fault set mapping
on_its_module set mapping = rw (eq-eqb mapping.«module» mapping.«module» refl) refl

-- no mapping on a module has a fault
pub none_on : (set : Images) (regions : List Region) (m : ℕ) → mappings_fault_on set regions m ≡ None → All (λ region. All (λ mapping. mapping_fault_on set m mapping ≡ None) region.mappings) regions
unfolding mappings_fault_on
none_on set regions m is k d lt =
    none_all (mapping_fault_on set m) (get_or regions k d).mappings (none_all (λ (region : Region). first_fault (map (mapping_fault_on set m) region.mappings)) regions is k d lt)

-- each mapping fits
pub each_fits : (set : Images) (nfit : Nfit) → NamesItsModules nfit → ((m : ℕ) → m < length nfit.modules → NoneAt set nfit.regions m)
    → All (λ region. All (λ mapping. mapping_fault set mapping ≡ None) region.mappings) nfit.regions
each_fits set nfit names none k d lt k' d' lt' =
    let mapping : Mapping = get_or (get_or nfit.regions k d).mappings k' d' in
    sym (on_its_module set mapping) ∙ none_on set nfit.regions mapping.«module» (none mapping.«module» (names.each k d lt k' d' lt')).mapped k d lt k' d' lt'

-- so no mapping is found that doesn't
mappings_none : (set : Images) (regions : List Region) → All (λ region. All (λ mapping. mapping_fault set mapping ≡ None) region.mappings) regions → mappings_fault set regions ≡ None
unfolding mappings_fault
mappings_none set regions each =
    none_found (λ (region : Region). first_fault (map (mapping_fault set) region.mappings)) regions (λ k d lt. none_found (mapping_fault set) (get_or regions k d).mappings (each k d lt))

none_mappings : (set : Images) (regions : List Region) → mappings_fault set regions ≡ None → All (λ region. All (λ mapping. mapping_fault set mapping ≡ None) region.mappings) regions
unfolding mappings_fault
none_mappings set regions is k d lt =
    none_all (mapping_fault set) (get_or regions k d).mappings (none_all (λ (region : Region). first_fault (map (mapping_fault set) region.mappings)) regions is k d lt)

none_if : (b : Bool) (o : Option LoadFault) → o ≡ None → (if b then o else None) ≡ None
none_if b o is = elim (cases_Bool b) [
  | inl holds ↦ rw holds is
  | inr fails ↦ rw fails refl
]

mapped_none : (set : Images) (regions : List Region) (m : ℕ) → All (λ region. All (λ mapping. mapping_fault set mapping ≡ None) region.mappings) regions → mappings_fault_on set regions m ≡ None
unfolding mappings_fault_on
mapped_none set regions m each =
    none_found (λ (region : Region). first_fault (map (mapping_fault_on set m) region.mappings)) regions
    (λ k d lt. none_found (mapping_fault_on set m) (get_or regions k d).mappings (λ k' d' lt'. none_if _ _ (each k d lt k' d' lt')))

-- ---- the laws

pub no_table_no_set : NoTableNoSet
no_table_no_set set f is = loading_closed set f is

pub loads : (set : Images) (nfit : Nfit) → table_reading set ≡ Ok nfit → NamesItsModules nfit → object_faults set nfit ≡ [] → loading set ≡ Ok (image_set_of set nfit)
unfolding modules_fault first_fault
loads set nfit reading names none =
    let at = none_everywhere set nfit none in
    let modules : modules_fault set (length nfit.modules) ≡ None =
    none_found (λ m. module_fault set (size_before set m) m) (range_with_len 0 (length nfit.modules))
    (on_modules (λ m. module_fault set (size_before set m) m ≡ None) (length nfit.modules) (λ m lt. sizes_none set nfit.regions m (at m lt))) in
    let mappings : mappings_fault set nfit.regions ≡ None = mappings_none set nfit.regions (each_fits set nfit names at) in
    loading_open set nfit reading ∙ ap (set_unless set nfit) (none_next _ _ modules ∙ none_next _ _ mappings)

pub faultless_loads : FaultlessLoads
faultless_loads set nfit reading names none = loads set nfit reading names none

unless_none : (set : Images) (nfit : Nfit) (loaded : ImageSet) (f : Option LoadFault) → set_unless set nfit f ≡ Ok loaded → f ≡ None
unless_none set nfit loaded None is = refl
unless_none set nfit loaded (Some f) is = absurd (cc)

sized_at : (set : Images) (regions : List Region) (m : ℕ) → module_fault set (size_before set m) m ≡ None → mappings_fault_on set regions m ≡ None → NoneAt set regions m
unfolding module_fault
sized_at set regions m is mapped =
    let a = none_here (labels_fault set m) _ is in
    let b = none_here (needed_fault (is_contents_size (size_before set m)) (object.Contents m) (set (object.Contents m))) _ a.1 in
    let d = none_here (bad_fault set m) _ b.1 in
    record { labels = a.0; contents = b.0; mapped = mapped; bad = d.0 }

pub loaded_is_faultless : LoadedIsFaultless
unfolding modules_fault
loaded_is_faultless set nfit loaded reading is =
    let none = unless_none set nfit loaded (first_fault (modules_fault set (length nfit.modules) ∷ mappings_fault set nfit.regions ∷ [])) (sym (loading_open set nfit reading) ∙ is) in
    let a = none_here (modules_fault set (length nfit.modules)) _ none in
    let b = none_here (mappings_fault set nfit.regions) _ a.1 in
    everywhere_none set nfit (λ m lt.
    sized_at set nfit.regions m
    (of_modules (λ k. module_fault set (size_before set k) k ≡ None) (length nfit.modules)
    (none_all (λ k. module_fault set (size_before set k) k) (range_with_len 0 (length nfit.modules)) a.0) m lt)
    (mapped_none set nfit.regions m (none_mappings set nfit.regions b.0)))
