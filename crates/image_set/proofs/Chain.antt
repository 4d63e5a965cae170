-- Loading a set, from one result to the next.
use Rattle.std.proofs.Common.{◌≡◌, ◌≢◌, ℕ, List, [], ◌∷◌, length, map, Option, Some, None, Result, Ok, Err, refl, sym, ap, ◌∙◌}
use Rattle.std.specs.Option.{option_map}
use Rattle.std.specs.Result.{result_map_both}
use Rattle.std.specs.List.{range_with_len}
use Rattle.nvd_words.specs.Checks.{Answers, first_fault, value_unless}
use Rattle.nvd_media.specs.declared.object.Object.TheVariants as object
use Rattle.nvd_media.specs.Images.{Images, bytes_of}
use Rattle.cut_words.specs.Words.{Words}
use Rattle.nfit_reader.specs.declared.table.Nfit.{Nfit}
use Rattle.nfit_reader.specs.declared.table.NfitFault.{NfitFault}
use Rattle.nfit_reader.specs.Table.{nfit_reading}
use Rattle.image_set.specs.declared.fault.LoadFault.{LoadFault}
use Rattle.image_set.specs.declared.fault.LoadFault.TheVariants as fault
use Rattle.image_set.specs.declared.fault.Stop.{Stop}
use Rattle.image_set.specs.declared.fault.Stop.TheVariants as stop
use Rattle.image_set.specs.declared.sizes.Sizes.{Sizes}
use Rattle.image_set.specs.Outline.{contents_in, image_set_with}
use Rattle.image_set.specs.Load.{table_fault, modules_fault, mappings_fault, with_table, unless_fault, loading, image_set_of, image_set_in, bytes_kept, fault_of, AnswersRead, ImageSet}
use Rattle.image_set.proofs.Asked.{stopped, passed}

-- ---- the result of load

-- the loaded set, as an image set, is the source's, or the fault is its first
abbrev pub LoadsBy : {A : Type 0} → (A → ImageSet) → Result A LoadFault → Images → Type 0
LoadsBy f result set = AnswersRead (result_map_both f (λ fault. fault) result) (loading set)

pub loads_err : {A : Type 0} (f : A → ImageSet) (set : Images) (result : Result A LoadFault) (e : LoadFault) → result ≡ Err e → (e ≢ fault.ReadFault → e ≢ fault.OutOfMemory → loading set ≡ Err e) → LoadsBy f result set
loads_err f set result e is h no_read no_memory =
    let same : result_map_both f (λ e. e) result ≡ Err e = ap (result_map_both f (λ e. e)) is in
    same ∙ sym (h (λ x. no_read (same ∙ ap (λ f. Err f) x)) (λ x. no_memory (same ∙ ap (λ f. Err f) x)))

pub loads_ok : {A : Type 0} (f : A → ImageSet) (set : Images) (result : Result A LoadFault) (loaded : A) → result ≡ Ok loaded → loading set ≡ Ok (f loaded) → LoadsBy f result set
loads_ok f set result loaded is h no_read no_memory = ap (result_map_both f (λ e. e)) is ∙ sym h

-- reading stopped
pub loads_stop : {A : Type 0} (f : A → ImageSet) (set : Images) (result : Result A LoadFault) (s : Stop) (e : LoadFault) → result ≡ Err e → e ≡ fault_of s → LoadsBy f result set
loads_stop f set result stop.ReadFault e is from = loads_err f set result e is (λ no_read no_memory. absurd (no_read from))
loads_stop f set result stop.OutOfMemory e is from = loads_err f set result e is (λ no_read no_memory. absurd (no_memory from))

-- ---- the set

-- a call that stopped has revealed the fault
told_fault : {A : Type 0} (e : LoadFault) (x : A) (f : Option LoadFault) (r : Result A LoadFault) → r ≡ Err e → AnswersRead r (value_unless x f) → e ≢ fault.ReadFault → e ≢ fault.OutOfMemory → f ≡ Some e
told_fault e x f r is told no_read no_memory =
    stopped e x f r r is is told (λ h. no_read (let k : Err e ≡ Err fault.ReadFault = sym is ∙ h in cc)) (λ h. no_memory (let k : Err e ≡ Err fault.OutOfMemory = sym is ∙ h in cc))

-- the mark or the table's object has a fault
pub table_stops : {A : Type 0} (f : A → ImageSet) (set : Images) (result : Result A LoadFault) (e : LoadFault) (n : ℕ) (r : Result ℕ LoadFault) → result ≡ Err e → r ≡ Err e
    → AnswersRead r (value_unless n (table_fault set)) → LoadsBy f result set
unfolding loading
table_stops f set result e n r is is' told = loads_err f set result e is (λ no_read no_memory. ap (unless_fault set) (told_fault e n (table_fault set) r is' told no_read no_memory))

-- they have none
pub record IsOpen (set : Images) (bytes : List ℕ) : Type 0 where
  pub none : table_fault set ≡ None
  pub read : bytes ≡ bytes_of set object.Nfit

opened : (set : Images) (bytes : List ℕ) (read : Result Nfit NfitFault) → IsOpen set bytes → nfit_reading bytes ≡ read → loading set ≡ with_table set read
unfolding loading
opened set bytes read ready is = ap (unless_fault set) ready.none ∙ ap (λ b. with_table set (nfit_reading b)) (sym ready.read) ∙ ap (with_table set) is

-- the table is refused
pub table_refused : {A : Type 0} (f : A → ImageSet) (set : Images) (result : Result A LoadFault) (e : LoadFault) (bytes : List ℕ) (r : Result Nfit LoadFault) (read : Result Nfit NfitFault) → result ≡ Err e → r ≡ Err e
    → nfit_reading bytes ≡ read → Answers fault.OutOfMemory r (result_map_both (λ n. n) fault.Nfit (nfit_reading bytes)) → IsOpen set bytes → LoadsBy f result set
table_refused f set result e bytes r (Ok nfit) is is' reading told ready =
    loads_err f set result e is (λ no_read no_memory.
    absurd (let same : Err e ≡ Ok nfit = sym is' ∙ told (λ h. no_memory (let k : Err e ≡ Err fault.OutOfMemory = sym is' ∙ h in cc)) ∙ ap (result_map_both (λ n. n) fault.Nfit) reading in cc))
table_refused f set result e bytes r (Err refused) is is' reading told ready =
    loads_err f set result e is (λ no_read no_memory.
    let same : Err e ≡ Err (fault.Nfit refused) = sym is' ∙ told (λ h. no_memory (let k : Err e ≡ Err fault.OutOfMemory = sym is' ∙ h in cc)) ∙ ap (result_map_both (λ n. n) fault.Nfit) reading in
    let is_nfit : e ≡ fault.Nfit refused = cc in
    opened set bytes (Err refused) ready reading ∙ ap (λ x. Err x) (sym is_nfit))

-- the table that was read
pub table_is : (bytes : List ℕ) (nfit : Nfit) (r : Result Nfit LoadFault) (read : Result Nfit NfitFault) → r ≡ Ok nfit → nfit_reading bytes ≡ read
    → Answers fault.OutOfMemory r (result_map_both (λ n. n) fault.Nfit (nfit_reading bytes)) → nfit_reading bytes ≡ Ok nfit
table_is bytes nfit r (Ok n) is reading told =
    let same : Ok nfit ≡ Ok n = sym is ∙ told (λ h. let k : Ok nfit ≡ Err fault.OutOfMemory = sym is ∙ h in cc) ∙ ap (result_map_both (λ m. m) fault.Nfit) reading in
    reading ∙ (let k : nfit ≡ n = cc in ap (λ m. Ok m) (sym k))
table_is bytes nfit r (Err f) is reading told =
    absurd (let same : Ok nfit ≡ Err (fault.Nfit f) = sym is ∙ told (λ h. let k : Ok nfit ≡ Err fault.OutOfMemory = sym is ∙ h in cc) ∙ ap (result_map_both (λ m. m) fault.Nfit) reading in cc)

abbrev pub faults_of : Images → Nfit → List (Option LoadFault)
faults_of set nfit = modules_fault set (length nfit.modules) ∷ mappings_fault set nfit.regions ∷ []

-- a module or a mapping has a fault
pub sizes_stop : {A : Type 0} (f : A → ImageSet) (set : Images) (result : Result A LoadFault) (e : LoadFault) (bytes : List ℕ) (nfit : Nfit) (xs : List Sizes) (r : Result (List Sizes) LoadFault) → result ≡ Err e → r ≡ Err e
    → nfit_reading bytes ≡ Ok nfit → AnswersRead r (value_unless xs (first_fault (faults_of set nfit))) → IsOpen set bytes → LoadsBy f result set
sizes_stop f set result e bytes nfit xs r is is' reading told ready =
    loads_err f set result e is (λ no_read no_memory.
    opened set bytes (Ok nfit) ready reading
    ∙ ap (value_unless (image_set_of set nfit)) (told_fault e xs (first_fault (faults_of set nfit)) r is' told no_read no_memory))

-- all is read
pub all_read : {A : Type 0} (f : A → ImageSet) (set : Images) (result : Result A LoadFault) (loaded : A) (bytes : List ℕ) (nfit : Nfit) (v xs : List Sizes) (r : Result (List Sizes) LoadFault) → result ≡ Ok loaded → r ≡ Ok v
    → nfit_reading bytes ≡ Ok nfit → AnswersRead r (value_unless xs (first_fault (faults_of set nfit))) → IsOpen set bytes → f loaded ≡ image_set_of set nfit → LoadsBy f result set
all_read f set result loaded bytes nfit v xs r is is' reading told ready same =
    loads_ok f set result loaded is
    (opened set bytes (Ok nfit) ready reading
    ∙ ap (value_unless (image_set_of set nfit)) (passed v xs (first_fault (faults_of set nfit)) r is' told).0
    ∙ ap (λ x. Ok x) (sym same))

-- the objects that were read make up the set
pub set_is : (set : Images) (nfit : Nfit) (n : ℕ) (bytes : List ℕ) (labels : List (Option Words)) (contents : List Words) (bad : List (Option (List ℕ))) → n ≡ length nfit.modules
    → bytes ≡ bytes_of set object.Nfit
    → map (option_map bytes_kept) labels ≡ map (λ m. set (object.Labels m)) (range_with_len 0 n)
    → map bytes_kept contents ≡ map (λ m. bytes_of set (object.Contents m)) (range_with_len 0 n)
    → bad ≡ map (λ m. set (object.BadRanges m)) (range_with_len 0 n)
    → image_set_in (record { nfit = nfit; nfit_bytes = bytes; labels = labels; contents = contents; bad = bad }) ≡ image_set_of set nfit
unfolding image_set_in image_set_of
set_is set nfit n bytes labels contents bad count table areas words ranges = rw (← count) (rw (table, areas, words, ranges) refl)

-- and so do they without the contents
pub outline_is : (set : Images) (nfit : Nfit) (n k : ℕ) (bytes : List ℕ) (labels : List (Option Words)) (sizes : List ℕ) (bad : List (Option (List ℕ))) → n ≡ length nfit.modules → k ≡ n
    → bytes ≡ bytes_of set object.Nfit
    → map (option_map bytes_kept) labels ≡ map (λ m. set (object.Labels m)) (range_with_len 0 n)
    → bad ≡ map (λ m. set (object.BadRanges m)) (range_with_len 0 n)
    → image_set_with (record { nfit = nfit; nfit_bytes = bytes; labels = labels; sizes = sizes; bad = bad }) (contents_in set k) ≡ image_set_of set nfit
unfolding image_set_with image_set_of
outline_is set nfit n k bytes labels sizes bad count long table areas ranges = rw long (rw (← count) (rw (table, areas, ranges) refl))

-- ---- one label area
