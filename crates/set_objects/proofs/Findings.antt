-- Each fault of an object is a finding.
use Rattle.std.proofs.Common.{ℕ, Bool, List, [], ◌∷◌, length, Option, Some, None, inl, inr}
use Rattle.std.specs.Prelude.{IfSome, not}
use Rattle.std.specs.List.{All, flat_map}
use Rattle.std.proofs.lemmas.Bool.{cases_Bool}
use Rattle.std.proofs.lemmas.List.Elements.{All-nil, All-cons, All-append}
use Rattle.nvd_words.specs.Checks.{first_fault, fault_if}
use Rattle.nvd_media.specs.declared.object.Object.{Object}
use Rattle.nvd_media.specs.declared.object.Object.TheVariants as object
use Rattle.nvd_media.specs.Images.{Images}
use Rattle.nfit_reader.specs.declared.table.Region.{Region}
use Rattle.label_index.specs.Area.{is_area_size}
use Rattle.image_set.specs.declared.fault.LoadFault.{LoadFault}
use Rattle.image_set.specs.declared.fault.LoadFault.TheVariants as fault
use Rattle.image_set.specs.Limits.{is_bad_size, is_contents_size}
use Rattle.image_set.specs.Load.{needed_fault, optional_fault, size_before}
use Rattle.set_objects.specs.Objects.{bad_fault, contents_fault, faults_in, labels_fault, mappings_fault_on, module_faults}
use Rattle.set_objects.specs.Read.{IsFinding}
use Rattle.set_objects.proofs.Among.{this_all}

pub missing_finding : (o : Object) → IsFinding (fault.Missing o)
missing_finding o = record { read = λ is. cc; memory = λ is. cc; table = λ is. cc }

pub size_finding : (o : Object) (bytes : ℕ) → IsFinding (fault.Size o bytes)
size_finding o bytes = record { read = λ is. cc; memory = λ is. cc; table = λ is. cc }

if_finding : (b : Bool) (f : LoadFault) → IsFinding f → IfSome (fault_if b f) IsFinding
if_finding b f finding = elim (cases_Bool b) [
  | inl holds ↦ rw holds finding
  | inr fails ↦ rw fails tt
]

optional_finding : (test : ℕ → Bool) (o : Object) (x : Option (List ℕ)) → IfSome (optional_fault test o x) IsFinding
optional_finding test o None = tt
optional_finding test o (Some bytes) = if_finding (not (test (length bytes))) (fault.Size o (length bytes)) (size_finding o (length bytes))

needed_finding : (test : ℕ → Bool) (o : Object) (x : Option (List ℕ)) → IfSome (needed_fault test o x) IsFinding
needed_finding test o None = missing_finding o
needed_finding test o (Some bytes) = if_finding (not (test (length bytes))) (fault.Size o (length bytes)) (size_finding o (length bytes))

mapped_finding : (set : Images) (regions : List Region) (m : ℕ) → IfSome (mappings_fault_on set regions m) IsFinding
mapped_finding set regions m = elim (this_all set regions m) [
  | inl none ↦ rw none tt
  | inr this ↦ rw this (size_finding (object.Contents m) _)
]

first_finding : (a b : Option LoadFault) → IfSome a IsFinding → IfSome b IsFinding → IfSome (first_fault (a ∷ b ∷ [])) IsFinding
unfolding first_fault
first_finding (Some x) b here next = here
first_finding None (Some x) here next = next
first_finding None None here next = tt

in_finding : (o : Option LoadFault) (faults : List (Option LoadFault)) → IfSome o IsFinding → All IsFinding (faults_in faults) → All IsFinding (faults_in (o ∷ faults))
unfolding faults_in
in_finding None faults here rest = rest
in_finding (Some f) faults here rest = All-cons IsFinding f (faults_in faults) here rest

end_finding : All IsFinding (faults_in [])
unfolding faults_in
end_finding = All-nil IsFinding

of_module : (set : Images) (regions : List Region) (m : ℕ) → All IsFinding (module_faults set regions m)
unfolding module_faults contents_fault
of_module set regions m =
    in_finding (labels_fault set m) _ (optional_finding is_area_size (object.Labels m) (set (object.Labels m)))
    (in_finding (contents_fault set regions m) _
    (first_finding _ _ (needed_finding (is_contents_size (size_before set m)) (object.Contents m) (set (object.Contents m))) (mapped_finding set regions m))
    (in_finding (bad_fault set m) _ (optional_finding is_bad_size (object.BadRanges m) (set (object.BadRanges m))) end_finding))

pub findings : (set : Images) (regions : List Region) (modules : List ℕ) → All IsFinding (flat_map (module_faults set regions) modules)
findings set regions [] = All-nil IsFinding
findings set regions (m ∷ modules) = All-append IsFinding (module_faults set regions m) (flat_map (module_faults set regions) modules) (of_module set regions m) (findings set regions modules)
