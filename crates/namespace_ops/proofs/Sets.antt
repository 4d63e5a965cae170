-- The interleave sets of regions, one region after another.
use Rattle.std.proofs.Common.{◌≡◌, ℕ, ◌+◌, ◌<◌, ◌≤◌, List, [], ◌∷◌, ◌++◌, Option, Some, None, Result, Ok, Err, length, drop, take, map, get_or, refl, sym, ap, ◌∙◌}
use Rattle.std.specs.Result.{result_err}
use Rattle.std.proofs.lemmas.List.{at_drop_more, take_more, take_all, drop_all, map-append, length-append}
use Rattle.nvd_words.specs.Checks.{first_fault, value_unless}
use Rattle.nfit_reader.specs.declared.table.Mapping.{Mapping}
use Rattle.nfit_reader.specs.declared.table.Region.{Region}
use Rattle.interleave.specs.declared.set.SetFault.{SetFault}
use Rattle.interleave.specs.Sets.{set_reading}
use Rattle.namespace_ops.specs.declared.registry.OpenFault.{OpenFault}
use Rattle.namespace_ops.specs.Opening.{set_as, set_fault_from, set_in, set_or_fault}

-- a region that stands for none
abbrev pub blank : Region
blank = record { index = 0; base = 0; length = 0; mappings = [] }

alone : (o : Option OpenFault) → first_fault (o ∷ []) ≡ o
unfolding first_fault
alone None = refl
alone (Some f) = refl

step : (regions : List Region) (i : ℕ) (d : Region) → i < length regions
    → set_fault_from i (drop i regions) ≡ first_fault (result_err (set_or_fault i (get_or regions i d)) ∷ set_fault_from (i + 1) (drop (i + 1) regions) ∷ [])
unfolding set_fault_from
step regions i d lt = at_drop_more (set_fault_from i) regions i d lt

-- a region that is no set gives the fault
pub fault_here : (regions : List Region) (i : ℕ) (d : Region) (f : OpenFault) → i < length regions → set_or_fault i (get_or regions i d) ≡ Err f → set_fault_from i (drop i regions) ≡ Some f
unfolding first_fault
fault_here regions i d f lt is = step regions i d lt ∙ ap (λ (r : Result (List Mapping) OpenFault). first_fault (result_err r ∷ set_fault_from (i + 1) (drop (i + 1) regions) ∷ [])) is

-- one that is a set passes
pub set_here : (regions : List Region) (i : ℕ) (d : Region) (set : List Mapping) → i < length regions → set_or_fault i (get_or regions i d) ≡ Ok set
    → set_fault_from i (drop i regions) ≡ set_fault_from (i + 1) (drop (i + 1) regions)
unfolding set_fault_from first_fault
set_here regions i d set lt is =
    step regions i d lt ∙ ap (λ (r : Result (List Mapping) OpenFault). first_fault (result_err r ∷ set_fault_from (i + 1) (drop (i + 1) regions) ∷ [])) is
    ∙ alone (set_fault_from (i + 1) (drop (i + 1) regions))

read_as : (n : ℕ) (r : Result (List Mapping) SetFault) (set : List Mapping) → set_as n r ≡ Ok set → set_in r ≡ set
read_as n (Ok set') set is = let e = is in cc
read_as n (Err f) set is = absurd (let e = is in cc)

pub set_read : (n : ℕ) (region : Region) (set : List Mapping) → set_or_fault n region ≡ Ok set → set_in (set_reading region) ≡ set
set_read n region set is = read_as n (set_reading region) set is

-- ---- a loop over regions

abbrev sets_in : List Region → List (List Mapping)
sets_in regions = map (λ region. set_in (set_reading region)) regions

-- it goes on after a region that is a set
pub set_more : (regions : List Region) (i : ℕ) (d : Region) (sets sets' : List (List Mapping)) (set : List Mapping) → i < length regions → set_or_fault i (get_or regions i d) ≡ Ok set
    → sets' ≡ sets ++ set ∷ [] → sets ≡ sets_in (take i regions) → set_fault_from i (drop i regions) ≡ set_fault_from 0 regions
    → length sets ≡ i → (sets' ≡ sets_in (take (i + 1) regions)) × (set_fault_from (i + 1) (drop (i + 1) regions) ≡ set_fault_from 0 regions) × (length sets' ≡ i + 1)
set_more regions i d sets sets' set lt is pushed so_far none count = (
  pushed ∙ ap (λ (xs : List (List Mapping)). xs ++ set ∷ []) so_far ∙ ap (λ (x : List Mapping). sets_in (take i regions) ++ x ∷ []) (sym (set_read i (get_or regions i d) set is))
      ∙ sym (ap sets_in (take_more regions i d lt) ∙ map-append (λ region. set_in (set_reading region)) (take i regions) (get_or regions i d ∷ [])),
  sym (set_here regions i d set lt is) ∙ none,
  ap length pushed ∙ length-append sets (set ∷ []) ∙ ap (λ (n : ℕ). n + 1) count,
)

-- and ends at one that is none
pub fault_found : (regions : List Region) (i : ℕ) (d : Region) (f : OpenFault) → i < length regions → set_or_fault i (get_or regions i d) ≡ Err f
    → set_fault_from i (drop i regions) ≡ set_fault_from 0 regions → Err f ≡ value_unless (sets_in regions) (set_fault_from 0 regions)
fault_found regions i d f lt is none = sym (ap (value_unless (sets_in regions)) (sym none ∙ fault_here regions i d f lt is))

-- or after the last region
pub none_found : (regions : List Region) (i : ℕ) (sets : List (List Mapping)) → length regions ≤ i → sets ≡ sets_in (take i regions) → set_fault_from i (drop i regions) ≡ set_fault_from 0 regions
    → Ok sets ≡ value_unless (sets_in regions) (set_fault_from 0 regions)
unfolding set_fault_from
none_found regions i sets end all none =
    let gone : None ≡ set_fault_from 0 regions = sym (ap (set_fault_from i) (drop_all i regions end)) ∙ none in
    ap (λ (xs : List (List Mapping)). Ok xs) (all ∙ ap sets_in (take_all i regions end)) ∙ ap (value_unless (sets_in regions)) gone
