-- A table that was read has at most 64 modules, and each mapping is of one of them.
use Rattle.std.proofs.Common.{◌≡◌, ℕ, zero, suc, ◌+◌, ◌<◌, ◌≤◌, Bool, true, false, eqb, List, [], ◌∷◌, length, map, get_or, Option, Some, None, Result, Ok, Err, refl, sym, subst, arith, inl, inr}
use Rattle.std.specs.Prelude.{nat_lt, unwrap_or, IfOk}
use Rattle.std.specs.List.{All, filter, list_any, position_from}
use Rattle.std.proofs.lemmas.Bool.{cases_Bool, cases_eq, eq-eqb, ne_eqb}
use Rattle.std.proofs.lemmas.Bool.Decides.{nat_tests}
use Rattle.std.proofs.lemmas.List.Elements.{All-filter, All-map}
use Rattle.nvd_words.specs.Checks.{Answers, first_fault, value_unless}
use Rattle.nfit_reader.specs.declared.table.Nfit.{Nfit}
use Rattle.nfit_reader.specs.declared.table.Mapping.{Mapping}
use Rattle.nfit_reader.specs.declared.table.Region.{Region}
use Rattle.nfit_reader.specs.declared.table.NfitFault.{NfitFault}
use Rattle.nfit_reader.specs.declared.table.NfitFault.TheVariants.{OutOfMemory}
use Rattle.nfit_reader.specs.declared.structures.Structure.{Structure}
use Rattle.nfit_reader.specs.declared.structures.Link.{Link}
use Rattle.nfit_reader.specs.Table.{distinct_after, place_of, modules_of, links_of, ranges_of, mapping_of, region_of, regions_of, is_region, nfit_of, too_large, table_reading}
use Rattle.nfit_reader.specs.Counted.{NamesItsModules}

-- a result that is Ok had no fault
third_none : {A F : Type 0} (v n : A) (a b c d : Option F) → value_unless v (first_fault (a ∷ b ∷ c ∷ d ∷ [])) ≡ Ok n → (n ≡ v) × (c ≡ None)
unfolding first_fault
third_none v n (Some f) b c d is = absurd (cc)
third_none v n None (Some f) c d is = absurd (cc)
third_none v n None None (Some f) d is = absurd (cc)
third_none v n None None None (Some f) is = absurd (cc)
third_none v n None None None None is = (cc, refl)

-- ---- places

found : (p : ℕ → Bool) (i : ℕ) (xs : List ℕ) → list_any p xs ≡ true → unwrap_or (position_from p i xs) 0 < i + length xs
found p i [] some = absurd (cc)
found p i (x ∷ xs) some = elim (cases_Bool (p x)) [
  | inl here ↦ rw here (omega arith)
  | inr on ↦ rw on (let h = found p (i + 1) xs (rw on at some) in omega arith)
]

-- a number of the list that wasn't seen before is among the distinct ones
kept : (x : ℕ) (seen xs : List ℕ) → list_any (λ y. eqb y x) xs ≡ true → list_any (λ y. eqb y x) seen ≡ false → list_any (λ y. eqb y x) (distinct_after seen xs) ≡ true
unfolding distinct_after
kept x seen [] some unseen = some
kept x seen (y ∷ xs) some unseen = elim (cases_Bool (list_any (λ z. eqb z y) seen)) [
  | inl old ↦ rw old (elim (cases_eq y x) [
    | inl same ↦ absurd (let e : list_any (λ z. eqb z x) seen ≡ true = subst (λ (k : ℕ). list_any (λ z. eqb z k) seen ≡ true) same old in cc)
    | inr other ↦ kept x seen xs (rw (ne_eqb y x other) at some) unseen
  ])
  | inr new ↦ rw new (elim (cases_eq y x) [
    | inl same ↦ rw (eq-eqb y x same) refl
    | inr other ↦ rw (ne_eqb y x other) (kept x (y ∷ seen) xs (rw (ne_eqb y x other) at some) (rw (ne_eqb y x other) unseen))
  ])
]

handle_there : (links : List Link) (k : ℕ) (d : Link) → k < length links → list_any (λ y. eqb y (get_or links k d).handle) (map (λ m. m.handle) links) ≡ true
handle_there [] k d lt = absurd (omega arith)
handle_there (m ∷ links) zero d lt = rw (eq-eqb m.handle m.handle refl) refl
handle_there (m ∷ links) (suc k) d lt = elim (cases_Bool (eqb m.handle (get_or links k d).handle)) [
  | inl here ↦ rw here refl
  | inr on ↦ rw on (handle_there links k d (omega arith))
]

abbrev IsPlaced : List Structure → Link → Type 0
IsPlaced structures m = unwrap_or (place_of m.handle (modules_of structures)) 0 < length (modules_of structures)

all_placed : (structures : List Structure) → All (IsPlaced structures) (links_of structures)
all_placed structures k d lt =
    let handle = (get_or (links_of structures) k d).handle in
    let bound = found (λ y. eqb y handle) 0 (modules_of structures)
    (kept handle [] (map (λ m. m.handle) (links_of structures)) (handle_there (links_of structures) k d lt) refl) in
    omega arith

-- each mapping is of a module of the table
pub all_named : (structures : List Structure) → All (λ region. All (λ m. m.«module» < length (modules_of structures)) region.mappings) (regions_of structures)
unfolding regions_of region_of mapping_of
all_named structures =
    All-map (λ (region : Region). All (λ m. m.«module» < length (modules_of structures)) region.mappings) (region_of structures) (filter (is_region structures) (ranges_of structures))
    (λ k d lt. All-map (λ (m : Mapping). m.«module» < length (modules_of structures)) (mapping_of structures) _ (All-filter _ (IsPlaced structures) (links_of structures) (all_placed structures)))

few_of : (structures : List Structure) → too_large structures ≡ None → length (modules_of structures) ≤ 64
few_of structures few = elim (cases_Bool (nat_lt 64 (length (modules_of structures)))) [
  | inl more ↦ absurd (let h = rw more at few in cc)
  | inr most ↦ grind (arith, nat_tests)
]

names_modules : (structures : List Structure) (nfit : Nfit) → table_reading structures ≡ Ok nfit → NamesItsModules nfit
unfolding table_reading
names_modules structures nfit is =
    let t = third_none (nfit_of structures) nfit _ _ _ _ is in
    subst NamesItsModules (sym t.0) (record { few = few_of structures t.1; each = all_named structures })

pub modules_table : (structures : List Structure) (r : Result Nfit NfitFault) → Answers OutOfMemory r (table_reading structures) → IfOk r NamesItsModules
modules_table structures (Ok nfit) told = names_modules structures nfit (sym (told (λ is. cc)))
modules_table structures (Err f) told = tt
