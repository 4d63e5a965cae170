-- A set that passes the checks: its modules occur once, and its mappings have one size.
use Rattle.std.proofs.Common.{◌≡◌, ◌≢◌, suc, ◌<◌, Bool, false, List, [], ◌∷◌, length, Option, Some, None, refl, sym, ◌∙◌, subst, arith, inl, inr, Ok}
use Rattle.std.specs.Prelude.{◌==◌, nat_lt, find, not}
use Rattle.std.specs.Option.{option_map}
use Rattle.std.specs.List.{AllByRecursion, Contains}
use Rattle.std.proofs.lemmas.Bool.{cases_Bool, false≢true, eq-eqb}
use Rattle.std.proofs.lemmas.Option.{none-some}
use Rattle.nvd_words.specs.Checks.{first_fault, value_unless}
use Rattle.nfit_reader.specs.declared.table.Mapping.{Mapping}
use Rattle.nfit_reader.specs.declared.table.Region.{Region}
use Rattle.interleave.specs.declared.set.SetFault.{SetFault}
use Rattle.interleave.specs.declared.set.SetFault.TheVariants.{Ways, Twice}
use Rattle.interleave.specs.Places.{placed_among, by_offset}
use Rattle.interleave.specs.Sets.{first_pair, faults_of, set_reading}
use Rattle.interleave.specs.Sound.{span_of}
use Rattle.interleave.proofs.Sorted.{Makes, makes_set}
use Rattle.namespace_map.proofs.Rising.{all_pass_to}

-- ---- lists of faults

pub no_fault : {F : Type 0} (o : Option F) (os : List (Option F)) → first_fault (o ∷ os) ≡ None → (o ≡ None) × (first_fault os ≡ None)
unfolding first_fault
no_fault None os e = (refl, e)
no_fault (Some x) os e = absurd (none-some x (sym e))

pub unmapped : {A F : Type 0} (f : A → F) (o : Option A) → option_map f o ≡ None → o ≡ None
unmapped f None e = refl
unmapped f (Some x) e = absurd (none-some (f x) (sym e))

pub none_found : {X : Type 0} (test : X → Bool) (xs : List X) → find test xs ≡ None → AllByRecursion (λ x. test x ≡ false) xs
none_found test [] e = tt
none_found test (x ∷ xs) e =
    elim (cases_Bool (test x)) [
      | inl it ↦ absurd (none-some x (sym (rw it at e)))
      | inr not_it ↦ (not_it, none_found test xs (rw not_it at e))
    ]

-- ---- modules without repetition

abbrev pub ModulesApart : List Mapping → Type 0
ModulesApart [] = Unit {0}
ModulesApart (m ∷ ms) = AllByRecursion (λ (k : Mapping). m.«module» ≢ k.«module») ms × ModulesApart ms

apart_of_pairs : (ms : List Mapping) (f : Mapping → Mapping → SetFault) → first_pair (λ m k. m.«module» == k.«module») f ms ≡ None → ModulesApart ms
unfolding first_pair
apart_of_pairs [] f e = tt
apart_of_pairs (m ∷ ms) f e =
    let both = no_fault (option_map (λ k. f m k) (find (λ k. m.«module» == k.«module») ms)) _ e in
    let none = none_found (λ (k : Mapping). m.«module» == k.«module») ms (unmapped (λ k. f m k) (find (λ k. m.«module» == k.«module») ms) both.0) in (
      all_pass_to (λ (k : Mapping). (m.«module» == k.«module») ≡ false) (λ (k : Mapping). m.«module» ≢ k.«module») (λ k e same. false≢true (sym e ∙ eq-eqb m.«module» k.«module» same)) ms none,
      apart_of_pairs ms f (no_fault (first_pair (λ m k. m.«module» == k.«module») f ms) [] both.1).0,
    )

placed_all : (P : Mapping → Type 0) (xs : List Mapping) (m : Mapping) → P m → AllByRecursion P xs → AllByRecursion P (placed_among m xs)
unfolding placed_among
placed_all P [] m one all = (one, tt)
placed_all P (x ∷ xs) m one (two, rest) = elim (cases_Bool (nat_lt x.offset m.offset)) [
  | inl it ↦ rw it (two, placed_all P xs m one rest)
  | inr not_it ↦ rw not_it (one, (two, rest))
]

pub sorted_all : (P : Mapping → Type 0) (xs : List Mapping) → AllByRecursion P xs → AllByRecursion P (by_offset xs)
unfolding by_offset
sorted_all P [] all = tt
sorted_all P (x ∷ xs) (one, rest) = placed_all P (by_offset xs) x one (sorted_all P xs rest)

placed_apart : (xs : List Mapping) (m : Mapping) → AllByRecursion (λ (k : Mapping). m.«module» ≢ k.«module») xs → ModulesApart xs → ModulesApart (placed_among m xs)
unfolding placed_among
placed_apart [] m one apart = (tt, tt)
placed_apart (x ∷ xs) m (ne, nes) (one, rest) = elim (cases_Bool (nat_lt x.offset m.offset)) [
  | inl it ↦ rw it (placed_all (λ (k : Mapping). x.«module» ≢ k.«module») xs m (λ e. ne (sym e)) one, placed_apart xs m nes rest)
  | inr not_it ↦ rw not_it ((ne, nes), (one, rest))
]

sorted_apart : (xs : List Mapping) → ModulesApart xs → ModulesApart (by_offset xs)
unfolding by_offset
sorted_apart [] apart = tt
sorted_apart (x ∷ xs) (one, rest) = placed_apart (by_offset xs) x (sorted_all (λ (k : Mapping). x.«module» ≢ k.«module») xs one) (sorted_apart xs rest)

-- ---- what follows from a region's reading

pub all_of_contained : {X : Type 0} (P : X → Type 0) (xs : List X) → ((x : X) → Contains xs x → P x) → AllByRecursion P xs
all_of_contained P [] each = tt
all_of_contained P (x ∷ xs) each = (each x (0, omega arith, refl), all_of_contained P xs (λ y c. each y (suc c.0, omega (arith, c.1), c.2)))

-- the mappings' sizes; no two mappings are of one module
pub record IsSet (set : List Mapping) : Type 0 where
  pub some : 0 < length set
  pub apart : ModulesApart set
  pub sizes : AllByRecursion (λ (m : Mapping). m.size ≡ span_of set) set

read_parts : {A F : Type 0} (v w : A) (o : Option F) → value_unless v o ≡ Ok w → (o ≡ None) × (v ≡ w)
read_parts v w None e = (refl, cc)
read_parts v w (Some f) e = absurd (cc)

pub is_set : (r : Region) (set : List Mapping) → set_reading r ≡ Ok set → 0 < length r.mappings → IsSet set
is_set r set e some =
    let made : Makes r set = makes_set r set e some in
    let parts = read_parts (by_offset r.mappings) set (first_fault (faults_of r r.mappings)) e in
    record {
      some = made.some;
      apart = subst ModulesApart parts.1 (sorted_apart r.mappings (by r.mappings refl parts.0));
      sizes = all_of_contained (λ (m : Mapping). m.size ≡ span_of set) set (λ m c. (made.sound.shares m c).size);
    }
  where
    by : (ms : List Mapping) → r.mappings ≡ ms → first_fault (faults_of r ms) ≡ None → ModulesApart r.mappings
    by [] is none = subst ModulesApart (sym is) tt
    by (first ∷ rest) is none =
        let ways = no_fault (option_map (λ m. Ways m.ways (length r.mappings)) (find (λ m. not (m.ways == length r.mappings)) r.mappings)) _ none in
        let twice = no_fault (first_pair (λ m k. m.«module» == k.«module») (λ m k. Twice m.«module») r.mappings) _ ways.1 in
        apart_of_pairs r.mappings (λ m k. Twice m.«module») twice.0
