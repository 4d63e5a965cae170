-- A label is found among the regions of its module.
use Rattle.std.proofs.Common.{◌≡◌, ℕ, zero, suc, ◌+◌, ◌<◌, Bool, true, false, List, [], ◌∷◌, length, map, drop, get_or, Option, Some, None, refl, sym, ap, ◌∙◌, subst, arith}
use Rattle.std.specs.Prelude.{find, position, filter, slice_get, is_some, if◌then◌else◌}
use Rattle.std.specs.List.{AllByRecursion, enumerate_from}
use Rattle.std.specs.Global.{Vec}
use Rattle.nfit_reader.specs.declared.table.Mapping.{Mapping}
use Rattle.label_set.specs.declared.placed.Placed.{Placed}
use Rattle.label_set.specs.Rules.{mapping_of}
use Rattle.namespace_map.specs.Namespaces.{holds_label, region_of}
use Rattle.label_set.proofs.Found.{IsFound, found_at, not_found}
use Rattle.namespace_areas.specs.Regions.{is_on, regions_on, found_among, AreOnModules}

-- ---- the sets from a region on

-- the first of the sets from a region on, and those behind it
first_set : (sets : List (List Mapping)) (k : ℕ) (x : List Mapping) (xs : List (List Mapping)) → drop k sets ≡ x ∷ xs → (get_or sets k [] ≡ x) × (drop (k + 1) sets ≡ xs)
first_set [] zero x xs e = absurd (let f : [] ≡ x ∷ xs = e in cc)
first_set [] (suc k) x xs e = absurd (let f : [] ≡ x ∷ xs = e in cc)
first_set (y ∷ ys) zero x xs e = (cc, cc)
first_set (y ∷ ys) (suc k) x xs e =
    let r = first_set ys k x xs e in
    (r.0, ap (λ (n : ℕ). drop n (y ∷ ys)) (let z : suc k + 1 ≡ suc (k + 1) = omega arith in z) ∙ r.1)

-- ---- where a label is found

off_by : (set : List Mapping) (p : Placed) (found : Option Mapping) → mapping_of set p.«module» ≡ found → is_some found ≡ false → holds_label p set ≡ false
off_by set p None e is = rw e refl
off_by set p (Some m) e is = absurd (let f = is in cc)

-- a label doesn't lie in a region that has no mapping of its module
off : (set : List Mapping) (p : Placed) → is_some (mapping_of set p.«module») ≡ false → holds_label p set ≡ false
off set p e = off_by set p (mapping_of set p.«module») refl e

module _ (sets : List (List Mapping)) (p : Placed) where
  among_by : (b : Bool) (k : ℕ) (x : List Mapping) (xs : List (List Mapping)) → is_on p.«module» (k, x) ≡ b → get_or sets k [] ≡ x
      → found_among sets p (map (λ r. r.0) (filter (is_on p.«module») (enumerate_from (k + 1) xs))) ≡ find (λ r. holds_label p r.1) (enumerate_from (k + 1) xs)
      → found_among sets p (map (λ r. r.0) (filter (is_on p.«module») (enumerate_from k (x ∷ xs)))) ≡ find (λ r. holds_label p r.1) (enumerate_from k (x ∷ xs))
  among_by true k x xs on at rest = rw on (rw at (ap (λ (o : Option (ℕ × List Mapping)). if holds_label p x then Some (k, x) else o) rest))
  among_by false k x xs on at rest = rw on (rw (off x p on) rest)

  among_from : (k : ℕ) (xs : List (List Mapping)) → drop k sets ≡ xs
      → found_among sets p (map (λ r. r.0) (filter (is_on p.«module») (enumerate_from k xs))) ≡ find (λ r. holds_label p r.1) (enumerate_from k xs)
  among_from k [] e = refl
  among_from k (x ∷ xs) e =
      let at = first_set sets k x xs e in
      among_by (is_on p.«module» (k, x)) k x xs refl at.0 (among_from (k + 1) xs at.1)

  -- among the regions of its module the same region is found as among all
  pub found_on : found_among sets p (regions_on sets p.«module») ≡ region_of sets p
  found_on = among_from 0 sets refl

-- ---- a module's regions

some_by : {X : Type 0} (p : X → Bool) (xs : List X) (o : Option ℕ) → position p xs ≡ o → is_some o ≡ is_some (find p xs)
some_by p xs None e = sym (ap is_some (not_found p xs e))
some_by p xs (Some i) e = let at : IsFound p xs i = found_at p xs i e in sym (ap is_some at.found)

-- a place is found exactly if an element is
pub some_found : {X : Type 0} (p : X → Bool) (xs : List X) → is_some (position p xs) ≡ is_some (find p xs)
some_found p xs = some_by p xs (position p xs) refl

inside_by : (b : Bool) (number k count : ℕ) (x : List Mapping) (xs : List (List Mapping)) → is_on number (k, x) ≡ b → k < count
    → AllByRecursion (λ n. n < count) (map (λ r. r.0) (filter (is_on number) (enumerate_from (k + 1) xs)))
    → AllByRecursion (λ n. n < count) (map (λ r. r.0) (filter (is_on number) (enumerate_from k (x ∷ xs))))
inside_by true number k count x xs on lt rest = rw on (lt, rest)
inside_by false number k count x xs on lt rest = rw on rest

inside_from : (number k count : ℕ) (xs : List (List Mapping)) → k + length xs ≡ count
    → AllByRecursion (λ n. n < count) (map (λ r. r.0) (filter (is_on number) (enumerate_from k xs)))
inside_from number k count [] e = tt
inside_from number k count (x ∷ xs) e =
    inside_by (is_on number (k, x)) number k count x xs refl (omega (arith, e)) (inside_from number (k + 1) count xs (omega (arith, e)))

module _ (sets : List (List Mapping)) (lists : List (Vec ℕ)) (on : AreOnModules sets lists) (p : Placed) (list : Vec ℕ)
    (at : slice_get lists p.«module» ≡ Some list) where
  -- the regions in a module's list are regions of the set
  pub list_inside : AllByRecursion (λ n. n < length sets) list.items
  list_inside = subst (λ (ns : List ℕ). AllByRecursion (λ n. n < length sets) ns) (sym (on p.«module» list at)) (inside_from p.«module» 0 (length sets) sets (omega arith))

  -- and the label is found among them
  pub list_finds : found_among sets p list.items ≡ region_of sets p
  list_finds = ap (λ (ns : List ℕ). found_among sets p ns) (on p.«module» list at) ∙ found_on sets p
