-- The region of a valid label is the one in whose set it is valid; the place of a mapping in its set.
use Rattle.std.proofs.Common.{◌≡◌, ◌≢◌, ℕ, zero, suc, ◌+◌, ◌<◌, Bool, true, false, List, [], ◌∷◌, Option, Some, None, refl, sym, ap, ◌∙◌, subst, arith, inl, inr}
use Rattle.std.specs.Prelude.{◌==◌, not, nat_lt, find, slice_get, position}
use Rattle.std.specs.List.{AllByRecursion, Contains, enumerate_from, position_from}
use Rattle.std.proofs.lemmas.Bool.{cases_Bool, false≢true, eq-eqb, ne_eqb, eqb-true, or_parts, ltb-false, lt-ltb}
use Rattle.std.proofs.lemmas.Option.{none-some, same_Some}
use Rattle.std.proofs.lemmas.Iterator.Adapters.{position_from-zero}
use Rattle.nfit_reader.specs.declared.table.Mapping.{Mapping}
use Rattle.interleave.specs.Sound.{span_of}
use Rattle.label_set.specs.declared.placed.Placed.{Placed}
use Rattle.label_set.specs.Rules.{mapping_of, is_past, leaves}
use Rattle.region_space.specs.Space.{ranges_meet}
use Rattle.namespace_map.specs.Namespaces.{holds_label, region_of}
use Rattle.namespace_map.proofs.Rising.{all_pass_to}
use Rattle.namespace_laws.proofs.Sound.{Shared, SoundIn, inside_is}
use Rattle.namespace_laws.proofs.Sets.{ModulesApart, IsSet}

-- ---- what is found

pub found_passes : {X : Type 0} (test : X → Bool) (P : X → Type 0) (xs : List X) (x : X) → find test xs ≡ Some x → AllByRecursion P xs → (test x ≡ true) × P x
found_passes test P [] x e all = absurd (none-some x e)
found_passes test P (y ∷ ys) x e (one, rest) =
    elim (cases_Bool (test y)) [
      | inl it ↦ subst (λ z. (test z ≡ true) × P z) (same_Some y x (rw it at e)) (it, one)
      | inr not_it ↦ found_passes test P ys x (rw not_it at e) rest
    ]

pub found_contained : (test : Mapping → Bool) (xs : List Mapping) (x : Mapping) → find test xs ≡ Some x → Contains xs x
found_contained test [] x e = absurd (none-some x e)
found_contained test (y ∷ ys) x e =
    elim (cases_Bool (test y)) [
      | inl it ↦ (0, omega arith, same_Some y x (rw it at e))
      | inr not_it ↦ let c = found_contained test ys x (rw not_it at e) in (suc c.0, omega (arith, c.1), c.2)
    ]

-- the mapping that is found is one of the module
pub found_number : (set : List Mapping) (m : ℕ) (k : Mapping) → mapping_of set m ≡ Some k → k.«module» ≡ m
found_number [] m k e = absurd (none-some k e)
found_number (j ∷ js) m k e =
    elim (cases_Bool (j.«module» == m)) [
      | inl it ↦ ap (λ (x : Mapping). x.«module») (sym (same_Some j k (rw it at e))) ∙ eqb-true j.«module» m it
      | inr not_it ↦ found_number js m k (rw not_it at e)
    ]

pub find_self : (set : List Mapping) → ModulesApart set → AllByRecursion (λ (m : Mapping). mapping_of set m.«module» ≡ Some m) set
find_self [] apart = tt
find_self (m ∷ ms) (one, rest) = (
  rw (eq-eqb m.«module» m.«module» refl) refl,
  later ms (find_self ms rest) one,
)
  where
    later : (ks : List Mapping) → AllByRecursion (λ (k : Mapping). mapping_of ms k.«module» ≡ Some k) ks → AllByRecursion (λ (k : Mapping). m.«module» ≢ k.«module») ks
        → AllByRecursion (λ (k : Mapping). mapping_of (m ∷ ms) k.«module» ≡ Some k) ks
    later [] a b = tt
    later (k ∷ ks) (a, as') (b, bs) = (rw (ne_eqb m.«module» k.«module» b) a, later ks as' bs)

-- ---- a mapping's place

places_from : (ms : List Mapping) (k : ℕ) → ModulesApart ms → AllByRecursion (λ (e : ℕ × Mapping). position_from (λ j. j.«module» == e.1.«module») k ms ≡ Some e.0) (enumerate_from k ms)
places_from [] k apart = tt
places_from (m ∷ ms) k (one, rest) = (rw (eq-eqb m.«module» m.«module» refl) refl, later ms (k + 1) one (places_from ms (k + 1) rest))
  where
    later : (js : List Mapping) (n : ℕ) → AllByRecursion (λ (j : Mapping). m.«module» ≢ j.«module») js
        → AllByRecursion (λ (e : ℕ × Mapping). position_from (λ j. j.«module» == e.1.«module») (k + 1) ms ≡ Some e.0) (enumerate_from n js)
        → AllByRecursion (λ (e : ℕ × Mapping). position_from (λ j. j.«module» == e.1.«module») k (m ∷ ms) ≡ Some e.0) (enumerate_from n js)
    later [] n a b = tt
    later (j ∷ js) n (a, as') (b, bs) = (rw (ne_eqb m.«module» j.«module» a) b, later js (n + 1) as' bs)

pub places : (set : List Mapping) → ModulesApart set → AllByRecursion (λ (e : ℕ × Mapping). position (λ j. j.«module» == e.1.«module») set ≡ Some e.0) (enumerate_from 0 set)
places set apart =
    all_pass_to (λ (e : ℕ × Mapping). position_from (λ j. j.«module» == e.1.«module») 0 set ≡ Some e.0) (λ (e : ℕ × Mapping). position (λ j. j.«module» == e.1.«module») set ≡ Some e.0)
    (λ e is. position_from-zero (λ (j : Mapping). j.«module» == e.1.«module») set ∙ is) (enumerate_from 0 set) (places_from set 0 apart)

-- ---- regions

-- no mapping of one region overlaps one of another on the same module
abbrev pub RegionsApart : List (List Mapping) → Type 0
RegionsApart sets =
    (i j : ℕ) (s t : List Mapping) (m k : Mapping) → slice_get sets i ≡ Some s → slice_get sets j ≡ Some t → i ≢ j → Contains s m → Contains t k → m.«module» ≡ k.«module»
    → ranges_meet m.start m.size k.start k.size ≡ false

find_at : (sets : List (List Mapping)) (test : List Mapping → Bool) (k i : ℕ) (set : List Mapping) → slice_get sets i ≡ Some set → test set ≡ true
    → ((j : ℕ) (s : List Mapping) → j < i → slice_get sets j ≡ Some s → test s ≡ false) → find (λ r. test r.1) (enumerate_from k sets) ≡ Some (k + i, set)
find_at [] test k i set at passes before = absurd (none-some set at)
find_at (s ∷ sets) test k zero set at passes before =
    let same : s ≡ set = same_Some s set at in
    rw (same, passes) (ap (λ (n : ℕ). Some (n, set)) (omega arith))
find_at (s ∷ sets) test k (suc i) set at passes before =
    rw (before 0 s (omega arith) refl)
    (find_at sets test (k + 1) i set at passes (λ j t less is. before (suc j) t (omega arith) is) ∙ ap (λ (n : ℕ). Some (n, set)) (omega arith))

-- a label that lies in a mapping of another region
not_held : (sets : List (List Mapping)) (region j : ℕ) (set s : List Mapping) (c : Shared) (p : Placed) → RegionsApart sets → slice_get sets region ≡ Some set → slice_get sets j ≡ Some s → j ≢ region
    → AllByRecursion (λ (m : Mapping). m.size ≡ span_of set) set → AllByRecursion (λ (m : Mapping). m.size ≡ span_of s) s → 0 < c.raw → SoundIn set c p → holds_label p s ≡ false
not_held sets region j set s c p apart at at' ne sizes sizes' some sound = by (mapping_of s p.«module») refl
  where
    size : sound.mapping.size ≡ span_of set
    size = (found_passes (λ (k : Mapping). k.«module» == p.«module») (λ (m : Mapping). m.size ≡ span_of set) set sound.mapping sound.found sizes).1

    by : (o : Option Mapping) → mapping_of s p.«module» ≡ o → not (leaves (span_of s) o p) ≡ false
    by None is = refl
    by (Some k) is =
        let meets : ranges_meet k.start k.size sound.mapping.start sound.mapping.size ≡ false =
        apart j region s set k sound.mapping at' at ne (found_contained (λ (i : Mapping). i.«module» == p.«module») s k is) (found_contained (λ (i : Mapping). i.«module» == p.«module») set sound.mapping sound.found)
        (found_number s p.«module» k is ∙ sym (found_number set p.«module» sound.mapping sound.found)) in
        let size' : k.size ≡ span_of s = (found_passes (λ (i : Mapping). i.«module» == p.«module») (λ (m : Mapping). m.size ≡ span_of s) s k is sizes').1 in
        elim (cases_Bool (is_past k.start (span_of s) p)) [
          | inl it ↦ rw it refl
          | inr not_it ↦
              let both = or_parts (nat_lt p.label.dpa k.start) (nat_lt (k.start + span_of s) (p.label.dpa + p.label.raw)) not_it in
              let low = ltb-false p.label.dpa k.start both.0 in
              let high = ltb-false (k.start + span_of s) (p.label.dpa + p.label.raw) both.1 in
              let a = sound.starts in let b = sound.fits in let r = sound.raw in
              absurd (false≢true (sym meets ∙ rw (lt-ltb k.start (sound.mapping.start + sound.mapping.size) (omega (arith, size, size')), lt-ltb sound.mapping.start (k.start + k.size) (omega (arith, size, size'))) refl))
        ]

pub in_region : (sets : List (List Mapping)) (region : ℕ) (set : List Mapping) (c : Shared) → RegionsApart sets → ((j : ℕ) (s : List Mapping) → slice_get sets j ≡ Some s → IsSet s) → slice_get sets region ≡ Some set → 0 < c.raw
    → (p : Placed) → SoundIn set c p → region_of sets p ≡ Some (region, set)
in_region sets region set c apart sound at some p s =
    find_at sets (holds_label p) 0 region set at (rw (inside_is set c p s) refl)
    (λ j t less is. not_held sets region j set t c p apart at is (λ e. omega arith) (sound region set at).sizes (sound j t is).sizes some s)
    ∙ ap (λ (n : ℕ). Some (n, set)) (omega arith)
