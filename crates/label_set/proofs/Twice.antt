-- The least module with two labels, found by going up from module to module.
use Rattle.std.proofs.Common.{◌≡◌, ℕ, ◌+◌, ◌<◌, ◌≤◌, Bool, true, false, cond, leb, ltb, List, [], ◌∷◌, length, get_or, zero, suc, Option, Some, None, refl, sym, ap, ◌∙◌, inl, inr, arith}
use Rattle.std.specs.Option.{option_map}
use Rattle.std.proofs.lemmas.Bool.{cases_Bool, cases_lt, leb-true, leb-false, le-leb}
use Rattle.nfit_reader.specs.declared.table.Mapping.{Mapping}
use Rattle.label_set.specs.declared.placed.Placed.{Placed}
use Rattle.label_set.specs.Rules.{lesser, least_where, module_of, count_on, is_twice, least_twice, modules_of}

-- ---- a property of each

abbrev pub Each : {X : Type 0} → (X → Type 0) → List X → Type 0
Each P [] = Unit
Each P (x ∷ xs) = P x × Each P xs

each_all : {X : Type 0} (P : X → Type 0) (xs : List X) → ((x : X) → P x) → Each P xs
each_all P [] all = tt
each_all P (x ∷ xs) all = (all x, each_all P xs all)

each_with : {X : Type 0} (P Q R : X → Type 0) (xs : List X) → Each P xs → Each Q xs → ((x : X) → P x → Q x → R x) → Each R xs
each_with P Q R [] p q both = tt
each_with P Q R (x ∷ xs) p q both = (both x p.0 q.0, each_with P Q R xs p.1 q.1 both)

each_so : {X : Type 0} (P R : X → Type 0) (xs : List X) → Each P xs → ((x : X) → P x → R x) → Each R xs
each_so P R [] p so = tt
each_so P R (x ∷ xs) p so = (so x p.0, each_so P R xs p.1 so)

-- ---- the least that passes a test

-- a property of each is one of the least
one_by : {X : Type 0} (key : X → ℕ) (b : Bool) (o : Option X) (P : X → Type 0) (x m : X) → lesser key (cond b (Some x) None) o ≡ Some m
    → P x → ((y : X) → o ≡ Some y → P y) → P m
one_by key true None P x m e here on = let same : x ≡ m = cc in rw (← same) here
one_by key true (Some y) P x m e here on = elim (cases_Bool (leb (key x) (key y))) [
  | inl le ↦ let same : x ≡ m = (let f = rw le at e in cc) in rw (← same) here
  | inr gt ↦ let same : y ≡ m = (let f = rw gt at e in cc) in rw (← same) (on y refl)
]
one_by key false o P x m e here on = on m e

pub least_one : {X : Type 0} (key : X → ℕ) (test : X → Bool) (xs : List X) (P : X → Type 0) (m : X) → least_where key test xs ≡ Some m → Each P xs → P m
least_one key test [] P m e each = cc
least_one key test (x ∷ xs) P m e each =
    one_by key (test x) (least_where key test xs) P x m e each.0 (λ y is. least_one key test xs P y is each.1)

-- none passes
none_by : {X : Type 0} (key : X → ℕ) (b : Bool) (o : Option X) (x : X) → lesser key (cond b (Some x) None) o ≡ None → (b ≡ false) × (o ≡ None)
none_by key true None x e = cc
none_by key true (Some y) x e = elim (cases_Bool (leb (key x) (key y))) [
  | inl le ↦ let f = rw le at e in cc
  | inr gt ↦ let f = rw gt at e in cc
]
none_by key false o x e = (refl, e)

pub least_none : {X : Type 0} (key : X → ℕ) (test : X → Bool) (xs : List X) → least_where key test xs ≡ None → Each (λ x. test x ≡ false) xs
least_none key test [] e = tt
least_none key test (x ∷ xs) e =
    let both = none_by key (test x) (least_where key test xs) x e in
    (both.0, least_none key test xs both.1)

pub none_least : {X : Type 0} (key : X → ℕ) (test : X → Bool) (xs : List X) → Each (λ x. test x ≡ false) xs → least_where key test xs ≡ None
none_least key test [] each = refl
none_least key test (x ∷ xs) each = rw (each.0, none_least key test xs each.1) refl

-- it passes, and no other that passes has a lesser key
pub record IsLeast {X : Type 0} (key : X → ℕ) (test : X → Bool) (xs : List X) (m : X) : Type 0 where
  pub passes : test m ≡ true
  pub least : Each (λ x. test x ≡ true → key m ≤ key x) xs

some_by : {X : Type 0} (key : X → ℕ) (test : X → Bool) (b : Bool) (o : Option X) (x m : X) (xs : List X) → test x ≡ b → least_where key test xs ≡ o
    → lesser key (cond b (Some x) None) o ≡ Some m → ((y : X) → o ≡ Some y → IsLeast key test xs y) → IsLeast key test (x ∷ xs) m
some_by key test true None x m xs is rest e on =
    let same : x ≡ m = cc in
    let alone : IsLeast key test (x ∷ xs) x = record {
      passes = is;
      least = ((λ t. omega arith), each_so (λ y. test y ≡ false) (λ y. test y ≡ true → key x ≤ key y) xs (least_none key test xs rest) (λ y no yes. absurd (let z : true ≡ false = sym yes ∙ no in cc)));
    } in
    rw (← same) alone
some_by key test true (Some y) x m xs is rest e on =
    let other : IsLeast key test xs y = on y refl in
    elim (cases_Bool (leb (key x) (key y))) [
      | inl le ↦
          let same : x ≡ m = (let f = rw le at e in cc) in
          let first : IsLeast key test (x ∷ xs) x = record {
            passes = is;
            least = ((λ t. omega arith), each_so (λ z. test z ≡ true → key y ≤ key z) (λ z. test z ≡ true → key x ≤ key z) xs other.least (λ z h t. omega (arith, h t, leb-true (key x) (key y) le)));
          } in
          rw (← same) first
      | inr gt ↦
          let same : y ≡ m = (let f = rw gt at e in cc) in
          let later : IsLeast key test (x ∷ xs) y = record {
            passes = other.passes;
            least = ((λ t. omega (arith, leb-false (key x) (key y) gt)), other.least);
          } in
          rw (← same) later
    ]
some_by key test false o x m xs is rest e on =
    let other : IsLeast key test xs m = on m e in
    record { passes = other.passes; least = ((λ yes. absurd (let z : true ≡ false = sym yes ∙ is in cc)), other.least) }

pub least_some : {X : Type 0} (key : X → ℕ) (test : X → Bool) (xs : List X) (m : X) → least_where key test xs ≡ Some m → IsLeast key test xs m
least_some key test [] m e = cc
least_some key test (x ∷ xs) m e = some_by key test (test x) (least_where key test xs) x m xs refl refl e (λ y is. least_some key test xs y is)

-- ---- going up

-- no module below a number has two of the labels
abbrev pub NoneBelow : ℕ → List Placed → Type 0
NoneBelow from labels = Each (λ p. p.«module» < from → is_twice labels p ≡ false) labels

abbrev pub from_on : ℕ → Placed → Bool
from_on from p = leb from p.«module»

pub none_below_zero : (labels : List Placed) → NoneBelow 0 labels
none_below_zero labels = each_all (λ p. p.«module» < 0 → is_twice labels p ≡ false) labels (λ p lt. absurd (omega (arith, lt)))

found_twice : (labels : List Placed) (from : ℕ) (m : Placed) (o : Option Placed) → least_where module_of (from_on from) labels ≡ Some m → NoneBelow from labels
    → is_twice labels m ≡ true → least_where module_of (is_twice labels) labels ≡ o → Some m.«module» ≡ option_map module_of o
found_twice labels from m None next below twice e =
    absurd (let z : true ≡ false = sym twice ∙ least_one module_of (from_on from) labels (λ p. is_twice labels p ≡ false) m next (least_none module_of (is_twice labels) labels e) in cc)
found_twice labels from m (Some k) next below twice e =
    let least_of_twice : IsLeast module_of (is_twice labels) labels k = least_some module_of (is_twice labels) labels k e in
    let least_of_next : IsLeast module_of (from_on from) labels m = least_some module_of (from_on from) labels m next in
    let low : k.«module» ≤ m.«module» =
    least_one module_of (from_on from) labels (λ p. is_twice labels p ≡ true → k.«module» ≤ p.«module») m next least_of_twice.least twice in
    let not_below : from ≤ k.«module» = elim (cases_lt k.«module» from) [
      | inl lt ↦
          absurd (let z : true ≡ false = sym least_of_twice.passes
          ∙ least_one module_of (is_twice labels) labels (λ p. p.«module» < from → is_twice labels p ≡ false) k e below lt in cc)
      | inr ge ↦ ge
    ] in
    let high : m.«module» ≤ k.«module» =
    least_one module_of (is_twice labels) labels (λ p. from_on from p ≡ true → m.«module» ≤ p.«module») k e least_of_next.least (le-leb from k.«module» not_below) in
    ap (λ (n : ℕ). Some n) (let z : m.«module» ≡ k.«module» = omega (arith, low, high) in z)

pub twice_found : (labels : List Placed) (from : ℕ) (m : Placed) → least_where module_of (from_on from) labels ≡ Some m → NoneBelow from labels
    → ltb 1 (count_on labels m.«module») ≡ true → Some m.«module» ≡ least_twice labels
twice_found labels from m next below twice = found_twice labels from m (least_where module_of (is_twice labels) labels) next below twice refl

pub twice_on : (labels : List Placed) (from : ℕ) (m : Placed) → least_where module_of (from_on from) labels ≡ Some m → NoneBelow from labels
    → ltb 1 (count_on labels m.«module») ≡ false → NoneBelow (m.«module» + 1) labels
twice_on labels from m next below once =
    let least : IsLeast module_of (from_on from) labels m = least_some module_of (from_on from) labels m next in
    each_with (λ p. p.«module» < from → is_twice labels p ≡ false) (λ p. from_on from p ≡ true → m.«module» ≤ p.«module»)
    (λ p. p.«module» < m.«module» + 1 → is_twice labels p ≡ false) labels below least.least
    (λ p low high lt. elim (cases_lt p.«module» from) [
      | inl before ↦ low before
      | inr after ↦
          let up : m.«module» ≤ p.«module» = high (le-leb from p.«module» after) in
          let same : p.«module» ≡ m.«module» = omega (arith, up, lt) in
          ap (λ (n : ℕ). ltb 1 (count_on labels n)) same ∙ once
    ])

pub twice_none : (labels : List Placed) (from : ℕ) → least_where module_of (from_on from) labels ≡ None → NoneBelow from labels → None ≡ least_twice labels
twice_none labels from none below =
    sym (ap (λ (o : Option Placed). option_map module_of o)
    (none_least module_of (is_twice labels) labels
    (each_with (λ p. p.«module» < from → is_twice labels p ≡ false) (λ p. from_on from p ≡ false) (λ p. is_twice labels p ≡ false) labels below
    (least_none module_of (from_on from) labels none) (λ p low not_on. low (leb-false from p.«module» not_on)))))

-- ---- the modules of a set

pub module_there : (set : List Mapping) (i x : ℕ) → i < length set → ((blank : Mapping) → x ≡ (get_or set i blank).«module») → x ≡ get_or (modules_of set) i x
module_there [] i x lt is = absurd (omega (arith, lt))
module_there (m ∷ set) zero x lt is = is m
module_there (m ∷ set) (suc i) x lt is = module_there set i x (omega (arith, lt)) (λ blank. is blank)

pub length_modules : (set : List Mapping) → length (modules_of set) ≡ length set
length_modules [] = refl
length_modules (m ∷ set) = ap suc (length_modules set)
