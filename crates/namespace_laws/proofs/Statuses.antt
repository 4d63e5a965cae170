-- The status of labels that agree, by whether one is missing, and by their names.
use Rattle.std.proofs.Common.{◌≡◌, ℕ, Bool, true, false, List, [], ◌∷◌, Option, Some, None, refl, sym, ap, ◌∙◌, arith, inl, inr, ◌⊎◌}
use Rattle.std.specs.Prelude.{◌==◌, not, find, filter, count_by, nat_le}
use Rattle.std.specs.List.{AllByRecursion, list_any, list_all}
use Rattle.std.proofs.lemmas.Bool.{cases_Bool, false≢true, eq-eqb, eqb-true, ne_eqb, and_parts, or_right}
use Rattle.std.proofs.lemmas.Option.{none-some, same_Some}
use Rattle.std.proofs.lemmas.Slice.Eq.{bytes_eq-Decides}
use Rattle.nfit_reader.specs.declared.table.Mapping.{Mapping}
use Rattle.label_set.specs.declared.placed.Placed.{Placed}
use Rattle.label_set.specs.declared.placed.SetStatus.TheVariants.{Complete, Unfinished}
use Rattle.label_set.specs.Rules.{least_where, lesser, modules_of, count_on, least_missing, is_updating, is_marked, same_name, agreed_name}
use Rattle.label_set.specs.Status.{missing_finding, named_by, naming_of}
use Rattle.namespace_map.proofs.Rising.{all_pass_to}
use Rattle.namespace_laws.proofs.Apart.{on_module, count_none, count_some}
use Rattle.namespace_laws.proofs.Sound.{least_none, same_bytes}

-- ---- missing labels

abbrev pub stands_on : List Placed → Mapping → Bool
stands_on xs m = list_any (on_module m.«module») xs

some_not_zero : (test : Placed → Bool) (xs : List Placed) → list_any test xs ≡ true → (count_by test xs == 0) ≡ false
some_not_zero test xs e = ne_eqb (count_by test xs) 0 (λ z. let h = count_some test xs e in omega arith)

none_zero : (test : Placed → Bool) (xs : List Placed) → list_any test xs ≡ false → (count_by test xs == 0) ≡ true
none_zero test xs e = eq-eqb (count_by test xs) 0 (count_none test xs e)

abbrev lacks : List Placed → ℕ → Bool
lacks xs number = count_on xs number == 0

pub missing_none : (set : List Mapping) (xs : List Placed) → AllByRecursion (λ m. stands_on xs m ≡ true) set → missing_finding set xs ≡ None
missing_none set xs all = rw (least_none (λ number. number) (lacks xs) (modules_of set) (by set all)) refl
  where
    by : (ms : List Mapping) → AllByRecursion (λ m. stands_on xs m ≡ true) ms → AllByRecursion (λ number. lacks xs number ≡ false) (modules_of ms)
    by [] all = tt
    by (m ∷ ms) (one, rest) = (some_not_zero (on_module m.«module») xs one, by ms rest)

some_least : (key : ℕ → ℕ) (test : ℕ → Bool) (ns : List ℕ) → list_any test ns ≡ true → (w : ℕ) × (least_where key test ns ≡ Some w)
some_least key test [] e = absurd (false≢true e)
some_least key test (n ∷ ns) e = by (cases_Bool (test n)) (λ rest. some_least key test ns rest)
  where
    lesser_some : (a b : ℕ) → (w : ℕ) × (lesser key (Some a) (Some b) ≡ Some w)
    lesser_some a b = elim (cases_Bool (nat_le (key a) (key b))) [ inl it ↦ (a, rw it refl) | inr not_it ↦ (b, rw not_it refl) ]

    from : (o : Option ℕ) → (w : ℕ) × (lesser key (Some n) o ≡ Some w)
    from None = (n, refl)
    from (Some b) = lesser_some n b

    by : (test n ≡ true) ⊎ (test n ≡ false) → (list_any test ns ≡ true → (w : ℕ) × (least_where key test ns ≡ Some w)) → (w : ℕ) × (least_where key test (n ∷ ns) ≡ Some w)
    by (inl it) on = rw it (from (least_where key test ns))
    by (inr not_it) on = rw not_it (on (rw not_it at e))

-- a module of the set without a label
pub missing_where : (set : List Mapping) (xs : List Placed) (n : ℕ) (found : Mapping) → find (λ k. k.«module» == n) set ≡ Some found
    → list_any (on_module n) xs ≡ false → (w : ℕ) × (least_missing xs set ≡ Some w)
missing_where set xs n found is none = some_least (λ number. number) (lacks xs) (modules_of set) (by set is)
  where
    by : (ms : List Mapping) → find (λ k. k.«module» == n) ms ≡ Some found → list_any (lacks xs) (modules_of ms) ≡ true
    by [] e = absurd (none-some found e)
    by (m ∷ ms) e = elim (cases_Bool (m.«module» == n)) [
      | inl it ↦ rw (eqb-true m.«module» n it, none_zero (on_module n) xs none) refl
      | inr not_it ↦ or_right (lacks xs m.«module») (list_any (lacks xs) (modules_of ms)) (by ms (rw not_it at e))
    ]

all_list_all : {X : Type 0} (test : X → Bool) (xs : List X) → AllByRecursion (λ x. test x ≡ true) xs → list_all test xs ≡ true
all_list_all test [] all = refl
all_list_all test (x ∷ xs) (one, rest) = rw one (all_list_all test xs rest)

-- labels that all have UPDATING, and one is missing
pub unfinished : (set : List Mapping) (xs : List Placed) (w : ℕ) → AllByRecursion (λ p. is_updating p ≡ true) xs → least_missing xs set ≡ Some w → missing_finding set xs ≡ Some Unfinished
unfinished set xs w all e = rw (e, all_list_all is_updating xs all) refl

-- ---- names

pub one_agreed : (xs : List Placed) (name : List ℕ) → AllByRecursion (λ p. p.label.name ≡ name) xs → list_any (λ (p : Placed). true) xs ≡ true → agreed_name xs ≡ Some name
one_agreed [] name all some = absurd (false≢true some)
one_agreed (p ∷ ps) name (one, rest) some =
    rw (all_list_all (same_name p) (p ∷ ps) (all_pass_to (λ q. q.label.name ≡ name) (λ q. same_name p q ≡ true) (λ q e. same_bytes q.label.name p.label.name name e one) (p ∷ ps) (one, rest))) (ap Some one)

-- all labels have one name
pub one_name : (xs : List Placed) (name : List ℕ) → AllByRecursion (λ p. p.label.name ≡ name) xs → list_any (λ (p : Placed). true) xs ≡ true
    → naming_of xs ≡ Complete name (list_any is_updating xs)
one_name xs name all some = ap (named_by xs) (one_agreed xs name all some)

pub all_filter_and : {X : Type 0} (test : X → Bool) (P : X → Type 0) (xs : List X) → AllByRecursion (λ x. test x ≡ true → P x) xs → AllByRecursion P (filter test xs)
all_filter_and test P [] all = tt
all_filter_and test P (x ∷ xs) (one, rest) =
    elim (cases_Bool (test x)) [
      | inl it ↦ rw it (one it, all_filter_and test P xs rest)
      | inr not_it ↦ rw not_it (all_filter_and test P xs rest)
    ]

pub some_kept : {X : Type 0} (test : X → Bool) (xs : List X) → list_any test xs ≡ true → list_any (λ (x : X). true) (filter test xs) ≡ true
some_kept test [] e = absurd (false≢true e)
some_kept test (x ∷ xs) e =
    elim (cases_Bool (test x)) [
      | inl it ↦ rw it refl
      | inr not_it ↦ rw not_it (some_kept test xs (rw not_it at e))
    ]

abbrev pub still : Placed → Bool
still p = not (is_updating p)

-- the name on which labels agree is the name of each
agreed_each : (xs : List Placed) (name : List ℕ) → agreed_name xs ≡ Some name → AllByRecursion (λ p. p.label.name ≡ name) xs
agreed_each [] name e = tt
agreed_each (p ∷ ps) name e = by (cases_Bool (list_all (same_name p) (p ∷ ps)))
  where
    passes : (xs : List Placed) → list_all (same_name p) xs ≡ true → AllByRecursion (λ q. same_name p q ≡ true) xs
    passes [] e = tt
    passes (x ∷ xs) e = let both = and_parts (same_name p x) (list_all (same_name p) xs) e in (both.0, passes xs both.1)

    by : (list_all (same_name p) (p ∷ ps) ≡ true) ⊎ (list_all (same_name p) (p ∷ ps) ≡ false) → AllByRecursion (λ q. q.label.name ≡ name) (p ∷ ps)
    by (inl it) =
        let here : p.label.name ≡ name = same_Some p.label.name name (rw it at e) in
        all_pass_to (λ q. same_name p q ≡ true) (λ q. q.label.name ≡ name) (λ q e. (bytes_eq-Decides q.label.name p.label.name).0 e ∙ here) (p ∷ ps) (passes (p ∷ ps) it)
    by (inr not_it) = absurd (none-some name (rw not_it at e))

pub agreed_names : (xs : List Placed) (name : List ℕ) → agreed_name xs ≡ Some name → AllByRecursion (λ p. p.label.name ≡ name) xs
agreed_names = agreed_each

-- what each that passes a test gives, where one passes
pub some_gives : {X : Type 0} (test : X → Bool) (Q : Type 0) (xs : List X) → list_any test xs ≡ true → AllByRecursion (λ x. test x ≡ true → Q) xs → Q
some_gives test Q [] e all = absurd (false≢true e)
some_gives test Q (x ∷ xs) e (one, rest) =
    elim (cases_Bool (test x)) [
      | inl it ↦ one it
      | inr not_it ↦ some_gives test Q xs (rw not_it at e) rest
    ]

-- some labels have UPDATING and one name, and the others, at least one, have another: the status has the others' name
pub two_names : (xs : List Placed) (old new : List ℕ) → AllByRecursion (λ p. still p ≡ true → p.label.name ≡ old) xs → AllByRecursion (λ p. is_updating p ≡ true → p.label.name ≡ new) xs
    → list_any still xs ≡ true → list_any is_updating xs ≡ true → naming_of xs ≡ Complete old true
two_names xs old new olds news some_old some_new = by (agreed_name xs) refl
  where
    both : (ys : List Placed) (name : List ℕ) → AllByRecursion (λ p. p.label.name ≡ name) ys → AllByRecursion (λ p. still p ≡ true → p.label.name ≡ old) ys → AllByRecursion (λ p. still p ≡ true → name ≡ old) ys
    both [] name a b = tt
    both (y ∷ ys) name (a, as') (b, bs) = ((λ s. sym a ∙ b s), both ys name as' bs)

    by : (o : Option (List ℕ)) → agreed_name xs ≡ o → naming_of xs ≡ Complete old true
    by (Some name) is =
        let same : name ≡ old = some_gives still (name ≡ old) xs some_old (both xs name (agreed_each xs name is) olds) in
        rw (is, same, some_new) refl
    by None is =
        let a : agreed_name (filter (is_marked false) xs) ≡ Some old = one_agreed (filter still xs) old (all_filter_and still (λ p. p.label.name ≡ old) xs olds) (some_kept still xs some_old) in
        let b : agreed_name (filter (is_marked true) xs) ≡ Some new = one_agreed (filter is_updating xs) new (all_filter_and is_updating (λ p. p.label.name ≡ new) xs news) (some_kept is_updating xs some_new) in
        rw (is, a, b) refl
