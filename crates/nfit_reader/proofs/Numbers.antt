-- Numbers in the order of first appearance.
use Rattle.std.proofs.Common.{◌≡◌, ℕ, ◌+◌, ◌<◌, ◌≤◌, Bool, true, false, cond, eqb, ◌||◌, List, [], ◌∷◌, ◌++◌, length, take, get_or, Option, Some, None, nat_cmp, refl, sym, ap, ◌∙◌, inl, inr, subst, append_assoc, arith}
use Rattle.std.specs.Option.{is_some, option_or}
use Rattle.std.specs.Ordering.{is_eq}
use Rattle.std.specs.List.{list_any, position_from}
use Rattle.std.proofs.lemmas.List.{take_more, append-nil, length-take-le}
use Rattle.std.proofs.lemmas.Bool.{cases_Bool, ne_eqb, eq-eqb, cases_eq}
use Rattle.std.proofs.lemmas.Bool.Decides.{nat_tests}
use Rattle.nfit_reader.specs.Table.{distinct_after, place_of}

-- the order of numbers decides equality
pub is_eq-nat_cmp : (k q : ℕ) → is_eq (nat_cmp k q) ≡ eqb k q
is_eq-nat_cmp k q = grind (arith, nat_tests)

-- ---- places

position_from-push : (p : ℕ → Bool) (i : ℕ) (xs : List ℕ) (y : ℕ) → position_from p i (xs ++ y ∷ []) ≡ option_or (position_from p i xs) (cond (p y) (Some (i + length xs)) None)
position_from-push p i [] y = ap (λ n. cond (p y) (Some n) None) (omega arith)
position_from-push p i (x ∷ xs) y = elim (cases_Bool (p x)) [
  | inl here ↦ rw here refl
  | inr on ↦ rw on (position_from-push p (i + 1) xs y ∙ ap (λ n. option_or (position_from p (i + 1) xs) (cond (p y) (Some n) None)) (omega arith))
]

place_of-more : (key : ℕ) (keys : List ℕ) (i d : ℕ) → i < length keys
    → place_of key (take (i + 1) keys) ≡ option_or (place_of key (take i keys)) (cond (eqb (get_or keys i d) key) (Some i) None)
place_of-more key keys i d h =
    ap (place_of key) (take_more keys i d h)
    ∙ position_from-push (λ y. eqb y key) 0 (take i keys) (get_or keys i d)
    ∙ ap (λ n. option_or (place_of key (take i keys)) (cond (eqb (get_or keys i d) key) (Some n) None)) (let e : length (take i keys) ≡ i = length-take-le i keys (omega arith) in omega arith)

or_none : (o : Option ℕ) → option_or o None ≡ o
or_none None = refl
or_none (Some x) = refl

or_known : (o p : Option ℕ) → is_some o ≡ true → option_or o p ≡ o
or_known None p e = cc
or_known (Some x) p e = refl

or_new : (o p : Option ℕ) → is_some o ≡ false → option_or o p ≡ p
or_new None p e = refl
or_new (Some x) p e = cc

-- a new key gets its place
pub place_new : (f g : ℕ → Option ℕ) (keys : List ℕ) (i k : ℕ) → i < length keys → k ≡ get_or keys i 0 → ((q : ℕ) → f q ≡ place_of q (take i keys)) → is_some (f k) ≡ false
    → ((q : ℕ) → g q ≡ cond (is_eq (nat_cmp k q)) (Some i) (f q)) → (q : ℕ) → g q ≡ place_of q (take (i + 1) keys)
place_new f g keys i k h is inv new put q =
    let told : g q ≡ cond (eqb k q) (Some i) (f q) = put q ∙ ap (λ b. cond b (Some i) (f q)) (is_eq-nat_cmp k q) in
    let due : place_of q (take (i + 1) keys) ≡ option_or (f q) (cond (eqb k q) (Some i) None) =
    place_of-more q keys i 0 h ∙ ap (λ o. option_or o (cond (eqb (get_or keys i 0) q) (Some i) None)) (sym (inv q)) ∙ ap (λ y. option_or (f q) (cond (eqb y q) (Some i) None)) (sym is) in
    elim (cases_eq k q) [
      | inl same ↦
          let e : eqb k q ≡ true = eq-eqb k q same in
          let n : is_some (f q) ≡ false = subst (λ x. is_some (f x) ≡ false) same new in
          told ∙ ap (λ b. cond b (Some i) (f q)) e ∙ sym (due ∙ ap (λ b. option_or (f q) (cond b (Some i) None)) e ∙ or_new (f q) (Some i) n)
      | inr other ↦
          let e : eqb k q ≡ false = ne_eqb k q other in
          told ∙ ap (λ b. cond b (Some i) (f q)) e ∙ sym (due ∙ ap (λ b. option_or (f q) (cond b (Some i) None)) e ∙ or_none (f q))
    ]

-- a known key keeps its place
pub place_old : (f : ℕ → Option ℕ) (keys : List ℕ) (i k : ℕ) → i < length keys → k ≡ get_or keys i 0 → ((q : ℕ) → f q ≡ place_of q (take i keys)) → is_some (f k) ≡ true
    → (q : ℕ) → f q ≡ place_of q (take (i + 1) keys)
place_old f keys i k h is inv old q =
    let due : place_of q (take (i + 1) keys) ≡ option_or (f q) (cond (eqb k q) (Some i) None) =
    place_of-more q keys i 0 h ∙ ap (λ o. option_or o (cond (eqb (get_or keys i 0) q) (Some i) None)) (sym (inv q)) ∙ ap (λ y. option_or (f q) (cond (eqb y q) (Some i) None)) (sym is) in
    elim (cases_eq k q) [
      | inl same ↦ sym (due ∙ or_known (f q) (cond (eqb k q) (Some i) None) (subst (λ x. is_some (f x) ≡ true) same old))
      | inr other ↦ let e : eqb k q ≡ false = ne_eqb k q other in sym (due ∙ ap (λ b. option_or (f q) (cond b (Some i) None)) e ∙ or_none (f q))
    ]

-- ---- numbers without repetition

-- a set and a list have the numbers so far, and the rest is still to come
pub record IsListed (contains : ℕ → Bool) (modules rest all : List ℕ) : Type 0 where
  pub seen : List ℕ
  pub same : (x : ℕ) → contains x ≡ list_any (λ y. eqb y x) seen
  pub listed : modules ++ distinct_after seen rest ≡ distinct_after [] all

pub listed_first : (contains : ℕ → Bool) (all : List ℕ) → ((x : ℕ) → contains x ≡ false) → IsListed contains [] all all
listed_first contains all none = record { seen = []; same = none; listed = refl }

distinct_new : (seen : List ℕ) (x : ℕ) (xs : List ℕ) → list_any (λ y. eqb y x) seen ≡ false → distinct_after seen (x ∷ xs) ≡ x ∷ distinct_after (x ∷ seen) xs
unfolding distinct_after
distinct_new seen x xs e = rw e refl

distinct_old : (seen : List ℕ) (x : ℕ) (xs : List ℕ) → list_any (λ y. eqb y x) seen ≡ true → distinct_after seen (x ∷ xs) ≡ distinct_after seen xs
unfolding distinct_after
distinct_old seen x xs e = rw e refl

pub listed_new : (contains contains' : ℕ → Bool) (modules : List ℕ) (x : ℕ) (xs all : List ℕ) → IsListed contains modules (x ∷ xs) all → contains x ≡ false
    → ((q : ℕ) → contains' q ≡ cond (is_eq (nat_cmp x q)) true (contains q)) → IsListed contains' (modules ++ x ∷ []) xs all
listed_new contains contains' modules x xs all l new put = record {
  seen = x ∷ l.seen;
  same = λ q. put q ∙ ap (λ b. cond b true (contains q)) (is_eq-nat_cmp x q) ∙ cond_or (eqb x q) (contains q) ∙ ap (λ b. eqb x q || b) (l.same q);
  listed = append_assoc modules (x ∷ []) (distinct_after (x ∷ l.seen) xs) ∙ ap (λ ys. modules ++ ys) (sym (distinct_new l.seen x xs (sym (l.same x) ∙ new))) ∙ l.listed;
}
  where
    cond_or : (a b : Bool) → cond a true b ≡ (a || b)
    cond_or true b = refl
    cond_or false b = refl

pub listed_old : (contains contains' : ℕ → Bool) (modules : List ℕ) (x : ℕ) (xs all : List ℕ) → IsListed contains modules (x ∷ xs) all → contains x ≡ true
    → ((q : ℕ) → contains' q ≡ cond (is_eq (nat_cmp x q)) true (contains q)) → IsListed contains' modules xs all
listed_old contains contains' modules x xs all l old put = record {
  seen = l.seen;
  same = λ q. put q ∙ ap (λ b. cond b true (contains q)) (is_eq-nat_cmp x q) ∙ known q ∙ l.same q;
  listed = ap (λ ys. modules ++ ys) (sym (distinct_old l.seen x xs (sym (l.same x) ∙ old))) ∙ l.listed;
}
  where
    known : (q : ℕ) → cond (eqb x q) true (contains q) ≡ contains q
    known q = elim (cases_eq x q) [
      | inl same ↦ let e : eqb x q ≡ true = eq-eqb x q same in rw e (sym (subst (λ y. contains y ≡ true) same old))
      | inr other ↦ let e : eqb x q ≡ false = ne_eqb x q other in rw e refl
    ]

pub listed_all : (contains : ℕ → Bool) (modules all : List ℕ) → IsListed contains modules [] all → modules ≡ distinct_after [] all
unfolding distinct_after
listed_all contains modules all l = sym (append-nil modules) ∙ l.listed

length-distinct_after : (seen xs : List ℕ) → length (distinct_after seen xs) ≤ length xs
unfolding distinct_after
length-distinct_after seen [] = omega arith
length-distinct_after seen (x ∷ xs) = elim (cases_Bool (list_any (λ y. eqb y x) seen)) [
  | inl old ↦ rw old (let few = length-distinct_after seen xs in omega arith)
  | inr new ↦ rw new (let few = length-distinct_after (x ∷ seen) xs in omega arith)
]

pub listed_few : (contains : ℕ → Bool) (modules all : List ℕ) → IsListed contains modules [] all → length modules ≤ length all
listed_few contains modules all l = rw (listed_all contains modules all l) (length-distinct_after [] all)
