-- Lists of faults, item by item, and what holds at each module.
use Rattle.std.proofs.Common.{◌≡◌, ℕ, ◌<◌, List, [], ◌∷◌, ◌++◌, map, get_or, Option, Some, None, refl, sym, ap, ◌∙◌, subst, arith, append_assoc}
use Rattle.std.specs.List.{All, flat_map, range_with_len}
use Rattle.std.proofs.lemmas.List.Elements.{All-nil, All-cons, All-head, All-tail}
use Rattle.std.proofs.lemmas.List.FromFn.{get_or-range_with_len, length-range_with_len}
use Rattle.nvd_words.specs.Checks.{first_fault}
use Rattle.image_set.specs.declared.fault.LoadFault.{LoadFault}
use Rattle.set_objects.specs.Objects.{faults_in}

-- ---- modules

-- what holds at each module holds on the list of all modules, and back
pub on_modules : (P : ℕ → Type 0) (n : ℕ) → ((m : ℕ) → m < n → P m) → All P (range_with_len 0 n)
on_modules P n each k d lt =
    let inside : k < n = omega (arith, lt, length-range_with_len 0 n) in
    let is : get_or (range_with_len 0 n) k d ≡ k = get_or-range_with_len 0 n k d inside ∙ omega arith in
    subst P (sym is) (each k inside)

pub of_modules : (P : ℕ → Type 0) (n : ℕ) → All P (range_with_len 0 n) → (m : ℕ) → m < n → P m
of_modules P n all m lt =
    let is : get_or (range_with_len 0 n) m 0 ≡ m = get_or-range_with_len 0 n m 0 lt ∙ omega arith in
    subst P is (all m 0 (omega (arith, lt, length-range_with_len 0 n)))

-- ---- maps

pub map_same : {A B : Type 0} (f g : A → B) (xs : List A) → All (λ x. f x ≡ g x) xs → map f xs ≡ map g xs
map_same f g [] all = refl
map_same f g (x ∷ xs) all =
    ap (λ y. y ∷ map f xs) (All-head (λ y. f y ≡ g y) x xs all) ∙ ap (λ ys. g x ∷ ys) (map_same f g xs (All-tail (λ y. f y ≡ g y) x xs all))

-- ---- the first fault

pub none_next : {F : Type 0} (o : Option F) (faults : List (Option F)) → o ≡ None → first_fault (o ∷ faults) ≡ first_fault faults
unfolding first_fault
none_next o faults is = rw is refl

pub none_here : {F : Type 0} (o : Option F) (faults : List (Option F)) → first_fault (o ∷ faults) ≡ None → (o ≡ None) × (first_fault faults ≡ None)
unfolding first_fault
none_here None faults is = (refl, is)
none_here (Some f) faults is = absurd (cc)

-- if no item has a fault, none is found, and back
pub none_found : {A F : Type 0} (f : A → Option F) (xs : List A) → All (λ x. f x ≡ None) xs → first_fault (map f xs) ≡ None
unfolding first_fault
none_found f [] all = refl
none_found f (x ∷ xs) all = none_next (f x) (map f xs) (All-head (λ y. f y ≡ None) x xs all) ∙ none_found f xs (All-tail (λ y. f y ≡ None) x xs all)

pub none_all : {A F : Type 0} (f : A → Option F) (xs : List A) → first_fault (map f xs) ≡ None → All (λ x. f x ≡ None) xs
none_all f [] is = All-nil (λ x. f x ≡ None)
none_all f (x ∷ xs) is = let p = none_here (f x) (map f xs) is in All-cons (λ y. f y ≡ None) x xs p.0 (none_all f xs p.1)

-- ---- the faults that there are

pub no_fault_here : (o : Option LoadFault) (faults : List (Option LoadFault)) → faults_in (o ∷ faults) ≡ [] → (o ≡ None) × (faults_in faults ≡ [])
unfolding faults_in
no_fault_here None faults is = (refl, is)
no_fault_here (Some f) faults is = absurd (cc)

pub no_fault_next : (o : Option LoadFault) (faults : List (Option LoadFault)) → o ≡ None → faults_in faults ≡ [] → faults_in (o ∷ faults) ≡ []
unfolding faults_in
no_fault_next o faults is none = rw is none

pub no_fault_end : faults_in [] ≡ []
unfolding faults_in
no_fault_end = refl

-- with one fault, and with none
pub one_fault : (f : LoadFault) → faults_in (Some f ∷ []) ≡ f ∷ []
unfolding faults_in
one_fault f = refl

pub not_one_fault : faults_in (None ∷ []) ≡ []
unfolding faults_in
not_one_fault = refl

-- one after the other
pub faults_more : (o : Option LoadFault) (faults : List (Option LoadFault)) → faults_in (o ∷ faults) ≡ faults_in (o ∷ []) ++ faults_in faults
unfolding faults_in
faults_more None faults = refl
faults_more (Some f) faults = refl

pub three_same : (a b d a' b' d' : Option LoadFault) → a ≡ a' → b ≡ b' → d ≡ d' → faults_in (a ∷ b ∷ d ∷ []) ≡ faults_in (a' ∷ b' ∷ d' ∷ [])
three_same a b d a' b' d' first second third = rw (first, second, third) refl

-- three, added one by one
pub three_more : (old one two : List LoadFault) (a b d : Option LoadFault) → one ≡ old ++ faults_in (a ∷ []) → two ≡ one ++ faults_in (b ∷ [])
    → two ++ faults_in (d ∷ []) ≡ old ++ faults_in (a ∷ b ∷ d ∷ [])
three_more old one two a b d first second =
    ap (λ xs. xs ++ faults_in (d ∷ [])) (second ∙ ap (λ xs. xs ++ faults_in (b ∷ [])) first)
    ∙ append_assoc (old ++ faults_in (a ∷ [])) (faults_in (b ∷ [])) (faults_in (d ∷ []))
    ∙ append_assoc old (faults_in (a ∷ [])) (faults_in (b ∷ []) ++ faults_in (d ∷ []))
    ∙ ap (λ xs. old ++ xs) (ap (λ xs. faults_in (a ∷ []) ++ xs) (sym (faults_more b (d ∷ []))) ∙ sym (faults_more a (b ∷ d ∷ [])))

-- ---- lists of lists

both_empty : {A : Type 0} (xs ys : List A) → xs ++ ys ≡ [] → (xs ≡ []) × (ys ≡ [])
both_empty [] ys is = (refl, is)
both_empty (x ∷ xs) ys is = absurd (cc)

pub empty_all : {A B : Type 0} (f : A → List B) (xs : List A) → flat_map f xs ≡ [] → All (λ x. f x ≡ []) xs
empty_all f [] is = All-nil (λ x. f x ≡ [])
empty_all f (x ∷ xs) is = let p = both_empty (f x) (flat_map f xs) is in All-cons (λ y. f y ≡ []) x xs p.0 (empty_all f xs p.1)

pub all_empty : {A B : Type 0} (f : A → List B) (xs : List A) → All (λ x. f x ≡ []) xs → flat_map f xs ≡ []
all_empty f [] all = refl
all_empty f (x ∷ xs) all =
    ap (λ ys. ys ++ flat_map f xs) (All-head (λ y. f y ≡ []) x xs all) ∙ all_empty f xs (All-tail (λ y. f y ≡ []) x xs all)
