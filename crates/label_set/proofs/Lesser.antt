-- The least of several.
use Rattle.std.proofs.Common.{◌≡◌, ℕ, ◌+◌, ◌<◌, Bool, true, false, cond, leb, List, [], ◌∷◌, length, drop, get_or, Option, Some, None, refl, sym, ap, ◌∙◌, arith, add-one, drop-cons}
use Rattle.std.proofs.lemmas.Bool.{leb-true, leb-false, le-leb, lt-leb}
use Rattle.label_set.specs.Rules.{lesser, least_where}

-- ---- of three

lesser_none : {X : Type 0} (key : X → ℕ) (a : Option X) → lesser key a None ≡ a
lesser_none key None = refl
lesser_none key (Some a) = refl

three : {X : Type 0} (key : X → ℕ) (a b c : X) (p q r : Bool) → leb (key a) (key b) ≡ p → leb (key b) (key c) ≡ q → leb (key a) (key c) ≡ r
    → lesser key (cond p (Some a) (Some b)) (Some c) ≡ lesser key (Some a) (cond q (Some b) (Some c))
three key a b c true true r e f g = rw (e, le-leb (key a) (key c) (omega (arith, leb-true (key a) (key b) e, leb-true (key b) (key c) f))) refl
three key a b c true false r e f g = refl
three key a b c false true r e f g = rw (e, f) refl
three key a b c false false r e f g =
    rw (f, lt-leb (key a) (key c) (omega (arith, leb-false (key a) (key b) e, leb-false (key b) (key c) f))) refl

lesser-assoc : {X : Type 0} (key : X → ℕ) (a : Option X) (b : X) (c : Option X) → lesser key (lesser key a (Some b)) c ≡ lesser key a (lesser key (Some b) c)
lesser-assoc key None b c = refl
lesser-assoc key (Some a) b None = lesser_none key (lesser key (Some a) (Some b))
lesser-assoc key (Some a) b (Some c) = three key a b c (leb (key a) (key b)) (leb (key b) (key c)) (leb (key a) (key c)) refl refl refl

-- ---- one more

rest_of : {X : Type 0} (xs : List X) (i : ℕ) (d : X) → i < length xs → drop i xs ≡ get_or xs i d ∷ drop (i + 1) xs
rest_of xs i d lt = rw add-one (drop-cons xs i d lt)

-- the least of those so far and of those to come
abbrev pub IsLeastOf : {X : Type 0} → (X → ℕ) → (X → Bool) → Option X → List X → List X → Type 0
IsLeastOf key test least rest all = lesser key least (least_where key test rest) ≡ least_where key test all

pub least_passes : {X : Type 0} (key : X → ℕ) (test : X → Bool) (xs all : List X) (i : ℕ) (x : X) (least : Option X) → i < length xs → x ≡ get_or xs i x
    → test x ≡ true → IsLeastOf key test least (drop i xs) all → IsLeastOf key test (lesser key least (Some x)) (drop (i + 1) xs) all
least_passes key test xs all i x least lt is passes was =
    let rest : drop i xs ≡ x ∷ drop (i + 1) xs = rest_of xs i x lt ∙ ap (λ (y : _). y ∷ drop (i + 1) xs) (sym is) in
    lesser-assoc key least x (least_where key test (drop (i + 1) xs))
    ∙ sym (ap (λ (l : _). lesser key least (least_where key test l)) rest ∙ rw passes refl) ∙ was

pub least_fails : {X : Type 0} (key : X → ℕ) (test : X → Bool) (xs all : List X) (i : ℕ) (x : X) (least : Option X) → i < length xs → x ≡ get_or xs i x
    → test x ≡ false → IsLeastOf key test least (drop i xs) all → IsLeastOf key test least (drop (i + 1) xs) all
least_fails key test xs all i x least lt is fails was =
    let rest : drop i xs ≡ x ∷ drop (i + 1) xs = rest_of xs i x lt ∙ ap (λ (y : _). y ∷ drop (i + 1) xs) (sym is) in
    sym (ap (λ (l : _). lesser key least (least_where key test l)) rest ∙ rw fails refl) ∙ was

pub least_done : {X : Type 0} (key : X → ℕ) (test : X → Bool) (rest all : List X) (least : Option X) → rest ≡ [] → IsLeastOf key test least rest all
    → least ≡ least_where key test all
least_done key test rest all least none was =
    sym (lesser_none key least) ∙ ap (λ (l : _). lesser key least (least_where key test l)) (sym none) ∙ was
