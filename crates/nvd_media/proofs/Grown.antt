-- Appending bytes to an object of an image set in memory.
use Rattle.std.proofs.Common.{◌≡◌, ◌≢◌, ℕ, zero, suc, ◌+◌, ◌<◌, Bool, true, false, cond, List, [], ◌∷◌, ◌++◌, length, get_or, set, Some, None, Result, Ok, Err, refl, sym, ap, ◌∙◌, inl, inr, arith}
use Rattle.std.proofs.lemmas.Bool.{cases_Bool, eqb-true}
use Rattle.std.specs.Prelude.{OnOk, OnErr, is_ok}
use Rattle.std.specs.List.{position, position_from}
use Rattle.std.proofs.lemmas.Iterator.Adapters.{position_from-zero}
use Rattle.std.proofs.lemmas.List.Quantifiers.{position-Some}
use Rattle.nvd_media.specs.declared.object.Object.{Object}
use Rattle.nvd_media.specs.declared.object.Object.TheVariants.{Mark, Nfit, Labels, Contents, BadRanges}
use Rattle.nvd_media.specs.declared.mem_images.Stored.{Stored}
use Rattle.nvd_media.specs.Images.{Images, IsSameSet, IsUnfinished, with_more, is_object}
use Rattle.nvd_media.specs.Memory.{lookup}

pub same_object : (a b : Object) → is_object a b ≡ true → a ≡ b
same_object Mark Mark e = refl
same_object Nfit Nfit e = refl
same_object (Labels m) (Labels n) e = ap (λ (k : ℕ). Labels k) (eqb-true m n e)
same_object (Contents m) (Contents n) e = ap (λ (k : ℕ). Contents k) (eqb-true m n e)
same_object (BadRanges m) (BadRanges n) e = ap (λ (k : ℕ). BadRanges k) (eqb-true m n e)
same_object a b e = absurd cc

-- appending to another object doesn't change the mark
pub unfinished : (set now : Images) (object : Object) (bytes : List ℕ) → object ≢ Mark → IsSameSet now (with_more set object bytes) → IsUnfinished set now
unfinished set now Mark bytes ne same = absurd (ne refl)
unfinished set now Nfit bytes ne same = same Mark
unfinished set now (Labels m) bytes ne same = same Mark
unfinished set now (Contents m) bytes ne same = same Mark
unfinished set now (BadRanges m) bytes ne same = same Mark

-- a new object at the end
pub lookup_added : (xs : List Stored) (y : Stored) (object other : Object) (bytes : List ℕ) → y.object ≡ object → y.bytes.items ≡ bytes
    → ((k : ℕ) (d : Stored) → k < length xs → is_object (get_or xs k d).object object ≡ false)
    → lookup (xs ++ y ∷ []) other ≡ with_more (lookup xs) object bytes other
lookup_added [] y object other bytes is same absent = rw (is, same) refl
lookup_added (x ∷ xs) y object other bytes is same absent =
    let rest : lookup (xs ++ y ∷ []) other ≡ with_more (lookup xs) object bytes other =
    lookup_added xs y object other bytes is same (λ k d lt. absent (suc k) d (omega arith)) in
    let not_here : is_object x.object object ≡ false = absent zero x (omega arith) in
    elim (cases_Bool (is_object x.object other)) [
      | inl here ↦
          let apart : is_object object other ≡ false =
          elim (cases_Bool (is_object object other)) [
            | inl both ↦
                let same_name : other ≡ object = sym (same_object object other both) in
                absurd (let e = rw same_name at here in cc)
            | inr other_name ↦ other_name
          ] in
          rw (here, apart) refl
      | inr there ↦ rw (there, rest) refl
    ]

-- bytes appended to the first object of that name
pub lookup_grown : (xs : List Stored) (i : ℕ) (y d : Stored) (object other : Object) (bytes : List ℕ) → i < length xs
    → is_object (get_or xs i d).object object ≡ true → ((k : ℕ) → k < i → is_object (get_or xs k d).object object ≡ false)
    → y.object ≡ (get_or xs i d).object → y.bytes.items ≡ (get_or xs i d).bytes.items ++ bytes
    → lookup (set xs i y) other ≡ with_more (lookup xs) object bytes other
lookup_grown [] i y d object other bytes lt here before is more = absurd (omega arith)
lookup_grown (x ∷ xs) zero y d object other bytes lt here before is more =
    let named : x.object ≡ object = same_object x.object object here in
    rw (is, named, more) (elim (cases_Bool (is_object object other)) [
      | inl named_so ↦ rw named_so refl
      | inr named_else ↦ rw named_else refl
    ])
lookup_grown (x ∷ xs) (suc i) y d object other bytes lt here before is more =
    let rest : lookup (set xs i y) other ≡ with_more (lookup xs) object bytes other =
    lookup_grown xs i y d object other bytes (omega arith) here (λ k below. before (suc k) (omega arith)) is more in
    let not_here : is_object x.object object ≡ false = before zero (omega arith) in
    elim (cases_Bool (is_object x.object other)) [
      | inl first ↦
          let apart : is_object object other ≡ false =
          elim (cases_Bool (is_object object other)) [
            | inl both ↦
                let same_name : other ≡ object = sym (same_object object other both) in
                absurd (let e = rw same_name at first in cc)
            | inr other_name ↦ other_name
          ] in
          rw (first, apart) refl
      | inr there ↦ rw (there, rest) refl
    ]

-- an object that is written back as it was
pub lookup_same : (xs : List Stored) (i : ℕ) (y d : Stored) (other : Object) → i < length xs → y.object ≡ (get_or xs i d).object
    → y.bytes.items ≡ (get_or xs i d).bytes.items → lookup (set xs i y) other ≡ lookup xs other
lookup_same [] i y d other lt is bytes = absurd (omega arith)
lookup_same (x ∷ xs) zero y d other lt is bytes = rw (is, bytes) refl
lookup_same (x ∷ xs) (suc i) y d other lt is bytes = rw (lookup_same xs i y d other (omega arith) is bytes) refl

-- after extending the object at its place
pub extended : {E : Type 0} (r : Result (Unit {0}) E) (xs : List Stored) (i : ℕ) (x y : Stored) (object : Object) (bytes : List ℕ)
    → position (λ (s : Stored). is_object s.object object) xs ≡ Some i → x ≡ get_or xs i x → y.object ≡ x.object
    → y.bytes.items ≡ cond (is_ok r) (x.bytes.items ++ bytes) x.bytes.items
    → OnOk r (IsSameSet (lookup (set xs i y)) (with_more (lookup xs) object bytes)) × OnErr r (IsSameSet (lookup (set xs i y)) (lookup xs))
extended (Ok u) xs i x y object bytes at read is more =
    let here = position-Some (λ (s : Stored). is_object s.object object) xs i x at in
    ((λ other. lookup_grown xs i y x object other bytes here.0 here.1 here.2 (is ∙ ap (λ (s : Stored). s.object) read) (more ∙ ap (λ (s : Stored). s.bytes.items ++ bytes) read)), tt)
extended (Err e) xs i x y object bytes at read is same =
    let here = position-Some (λ (s : Stored). is_object s.object object) xs i x at in
    (tt, (λ other. lookup_same xs i y x other here.0 (is ∙ ap (λ (s : Stored). s.object) read) (same ∙ ap (λ (s : Stored). s.bytes.items) read)))

none_from : {X : Type 0} (p : X → Bool) (xs : List X) (i k : ℕ) (d : X) → position_from p i xs ≡ None → k < length xs → p (get_or xs k d) ≡ false
none_from p [] i k d none lt = absurd (omega arith)
none_from p (x ∷ xs) i zero d none lt = elim (cases_Bool (p x)) [
  | inl passes ↦ absurd (let e = rw passes at none in cc)
  | inr other_name ↦ other_name
]
none_from p (x ∷ xs) i (suc k) d none lt = elim (cases_Bool (p x)) [
  | inl passes ↦ absurd (let e = rw passes at none in cc)
  | inr fails ↦ none_from p xs (i + 1) k d (rw fails at none) (omega arith)
]

-- after pushing a new object
pub pushed : (xs ys : List Stored) (y : Stored) (object : Object) (bytes : List ℕ) → position (λ (s : Stored). is_object s.object object) xs ≡ None
    → ys ≡ xs ++ y ∷ [] → y.object ≡ object → y.bytes.items ≡ bytes → IsSameSet (lookup ys) (with_more (lookup xs) object bytes)
pushed xs ys y object bytes none all is more other =
    ap (λ (zs : List Stored). lookup zs other) all
    ∙ lookup_added xs y object other bytes is more
    (λ k d lt. none_from (λ (s : Stored). is_object s.object object) xs 0 k d (sym (position_from-zero (λ (s : Stored). is_object s.object object) xs) ∙ none) lt)
