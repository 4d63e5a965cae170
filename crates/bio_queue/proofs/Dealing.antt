-- The passes of submitters and workers, when they are made.
use Rattle.std.proofs.Common.{◌≡◌, ℕ, zero, suc, ◌+◌, List, [], ◌∷◌, ◌++◌, length, map, Option, refl, sym, ap, ◌∙◌, subst, ⊎_elim, arith}
use Rattle.std.specs.Prelude.{All, drop, take, true}
use mathlib.Core.Option.{some, some-injective, some-ne-none}
use mathlib.Core.List.{map-append}
use lib.ListN.{get_elem?}
use Rattle.crossbeam_queue.specs.declared.array_queue.Doing.{Doing}
use Rattle.crossbeam_queue.specs.declared.array_queue.Slotted.{Slotted}
use Rattle.crossbeam_queue.specs.Passes.{IsPassOf, Pass, view}
use Rattle.crossbeam_queue.proofs.Lists.{at_map}
use Rattle.ticket_queue.specs.declared.ticket.Ticket.{Ticket}
use Rattle.ticket_queue.specs.declared.ticket.View.{View}
use Rattle.ticket_queue.specs.Law.{is_hand_of, none_yet}
use Rattle.ticket_queue.specs.Parties.{AreNew}
use Rattle.ticket_queue.proofs.Orders.{hand_test}
use Rattle.ticket_queue.proofs.Places.{at_end}
use Rattle.bio_queue.specs.Seats.{AreDealt, AreNewFrom}

module _ {A : Type 0} where
  in_take : (n : ℕ) (xs : List A) (k : ℕ) (x : A) → get_elem? (take n xs) k ≡ some x → get_elem? xs k ≡ some x
  in_take zero xs k x e = absurd (some-ne-none x (sym e))
  in_take (suc n) [] k x e = absurd (some-ne-none x (sym e))
  in_take (suc n) (y ∷ ys) zero x e = e
  in_take (suc n) (y ∷ ys) (suc k) x e = in_take n ys k x e

  in_drop : (n : ℕ) (xs : List A) (k : ℕ) (x : A) → get_elem? (drop n xs) k ≡ some x → get_elem? xs (n + k) ≡ some x
  in_drop zero xs k x e = let is : 0 + k ≡ k = omega arith in ap (λ (m : ℕ). get_elem? xs m) is ∙ e
  in_drop (suc n) [] k x e = absurd (some-ne-none x (sym e))
  in_drop (suc n) (y ∷ ys) k x e = let is : suc n + k ≡ suc (n + k) = omega arith in ap (λ (m : ℕ). get_elem? (y ∷ ys) m) is ∙ in_drop n ys k x e

  all_at : (P : A → Type 0) (xs : List A) (k : ℕ) (x : A) → All P xs → get_elem? xs k ≡ some x → P x
  all_at P [] k x all e = absurd (some-ne-none x (sym e))
  all_at P (y ∷ ys) zero x all e = subst P (some-injective y x e) (all 0 y (omega arith))
  all_at P (y ∷ ys) (suc k) x all e = all_at P ys k x (λ j d lt. all (suc j) d (omega (arith, lt))) e

  -- the next of a list that is gone through
  pub next_at : (done : List A) (x : A) (rest all : List A) → done ++ x ∷ rest ≡ all → get_elem? all (length done) ≡ some x
  next_at done x rest all is = ap (λ l. get_elem? l (length done)) (sym is) ∙ there done
    where
      there : (xs : List A) → get_elem? (xs ++ x ∷ rest) (length xs) ≡ some x
      there [] = refl
      there (y ∷ ys) = there ys

-- a row that grows by one
pub each_push : {A : Type 0} (xs ys : List A) (x : A) (P : ℕ → A → Type 0) → ys ≡ xs ++ x ∷ [] → ((k : ℕ) (a : A) → get_elem? xs k ≡ some a → P k a) → P (length xs) x → (k : ℕ) (a : A) → get_elem? ys k ≡ some a → P k a
each_push {A} xs ys x P is old new k a e = ⊎_elim
    (λ (s : get_elem? xs k ≡ some a). old k a s)
    (λ (s : (k ≡ length xs) × (x ≡ a)). subst (λ (y : ℕ × A). P y.0 y.1) (λ i. (sym s.0 i, s.1 i)) new)
    (at_end xs x a k (ap (λ l. get_elem? l k) (sym is) ∙ e))

pub map_push : {A B : Type 0} (xs ys : List A) (x : A) (f : A → B) (done : List B) (b : B) → ys ≡ xs ++ x ∷ [] → map f xs ≡ done → f x ≡ b → map f ys ≡ done ++ b ∷ []
map_push xs ys x f done b is old new = ap (map f) is ∙ (map-append f xs (x ∷ []) ∙ (λ i. old i ++ new i ∷ []))

module _ {T Q A : Type 0} (q : Slotted (Option (Ticket T)) (Doing (Ticket T) (View T)) Q A) (ps : List (Pass (Ticket T) (View T))) (of : All (λ p. IsPassOf q p) ps) (new : AreNew (map view ps)) where
  at : (k : ℕ) (p : Pass (Ticket T) (View T)) → get_elem? ps k ≡ some p → IsPassOf q p × (view p ≡ none_yet k)
  at k p e = (all_at (λ x. IsPassOf q x) ps k p of e, new k (view p) (at_map view ps k p e))

  pub first_dealt : (n : ℕ) (few : List (Pass (Ticket T) (View T))) → few ≡ take n ps → AreDealt q 0 few
  first_dealt n few is k p e =
      let r = at k p (in_take n ps k p (ap (λ l. get_elem? l k) (sym is) ∙ e)) in
      let none : k ≡ 0 + k = omega arith in
      (r.0, r.1 ∙ ap none_yet none)

  pub others_dealt : (n : ℕ) (others : List (Pass (Ticket T) (View T))) → others ≡ drop n ps → AreDealt q n others
  others_dealt n others is k p e = at (n + k) p (in_drop n ps k p (ap (λ l. get_elem? l k) (sym is) ∙ e))

module _ {T Q A : Type 0} where
  pub dealt_new : (q : Slotted (Option (Ticket T)) (Doing (Ticket T) (View T)) Q A) (from : ℕ) (ps : List (Pass (Ticket T) (View T))) → AreDealt q from ps → AreNewFrom from ps
  dealt_new q from ps dealt k p e = (dealt k p e).1

module _ {T : Type 0} where
  -- a pass that put and took nothing
  pub new_hand : (k : ℕ) (v : View T) → v ≡ none_yet k → is_hand_of k v ≡ true
  new_hand k v is = hand_test k v ([], [], is)

  pub nothing_at : (ts : List (Ticket T)) (Q : ℕ → Ticket T → Type 0) → ts ≡ [] → (n : ℕ) (t : Ticket T) → get_elem? ts n ≡ some t → Q n t
  nothing_at ts Q none n t e = absurd (some-ne-none t (sym (ap (λ l. get_elem? l n) (sym none) ∙ e)))
