-- Submitters and workers as one row of parties.
use Rattle.std.proofs.Common.{◌≡◌, ℕ, zero, suc, ◌+◌, ◌⊎◌, List, [], ◌∷◌, ◌++◌, length, length-append, map, sym, refl, ap, ◌∙◌, subst, inl, inr, ⊎_elim, arith}
use Rattle.std.specs.Prelude.{All}
use mathlib.Core.Option.{some, some-injective, some-ne-none}
use mathlib.Core.List.{map-append}
use lib.ListN.{get_elem?, length-map}
use Rattle.ticket_queue.specs.declared.ticket.Ticket.{Ticket}
use Rattle.ticket_queue.specs.declared.ticket.View.{View}
use Rattle.ticket_queue.specs.Law.{IsHandOf}
use Rattle.ticket_queue.specs.Parties.{AreHands, put_in, taken_in}
use Rattle.ticket_queue.specs.Account.{put_at, taken_at}
use Rattle.ticket_queue.specs.Parties.{IsOrder}
use Rattle.ticket_queue.proofs.Places.{of_map}
use Rattle.ticket_queue.proofs.Sources.{of_puts}
use Rattle.bio_queue.specs.Served.{AllFit, IsFit}

of_two : {A : Type 0} (xs ys : List A) (j : ℕ) (b : A) → get_elem? (xs ++ ys) j ≡ some b → (get_elem? xs j ≡ some b) ⊎ ((i : ℕ) × (j ≡ length xs + i) × (get_elem? ys i ≡ some b))
of_two [] ys j b e = inr (j, omega arith, e)
of_two (x ∷ xs) ys zero b e = inl e
of_two {A} (x ∷ xs) ys (suc j) b e = ⊎_elim inl (λ (s : (i : ℕ) × (j ≡ length xs + i) × (get_elem? ys i ≡ some b)). let is = s.1 in inr (s.0, omega arith, s.2)) (of_two xs ys j b e)

module _ {A B T : Type 0} (va : A → View T) (pa : A → ℕ) (vb : B → View T) (pb : B → ℕ) where
  -- if those of the first row are parties 0, 1, .. and those of the second the next ones
  pub seated : (xs : List A) (ys : List B) → ((a : A) → IsHandOf (pa a) (va a)) → ((b : B) → IsHandOf (pb b) (vb b))
      → ((k : ℕ) (a : A) → get_elem? xs k ≡ some a → pa a ≡ k) → ((k : ℕ) (b : B) → get_elem? ys k ≡ some b → pb b ≡ length xs + k) → AreHands (map va xs ++ map vb ys)
  seated xs ys ha hb na nb k v e = ⊎_elim
      (λ (s : get_elem? (map va xs) k ≡ some v).
      let m = of_map va xs k v s in
      subst (λ (y : ℕ × View T). IsHandOf y.0 y.1) (λ i. (na k m.0 m.1 i, m.2 i)) (ha m.0))
      (λ (s : (i : ℕ) × (k ≡ length (map va xs) + i) × (get_elem? (map vb ys) i ≡ some v)).
      let m = of_map vb ys s.0 v s.2 in
      let is : pb m.0 ≡ k = nb s.0 m.0 m.1 ∙ (ap (λ (n : ℕ). n + s.0) (sym (length-map xs va)) ∙ sym s.1) in
      subst (λ (y : ℕ × View T). IsHandOf y.0 y.1) (λ i. (is i, m.2 i)) (hb m.0))
      (of_two (map va xs) (map vb ys) k v e)

pub map_map : {A B C : Type 0} (f : B → C) (g : A → B) (xs : List A) → map f (map g xs) ≡ map (λ a. f (g a)) xs
map_map f g [] = refl
map_map f g (x ∷ xs) = ap (λ l. f (g x) ∷ l) (map_map f g xs)

module _ {A B P V : Type 0} (f : P → V) (pa : A → P) (pb : B → P) where
  -- what is known of two rows of passes, laid into one
  pub two_rows : (xs : List A) (ys : List B) (ps qs : List P) → ps ≡ map pa xs → qs ≡ ps ++ map pb ys → map f qs ≡ map (λ a. f (pa a)) xs ++ map (λ b. f (pb b)) ys
  two_rows xs ys ps qs first both = ap (map f) (both ∙ ap (λ l. l ++ map pb ys) first) ∙ (map-append f (map pa xs) (map pb ys) ∙ (λ i. map_map f pa xs i ++ map_map f pb ys i))

  pub length_rows : (xs : List A) (ys : List B) (ps qs : List P) → ps ≡ map pa xs → qs ≡ ps ++ map pb ys → length qs ≡ length xs + length ys
  length_rows xs ys ps qs first both =
      let a : length qs ≡ length (map pa xs ++ map pb ys) = ap length (both ∙ ap (λ l. l ++ map pb ys) first) in
      omega (arith, a, length-append (map pa xs) (map pb ys), length-map xs pa, length-map ys pb)

-- what holds of each image
pub all_map : {A B : Type 0} (P : B → Type 0) (f : A → B) (xs : List A) → All (λ a. P (f a)) xs → All P (map f xs)
all_map P f [] h k d lt = absurd (omega (arith, lt))
all_map P f (x ∷ xs) h zero d lt = h 0 x (omega arith)
all_map P f (x ∷ xs) h (suc k) d lt = all_map P f xs (λ j e le. h (suc j) e (omega (arith, le))) k d (omega (arith, lt))

module _ {A B T : Type 0} (va : A → View T) (vb : B → View T) where
  nothing : (Q : Type 0) (l : List (Ticket T)) (i : ℕ) (t : Ticket T) → length l ≡ 0 → get_elem? l i ≡ some t → Q
  nothing Q [] i t none e = absurd (some-ne-none t (sym e))
  nothing Q (x ∷ xs) i t none e = absurd (omega (arith, none))

  second_row : (Q : ℕ → Ticket T → Type 0) (ys : List B) → ((b : B) → length (put_in (vb b)) ≡ 0) → (s i : ℕ) (t : Ticket T) → get_elem? (put_at (map vb ys) s) i ≡ some t → Q i t
  second_row Q [] none s i t e = absurd (some-ne-none t (sym e))
  second_row Q (y ∷ ys) none zero i t e = nothing (Q i t) (put_in (vb y)) i t (none y) e
  second_row Q (y ∷ ys) none (suc s) i t e = second_row Q ys none s i t e

  -- what holds of all that the first row put holds of all that was put, if the second row put nothing
  pub of_put : (Q : ℕ → Ticket T → Type 0) (xs : List A) (ys : List B) → ((k : ℕ) (a : A) → get_elem? xs k ≡ some a → (i : ℕ) (t : Ticket T) → get_elem? (put_in (va a)) i ≡ some t → Q i t)
      → ((b : B) → length (put_in (vb b)) ≡ 0) → (s i : ℕ) (t : Ticket T) → get_elem? (put_at (map va xs ++ map vb ys) s) i ≡ some t → Q i t
  of_put Q [] ys each none s i t e = second_row Q ys none s i t e
  of_put Q (x ∷ xs) ys each none zero i t e = each 0 x refl i t e
  of_put Q (x ∷ xs) ys each none (suc s) i t e = of_put Q xs ys (λ k a at. each (suc k) a at) none s i t e

  row_at : (ys : List B) (k : ℕ) (b : B) → get_elem? ys k ≡ some b → taken_at (map vb ys) k ≡ taken_in (vb b)
  row_at [] k b e = absurd (some-ne-none b (sym e))
  row_at (y ∷ ys) zero b e = ap (λ (z : B). taken_in (vb z)) (some-injective y b e)
  row_at (y ∷ ys) (suc k) b e = row_at ys k b e

  -- what the k-th of the second row took
  pub taken_by_second : (xs : List A) (ys : List B) (k : ℕ) (b : B) → get_elem? ys k ≡ some b → taken_at (map va xs ++ map vb ys) (length xs + k) ≡ taken_in (vb b)
  taken_by_second [] ys k b e = let is : 0 + k ≡ k = omega arith in ap (λ (n : ℕ). taken_at (map vb ys) n) is ∙ row_at ys k b e
  taken_by_second (x ∷ xs) ys k b e = let is : suc (length xs) + k ≡ suc (length xs + k) = omega arith in ap (λ (n : ℕ). taken_at (map va (x ∷ xs) ++ map vb ys) n) is ∙ taken_by_second xs ys k b e

  -- what holds of all that was submitted holds of all that a worker took
  pub fits_taken : (xs : List A) (ys : List B) (left : List (Ticket T)) → IsOrder (map va xs ++ map vb ys) left → (P : T → Type 0) → ((k : ℕ) (a : A) → get_elem? xs k ≡ some a → AllFit (put_in (va a)) P)
      → ((b : B) → length (put_in (vb b)) ≡ 0) → (k : ℕ) (b : B) → get_elem? ys k ≡ some b → IsFit (taken_in (vb b)) P
  fits_taken xs ys left o P each none k b at = record {
    each = λ n t e.
        let r = (of_puts (map va xs ++ map vb ys) left o).taken (length xs + k) n t (ap (λ l. get_elem? l n) (taken_by_second xs ys k b at) ∙ e) in
        of_put (λ i u. P u.item) xs ys each none t.party r.0 t r.1;
  }
