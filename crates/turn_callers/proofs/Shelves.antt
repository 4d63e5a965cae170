-- A caller's passes at several registers, and one order more.
use Rattle.std.proofs.Common.{◌≡◌, ℕ, ◌+◌, ◌<◌, ◌≤◌, List, [], ◌∷◌, ◌++◌, length, set, get_or, Bool, true, false, cond, eqb, refl, sym, ap, ◌∙◌, subst, arith, eq-eqb, ne_eqb, append-nil}
use Rattle.std.specs.Prelude.{Some, IsSomeAnd}
use Rattle.atomic_table.specs.Seated.{TableId}
use Rattle.turn_lock.specs.declared.parted.Parted.{Ghosts}
use Rattle.turn_lock.specs.declared.pass.TurnPass.{TurnPass}
use Rattle.turn_lock.specs.Passes.{part_of}
use Rattle.turn_lock.specs.Rows.{IsPassOf}
use Rattle.turn_lock.proofs.Rows.{row_set, row_same}
use Rattle.turn_callers.specs.declared.register.RegisterEntry.{RegisterEntry}
use Rattle.turn_callers.specs.declared.register.Share.{Share}
use Rattle.turn_callers.specs.declared.register.Register.{Register}
use Rattle.turn_callers.specs.declared.order.ShelfOrder.{ShelfOrder}
use Rattle.turn_callers.specs.Replay.{entry}
use Rattle.turn_callers.specs.Orders.{entry_at, made_at}
use Rattle.turn_callers.specs.Seats.{Has, Seats}

pub made_at-push : (q j : ℕ) (os : List ShelfOrder) (rs : List ℕ) (o : ShelfOrder) (r : ℕ) → length os ≡ length rs → made_at q j (os ++ o ∷ []) (rs ++ r ∷ []) ≡ made_at q j os rs ++ entry_at q j o r
made_at-push q j [] [] o r e = refl
made_at-push q j [] (y ∷ rs) o r e = absurd (omega arith)
made_at-push q j (x ∷ os) [] o r e = absurd (omega arith)
made_at-push q j (x ∷ os) (y ∷ rs) o r e = step_in (eqb x.place j) (entry q x.call y) _ _ _ (made_at-push q j os rs o r (omega arith))
  where
    step_in : (b : Bool) (e : RegisterEntry) (xs ys zs : List RegisterEntry) → xs ≡ ys ++ zs → cond b (e ∷ xs) xs ≡ cond b (e ∷ ys) ys ++ zs
    step_in true e xs ys zs h = ap (λ l. e ∷ l) h
    step_in false e xs ys zs h = h

module _ {g : Ghosts Register Share} where
  pub has_room : (p : TurnPass Register Share g) (s : Share) (n : ℕ) → part_of p ≡ Some s → n + 1 ≤ s.room → IsSomeAnd (part_of p) (λ s. 0 < s.room)
  has_room p s n is h = subst (λ o. IsSomeAnd o (λ s. 0 < s.room)) (sym is) (omega arith)

  pub seats_same : (locks : List TableId) (q : ℕ) (es es' : ℕ → List RegisterEntry) (n n' : ℕ) (ps : List (TurnPass Register Share g)) → ((j : ℕ) → es j ≡ es' j) → n' ≤ n → Seats locks q es n ps → Seats locks q es' n' ps
  seats_same locks q es es' n n' ps same less row = row_same locks q (λ j. Has (es j) n) (λ j. Has (es' j) n') ps (λ j s h. (h.0 ∙ same j, (let b = h.1 in omega arith))) row

  -- the order o was made, and its reply is r
  pub seats_after : (locks : List TableId) (q : ℕ) (es : ℕ → List RegisterEntry) (n : ℕ) (ps : List (TurnPass Register Share g)) (o : ShelfOrder) (r : ℕ) (p : TurnPass Register Share g) (lock : TableId)
      → Seats locks q es (n + 1) ps → o.place < length locks → ((e : TableId) → get_or locks o.place e ≡ lock) → IsPassOf lock q (Has (es o.place ++ entry q o.call r ∷ []) n) p
      → Seats locks q (λ j. es j ++ entry_at q j o r) n (set ps o.place p)
  seats_after locks q es n ps o r p lock row h lock_is mine = row_set locks q (λ j. Has (es j) (n + 1)) (λ j. Has (es j ++ entry_at q j o r) n) ps o.place p lock row h lock_is
      (subst (λ (b : Bool). IsPassOf lock q (Has (es o.place ++ cond b (entry q o.call r ∷ []) []) n) p) (sym (eq-eqb o.place o.place refl)) mine)
      (λ j other s has.
      let none : es j ≡ es j ++ entry_at q j o r = sym (ap (λ (b : Bool). es j ++ cond b (entry q o.call r ∷ []) []) (ne_eqb o.place j (λ i. other (sym i))) ∙ append-nil (es j)) in
      (has.0 ∙ none, (let b = has.1 in omega arith)))
