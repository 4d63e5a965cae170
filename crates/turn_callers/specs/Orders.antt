-- The orders of one caller, over several registers.
use Rattle.std.specs.Prelude.{◌≡◌, ℕ, ◌<◌, List, [], ◌∷◌, length, true, eqb, cond, All, Vec}
use Rattle.turn_lock.specs.Rows.{items_at}
use Rattle.turn_callers.specs.declared.register.RegisterEntry.{RegisterEntry}
use Rattle.turn_callers.specs.declared.order.ShelfOrder.{ShelfOrder}
use Rattle.turn_callers.specs.Replay.{HasNoOther, entry, entries_by, is_legal}

-- the entry that one order makes at register j, if caller q made it and got this reply
abbrev pub entry_at : ℕ → ℕ → ShelfOrder → ℕ → List RegisterEntry
entry_at q j o r = cond (eqb o.place j) (entry q o.call r ∷ []) []

-- the entries of caller q at register j, if it made these orders and got these replies
abbrev pub made_at : ℕ → ℕ → List ShelfOrder → List ℕ → List RegisterEntry
made_at q j [] rs = []
made_at q j (o ∷ os) [] = []
made_at q j (o ∷ os) (r ∷ rs) = cond (eqb o.place j) (entry q o.call r ∷ made_at q j os rs) (made_at q j os rs)

-- each order names a place below n
abbrev pub AreWithin : ℕ → List ShelfOrder → Type 0
AreWithin n os = All (λ o. o.place < n) os

-- at the register j, the entries of each caller are its orders there, in their order, with its replies
abbrev pub AreOwnEntriesAt : {Y Z : Type 0} → ℕ → List (Vec ShelfOrder Y) → List RegisterEntry → List (Vec ℕ Z) → Type 0
AreOwnEntriesAt j scripts es replies = (q : ℕ) → q < length scripts → entries_by q es ≡ made_at q j (items_at scripts q) (items_at replies q)

-- the journals of n registers, and what each caller was replied
pub record AreShelfJournals {X Y Z : Type 0} (n : ℕ) (scripts : List (Vec ShelfOrder X)) (journals : List (Vec RegisterEntry Y)) (rs : List (Vec ℕ Z)) : Type 0 where
  pub legal : (j : ℕ) → j < n → is_legal 0 (items_at journals j) ≡ true
  pub replies : (j : ℕ) → j < n → AreOwnEntriesAt j scripts (items_at journals j) rs
  pub no_other : (j : ℕ) → j < n → HasNoOther (length scripts) (items_at journals j)
