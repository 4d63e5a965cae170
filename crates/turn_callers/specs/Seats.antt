-- The passes that one caller has at several registers.
use Rattle.std.specs.Prelude.{◌≡◌, ℕ, ◌+◌, ◌≤◌, List, ◌++◌}
use Rattle.atomic_table.specs.Seated.{TableId}
use Rattle.turn_lock.specs.declared.parted.Parted.{Ghosts}
use Rattle.turn_lock.specs.declared.pass.TurnPass.{TurnPass}
use Rattle.turn_lock.specs.Rows.{ArePassesOf}
use Rattle.turn_callers.specs.declared.register.RegisterEntry.{RegisterEntry}
use Rattle.turn_callers.specs.declared.register.Share.{Share}
use Rattle.turn_callers.specs.declared.register.Register.{Register}
use Rattle.turn_callers.specs.declared.order.ShelfOrder.{ShelfOrder}
use Rattle.turn_callers.specs.Orders.{entry_at}

-- a part with these entries, and room for n more
abbrev pub Has : List RegisterEntry → ℕ → Share → Type 0
Has es n s = (s.entries ≡ es) × (n ≤ s.room)

-- a pass of each register for caller q, with the entries es j at the j-th, and room for n more at each
abbrev pub Seats : {g : Ghosts Register Share} → List TableId → ℕ → (ℕ → List RegisterEntry) → ℕ → List (TurnPass Register Share g) → Type 0
Seats locks q es n ps = ArePassesOf locks q (λ j. Has (es j) n) ps

-- some caller's passes, with room for an order at each
abbrev pub HasSeats : {g : Ghosts Register Share} → List TableId → List (TurnPass Register Share g) → Type 0
HasSeats locks ps = (q : ℕ) × (es : ℕ → List RegisterEntry) × (n : ℕ) × Seats locks q es (n + 1) ps

-- the caller of ps made this order and got this reply: its register has one more entry of it
abbrev pub Ordered : {g : Ghosts Register Share} → List TableId → ShelfOrder → ℕ → List (TurnPass Register Share g) → List (TurnPass Register Share g) → Type 0
Ordered locks o r ps ps' = (q : ℕ) (es : ℕ → List RegisterEntry) (n : ℕ) → Seats locks q es (n + 1) ps → Seats locks q (λ j. es j ++ entry_at q j o r) n ps'
