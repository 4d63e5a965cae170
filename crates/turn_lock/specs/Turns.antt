-- The rule of the lock's table, and what each kind of step does to a seat.
use Rattle.std.specs.Prelude.{◌≡◌, ◌≢◌, ℕ, suc, ◌+◌, ◌<◌, ◌≤◌, List, [], ◌∷◌, ◌++◌, Bool, true, false, cond, eqb, Option, Some, None}
use mathlib.Core.Option.{some, none}
use mathlib.Core.Option as maybe
use lib.ListN.{get_elem?}
use Rattle.atomic_table.specs.Table.{State, Me, Step}
use Rattle.atomic_table.specs.Seated.{TableId}
use Rattle.turn_lock.specs.declared.table.Role.{Role}
use Rattle.turn_lock.specs.declared.table.Role.TheVariants.{Spent, Dealer, Caller, Keeper}

-- ---- the table

-- The rows of the table with one word and one slot that are used. No step touches the others.
abbrev pub words_with : ℕ → List ℕ
words_with w = 0 ∷ 0 ∷ 0 ∷ 0 ∷ 0 ∷ 0 ∷ 0 ∷ 0 ∷ w ∷ 0 ∷ 0 ∷ 0 ∷ 0 ∷ 0 ∷ 0 ∷ 0 ∷ []

abbrev pub slots_with : {T : Type 0} → Option T → List (Option T)
slots_with s = None ∷ None ∷ None ∷ None ∷ s ∷ None ∷ None ∷ None ∷ []

abbrev pub homes_with : {T : Type 0} → maybe.Option (Option T) → List (maybe.Option (Option T))
homes_with h = some None ∷ some None ∷ some None ∷ some None ∷ h ∷ some None ∷ some None ∷ some None ∷ []

-- 16 words and 8 slots, of which word 8 and slot 4 are used
abbrev pub IsTurnTable : TableId → Type 0
IsTurnTable z = (z.words ≡ 16) × (z.slots ≡ 8)

-- who has the value
pub data Place : Type 0 where
  free : Place
  taken : ℕ → Place

abbrev pub word_of : Place → ℕ
word_of free = 0
word_of (taken q) = suc q

module _ {T : Type 0} where
  -- the slot, with the value or without
  abbrev pub home_at : Place → T → maybe.Option (Option T)
  home_at free x = some (Some x)
  home_at (taken q) x = none

  -- the value that caller q has in hand
  abbrev pub out_at : Place → ℕ → T → Option T
  out_at free q x = None
  out_at (taken p) q x = cond (eqb p q) (Some x) None

-- if a caller has the value, its pass wasn't handed in
abbrev pub IsHeld : (ℕ → maybe.Option ℕ) → Place → Type 0
IsHeld seat free = Unit {0}
IsHeld seat (taken q) = (id : ℕ) × (seat q ≡ some id)

-- what holds of seat id with this view; `at` says who has the value x, `seat q` is the seat of caller q, and `made` passes were
-- made
module _ {T D : Type 0} (part : T → ℕ → D) (at : Place) (first x : T) (seat : ℕ → maybe.Option ℕ) (made : ℕ) (id : ℕ) where
  abbrev pub Fits : Role T D → Type 0
  Fits Spent = Unit {0}
  Fits (Dealer m y) = (m ≡ made) × (y ≡ first) × (id ≡ 0)
  Fits (Caller q d o) = (seat q ≡ some id) × (d ≡ part x q) × (o ≡ out_at at q x)
  Fits (Keeper known) = (k : ℕ) (e : ℕ × D) → get_elem? known k ≡ some e → (seat e.0 ≡ none) × (e.0 < made) × (e.1 ≡ part x e.0)

-- The rule. There is one value, in the slot or in a caller's hand. Each pass knows its part of it, and so does the seat that took
-- the pass in. The part for a number without a pass is that of the first value.
pub record Turning {T D : Type 0} (part : T → ℕ → D) (callers : ℕ) (first : T) (s : State (Option T) (Role T D)) : Type 0 where
  -- who has the value
  pub at : Place
  -- the value
  pub value : T
  -- the seat of each caller's pass, until it is handed in
  pub seat : ℕ → maybe.Option ℕ
  -- how many passes were made
  pub made : ℕ
  pub word_is : s.words ≡ words_with (word_of at)
  pub home_is : s.homes ≡ homes_with (home_at at value)
  pub held : IsHeld seat at
  pub seated : (q id : ℕ) → seat q ≡ some id → q < made
  pub few : made ≤ callers
  pub unmade : (q : ℕ) → made ≤ q → part value q ≡ part first q
  pub each : (id : ℕ) (w : Role T D) → get_elem? s.views id ≡ some w → Fits part at first value seat made id w

-- ---- what a caller's seat is

module _ {T D : Type 0} where
  abbrev pub is_caller : Role T D → Bool
  is_caller (Caller q d o) = true
  is_caller r = false

  abbrev pub number_in : Role T D → ℕ
  number_in (Caller q d o) = q
  number_in r = 0

  abbrev pub part_in : Role T D → Option D
  part_in (Caller q d o) = Some d
  part_in r = None

  abbrev pub out_in : Role T D → Option T
  out_in (Caller q d o) = o
  out_in r = None

-- a seat that has the value in hand has the empty slot
abbrev pub carried : {T : Type 0} → Option T → List (ℕ × Option T)
carried (Some x) = (4, None) ∷ []
carried None = []

-- a seat: its view, and the slots it holds
abbrev Sat : Type 0 → Type 0 → Type 0
Sat T D = Me (Option T) (Role T D)

module _ {T D : Type 0} where
  -- the seat of caller q with the part d, without the turn
  abbrev pub outside : ℕ → D → Sat T D
  outside q d = (Caller q d None, [])

  -- the same with the turn, and the value x in hand
  abbrev pub inside : ℕ → D → T → Sat T D
  inside q d x = (Caller q d (Some x), (4, None) ∷ [])

  -- this seat comes inside with x, and its part of x is the one it had
  abbrev pub ComesInside : (T → ℕ → D) → ℕ → Sat T D → Sat T D → T → Type 0
  ComesInside part q m m' x = (d : D) → m ≡ outside q d → (m' ≡ inside q d x) × (d ≡ part x q)

-- y has the part of x for every caller but q
abbrev pub KeepsOthers : {T D : Type 0} → (T → ℕ → D) → ℕ → T → T → Type 0
KeepsOthers part q x y = (p : ℕ) → p ≢ q → part y p ≡ part x p

-- this seat is inside, and y has, for every caller but q, the same part as the value in hand
abbrev pub HasKept : {T D : Type 0} → (T → ℕ → D) → ℕ → Sat T D → T → Type 0
HasKept {T} {D} part q m y = (d : D) × (x : T) × (m ≡ inside q d x) × KeepsOthers part q x y

-- ---- the kinds of step

-- SplitSeat: the dealer makes the next pass, which knows its part of the first value
module _ {T D : Type 0} (part : T → ℕ → D) where
  abbrev pub dealt : Role T D → Role T D
  dealt (Dealer m y) = Dealer (m + 1) y
  dealt r = r

  abbrev pub next_pass : Role T D → Role T D
  next_pass (Dealer m y) = Caller m (part y m) None
  next_pass r = Spent

-- TurnTake: if the word was 0, the caller with the part d has the value, and its part of it is d; otherwise nothing changed
module _ {T D : Type 0} (part : T → ℕ → D) (q : ℕ) (d : D) where
  abbrev pub TookIf : Bool → Sat T D → Type 0
  TookIf true m' = (x : T) × (m' ≡ (Caller q d (Some x), (4, Some x) ∷ [])) × (d ≡ part x q)
  TookIf false m' = m' ≡ outside q d

abbrev pub Takes : {T D : Type 0} → (T → ℕ → D) → Step (Option T) → Sat T D → ℕ → Sat T D → Type 0
Takes {T} {D} part st m found m' = (q : ℕ) (d : D) → m ≡ outside q d → TookIf part q d (eqb found 0) m'

-- TurnFree: the returned value is in the slot, and the caller knows its part of it
abbrev pub Frees : {T D : Type 0} → (T → ℕ → D) → Step (Option T) → Sat T D → ℕ → Sat T D → Type 0
Frees {T} {D} part st m found m' = (q : ℕ) (d : D) (x y : T) → m ≡ (Caller q d (Some x), (4, Some y) ∷ []) → m' ≡ outside q (part y q)

-- KeeperComes: a seat that knows of no pass yet
abbrev pub Comes : {T D : Type 0} → Step (Option T) → Sat T D → ℕ → Sat T D → Type 0
Comes st m found m' = m' ≡ (Keeper [], [])

-- JoinSeat: the keeper knows what the pass knew
module _ {T D : Type 0} where
  abbrev pub entry_of : Role T D → List (ℕ × D)
  entry_of (Caller q d o) = (q, d) ∷ []
  entry_of r = []

  abbrev pub gathered : Role T D → Role T D → Role T D
  gathered (Keeper known) r = Keeper (known ++ entry_of r)
  gathered r _ = r
