-- Terms for contracts about a lock and its passes.
use Rattle.std.specs.Prelude.{◌≡◌, ℕ, ◌<◌, List, [], ◌∷◌, ◌++◌, length, Option, Some, None, Any, slice_index_or}
use Rattle.atomic_table.specs.Seated.{TableId}
use Rattle.turn_lock.specs.declared.turn.Turn.{Turn}
use Rattle.turn_lock.specs.declared.pass.TurnPass.{TurnPass}
use Rattle.turn_lock.specs.declared.parted.Parted.{Ghosts}
use Rattle.turn_lock.specs.Turns.{number_in, part_in, out_in, entry_of}

-- ---- a lock

-- identifies the lock
abbrev pub lock_id : {T D : Type 0} → Turn T D → TableId
lock_id t = t.table.shared.table_id

-- how many callers it has
abbrev pub callers_of : {T D : Type 0} → Turn T D → ℕ
callers_of t = t.table.shared.key.callers

-- its first value
abbrev pub first_of : {T D : Type 0} → Turn T D → T
first_of t = t.table.shared.key.value.value

-- ---- a pass

module _ {T D : Type 0} {g : Ghosts T D} where
  -- its lock
  abbrev pub lock_of : TurnPass T D g → TableId
  lock_of p = p.seat.table_id

  -- its caller
  abbrev pub number_of : TurnPass T D g → ℕ
  number_of p = number_in p.seat.me.0

  -- what it knows
  abbrev pub part_of : TurnPass T D g → Option D
  part_of p = part_in p.seat.me.0

  -- the value that was handed out, while it is inside
  abbrev pub out_of : TurnPass T D g → Option T
  out_of p = out_in p.seat.me.0

  -- the same pass, at another time
  abbrev pub IsSamePass : TurnPass T D g → TurnPass T D g → Type 0
  IsSamePass p p' = (lock_of p' ≡ lock_of p) × (number_of p' ≡ number_of p)

  -- a pass of this lock that doesn't have the turn
  abbrev pub IsOutside : TableId → TurnPass T D g → Type 0
  IsOutside lock p = (lock_of p ≡ lock) × (out_of p ≡ None)

  -- it knows its part of x
  abbrev pub Knows : T → TurnPass T D g → Type 0
  Knows x p = part_of p ≡ Some (g.part x (number_of p))

  -- what it knows changes by f
  abbrev pub PartBecomes : (D → D) → TurnPass T D g → TurnPass T D g → Type 0
  PartBecomes f p p' = (d : D) → part_of p ≡ Some d → part_of p' ≡ Some (f d)

  -- ---- all passes of a lock

  -- a new pass of caller q: outside, and it knows the caller's part of x
  abbrev pub IsFresh : TableId → T → ℕ → TurnPass T D g → Type 0
  IsFresh lock x q p = (lock_of p ≡ lock) × (number_of p ≡ q) × (part_of p ≡ Some (g.part x q)) × (out_of p ≡ None)

  -- pass q of the list is that of caller q
  abbrev pub AreFresh : TableId → T → List (TurnPass T D g) → Type 0
  AreFresh lock x ps = (q : ℕ) (d : TurnPass T D g) → q < length ps → IsFresh lock x q (slice_index_or ps q d)

  -- the passes are in the order of their numbers
  abbrev pub AreInOrder : List (TurnPass T D g) → Type 0
  AreInOrder ps = (q : ℕ) (p : TurnPass T D g) → q < length ps → number_of (slice_index_or ps q p) ≡ q

  -- for each number below n, the pass with it is among these
  abbrev pub HasEach : ℕ → List (TurnPass T D g) → Type 0
  HasEach n ps = (q : ℕ) → q < n → Any (λ p. number_of p ≡ q) ps

  -- the numbers of the passes, each with its part
  abbrev pub entries_of : List (TurnPass T D g) → List (ℕ × D)
  entries_of [] = []
  entries_of (p ∷ ps) = entry_of p.seat.me.0 ++ entries_of ps
