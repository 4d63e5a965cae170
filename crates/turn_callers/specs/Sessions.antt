-- A session at several registers, before and after its orders.
use Rattle.std.specs.Prelude.{◌≡◌, ℕ, ◌<◌, ◌≤◌, List, [], ◌∷◌, ◌++◌, length, true, Vec, vec_capacity, slice_index_or}
use Rattle.atomic_table.specs.Seated.{TableId}
use Rattle.turn_callers.specs.contracts.register.RegisterParted.TheImpl.{ghosts}
use Rattle.turn_lock.specs.declared.turn.Turn.{Turn}
use Rattle.turn_lock.specs.declared.pass.TurnPass.{TurnPass}
use Rattle.turn_lock.specs.Passes.{callers_of, first_of}
use Rattle.turn_callers.specs.declared.register.RegisterEntry.{RegisterEntry}
use Rattle.turn_callers.specs.declared.register.Share.{Share}
use Rattle.turn_callers.specs.declared.register.Register.{Register}
use Rattle.turn_callers.specs.declared.order.ShelfOrder.{ShelfOrder}
use Rattle.turn_callers.specs.declared.session.ShelfSession.{ShelfSession}
use Rattle.turn_lock.specs.Rows.{items_at}
use Rattle.turn_callers.specs.Replay.{is_legal, entries_by, HasNoOther}
use Rattle.turn_callers.specs.Orders.{made_at}
use Rattle.turn_callers.specs.Seats.{Seats}

-- no order is made yet, and there is room for all
abbrev pub IsReady : List TableId → List ShelfOrder → ShelfSession → Type 0
IsReady locks orders s = Seats locks s.number (λ j. []) (length orders) s.passes.items × (s.replies.items ≡ []) × (length orders ≤ vec_capacity s.replies)

-- all orders are made, and the replies are those in the entries at each register
abbrev pub IsDone : List TableId → List ShelfOrder → ShelfSession → Type 0
IsDone locks orders s = Seats locks s.number (λ j. made_at s.number j orders s.replies.items) 0 s.passes.items × (length s.replies.items ≡ length orders)

abbrev pub AreReady : {Z : Type 0} → List TableId → List (Vec ShelfOrder Z) → List ShelfSession → Type 0
AreReady locks scripts ss = (q : ℕ) (d : ShelfSession) → q < length ss → ((slice_index_or ss q d).number ≡ q) × IsReady locks (items_at scripts q) (slice_index_or ss q d)

abbrev pub AreDone : {Z : Type 0} → List TableId → List (Vec ShelfOrder Z) → List ShelfSession → Type 0
AreDone locks scripts ss = (q : ℕ) (d : ShelfSession) → q < length ss → ((slice_index_or ss q d).number ≡ q) × IsDone locks (items_at scripts q) (slice_index_or ss q d)

-- a lock for this many callers, around a register without calls yet
abbrev pub IsNew : ℕ → Turn Register Share → Type 0
IsNew callers t = (callers_of t ≡ callers) × ((first_of t).journal.items ≡ [])

-- the journal of register j: legal, and each caller's entries are its orders there, with its replies
pub record IsJournal {Z : Type 0} (scripts : List (Vec ShelfOrder Z)) (ss : List ShelfSession) (j : ℕ) (es : List RegisterEntry) : Type 0 where
  pub legal : is_legal 0 es ≡ true
  pub tied : (q : ℕ) (d : ShelfSession) → q < length ss → entries_by q es ≡ made_at q j (items_at scripts q) (slice_index_or ss q d).replies.items
  pub no_other : HasNoOther (length ss) es

-- the same for each of the n registers
abbrev pub AreJournals : {Y Z : Type 0} → List (Vec ShelfOrder Y) → List ShelfSession → ℕ → List (Vec RegisterEntry Z) → Type 0
AreJournals scripts ss n js = (j : ℕ) → j < n → IsJournal scripts ss j (items_at js j)

-- ---- handing passes out and taking them back

-- the same numbers and replies
abbrev pub KeepRest : List ShelfSession → List ShelfSession → Type 0
KeepRest ss ss' = (q : ℕ) (d : ShelfSession) → q < length ss → ((slice_index_or ss' q d).number ≡ (slice_index_or ss q d).number) × ((slice_index_or ss' q d).replies ≡ (slice_index_or ss q d).replies)

-- the same replies
abbrev pub KeepReplies : List ShelfSession → List ShelfSession → Type 0
KeepReplies ss ss' = (q : ℕ) (d : ShelfSession) → q < length ss → (slice_index_or ss' q d).replies ≡ (slice_index_or ss q d).replies

-- each session has one more pass, the one of ps at its place
abbrev pub HaveOneMore : List ShelfSession → List (TurnPass Register Share ghosts) → List ShelfSession → Type 0
HaveOneMore ss ps ss' = (q : ℕ) (d : ShelfSession) (e : TurnPass Register Share ghosts) → q < length ss → (slice_index_or ss' q d).passes.items ≡ (slice_index_or ss q d).passes.items ++ slice_index_or ps q e ∷ []

-- each session had one more pass, the one of ps at its place
abbrev pub HadOneMore : List ShelfSession → List (TurnPass Register Share ghosts) → List ShelfSession → Type 0
HadOneMore ss ps ss' = (q : ℕ) (d : ShelfSession) (e : TurnPass Register Share ghosts) → q < length ss → (slice_index_or ss q d).passes.items ≡ (slice_index_or ss' q d).passes.items ++ slice_index_or ps q e ∷ []

-- each session has a pass
abbrev pub HavePasses : List ShelfSession → Type 0
HavePasses ss = (q : ℕ) (d : ShelfSession) → q < length ss → 0 < length (slice_index_or ss q d).passes.items
