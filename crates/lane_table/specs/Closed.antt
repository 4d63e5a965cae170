-- What an arena leaves when it is closed.
use Rattle.std.specs.Prelude.{◌≡◌, ℕ, ◌<◌, ◌≤◌, List, [], length, map, take, drop, true}
use mathlib.Core.Option.{some}
use lib.ListN.{get_elem?}
use Rattle.lane_core.specs.declared.history.Entry.{Entry}
use Rattle.lane_core.specs.Areas.{Areas}
use Rattle.lane_core.specs.Cut.{AreLeft, IsCurrent, IsRecoverable}
use Rattle.lane_core.specs.Fixed.{SameFixed}
use Rattle.lane_core.specs.History.{end_of, of_lane, of_session, IsLegal}
use Rattle.lane_core.specs.Invariant.{IsSound}
use Rattle.lane_core.specs.Machine.{State}
use Rattle.lane_core.specs.Places.{Shows, geometry, row_size}
use Rattle.lane_table.specs.declared.closing.Closed.{Closed}
use Rattle.lane_table.specs.declared.lanes.LaneEnd.{LaneEnd}
use Rattle.lane_table.specs.declared.table.Key.{Key}
use Rattle.lane_table.specs.declared.table.PassPart.{PassPart}
use Rattle.lane_table.specs.Kits.{kit_in, log_in, held_in, loose_in}
use Rattle.lane_table.specs.Law.{opening_of, cells_in, words_of, Covers, rising}
use Rattle.lane_table.specs.Logs.{IsLogOf}

-- every lane of n, each at its number
pub record AreInOrder (n : ℕ) (ends : List LaneEnd) : Type 0 where
  pub count : length ends ≡ n
  pub each : (l : ℕ) (e : LaneEnd) → get_elem? ends l ≡ some e → (kit_in e).number ≡ l

pub record IsClosed (k : Key) (ends : List LaneEnd) (c : Closed) : Type 0 where
  -- the words show a state of the lanes' machine, which meets the invariant
  pub state : State
  pub sound : IsSound (geometry k.shape) (opening_of k) state
  pub row : List ℕ
  pub size : length row ≡ row_size k.shape
  pub shown : Shows k.shape row state
  pub seen : c.seen.items ≡ take k.shape.total row
  pub kept : c.kept.items ≡ take k.shape.total (drop k.shape.total row)
  -- the words that no lane stores, such as those of the info blocks, are as the arena was opened
  pub seen_fixed : SameFixed k.shape (words_of k) c.seen.items
  pub kept_fixed : SameFixed k.shape (words_of k) c.kept.items
  -- each lane of this state is what its seat knew
  pub lanes : (l : ℕ) (e : LaneEnd) → get_elem? ends l ≡ some e → state.lanes l ≡ (kit_in e).seat.me.0.lane
  -- one legal history has the lanes' calls, each lane's in their order, and no others
  pub history : List Entry
  pub legal : IsLegal (opening_of k) history
  pub each : (l : ℕ) (e : LaneEnd) → get_elem? ends l ≡ some e → of_lane l history ≡ log_in (kit_in e)
  -- the log of lane l has these calls, without words
  pub logs : c.logs.items ≡ map (λ e. (kit_in e).log.calls) ends
  pub logged : (l : ℕ) (e : LaneEnd) → get_elem? ends l ≡ some e → IsLogOf (kit_in e).log.calls (of_lane l history)
  -- each pass has its session's calls, each once, and their numbers rise. A pass that stands for all
  -- sessions from one on says that these have none
  pub held : (l m : ℕ) (e : LaneEnd) (t : PassPart) → get_elem? ends l ≡ some e → get_elem? (held_in (kit_in e)) m ≡ some t → (of_session t.session history ≡ t.entries) × (rising t.entries ≡ true)
  pub loose : (l m q : ℕ) (e : LaneEnd) (t : PassPart) → get_elem? ends l ≡ some e → get_elem? (loose_in (kit_in e)) m ≡ some t → Covers t q → (of_session q history ≡ t.entries) × (rising t.entries ≡ true)
  pub no_other : (l : ℕ) → k.shape.lanes ≤ l → of_lane l history ≡ []
  -- it ends in the cells that the seen words encode
  pub leaves : (t : ℕ) → t < k.shape.sectors → end_of (opening_of k) history t ≡ cells_in k.shape c.seen.items t
  pub same_end : (t : ℕ) → t < k.shape.sectors → end_of (opening_of k) history t ≡ end_of (opening_of k) state.history t
  -- after every power cut the words recover: each lane has a current half, and each sector is as at
  -- the end of the history or has the words of one write in flight
  pub survives : (left : Areas) → AreLeft (geometry k.shape) state.seen state.kept left
      → ((l : ℕ) → l < k.shape.lanes → (side : ℕ) × IsCurrent left l side)
      × ((after : ℕ → ℕ) → ((l : ℕ) → l < k.shape.lanes → IsCurrent left l (after l)) → IsRecoverable (geometry k.shape) (opening_of k) state left after)
