-- The rule of the table: its words show a state of the lanes' machine that meets the machine's
-- invariant, and each lane of this state is what the seat that has it knows. No view has the
-- history; it stands in that state alone.
use Rattle.std.specs.Prelude.{◌≡◌, ℕ, ◌+◌, ◌*◌, ◌<◌, List, [], ◌∷◌, ◌++◌, ◌≤◌, ◌==◌, ◌&&◌, nat_lt, map, drop, length, true, false, Bool, zero, suc, slice_index, slice_index_or}
use lib.ListN.{get_elem?}
use mathlib.Core.Option.{some}
use Rattle.atomic_table.specs.Table.{State as TableState}
use Rattle.arena_open.specs.declared.cell.Cell.{Cell}
use Rattle.arena_open.specs.declared.opened.LaneState.{LaneState}
use Rattle.nvd_words.specs.declared.tag.Tag.{Tag}
use Rattle.lane_core.specs.declared.history.Entry.{Entry}
use Rattle.lane_core.specs.declared.lane.Lane.{Lane}
use Rattle.lane_core.specs.declared.phase.Phase.TheVariants.{Idle}
use Rattle.lane_core.specs.declared.shape.Shape.{Shape}
use Rattle.lane_core.specs.Areas.{Areas}
use Rattle.lane_core.specs.Fixed.{RowHasFixed}
use Rattle.lane_core.specs.History.{cell_of, of_lane, of_session}
use Rattle.lane_core.specs.Invariant.{IsSound}
use Rattle.lane_core.specs.Machine.{State}
use Rattle.lane_core.specs.Opening.{opened_lane}
use Rattle.lane_core.specs.Places.{Shows, geometry, row_size, IsShape}
use Rattle.lane_table.specs.declared.table.Count.{Count}
use Rattle.lane_table.specs.declared.table.Key.{Key}
use Rattle.lane_table.specs.declared.table.Owned.{Owned}
use Rattle.lane_table.specs.declared.table.PassPart.{PassPart}
use Rattle.lane_table.specs.declared.table.View.{View}

-- ---- the lanes that a seat has

-- its own, and those that it has yet to hand out or has taken back
abbrev pub owned_by : Bool → Owned → List Owned → List Owned
owned_by true o os = o ∷ os
owned_by false o os = os

-- what a live seat has first
abbrev pub own : View → Owned
own v = record { number = v.number; lane = v.lane; shape = v.shape; held = v.held; steps = v.count.steps }

abbrev pub owned : View → List Owned
owned v = owned_by v.live (own v) v.rest

-- a seat knows each lane that it has, and no lane is had twice
pub record Seats (x : Shape) (views : List View) (lanes : ℕ → Lane) : Type 0 where
  pub known : (i k : ℕ) (v : View) (o : Owned) → get_elem? views i ≡ some v → get_elem? (owned v) k ≡ some o → (o.number < x.lanes) × (lanes o.number ≡ o.lane) × (o.shape ≡ x)
  pub once : (i j k m : ℕ) (v w : View) (o p : Owned) → get_elem? views i ≡ some v → get_elem? views j ≡ some w → get_elem? (owned v) k ≡ some o → get_elem? (owned w) m ≡ some p → o.number ≡ p.number → (i ≡ j) × (k ≡ m)

-- ---- the passes of sessions

-- where the pass of a session is: the k-th of those that the seat i carries, or on the lane l
pub data Home : Type 0 where
  Loose : ℕ → ℕ → Home
  On : ℕ → Home

-- the sessions that a pass is of: its own one, and all later ones too where they are yet to be made
abbrev pub covers_by : Bool → ℕ → ℕ → Type 0
covers_by true n q = n ≤ q
covers_by false n q = n ≡ q

abbrev pub Covers : PassPart → ℕ → Type 0
Covers t q = covers_by t.unmade t.session q

-- each call has a number below this one
abbrev pub calls_below : ℕ → List Entry → Bool
calls_below n [] = true
calls_below n (e ∷ es) = nat_lt e.tag.call n && calls_below n es

-- each call has a number above this one
abbrev pub calls_above : ℕ → List Entry → Bool
calls_above n [] = true
calls_above n (e ∷ es) = nat_lt n e.tag.call && calls_above n es

-- the calls' numbers rise
abbrev pub rising : List Entry → Bool
rising [] = true
rising (e ∷ es) = calls_above e.tag.call es && rising es

-- the entries of a lane in the history that its log doesn't have: a read whose words it loads
abbrev pub unlogged : List Entry → ℕ → List Entry → List Entry
unlogged log l history = drop (length log) (of_lane l history)

-- a pass that no lane holds has its session's entries
abbrev pub IsLoose : (ℕ → Home) → List Entry → ℕ → ℕ → PassPart → Type 0
IsLoose homes history i k t = (q : ℕ) → Covers t q → (homes q ≡ Loose i k) × (of_session q history ≡ t.entries)

-- a pass that lane l holds has its session's entries, but for a read whose words the lane loads
abbrev pub IsHeld : (ℕ → Home) → List Entry → ℕ → List Entry → PassPart → Type 0
IsHeld homes history l log t = (homes t.session ≡ On l) × (of_session t.session history ≡ t.entries ++ of_session t.session (unlogged log l history))

abbrev pub AreHeld : (ℕ → Home) → List Entry → ℕ → List Entry → List PassPart → Type 0
AreHeld homes history l log held = (m : ℕ) (t : PassPart) → get_elem? held m ≡ some t → IsHeld homes history l log t × (rising t.entries ≡ true)

-- lane l holds the pass of the session whose read it loads, and this read is the session's last
abbrev pub IsOpenHeld : (ℕ → Home) → List Entry → ℕ → List Entry → Type 0
IsOpenHeld homes history l log = (k : ℕ) (e : Entry) → get_elem? (unlogged log l history) k ≡ some e
    → (homes e.tag.session ≡ On l) × (es : List Entry) × (of_session e.tag.session history ≡ es ++ of_session e.tag.session (unlogged log l history))

pub record Passes (views : List View) (lanes : ℕ → Lane) (history : List Entry) : Type 0 where
  pub homes : ℕ → Home
  pub loose : (i k : ℕ) (v : View) (t : PassPart) → get_elem? views i ≡ some v → get_elem? v.loose k ≡ some t → IsLoose homes history i k t × (rising t.entries ≡ true)
  pub held : (i k : ℕ) (v : View) (o : Owned) → get_elem? views i ≡ some v → get_elem? (owned v) k ≡ some o → AreHeld homes history o.number o.lane.log o.held
  pub unfinished : (l : ℕ) → IsOpenHeld homes history l (lanes l).log

-- a lane with these passes may enter this call into the history: it holds one pass, the session's, and the
-- call's number is above those of all its calls so far
abbrev pub may_enter : List PassPart → Tag → Bool
may_enter [] tag = false
may_enter (p ∷ []) tag = (p.session == tag.session) && calls_below tag.call p.entries
may_enter (p ∷ q ∷ ps) tag = false

-- ---- the rule

-- `first` has the words of the arena as it was opened
pub record Tells (x : Shape) (opening : ℕ → Cell) (first words : List ℕ) (views : List View) (s : State) : Type 0 where
  pub sound : IsSound (geometry x) opening s
  pub shape : IsShape x
  pub size : length words ≡ row_size x
  pub shown : Shows x words s
  -- each word of the arena that no lane stores is as it was opened
  pub fixed : RowHasFixed x first words
  pub seats : Seats x views s.lanes
  pub passes : Passes views s.lanes s.history

abbrev pub Holds : Shape → (ℕ → Cell) → List ℕ → List ℕ → List View → Type 0
Holds x opening first words views = (s : State) × Tells x opening first words views s

-- the areas that an arena's words show
abbrev pub areas_in : Shape → List ℕ → Areas
areas_in x words = record {
  data_at = λ b j. slice_index words (x.data_at + b * x.inner + j);
  map_at = λ m. slice_index words (x.map_at + m);
  log_a = λ l side. slice_index words (x.log_at + 8 * l + 2 * side);
  log_b = λ l side. slice_index words (x.log_at + 8 * l + 2 * side + 1);
}

-- the cells that they encode
abbrev pub cells_in : Shape → List ℕ → ℕ → Cell
cells_in x words = cell_of (geometry x) (areas_in x words).data_at (areas_in x words).map_at

-- the words of the arena as it was opened, and their cells
abbrev pub words_of : Key → List ℕ
words_of k = k.words.value

abbrev pub opening_of : Key → ℕ → Cell
opening_of k = cells_in k.shape (words_of k)

abbrev pub holds : {S : Type 0} → Key → TableState S View → Type 0
holds k t = Holds k.shape (opening_of k) (words_of k) t.words t.views

-- ---- seats

abbrev pub no_lane : Lane
no_lane = record { block = 0; side = 0; half = record { lba = 0; old = 0; new = 0; seq = 1 }; phase = Idle; tag = record { session = 0; call = 0 }; sector = 0; words = []; loaded = 0; got = []; log = [] }

abbrev pub no_shape : Shape
no_shape = record { width = 0; sectors = 0; lanes = 0; inner = 0; data_at = 0; map_at = 0; log_at = 0; total = 0 }

abbrev pub no_steps : Count
no_steps = record { steps = 0; last = 0; before = 0 }

-- a seat with no lane of its own, which has these lanes and passes to hand out, or has them back
abbrev pub keeper : List Owned → List PassPart → View
keeper os ps = record { live = false; number = 0; lane = no_lane; shape = no_shape; held = []; rest = os; loose = ps; count = no_steps }

abbrev pub spent : View
spent = keeper [] []

-- a seat with one lane, and with passes that it carries
abbrev pub seated : Owned → List PassPart → View
seated o ps = record { live = true; number = o.number; lane = o.lane; shape = o.shape; held = o.held; rest = []; loose = ps; count = record { steps = o.steps; last = 0; before = 0 } }

-- all sessions from this one on have no pass yet
abbrev pub unmade_from : ℕ → PassPart
unmade_from n = record { session = n; unmade = true; steps = 0; entries = [] }

abbrev pub new_pass : ℕ → PassPart
new_pass n = record { session = n; unmade = false; steps = 0; entries = [] }

-- the side of lane l's current half, as the arena was opened
abbrev pub no_state : LaneState
no_state = record { free = 0; group = record { side = 0; half = record { lba = 0; old = 0; new = 0; seq = 0 } } }

abbrev pub side_of : Key → ℕ → ℕ
side_of k l = (slice_index_or k.lanes.value l no_state).group.side

-- lane l as it was opened
abbrev pub opened_owned : Key → ℕ → Owned
opened_owned k l = record { number = l; lane = opened_lane (areas_in k.shape (words_of k)) l (side_of k l); shape = k.shape; held = []; steps = 0 }

-- this many lanes from lane n on
abbrev pub opened_from : Key → ℕ → ℕ → List Owned
opened_from k n zero = []
opened_from k n (suc c) = opened_owned k n ∷ opened_from k (suc n) c

-- the first seat has every lane and every pass to hand out
abbrev pub first : Key → View
first k = keeper (opened_from k 0 k.shape.lanes) (unmade_from 0 ∷ [])

-- the passes that lane l's seat has at the start: the first lane's seat makes them all
abbrev pub first_loose : ℕ → List PassPart
first_loose zero = unmade_from 0 ∷ []
first_loose (suc l) = []

-- ---- SplitSeat and JoinSeat

abbrev pub rest_of : List Owned → List Owned
rest_of [] = []
rest_of (o ∷ os) = os

abbrev pub next_of : List Owned → List PassPart → View
next_of [] ps = spent
next_of (o ∷ os) ps = seated o ps

-- the dealer after it handed a lane out, and the seat that has it: the first one has the passes
abbrev pub dealt : View → View
dealt v = record v { rest = rest_of v.rest; loose = [] }

abbrev pub next_seat : View → View
next_seat v = next_of v.rest v.loose

-- a seat after it took in the lanes and passes of another one
abbrev pub gathered : View → View → View
gathered v w = record v { rest = v.rest ++ owned w; loose = v.loose ++ w.loose }

-- ---- passes are made, given and taken: each is a SplitSeat or a JoinSeat

abbrev pub later : List PassPart → List PassPart
later [] = []
later (t ∷ ts) = unmade_from (t.session + 1) ∷ ts

abbrev pub pass_seat : List PassPart → View
pass_seat ps = keeper [] ps

abbrev pub next_pass : List PassPart → View
next_pass [] = spent
next_pass (t ∷ ts) = pass_seat (new_pass t.session ∷ [])

abbrev pub others : List PassPart → List PassPart
others [] = []
others (t ∷ ts) = ts

-- the seat that makes passes after it made one, and the new pass's seat
abbrev pub left_to_make : View → View
left_to_make v = record v { loose = later v.loose }

abbrev pub made_pass : View → View
made_pass v = next_pass v.loose

-- the seat of a lane that gave its pass away, and the pass's seat
abbrev pub without_pass : View → View
without_pass v = record v { held = [] }

abbrev pub pass_of : ℕ → List PassPart → View
pass_of n [] = spent
pass_of n (t ∷ ts) = pass_seat (record t { unmade = false; steps = n } ∷ [])

-- what the seat of a pass has
abbrev pub pass_now : ℕ → ℕ → List Entry → List PassPart
pass_now n steps es = record { session = n; unmade = false; steps = steps; entries = es } ∷ []

abbrev pub entries_of : List PassPart → List Entry
entries_of [] = []
entries_of (t ∷ ts) = t.entries

-- the only pass is the session's
abbrev pub holds_pass : List PassPart → ℕ → Bool
holds_pass [] q = false
holds_pass (t ∷ []) q = t.session == q
holds_pass (t ∷ u ∷ ts) q = false

abbrev pub given_pass : View → View
given_pass v = pass_of v.count.steps v.held

-- the seat of a lane that took a pass: from then on it counts the pass's steps
abbrev pub steps_of : List PassPart → ℕ
steps_of [] = 0
steps_of (t ∷ ts) = t.steps

abbrev pub with_pass : View → View → View
with_pass v w = record v { held = w.loose; count = record (v.count) { steps = steps_of w.loose } }

-- ---- how a step is counted, by what it found

abbrev pub uncounted : ℕ → Count → Count
uncounted n c = c

abbrev pub counted : ℕ → Count → Count
counted n c = record c { steps = c.steps + 1 }

-- a step that looks at a word
abbrev pub looks : ℕ → Count → Count
looks n c = record { steps = c.steps + 1; last = n; before = c.last }

-- the view after a step of its lane
abbrev pub with_by : (ℕ → Count → Count) → ℕ → View → Lane → View
with_by k n v p = record v { lane = p; count = k n v.count }

-- after a store
abbrev pub with : View → Lane → View
with v p = with_by counted 0 v p

-- after a look that found n
abbrev pub found : ℕ → View → Lane → View
found n v p = with_by looks n v p

-- the lane's pass has one entry more
abbrev pub noted : Entry → PassPart → PassPart
noted e t = record t { entries = t.entries ++ e ∷ [] }

abbrev pub entered : Entry → View → View
entered e v = record v { held = map (noted e) v.held }
