-- Whatever lanes of an opened arena are asked, what the core holds stands.
use Rattle.std.proofs.Common.{◌≡◌, ◌≢◌, ℕ, ◌<◌, ◌≤◌, ◌==◌, nat_lt, if◌then◌else◌, inl, inr, Bool, true, false, List, [], ◌∷◌, ◌++◌, length, map, take, take_all, Option, Some, None, slice_get, slice_set, refl, sym, ap, ◌∙◌, subst, arith}
use Rattle.std.specs.List.{AllByRecursion}
use Rattle.std.proofs.lemmas.List.{append_cancel_left, length-replicate}
use Rattle.nvd_words.specs.declared.tag.Tag.{Tag}
use Rattle.arena_open.specs.declared.cell.Cell.{Cell}
use Rattle.arena_open.specs.declared.cell.Cell.TheVariants as cell
use Rattle.arena_open.specs.declared.state.ArenaState.{ArenaState}
use Rattle.arena_open.specs.Moves.{IsOpenState}
use Rattle.lane_core.specs.declared.history.Act.TheVariants as act
use Rattle.lane_core.specs.declared.history.Entry.{Entry}
use Rattle.lane_core.specs.declared.lane.Lane.{Lane}
use Rattle.lane_core.specs.declared.now.LaneNow.{LaneNow}
use Rattle.lane_core.specs.declared.phase.Phase.TheVariants.{Scanning, Staging, Reading}
use Rattle.lane_core.specs.declared.shape.Shape.{Shape}
use Rattle.lane_core.specs.declared.stepped.Answer.TheVariants as answer
use Rattle.lane_core.specs.After.{answer_after, lane_after, past_after, row_after, uses_words}
use Rattle.lane_core.specs.Arenas.{areas_in, shape_in, sides_in}
use Rattle.lane_core.specs.Areas.{put}
use Rattle.lane_core.specs.Begins.{is_idle, read_begun, write_begun}
use Rattle.lane_core.specs.Cores.{ShowsSound}
use Rattle.lane_core.specs.Held.{Held, recorded}
use Rattle.lane_core.specs.History.{IsLegal, Cells, listed, of_lane}
use Rattle.lane_core.specs.Idle.{idle_of}
use Rattle.lane_core.specs.Invariant.{is_reading, only_if, open_entry}
use Rattle.lane_core.specs.Machine.{State, looked, begin_read, begin_write}
use Rattle.lane_core.specs.Opening.{opened}
use Rattle.lane_core.specs.Places.{geometry}
use Rattle.lane_core.specs.Reopening.{first_cells}
use Rattle.lane_core.specs.Schedules.{Asked, Read, Write, Step, FitsShape, IsInCall, IsOpenIn, IsTold, LaneStands, Played, SchedulesStand, Told, answer_by, calls_after, can_begin, entry_told, if_there, lane_begun, lane_stepped, opened_held, played, played_one, scheduled, told, told_after, with_lane, zeros}
use Rattle.lane_core.specs.Rows.{Recorded, RowWords, new_row}
use Rattle.lane_core.specs.Showing.{line_of, loads}
use Rattle.lane_core.proofs.Callings.{idle_is, read_core, write_core}
use Rattle.lane_core.proofs.Cells.{cells_are}
use Rattle.lane_core.proofs.Cores.{ready, stepped_core}
use Rattle.lane_core.proofs.Fixed.{line_keeps}
use Rattle.lane_core.proofs.Fresh.{first, fresh, second}
use Rattle.lane_core.proofs.Holding.{entries_after}
use Rattle.lane_core.proofs.LaneLogs.{snoc_same}
use Rattle.lane_core.proofs.Past.{append_none, of_lane-other}
use Rattle.lane_core.proofs.Put.{never, put_at, put_other}
use Rattle.lane_core.proofs.Reopened.{IsHeldOf, reopens}
use Rattle.lane_core.proofs.Served.{all_idle, changed, which}
use Rattle.lane_core.proofs.Shapes.{shape_is}
use Rattle.lane_core.proofs.Showing.{lane_lt}
use Rattle.lane_core.proofs.Telling.{Goes, goes}

-- ---- what a core of an arena holds

width_long : (x : Shape) → length (zeros x) ≡ x.width
width_long x = let z : ℕ = 0 in length-replicate x.width z

module _ (state : ArenaState) (held : Held) (l : ℕ) (p : LaneNow) (h : IsHeldOf state held) (at : slice_get held.lanes l ≡ Some p) where
  held_stepped : IsHeldOf state (lane_stepped held l p)
  held_stepped =
      let past : Recorded = recorded held.entries h.room in
      let after : Recorded = past_after held.shape l held.row p past p.phase in
      record {
        opened = h.opened;
        shape = h.shape;
        room = after.room;
        s = line_of held.shape h.s l p p.phase;
        shows = subst (λ es. ShowsSound held.shape (row_after held.shape l held.row p p.phase) (slice_set held.lanes l (lane_after held.shape l held.row p p.phase)) (recorded es after.room) (first_cells state) (line_of held.shape h.s l p p.phase))
            (entries_after held.shape l held.row p past (recorded held.entries 0) refl p.phase)
            (stepped_core held.shape held.row held.lanes past (first_cells state) h.s l p h.shows at);
        fixed = line_keeps held.shape held.row l p h.room (ready held.shape held.row held.lanes past (first_cells state) h.s l p h.shows at) state.words h.fixed p.phase refl;
      }

  module _ (idle : is_idle p.phase ≡ true) where
    room_enough : length held.lanes ≤ length held.lanes
    room_enough = omega arith

    held_read : (tag : Tag) (sector : ℕ) → sector < held.shape.sectors → IsHeldOf state (with_lane held l (read_begun p tag sector (zeros held.shape) (zeros held.shape)))
    held_read tag sector lt = record {
      opened = h.opened;
      shape = h.shape;
      room = length held.lanes;
      s = begin_read (geometry held.shape) h.s l tag sector;
      shows = read_core held.shape held.row held.lanes (recorded held.entries h.room) (recorded held.entries (length held.lanes)) (first_cells state) h.s l p h.shows at (idle_is p.phase idle) refl room_enough tag sector (zeros held.shape) (zeros held.shape) lt (width_long held.shape) (width_long held.shape);
      fixed = h.fixed;
    }

    held_write : (tag : Tag) (sector : ℕ) (words : List ℕ) → sector < held.shape.sectors → length words ≡ held.shape.width → IsHeldOf state (with_lane held l (write_begun held.shape p tag sector words))
    held_write tag sector words lt long = record {
      opened = h.opened;
      shape = h.shape;
      room = length held.lanes;
      s = begin_write (geometry held.shape) h.s l;
      shows = write_core held.shape held.row held.lanes (recorded held.entries h.room) (recorded held.entries (length held.lanes)) (first_cells state) h.s l p h.shows at (idle_is p.phase idle) refl room_enough tag sector words lt long;
      fixed = h.fixed;
    }

held_opened : (state : ArenaState) → IsOpenState state → IsHeldOf state (opened_held state)
held_opened state h = record {
  opened = h;
  shape = refl;
  room = 0;
  s = opened (areas_in state) (sides_in state);
  shows = subst (λ o. ShowsSound (shape_in state) (new_row state.words state.info.layout.lanes) (map idle_of state.lanes) (recorded [] 0) o (opened (areas_in state) (sides_in state))) (cells_are state) (fresh state h (recorded [] 0) refl);
  fixed = λ i fx. (
    first (shape_in state) (shape_is state.info.layout h.sound.layout) state.words h.count (sides_in state) i fx.inside,
    second (shape_in state) (shape_is state.info.layout h.sound.layout) state.words h.count (sides_in state) i fx.inside,
  );
}

-- ---- a read that is answered has the words of its entry

last_same : (xs ys : List Entry) (a b : Entry) → xs ++ a ∷ [] ≡ ys ++ b ∷ [] → a ≡ b
last_same xs ys a b e = heads (append_cancel_left ys (a ∷ []) (b ∷ []) (subst (λ zs. zs ++ a ∷ [] ≡ ys ++ b ∷ []) (snoc_same xs ys a b e) e))
  where
    heads : a ∷ [] ≡ b ∷ [] → a ≡ b
    heads e = cc

read_same : {a b : Cell} → act.Read a ≡ act.Read b → a ≡ b
read_same e = cc

module _ (x : Shape) (row : RowWords) (lanes : List LaneNow) (past : Recorded) (o : Cells) (s : State) (h : ShowsSound x row lanes past o s) (l : ℕ) (p : LaneNow) (at : slice_get lanes l ≡ Some p) where
  lt : l < x.lanes
  lt = lane_lt x row lanes past.entries s l p h.shape h.shown at

  -- the words of the block that it reads
  abbrev words : ℕ → ℕ
  words = s.seen.data_at (looked (s.lanes l))

  abbrev entry : Entry
  entry = open_entry x.width words l (s.lanes l).tag (s.lanes l).sector

  module _ (k : ℕ) (e : p.phase ≡ Reading k) (all : nat_lt k x.width ≡ false) where
    phase_is : (s.lanes l).phase ≡ Reading k
    phase_is = ap (λ (a : Lane). a.phase) (h.shown.each l p at) ∙ e

    loaded : (k ≤ x.width) × ((s.lanes l).got ≡ listed k words)
    loaded = (h.sound.each l lt).tells.loaded k phase_is

    width_is : k ≡ x.width
    width_is = let a = loaded.0 in let b = not_below k x.width all in omega arith
      where
        not_below : (a b : ℕ) → nat_lt a b ≡ false → b ≤ a
        not_below a b q = grind arith

    got_is : (s.lanes l).got ≡ p.words
    got_is =
        let long : length p.words ≡ x.width = (h.filled l p at).words (ap uses_words e) in
        ap (λ (a : Lane). a.got) (h.shown.each l p at) ∙ ap (λ ph. take (loads ph) p.words) e ∙ take_all k p.words (omega (arith, long, width_is))

    all_loaded : listed x.width words ≡ p.words
    all_loaded = ap (λ n. listed n words) (sym width_is) ∙ sym loaded.1 ∙ got_is

    last_entry : of_lane l past.entries ≡ (s.lanes l).log ++ entry ∷ []
    last_entry = ap (of_lane l) (sym h.shown.history) ∙ (h.sound.each l lt).tells.entries ∙ ap (λ b. (s.lanes l).log ++ only_if b entry) (ap is_reading phase_is)

    whole : (own : List Entry) (asked : Asked) (c : Cell) → of_lane l past.entries ≡ own ++ entry_told (told asked p.tag (answer.Got c)) ∷ [] → c ≡ cell.Bytes p.words
    whole own asked c is =
        read_same (ap (λ (e : Entry). e.act) (last_same own (s.lanes l).log (entry_told (told asked p.tag (answer.Got c))) entry (sym is ∙ last_entry)))
        ∙ ap (λ ws. cell.Bytes ws) all_loaded

-- ---- one more thing is asked

record Plays (state : ArenaState) (now : Played) : Type 0 where
  held : IsHeldOf state now.held
  answered : AllByRecursion IsTold now.answers
  lanes : (l : ℕ) (p : LaneNow) → slice_get now.held.lanes l ≡ Some p → LaneStands l p now.held.entries now.answers (now.calls l)

-- another lane has its entries still
elsewhere : (i : ℕ) (r : LaneNow) (es es' : List Entry) (answers answers' : List Told) (asked : Asked) → of_lane i es' ≡ of_lane i es → of_lane i (map entry_told answers') ≡ of_lane i (map entry_told answers)
    → LaneStands i r es answers asked → LaneStands i r es' answers' asked
elsewhere i r es es' answers answers' asked e a h = record {
  in_call = h.in_call;
  rest = h.rest;
  entries_are = e ∙ h.entries_are ∙ ap (λ own. own ++ h.rest) (sym a);
  rest_is = h.rest_is;
}

module _ (state : ArenaState) (now : Played) (l : ℕ) (h : Plays state now) where
  -- a step of a lane that is there
  module _ (p : LaneNow) (at : slice_get now.held.lanes l ≡ Some p) where
    abbrev x : Shape
    x = now.held.shape

    abbrev q : LaneNow
    q = lane_after x l now.held.row p p.phase

    abbrev es : List Entry
    es = (past_after x l now.held.row p (recorded now.held.entries 0) p.phase).entries

    abbrev answers : List Told
    answers = told_after now.answers (now.calls l) (answer_after x l now.held.row p p.phase)

    went : Goes x l now.held.row p now.held.entries now.answers (now.calls l) (h.lanes l p at) h.answered q es answers
    went = goes x l now.held.row p now.held.entries now.answers (now.calls l) (h.lanes l p at) h.answered (h.held.shows.filled l p at)
        (λ k c e all is. whole x now.held.row now.held.lanes (recorded now.held.entries h.held.room) (first_cells state) h.held.s h.held.shows l p at k e all (of_lane l (map entry_told now.answers)) (now.calls l) c is)
        p.phase refl

    others_entries : (i : ℕ) → i ≢ l → of_lane i es ≡ of_lane i now.held.entries
    others_entries i ne = elim (changed x l now.held.row p (recorded now.held.entries 0) p.phase refl).grows [
      | inl e ↦ ap (of_lane i) e
      | inr k ↦ ap (of_lane i) k.1 ∙ of_lane-other i now.held.entries k.0 (λ e. ne (sym e ∙ k.2))
    ]

    stepped_lanes : (i : ℕ) (r : LaneNow) → slice_get (slice_set now.held.lanes l q) i ≡ Some r → LaneStands i r es answers (now.calls i)
    stepped_lanes i r is = elim (which now.held.lanes l p q at i r is) [
      | inl a ↦ subst (λ (i : ℕ). LaneStands i r es answers (now.calls i)) (sym a.0) (subst (λ (r : LaneNow). LaneStands l r es answers (now.calls l)) a.1 went.stands)
      | inr a ↦ elsewhere i r now.held.entries es now.answers answers (now.calls i) (others_entries i a.0) (went.others i a.0) (h.lanes i r a.1)
    ]

    stepped_plays : Plays state (record { held = lane_stepped now.held l p; calls = now.calls; answers = answers })
    stepped_plays = record { held = held_stepped state now.held l p h.held at; answered = went.answered; lanes = stepped_lanes }

  step_plays : (o : Option LaneNow) → slice_get now.held.lanes l ≡ o → Plays state (record { held = if_there now.held (lane_stepped now.held l) o; calls = now.calls; answers = told_after now.answers (now.calls l) (answer_by now.held l o) })
  step_plays None at = h
  step_plays (Some p) at = stepped_plays p at

  -- a call begins
  module _ (asked : Asked) (f : LaneNow → LaneNow) where
    -- the lane is in the call, of which nothing stands
    abbrev IsBegun : Type 0
    IsBegun = (p : LaneNow) → IsInCall l (f p) (f p).phase asked × ((rest : List Entry) → rest ≡ [] → IsOpenIn asked (f p).tag (f p).phase rest)

    begun_lanes : IsBegun → (p : LaneNow) → slice_get now.held.lanes l ≡ Some p → is_idle p.phase ≡ true → (i : ℕ) (r : LaneNow) → slice_get (slice_set now.held.lanes l (f p)) i ≡ Some r
        → LaneStands i r now.held.entries now.answers (put now.calls l asked i)
    begun_lanes begun p at idle i r is = elim (which now.held.lanes l p (f p) at i r is) [
      | inl a ↦ subst (λ (i : ℕ). LaneStands i r now.held.entries now.answers (put now.calls l asked i)) (sym a.0)
          (subst (λ (r : LaneNow). LaneStands l r now.held.entries now.answers (put now.calls l asked l)) a.1
          (subst (λ (c : Asked). LaneStands l (f p) now.held.entries now.answers c) (sym (put_at now.calls l asked)) mine))
      | inr a ↦ subst (λ (c : Asked). LaneStands i r now.held.entries now.answers c) (sym (put_other now.calls l asked i a.0)) (h.lanes i r a.1)
    ]
      where
        was : LaneStands l p now.held.entries now.answers (now.calls l)
        was = h.lanes l p at

        none : was.rest ≡ []
        none = subst (λ ph. IsOpenIn (now.calls l) p.tag ph was.rest) (idle_is p.phase idle) was.rest_is

        mine : LaneStands l (f p) now.held.entries now.answers asked
        mine = record { in_call = λ b. (begun p).0; rest = was.rest; entries_are = was.entries_are; rest_is = (begun p).1 was.rest none }

    begin_plays : IsBegun → ((p : LaneNow) → slice_get now.held.lanes l ≡ Some p → is_idle p.phase ≡ true → IsHeldOf state (with_lane now.held l (f p))) → (o : Option LaneNow) → slice_get now.held.lanes l ≡ o
        → Plays state (record { held = if_there now.held (lane_begun now.held l f) o; calls = calls_after now.calls l asked (can_begin o); answers = now.answers })
    begin_plays begun held None at = h
    begin_plays begun held (Some p) at = by (is_idle p.phase) refl
      where
        by : (b : Bool) → is_idle p.phase ≡ b → Plays state (record { held = if b then with_lane now.held l (f p) else now.held; calls = if b then put now.calls l asked else now.calls; answers = now.answers })
        by true idle = record { held = held p at idle; answered = h.answered; lanes = begun_lanes begun p at idle }
        by false busy = h

first_called : (l : ℕ) (tag : Tag) (sector : ℕ) (words : List ℕ) (b : Bool) (q : LaneNow) → q.next ≡ tag → q.next_sector ≡ sector → q.words ≡ words → IsInCall l q (if b then Staging 0 else Scanning 0) (Write l tag sector words)
first_called l tag sector words true q t s w = (refl, t, s, refl, λ u. w)
first_called l tag sector words false q t s w = (refl, t, s, refl, λ u. w)

first_open : (asked : Asked) (tag : Tag) (rest : List Entry) (b : Bool) → rest ≡ [] → IsOpenIn asked tag (if b then Staging 0 else Scanning 0) rest
first_open asked tag rest true e = e
first_open asked tag rest false e = e

one_plays : (state : ArenaState) (now : Played) → Plays state now → (asked : Asked) → FitsShape (shape_in state) asked → Plays state (played_one now asked)
one_plays state now h (Read l tag sector) fits =
    let lt : sector < now.held.shape.sectors = subst (λ (x : Shape). sector < x.sectors) (sym h.held.shape) fits in
    begin_plays state now l h (Read l tag sector) (λ p. read_begun p tag sector (zeros now.held.shape) (zeros now.held.shape)) (λ p. ((refl, refl, refl, refl), λ rest e. e))
    (λ p at idle. held_read state now.held l p h.held at idle tag sector lt) (slice_get now.held.lanes l) refl
one_plays state now h (Write l tag sector words) fits =
    let lt : sector < now.held.shape.sectors = subst (λ (x : Shape). sector < x.sectors) (sym h.held.shape) fits.0 in
    let long : length words ≡ now.held.shape.width = subst (λ (x : Shape). length words ≡ x.width) (sym h.held.shape) fits.1 in
    begin_plays state now l h (Write l tag sector words) (λ p. write_begun now.held.shape p tag sector words)
    (λ p. (first_called l tag sector words (now.held.shape.lanes == 1) (write_begun now.held.shape p tag sector words) refl refl refl, λ rest e. first_open (Write l tag sector words) p.tag rest (now.held.shape.lanes == 1) e))
    (λ p at idle. held_write state now.held l p h.held at idle tag sector words lt long) (slice_get now.held.lanes l) refl
one_plays state now h (Step l) fits = step_plays state now l h (slice_get now.held.lanes l) refl

all_play : (state : ArenaState) (now : Played) (asked : List Asked) → Plays state now → AllByRecursion (FitsShape (shape_in state)) asked → Plays state (played now asked)
unfolding played
all_play state now [] h fits = h
all_play state now (a ∷ more) h fits = all_play state (played_one now a) more (one_plays state now h a fits.0) fits.1

-- ---- from an opened arena

abbrev first_played : ArenaState → Played
first_played state = record { held = opened_held state; calls = λ l. Step l; answers = [] }

first_plays : (state : ArenaState) → IsOpenState state → Plays state (first_played state)
first_plays state h = record {
  held = held_opened state h;
  answered = tt;
  lanes = λ l p at. record {
    in_call = λ b. never (sym b ∙ all_idle state.lanes l p at);
    rest = [];
    entries_are = sym (append_none (of_lane l []));
    rest_is = subst (λ ph. IsOpenIn (Step l) p.tag ph []) (sym (idle_is p.phase (all_idle state.lanes l p at))) refl;
  };
}

pub schedules_stand : SchedulesStand
schedules_stand state asked open_state fits =
    let k : Plays state (scheduled state asked) = all_play state (first_played state) asked (first_plays state open_state) fits in
    let shown = k.held.shows.shown in
    record {
      legal = subst (λ es. IsLegal (first_cells state) es) shown.history k.held.shows.sound.legal;
      answered = k.answered;
      lanes = k.lanes;
      no_other = λ l le. ap (of_lane l) (sym shown.history) ∙ k.held.shows.sound.known_lanes l (subst (λ n. n ≤ l) shown.count le);
      survives = λ left hl. reopens state (scheduled state asked).held left k.held hl;
    }
