-- What opening finds in a core's words after a power cut.
use Rattle.std.proofs.Common.{◌≡◌, ℕ, zero, suc, ◌*◌, ◌/◌, ◌<◌, ◌≤◌, ◌⊎◌, inl, inr, Bool, true, false, cond, List, ◌++◌, length, get_or, take, Option, Some, None, Result, Ok, Err, refl, sym, ap, ◌∙◌, subst, arith, take_all}
use Rattle.std.specs.Prelude.{IfOk, unwrap_or}
use Rattle.arena_layout.specs.declared.info.Info.{Info}
use Rattle.arena_layout.specs.declared.layout.Layout.{Layout}
use Rattle.arena_layout.specs.Info.{info_of, StandsFor}
use Rattle.arena_layout.specs.Layout.{IsLayout}
use Rattle.arena_layout.proofs.Stands.{reading_stands}
use Rattle.arena_open.specs.declared.cell.Cell.{Cell}
use Rattle.arena_open.specs.declared.cell.Cell.TheVariants as cell
use Rattle.arena_open.specs.declared.opened.Opened.{Opened}
use Rattle.arena_open.specs.declared.state.ArenaState.{ArenaState}
use Rattle.arena_open.specs.Reading.{cell_at, info_bytes, opening}
use Rattle.arena_open.specs.Moves.{IsOpenState, state_of}
use Rattle.arena_open.proofs.Opening.{Parts, parts}
use Rattle.arena_open.proofs.InPlace.{cell_same}
use Rattle.lane_core.specs.declared.arena_words.ArenaWords.{ArenaWords}
use Rattle.lane_core.specs.declared.machine.Core.{Core}
use Rattle.lane_core.specs.declared.lane.Lane.{Lane}
use Rattle.lane_core.specs.declared.shape.Shape.{Shape}
use Rattle.lane_core.specs.Arenas.{areas_of, cells_in}
use Rattle.lane_core.specs.History.{Cells, cell_in, end_of}
use Rattle.lane_core.specs.Machines.{IsCore, IsFresh, IsSomeCore}
use Rattle.lane_core.specs.Places.{geometry, shape_of}
use Rattle.lane_core.specs.Reopening.{IsCoreOf, IsEither, IsFoundAgain, MaySurvive, Reopens, first_cells}
use Rattle.cut_words.specs.Words.{IsLeft}
use Rattle.cut_words.specs.Leaving.{LeavesFrom}
use Rattle.cut_words.proofs.ByWord.{is_left}
use Rattle.cut_words.specs.WordBytes.{bytes_of}
use Rattle.arena_open.specs.Moves.{groups_of_lanes}
use Rattle.arena_open.proofs.Apart.{ordered}
use Rattle.lane_core.specs.declared.phase.Phase.{Phase}
use Rattle.lane_core.specs.declared.phase.Phase.TheVariants.{LogBStored, Logged}
use Rattle.lane_core.specs.After.{uses_words}
use Rattle.lane_core.specs.Areas.{Areas}
use Rattle.lane_core.specs.Arenas.{shape_in, sides_in}
use Rattle.lane_core.specs.Cores.{ShowsSound}
use Rattle.lane_core.specs.Cut.{AreLeft, IsCurrent, IsRecoverable, Survives, is_open, recovered_entry}
use Rattle.lane_core.specs.Fixed.{RowHasFixed, SameFixed}
use Rattle.lane_core.specs.Held.{Held, held_by, recorded}
use Rattle.lane_core.specs.Invariant.{stored}
use Rattle.lane_core.specs.Machine.{State}
use Rattle.lane_core.specs.Rows.{IsMarked, RowWords, words_in}
use Rattle.lane_core.specs.Sessions.{IsServed, ServesSessions}
use Rattle.lane_core.specs.Showing.{lane_of}
use Rattle.lane_core.proofs.Again.{found_arena, found_cell_is, left_opens}
use Rattle.lane_core.proofs.Callings.{some_lane}
use Rattle.lane_core.proofs.Cells.{cells_are}
use Rattle.lane_core.proofs.Cutting.{some_side}
use Rattle.lane_core.proofs.Fresh.{first, fresh_core, second}
use Rattle.lane_core.proofs.Marked.{new_marked}
use Rattle.lane_core.proofs.Leaves.{kept_at, kept_length, stored_at, stored_length}
use Rattle.lane_core.proofs.Put.{never, put_elim}
use Rattle.lane_core.proofs.Recovering.{recovers}
use Rattle.lane_core.proofs.Served.{served_idle}
use Rattle.lane_core.proofs.Shapes.{shape_is}
use Rattle.lane_core.proofs.Survivals.{are_left, left_word, row_enough}
use Rattle.lane_core.specs.Areas.{put}
use Rattle.std.proofs.lemmas.Bool.{cases_lt}
use Rattle.std.proofs.lemmas.List.{get_or_past, get_or-take, take-append-le}

-- ---- a core that was just made

pub fresh_arena : {E : Type 0} (state : ArenaState) (r : Result Core E) → IsOpenState state → IfOk r (IsFresh state) → IfOk r (IsCoreOf state)
fresh_arena state (Err e) h f = tt
fresh_arena state (Ok core) h f = record {
  opened = h;
  info = f.info;
  shape = f.shape;
  shows = subst (λ first. IsCore first core) (cells_are state) (fresh_core state core h f);
  fixed = subst (λ x. RowHasFixed x state.words core.row.words) (sym f.shape)
      (subst (λ (row : RowWords). RowHasFixed (shape_in state) state.words row.words) (sym f.row) (λ i fx. (
        first (shape_in state) (shape_is state.info.layout h.sound.layout) state.words h.count (sides_in state) i fx.inside,
        second (shape_in state) (shape_is state.info.layout h.sound.layout) state.words h.count (sides_in state) i fx.inside,
      )));
  marked = subst IsMarked (sym f.row) (new_marked (shape_in state) (shape_is state.info.layout h.sound.layout) state.words h.count (sides_in state));
}

-- ---- what a core of an arena holds

pub record IsHeldOf (state : ArenaState) (held : Held) : Type 0 where
  pub opened : IsOpenState state
  pub shape : held.shape ≡ shape_in state
  pub room : ℕ
  pub s : State
  pub shows : ShowsSound held.shape held.row held.lanes (recorded held.entries room) (first_cells state) s
  pub fixed : RowHasFixed held.shape state.words held.row.words

held_of : (state : ArenaState) (core : Core) → IsCoreOf state core → IsHeldOf state (held_by core)
held_of state core h = record { opened = h.opened; shape = h.shape; room = core.history.room; s = h.shows.0; shows = h.shows.1; fixed = h.fixed }

-- ---- a write in flight is a lane of the core

module _ (o : Cells) (held : Held) (room : ℕ) (s : State) (h : ShowsSound held.shape held.row held.lanes (recorded held.entries room) o s) where
  open_words : (ph : Phase) → is_open ph ≡ true → (uses_words ph ≡ true) × (stored held.shape.width ph ≡ held.shape.width)
  open_words LogBStored e = (refl, refl)
  open_words Logged e = (refl, refl)
  open_words _ e = never e

  may_survive : (t : ℕ) (c : Cell) → Survives (geometry held.shape) o s t c → MaySurvive o held t c
  may_survive t c (inl e) = inl (e ∙ ap (λ es. end_of o es t) h.shown.history)
  may_survive t c (inr w) =
      let p = some_lane held.lanes w.0 (subst (λ n. w.0 < n) (sym h.shown.count) w.1) in
      let same : s.lanes w.0 ≡ lane_of held.shape.width p.0 (s.lanes w.0).log = h.shown.each w.0 p.0 p.1 in
      let unfinished : is_open p.0.phase ≡ true = ap (λ (a : Lane). is_open a.phase) (sym same) ∙ w.2 in
      let long : length p.0.words ≡ held.shape.width = (h.filled w.0 p.0 p.1).words (open_words p.0.phase unfinished).0 in
      let every : take (stored held.shape.width p.0.phase) p.0.words ≡ p.0.words = ap (λ n. take n p.0.words) (open_words p.0.phase unfinished).1 ∙ take_all held.shape.width p.0.words (omega (arith, long)) in
      inr (record {
        lane = w.0;
        call = p.0;
        there = p.1;
        unfinished = unfinished;
        on = ap (λ (a : Lane). a.sector) (sym same) ∙ w.3;
        words = w.4 ∙ ap (λ (a : Lane). cell.Bytes a.words) same ∙ ap (λ (ws : List ℕ). cell.Bytes ws) every;
      })

-- the current sides of all lanes
sides_of : (areas : Areas) (n : ℕ) → ((l : ℕ) → l < n → (side : ℕ) × IsCurrent areas l side) → (sides : ℕ → ℕ) × ((l : ℕ) → l < n → IsCurrent areas l (sides l))
sides_of areas zero each = (λ l. 0, λ l lt. absurd (omega arith))
sides_of areas (suc n) each =
    let before = sides_of areas n (λ l lt. each l (omega arith)) in
    let here = each n (omega arith) in (
      put before.0 n here.0,
      λ l lt. put_elim (λ l side. l < suc n → IsCurrent areas l side) before.0 n here.0 (λ lt. here.1) (λ l ne lt. before.1 l (omega arith)) l lt,
    )

-- ---- after a power cut

module _ (state : ArenaState) (held : Held) (left : List ℕ) (h : IsHeldOf state held) (hl : IsLeft (words_in held.row) left) where
  l : Layout
  l = state.info.layout

  ok : IsLayout state.info.layout
  ok = h.opened.sound.layout

  k : ShowsSound held.shape held.row held.lanes (recorded held.entries h.room) (first_cells state) h.s
  k = h.shows

  enough : 2 * length held.row.pending ≤ length held.row.words
  enough = let a = k.shown.row_is.size in let b = k.shown.row_is.arena in omega arith

  left_size : length left ≡ state.info.layout.size / 8
  left_size = hl.same_length ∙ kept_length held.row enough ∙ k.shown.row_is.arena ∙ ap (λ (x : Shape). x.total) h.shape

  fixed_core : SameFixed held.shape state.words left
  fixed_core i f = elim (left_word held.shape held.row held.lanes held.entries h.s left k.shape k.shown hl i f.inside) [
    | inl e ↦ e ∙ (h.fixed i f).1
    | inr e ↦ e ∙ (h.fixed i f).0
  ]

  fixed_left : SameFixed (shape_of state.info.layout) state.words left
  fixed_left = subst (λ x. SameFixed x state.words left) h.shape fixed_core

  were_left : AreLeft (geometry held.shape) h.s.seen h.s.kept (areas_of held.shape left)
  were_left = are_left held.shape held.row held.lanes held.entries h.s left k.shape k.shown hl

  sides : (f : ℕ → ℕ) × ((i : ℕ) → i < held.shape.lanes → IsCurrent (areas_of held.shape left) i (f i))
  sides = sides_of (areas_of held.shape left) held.shape.lanes (λ i li. let side = some_side (geometry held.shape) (first_cells state) h.s k.sound (areas_of held.shape left) were_left i li in (side.0, side.1))

  r : IsRecoverable (geometry held.shape) (first_cells state) h.s (areas_of held.shape left) sides.0
  r = recovers (geometry held.shape) (first_cells state) h.s k.sound (areas_of held.shape left) were_left sides.0 sides.1

  module _ (behind parent : List ℕ) (arena : Opened) (opens : opening (state.words ++ behind) parent ≡ Ok arena) where
    p : Parts (state.words ++ behind) parent arena
    p = parts (state.words ++ behind) parent arena opens

    long : 512 ≤ length state.words
    long = omega (arith, h.opened.count, ordered state.info.layout ok)

    info_is : arena.info ≡ state.info
    info_is =
        let stands : StandsFor (info_bytes (state.words ++ behind)) parent (8 * length (state.words ++ behind)) arena.info =
        (reading_stands (info_bytes (state.words ++ behind)) parent (8 * length (state.words ++ behind)) (Ok arena.info) (sym p.info_is) arena.info).0 refl in
        sym stands.fields ∙ ap (λ (ws : List ℕ). info_of (bytes_of ws)) (take-append-le 512 state.words behind long) ∙ h.opened.said

    current : (i : ℕ) → i < state.info.layout.lanes → IsCurrent (areas_of (shape_of state.info.layout) left) i (sides.0 i)
    current = subst (λ (x : Shape). (i : ℕ) → i < x.lanes → IsCurrent (areas_of x left) i (sides.0 i)) h.shape sides.1

    r' : IsRecoverable (geometry (shape_of state.info.layout)) (first_cells state) h.s (areas_of (shape_of state.info.layout) left) sides.0
    r' = subst (λ (x : Shape). IsRecoverable (geometry x) (first_cells state) h.s (areas_of x left) sides.0) h.shape r

    abbrev found : Opened
    found = found_arena state.info.layout ok state.words left behind h.opened.count left_size fixed_left (groups_of_lanes state.lanes) h.opened.groups sides.0 current r'.sized r'.sound state.info

    found_opens : opening (left ++ behind) parent ≡ Ok found
    found_opens = left_opens state.info.layout ok state.words left behind h.opened.count left_size fixed_left (groups_of_lanes state.lanes) h.opened.groups sides.0 current r'.sized r'.sound parent state.info refl
        (p.info_is ∙ ap (λ (i : Info). Ok i) info_is)

    contents : (t : ℕ) → t < held.shape.sectors → MaySurvive (first_cells state) held t (cell_at state.info.layout (state_of (left ++ behind) found).words t)
    contents t lt =
        let below : t < state.info.layout.external = subst (λ (x : Shape). t < x.sectors) h.shape lt in
        subst (λ (c : Cell). MaySurvive (first_cells state) held t c)
        (sym (cell_same (left ++ behind) parent found found_opens t below ∙ found_cell_is state.info.layout ok state.words left behind h.opened.count left_size fixed_left (groups_of_lanes state.lanes) h.opened.groups sides.0 current r'.sized r'.sound t below))
        (may_survive (first_cells state) held h.room h.s k t _ (subst (λ (c : Cell). Survives (geometry held.shape) (first_cells state) h.s t c)
        (ap (λ (x : Shape). cell_in x.width (areas_of x left).data_at (recovered_entry (areas_of x left) sides.0 x.lanes t) t) h.shape) (r.contents t lt)))

    found_again : IsFoundAgain state (MaySurvive (first_cells state) held) (left ++ behind) parent
    found_again = record { arena = found; opens = found_opens; info = refl; contents = λ t lt. contents t (subst (λ (x : Shape). t < x.sectors) (sym h.shape) lt) }

  pub reopens : Reopens state (MaySurvive (first_cells state) held) left
  reopens = record { size = left_size ∙ sym h.opened.count; fixed = fixed_left; opens = λ behind parent arena opens. found_again behind parent arena opens }

pub reopens_from : {C : Type 0} (picks : C → ℕ → Bool → C → Type 0) (state : ArenaState) (core : Core) (left : List ℕ) (first last : C) → IsCoreOf state core
    → LeavesFrom picks 0 (words_in core.row).kept (words_in core.row).stored left first last → Reopens state (MaySurvive (first_cells state) (held_by core)) left
reopens_from picks state core left first last h asked =
    let enough = row_enough core (first_cells state, h.shows) in
    reopens state (held_by core) left (held_of state core h) (is_left picks (words_in core.row) left first last (stored_length core.row enough ∙ sym (kept_length core.row enough)) asked)

-- ---- whichever of its two values each word has

module _ (row : RowWords) (size : 2 * length row.pending ≤ length row.words) (marked : IsMarked row) (left : List ℕ) (is : IsEither (words_in row).kept (take (length row.pending) row.words) left) where
  -- word i is the kept one, or the one that a load returns
  abbrev TwoAt : ℕ → Option ℕ → Type 0
  TwoAt i o = (get_or left i 0 ≡ get_or (words_in row).kept i 0) ⊎ (get_or left i 0 ≡ unwrap_or o (get_or (words_in row).kept i 0))

  by_flag : (i : ℕ) → i < length row.pending → (b : Bool) → get_or row.pending i false ≡ b → get_or left i 0 ≡ get_or row.words i 0 → TwoAt i (cond b (Some (get_or row.words i 0)) None)
  by_flag i lt true on e = inr e
  by_flag i lt false off e = inl (e ∙ marked i lt off ∙ sym (kept_at row size i lt))

  two_inside : (i : ℕ) → i < length row.pending → TwoAt i (get_or (words_in row).stored i None)
  two_inside i lt = elim (is.each i) [
    | inl e ↦ inl e
    | inr e ↦ subst (TwoAt i) (sym (stored_at row size i lt)) (by_flag i lt (get_or row.pending i false) refl (e ∙ get_or-take (length row.pending) row.words i 0 lt))
  ]

  past_both : (i : ℕ) → length row.pending ≤ i → get_or left i 0 ≡ get_or (words_in row).kept i 0
  past_both i le = get_or_past left i 0 (omega (arith, le, is.same_length, kept_length row size)) ∙ sym (get_or_past (words_in row).kept i 0 (omega (arith, le, kept_length row size)))

  two_left : IsLeft (words_in row) left
  two_left = record {
    same_length = is.same_length;
    each = λ i. elim (cases_lt i (length row.pending)) [
      | inl lt ↦ two_inside i lt
      | inr le ↦ inl (past_both i le)
    ];
  }

pub reopens_ended : {E : Type 0} (core : Core) (r : Result ArenaWords E) → IfOk r (λ w. w.seen.items ≡ take (length core.row.pending) core.row.words) → IfOk r (λ w. w.kept.items ≡ (words_in core.row).kept)
    → IfOk r (λ w. (state : ArenaState) (left : List ℕ) → IsCoreOf state core → IsEither w.kept.items w.seen.items left → Reopens state (MaySurvive (first_cells state) (held_by core)) left)
reopens_ended core (Err e) seen kept = tt
reopens_ended core (Ok w) seen kept = λ state left h is.
    let either : IsEither (words_in core.row).kept (take (length core.row.pending) core.row.words) left =
    subst (λ (ks : List ℕ). IsEither ks (take (length core.row.pending) core.row.words) left) kept (subst (λ (ss : List ℕ). IsEither w.kept.items ss left) seen is) in
    reopens state (held_by core) left (held_of state core h) (two_left core.row (row_enough core (first_cells state, h.shows)) h.marked left either)

pub fresh_sound : {E : Type 0} (state : ArenaState) (r : Result Core E) → IsOpenState state → IfOk r (IsFresh state) → IfOk r IsSomeCore
fresh_sound state (Err e) h f = tt
fresh_sound state (Ok core) h f = (cells_in state, fresh_core state core h f)

pub fresh_serves : {E : Type 0} (state : ArenaState) (r : Result Core E) → IfOk r (IsFresh state) → IfOk r ServesSessions
fresh_serves state (Err e) f = tt
fresh_serves state (Ok core) f = subst (λ lanes. IsServed lanes core.history.entries) (sym f.lanes) (served_idle state.lanes core.history.entries)
