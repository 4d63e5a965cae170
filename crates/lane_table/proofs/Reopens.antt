-- After a power loss the words of a closed arena open as the same arena.
use Rattle.std.proofs.Common.{◌≡◌, ℕ, zero, suc, ◌+◌, ◌*◌, ◌/◌, ◌<◌, ◌≤◌, ◌⊎◌, inl, inr, List, [], ◌∷◌, ◌++◌, length, drop, get_or, Ok, refl, sym, ap, ◌∙◌, subst, arith, get_or-take, get_or-drop, length-drop, length-take-le}
use Rattle.std.proofs.lemmas.List.{take-append-le}
use mathlib.Core.Option.{some}
use lib.ListN.{get_elem?}
use Rattle.cut_words.specs.WordBytes.{bytes_of}
use Rattle.arena_layout.specs.declared.info.Info.{Info}
use Rattle.arena_layout.specs.declared.layout.Layout.{Layout}
use Rattle.arena_layout.specs.Info.{info_of, StandsFor}
use Rattle.arena_layout.specs.Layout.{IsLayout}
use Rattle.arena_layout.proofs.Stands.{reading_stands}
use Rattle.arena_open.specs.declared.cell.Cell.{Cell}
use Rattle.arena_open.specs.declared.cell.Cell.TheVariants as cell
use Rattle.arena_open.specs.declared.opened.Opened.{Opened}
use Rattle.arena_open.specs.declared.state.ArenaState.{ArenaState}
use Rattle.arena_open.specs.Moves.{groups_of_lanes, state_of, IsOpenState}
use Rattle.arena_open.specs.Reading.{cell_at, info_bytes, opening}
use Rattle.arena_open.proofs.Apart.{ordered}
use Rattle.arena_open.proofs.InPlace.{cell_same}
use Rattle.arena_open.proofs.Opening.{Parts, parts}
use Rattle.lane_core.specs.declared.lane.Lane.{Lane}
use Rattle.lane_core.specs.declared.shape.Shape.{Shape}
use Rattle.lane_core.specs.Areas.{Areas, put}
use Rattle.lane_core.specs.Arenas.{areas_of}
use Rattle.lane_core.specs.Cut.{AreLeft, IsCurrent, IsRecoverable, Survives, is_open, recovered_entry}
use Rattle.lane_core.specs.Fixed.{SameFixed}
use Rattle.lane_core.specs.History.{Cells, cell_in, end_of}
use Rattle.lane_core.specs.Places.{IsShape, SeenData, KeptData, SeenMap, KeptMap, SeenA, KeptA, SeenB, KeptB, word_of, geometry, shape_of}
use Rattle.lane_core.specs.Reopening.{IsEither, IsFoundAgain, Reopens, first_cells}
use Rattle.lane_core.proofs.Again.{found_arena, found_cell_is, left_opens}
use Rattle.lane_core.proofs.Places.{seen_data_low, seen_map_low, seen_a_low, seen_b_low}
use Rattle.lane_core.proofs.Put.{put_elim}
use Rattle.lane_core.proofs.Shapes.{shape_is}
use Rattle.lane_table.specs.declared.closing.Closed.{Closed}
use Rattle.lane_table.specs.declared.lanes.LaneEnd.{LaneEnd}
use Rattle.lane_table.specs.declared.table.Key.{Key}
use Rattle.lane_table.specs.Closed.{AreInOrder, IsClosed}
use Rattle.lane_table.specs.Kits.{kit_in}
use Rattle.lane_table.specs.Law.{opening_of, words_of}
use Rattle.lane_table.specs.Reopened.{ClosedWordsReopen, MaySurvive}

-- an element below the length
some_at : {A : Type 0} (xs : List A) (i : ℕ) → i < length xs → (x : A) × (get_elem? xs i ≡ some x)
some_at [] i lt = absurd (omega arith)
some_at (x ∷ xs) zero lt = (x, refl)
some_at (x ∷ xs) (suc i) lt = some_at xs i (omega arith)

-- the current sides of all lanes
sides_of : (areas : Areas) (n : ℕ) → ((l : ℕ) → l < n → (side : ℕ) × IsCurrent areas l side) → (sides : ℕ → ℕ) × ((l : ℕ) → l < n → IsCurrent areas l (sides l))
sides_of areas zero each = (λ l. 0, λ l lt. absurd (omega arith))
sides_of areas (suc n) each =
    let before = sides_of areas n (λ l lt. each l (omega arith)) in
    let here = each n (omega arith) in (
      put before.0 n here.0,
      λ l lt. put_elim (λ l side. l < suc n → IsCurrent areas l side) before.0 n here.0 (λ lt. here.1) (λ l ne lt. before.1 l (omega arith)) l lt,
    )

module _ (state : ArenaState) (k : Key) (ends : List LaneEnd) (c : Closed) (left : List ℕ) (h : IsOpenState state) (shape : k.shape ≡ shape_of state.info.layout) (words : words_of k ≡ state.words)
    (begins : opening_of k ≡ first_cells state) (order : AreInOrder k.shape.lanes ends) (closed : IsClosed k ends c) (hl : IsEither c.kept.items c.seen.items left) where
  abbrev x : Shape
  x = k.shape

  abbrev l : Layout
  l = state.info.layout

  ok : IsLayout l
  ok = h.sound.layout

  is_shape : IsShape x
  is_shape = subst IsShape (sym shape) (shape_is l ok)

  kept_length : length c.kept.items ≡ x.total
  kept_length = ap length closed.kept ∙ length-take-le x.total (drop x.total closed.row) (omega (arith, length-drop x.total closed.row, closed.size))

  left_size : length left ≡ l.size / 8
  left_size = hl.same_length ∙ kept_length ∙ ap (λ (x : Shape). x.total) shape

  fixed_here : SameFixed x state.words left
  fixed_here i f = elim (hl.each i) [
    | inl e ↦ e ∙ closed.kept_fixed i f ∙ ap (λ ws. get_or ws i 0) words
    | inr e ↦ e ∙ closed.seen_fixed i f ∙ ap (λ ws. get_or ws i 0) words
  ]

  fixed_left : SameFixed (shape_of l) state.words left
  fixed_left = subst (λ x. SameFixed x state.words left) shape fixed_here

  -- a word of the arena is the kept one or the seen one
  place_left : (i v w : ℕ) → i < x.total → get_or closed.row (x.total + i) 0 ≡ v → get_or closed.row i 0 ≡ w → (get_or left i 0 ≡ v) ⊎ (get_or left i 0 ≡ w)
  place_left i v w lt ev ew = elim (hl.each i) [
    | inl e ↦ inl (e ∙ ap (λ r. get_or r i 0) closed.kept ∙ get_or-take x.total (drop x.total closed.row) i 0 lt ∙ get_or-drop x.total closed.row i 0 ∙ ev)
    | inr e ↦ inr (e ∙ ap (λ r. get_or r i 0) closed.seen ∙ get_or-take x.total closed.row i 0 lt ∙ ew)
  ]

  were_left : AreLeft (geometry x) closed.state.seen closed.state.kept (areas_of x left)
  were_left =
      let s = closed.state in
      record {
        data_left = λ b j lb lj. place_left (word_of x (SeenData b j)) (s.kept.data_at b j) (s.seen.data_at b j) (seen_data_low x is_shape b j (lb, lj)) (closed.shown (KeptData b j) (lb, lj)) (closed.shown (SeenData b j) (lb, lj));
        map_left = λ m lm. place_left (word_of x (SeenMap m)) (s.kept.map_at m) (s.seen.map_at m) (seen_map_low x is_shape m lm) (closed.shown (KeptMap m) lm) (closed.shown (SeenMap m) lm);
        a_left = λ i side li ls. place_left (word_of x (SeenA i side)) (s.kept.log_a i side) (s.seen.log_a i side) (seen_a_low x is_shape i side (li, ls)) (closed.shown (KeptA i side) (li, ls)) (closed.shown (SeenA i side) (li, ls));
        b_left = λ i side li ls. place_left (word_of x (SeenB i side)) (s.kept.log_b i side) (s.seen.log_b i side) (seen_b_low x is_shape i side (li, ls)) (closed.shown (KeptB i side) (li, ls)) (closed.shown (SeenB i side) (li, ls));
      }

  sides : (f : ℕ → ℕ) × ((i : ℕ) → i < x.lanes → IsCurrent (areas_of x left) i (f i))
  sides = sides_of (areas_of x left) x.lanes (closed.survives (areas_of x left) were_left).0

  r : IsRecoverable (geometry x) (opening_of k) closed.state (areas_of x left) sides.0
  r = (closed.survives (areas_of x left) were_left).1 sides.0 sides.1

  -- a write in flight is that of a lane that stopped
  may_survive : (t : ℕ) (found : Cell) → t < x.sectors → Survives (geometry x) (opening_of k) closed.state t found → MaySurvive state ends closed.history t found
  may_survive t found lt (inl e) = inl (e ∙ sym (closed.same_end t lt) ∙ ap (λ (o : Cells). end_of o closed.history t) begins)
  may_survive t found lt (inr w) =
      let e = some_at ends w.0 (subst (λ n. w.0 < n) (sym order.count) w.1) in
      let same : closed.state.lanes w.0 ≡ (kit_in e.0).seat.me.0.lane = closed.lanes w.0 e.0 e.1 in
      inr (record {
        lane = w.0;
        stopped = e.0;
        there = e.1;
        unfinished = ap (λ (a : Lane). is_open a.phase) (sym same) ∙ w.2;
        on = ap (λ (a : Lane). a.sector) (sym same) ∙ w.3;
        words = w.4 ∙ ap (λ (a : Lane). cell.Bytes a.words) same;
      })

  module _ (behind parent : List ℕ) (before : Opened) (opens : opening (state.words ++ behind) parent ≡ Ok before) where
    p : Parts (state.words ++ behind) parent before
    p = parts (state.words ++ behind) parent before opens

    long : 512 ≤ length state.words
    long = omega (arith, h.count, ordered l ok)

    info_is : before.info ≡ state.info
    info_is =
        let stands : StandsFor (info_bytes (state.words ++ behind)) parent (8 * length (state.words ++ behind)) before.info =
        (reading_stands (info_bytes (state.words ++ behind)) parent (8 * length (state.words ++ behind)) (Ok before.info) (sym p.info_is) before.info).0 refl in
        sym stands.fields ∙ ap (λ (ws : List ℕ). info_of (bytes_of ws)) (take-append-le 512 state.words behind long) ∙ h.said

    current : (i : ℕ) → i < l.lanes → IsCurrent (areas_of (shape_of l) left) i (sides.0 i)
    current = subst (λ (x : Shape). (i : ℕ) → i < x.lanes → IsCurrent (areas_of x left) i (sides.0 i)) shape sides.1

    r' : IsRecoverable (geometry (shape_of l)) (opening_of k) closed.state (areas_of (shape_of l) left) sides.0
    r' = subst (λ (x : Shape). IsRecoverable (geometry x) (opening_of k) closed.state (areas_of x left) sides.0) shape r

    abbrev found : Opened
    found = found_arena l ok state.words left behind h.count left_size fixed_left (groups_of_lanes state.lanes) h.groups sides.0 current r'.sized r'.sound state.info

    found_opens : opening (left ++ behind) parent ≡ Ok found
    found_opens = left_opens l ok state.words left behind h.count left_size fixed_left (groups_of_lanes state.lanes) h.groups sides.0 current r'.sized r'.sound parent state.info refl
        (p.info_is ∙ ap (λ (i : Info). Ok i) info_is)

    contents : (t : ℕ) → t < l.external → MaySurvive state ends closed.history t (cell_at l (state_of (left ++ behind) found).words t)
    contents t lt =
        let below : t < x.sectors = subst (λ (x : Shape). t < x.sectors) (sym shape) lt in
        subst (λ (found : Cell). MaySurvive state ends closed.history t found)
        (sym (cell_same (left ++ behind) parent found found_opens t lt ∙ found_cell_is l ok state.words left behind h.count left_size fixed_left (groups_of_lanes state.lanes) h.groups sides.0 current r'.sized r'.sound t lt))
        (may_survive t _ below (subst (λ (found : Cell). Survives (geometry x) (opening_of k) closed.state t found)
        (ap (λ (x : Shape). cell_in x.width (areas_of x left).data_at (recovered_entry (areas_of x left) sides.0 x.lanes t) t) shape) (r.contents t below)))

    found_again : IsFoundAgain state (MaySurvive state ends closed.history) (left ++ behind) parent
    found_again = record { arena = found; opens = found_opens; info = refl; contents = contents }

  pub reopens : Reopens state (MaySurvive state ends closed.history) left
  reopens = record { size = left_size ∙ sym h.count; fixed = fixed_left; opens = λ behind parent before opens. found_again behind parent before opens }

pub closed_words_reopen : ClosedWordsReopen
closed_words_reopen state a ends c left h made order closed hl =
    reopens state a.table.shared.key ends c left h (a.shape_is ∙ made.shape) made.words made.begins (subst (λ (x : Shape). AreInOrder x.lanes ends) (sym a.shape_is) order) closed hl
