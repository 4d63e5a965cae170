-- A core that was just made shows the state of the arena that was opened.
use Rattle.std.proofs.Common.{◌≡◌, ℕ, zero, suc, ◌+◌, ◌-◌, ◌*◌, ◌<◌, false, List, [], ◌∷◌, ◌++◌, length, map, replicate, get_or, slice_get, Some, refl, sym, ap, ◌∙◌, subst, arith, append_assoc}
use Rattle.std.proofs.lemmas.List.{get_or_append_left, get_or-append_right, length-append, length-map, get_or-map, length-replicate}
use Rattle.std.proofs.lemmas.Option.{get_or_from_slice_get, slice_get_within}
use Rattle.flog.specs.declared.half.Half.{Half}
use Rattle.arena_layout.specs.declared.layout.Layout.{Layout}
use Rattle.arena_open.specs.declared.opened.LaneState.{LaneState}
use Rattle.arena_open.specs.declared.state.ArenaState.{ArenaState}
use Rattle.arena_open.specs.Moves.{IsOpenState, groups_of_lanes, lane_of as state_lane}
use Rattle.lane_core.specs.declared.now.LaneNow.{LaneNow}
use Rattle.lane_core.specs.declared.phase.Phase.TheVariants.{Idle}
use Rattle.lane_core.specs.declared.shape.Shape.{Shape}
use Rattle.lane_core.specs.Opening.{opened, opened_lane}
use Rattle.lane_core.specs.Places.{IsShape, SeenData, KeptData, SeenMap, KeptMap, SeenA, KeptA, SeenB, KeptB, Reader, Lock, Shows, reader_words, reader_place, word_of, row_size}
use Rattle.lane_core.specs.Rows.{Recorded, new_row}
use Rattle.lane_core.specs.After.{uses_words, uses_cell, wants_lock, uses_looked}
use Rattle.lane_core.specs.Ready.{IsFilled}
use Rattle.lane_core.specs.Showing.{lane_of}
use Rattle.lane_core.specs.Cores.{owing, ShowsSound}
use Rattle.lane_core.specs.Arenas.{areas_of, no_group, shape_in, areas_in, sides_in, cells_in}
use Rattle.lane_core.specs.Idle.{idle_of}
use Rattle.lane_core.specs.declared.machine.Core.{Core}
use Rattle.lane_core.specs.Machines.{IsCore, IsFresh}
use Rattle.std.specs.Prelude.{IfOk}
use Rattle.std.proofs.Common.{Result, Ok, Err}
use Rattle.lane_core.proofs.Put.{never}
use Rattle.lane_core.proofs.Shapes.{shape_is}
use Rattle.lane_core.proofs.Places.{seen_data_low, seen_map_low, seen_a_low, seen_b_low}
use Rattle.lane_core.proofs.Groups.{LaneRead, lane_read, groups_each}
use Rattle.lane_core.proofs.Openings.{state_open}
use Rattle.lane_core.proofs.Beginning.{opened_sound}

abbrev none : ℕ → List ℕ
none n = replicate n 0

zeros : (n i : ℕ) → get_or (none n) i 0 ≡ 0
zeros zero i = refl
zeros (suc n) zero = refl
zeros (suc n) (suc i) = zeros n i

length_none : (n : ℕ) → length (none n) ≡ n
length_none n = let z : ℕ = 0 in length-replicate n z

module _ (x : Shape) (hs : IsShape x) (words : List ℕ) (size : length words ≡ x.total) (sides : ℕ → ℕ) where
  abbrev all : List ℕ
  all = words ++ words ++ none (reader_words x.lanes + x.lanes)

  all_is : all ≡ words ++ (words ++ none (reader_words x.lanes + x.lanes))
  all_is = append_assoc words words (none (reader_words x.lanes + x.lanes))

  pub first : (i : ℕ) → i < x.total → get_or all i 0 ≡ get_or words i 0
  first i lt = ap (λ xs. get_or xs i 0) all_is ∙ get_or_append_left words (words ++ none (reader_words x.lanes + x.lanes)) 0 i (omega (arith, size))

  pub second : (i : ℕ) → i < x.total → get_or all (x.total + i) 0 ≡ get_or words i 0
  second i lt =
      ap (λ xs. get_or xs (x.total + i) 0) all_is
      ∙ get_or-append_right words (words ++ none (reader_words x.lanes + x.lanes)) x.total (x.total + i) 0 size (omega arith)
      ∙ ap (λ j. get_or (words ++ none (reader_words x.lanes + x.lanes)) j 0) (omega arith)
      ∙ get_or_append_left words (none (reader_words x.lanes + x.lanes)) 0 i (omega (arith, size))

  third : (i : ℕ) → get_or all (2 * x.total + i) 0 ≡ 0
  third i =
      ap (λ xs. get_or xs (2 * x.total + i) 0) all_is
      ∙ get_or-append_right words (words ++ none (reader_words x.lanes + x.lanes)) x.total (2 * x.total + i) 0 size (omega arith)
      ∙ ap (λ j. get_or (words ++ none (reader_words x.lanes + x.lanes)) j 0) (let e : 2 * x.total + i - x.total ≡ x.total + i = omega arith in e)
      ∙ get_or-append_right words (none (reader_words x.lanes + x.lanes)) x.total (x.total + i) 0 size (omega arith)
      ∙ zeros (reader_words x.lanes + x.lanes) (x.total + i - x.total)

  fresh_shown : Shows x all (opened (areas_of x words) sides)
  fresh_shown (SeenData b k) i = first (word_of x (SeenData b k)) (seen_data_low x hs b k i)
  fresh_shown (KeptData b k) i = second (word_of x (SeenData b k)) (seen_data_low x hs b k i)
  fresh_shown (SeenMap m) i = first (word_of x (SeenMap m)) (seen_map_low x hs m i)
  fresh_shown (KeptMap m) i = second (word_of x (SeenMap m)) (seen_map_low x hs m i)
  fresh_shown (SeenA l side) i = first (word_of x (SeenA l side)) (seen_a_low x hs l side i)
  fresh_shown (KeptA l side) i = second (word_of x (SeenA l side)) (seen_a_low x hs l side i)
  fresh_shown (SeenB l side) i = first (word_of x (SeenB l side)) (seen_b_low x hs l side i)
  fresh_shown (KeptB l side) i = second (word_of x (SeenB l side)) (seen_b_low x hs l side i)
  fresh_shown (Reader l) i = third (reader_place l)
  fresh_shown (Lock k) i = ap (λ j. get_or all j 0) (let e : 2 * x.total + reader_words x.lanes + k ≡ 2 * x.total + (reader_words x.lanes + k) = omega arith in e) ∙ third (reader_words x.lanes + k)

  all_size : length all ≡ row_size x
  all_size =
      let a : length (words ++ none (reader_words x.lanes + x.lanes)) ≡ length words + (reader_words x.lanes + x.lanes) = length-append words (none (reader_words x.lanes + x.lanes)) ∙ ap (λ n. length words + n) (length_none (reader_words x.lanes + x.lanes)) in
      let b : length (words ++ (words ++ none (reader_words x.lanes + x.lanes))) ≡ length words + length (words ++ none (reader_words x.lanes + x.lanes)) = length-append words (words ++ none (reader_words x.lanes + x.lanes)) in
      let c : length words + (length words + (reader_words x.lanes + x.lanes)) ≡ row_size x = omega (arith, size) in
      ap length all_is ∙ b ∙ ap (λ n. length words + n) a ∙ c

none_owe : (lanes : List LaneState) → owing (map idle_of lanes) ≡ 0
none_owe [] = refl
none_owe (lane ∷ lanes) = let r = none_owe lanes in omega (arith, r)

abbrev no_lane_state : LaneState
no_lane_state = record { free = 0; group = no_group }

module _ (state : ArenaState) (h : IsOpenState state) where
  abbrev l : Layout
  l = state.info.layout

  lane_read_at : (i : ℕ) → i < l.lanes → LaneRead l state.words i (get_or (groups_of_lanes state.lanes) i no_group)
  lane_read_at i lt = lane_read l state.words i _ h.sound.layout.internal_is ((groups_each l state.words (groups_of_lanes state.lanes) h.groups).1 i lt)

  count : length state.lanes ≡ l.lanes
  count = sym (length-map state.lanes (λ (x : LaneState). x.group)) ∙ (groups_each l state.words (groups_of_lanes state.lanes) h.groups).0

  -- the lane at a place is that of its group
  lane_at : (i : ℕ) → i < l.lanes → get_or state.lanes i no_lane_state ≡ state_lane (get_or (groups_of_lanes state.lanes) i no_group)
  lane_at i lt = ap (λ lanes. get_or lanes i no_lane_state) h.lanes ∙ get_or-map state_lane (groups_of_lanes state.lanes) i no_group no_lane_state (omega (arith, (groups_each l state.words (groups_of_lanes state.lanes) h.groups).0, lt))

  idle_at : (i : ℕ) (p : LaneNow) → slice_get (map idle_of state.lanes) i ≡ Some p → (i < l.lanes) × (p ≡ idle_of (state_lane (get_or (groups_of_lanes state.lanes) i no_group)))
  idle_at i p at =
      let lt : i < length state.lanes = subst (λ n. i < n) (length-map state.lanes idle_of) (slice_get_within (map idle_of state.lanes) i p at) in
      let li : i < l.lanes = omega (arith, count, lt) in
      (li, sym (get_or_from_slice_get (map idle_of state.lanes) i p p at) ∙ get_or-map idle_of state.lanes i no_lane_state p lt ∙ ap idle_of (lane_at i li))

  lane_shown : (i : ℕ) (p : LaneNow) → slice_get (map idle_of state.lanes) i ≡ Some p → opened_lane (areas_in state) i (sides_in state i) ≡ lane_of (shape_in state).width p []
  lane_shown i p at =
      let a = idle_at i p at in
      let half = (lane_read_at i a.0).half in
      ap (λ (hf : Half). record (opened_lane (areas_in state) i (sides_in state i)) { block = hf.old; half = hf }) (sym half)
      ∙ ap (λ (p : LaneNow). lane_of (shape_in state).width p []) (sym a.1)

  idle_filled : (p : LaneNow) → p.phase ≡ Idle → IsFilled (shape_in state) p
  idle_filled p e = record {
    words = λ u. never (sym (ap uses_words e) ∙ u);
    cell = λ u. never (sym (ap uses_cell e) ∙ u);
    next = λ u. never (sym (ap wants_lock e) ∙ u);
    looked = λ u. never (sym (ap uses_looked e) ∙ u);
  }

  pub fresh : (past : Recorded) → past.entries ≡ [] → ShowsSound (shape_in state) (new_row state.words l.lanes) (map idle_of state.lanes) past (cells_in state) (opened (areas_in state) (sides_in state))
  fresh past nothing =
      let hs = shape_is l h.sound.layout in record {
        shape = hs;
        shown = record {
          row_is = record { size = all_size (shape_in state) hs state.words h.count (sides_in state); arena = length-replicate (length state.words) false ∙ h.count; small = omega (arith, hs.small, hs.few) };
          count = length-map state.lanes idle_of ∙ count;
          words = fresh_shown (shape_in state) hs state.words h.count (sides_in state);
          each = λ i p at. lane_shown i p at;
          history = sym nothing;
        };
        sound = opened_sound _ (areas_in state) (sides_in state) (state_open state h);
        filled = λ i p at. idle_filled p (ap (λ (p : LaneNow). p.phase) (idle_at i p at).1);
        room = let a = none_owe state.lanes in omega arith;
      }

pub fresh_core : (state : ArenaState) (core : Core) → IsOpenState state → IsFresh state core → IsCore (cells_in state) core
fresh_core state core h f = (
  _,
  subst (λ x. ShowsSound x core.row core.lanes.items core.history (cells_in state) (opened (areas_in state) (sides_in state))) (sym f.shape)
      (subst (λ row. ShowsSound (shape_in state) row core.lanes.items core.history (cells_in state) (opened (areas_in state) (sides_in state))) (sym f.row)
      (subst (λ lanes. ShowsSound (shape_in state) (new_row state.words state.info.layout.lanes) lanes core.history (cells_in state) (opened (areas_in state) (sides_in state))) (sym f.lanes)
      (fresh state h core.history f.history))),
)

pub fresh_result : {E : Type 0} (state : ArenaState) (r : Result Core E) → IsOpenState state → IfOk r (IsFresh state) → IfOk r (IsCore (cells_in state))
fresh_result state (Ok core) h f = fresh_core state core h f
fresh_result state (Err e) h f = tt
