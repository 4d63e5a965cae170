-- The words after a write open as the arena, without a pending move, and one cell differs.
use Rattle.std.proofs.Common.{◌≡◌, ℕ, zero, suc, ◌+◌, ◌*◌, ◌/◌, ◌<◌, ◌≤◌, Bool, true, false, not, List, [], ◌++◌, length, map, get_or, Ok, refl, sym, ap, ◌∙◌, inl, inr, arith}
use Rattle.std.specs.Prelude.{◌&&◌, ◌==◌, filter}
use Rattle.std.specs.List.{range_with_len}
use Rattle.std.proofs.lemmas.Bool.{eq-eqb, ne_eqb}
use Rattle.std.proofs.lemmas.List.{get_or_append_left, take-append-le}
use Rattle.std.proofs.lemmas.List.FromFn.{get_or-map-range_with_len}
use Rattle.cut_words.specs.WordBytes.{bytes_of}
use Rattle.arena_layout.specs.declared.info.Info.{Info}
use Rattle.arena_layout.specs.declared.layout.Layout.{Layout}
use Rattle.arena_layout.specs.Info.{StandsFor, info_of}
use Rattle.arena_layout.specs.Layout.{IsLayout}
use Rattle.arena_layout.proofs.Stands.{reading_stands}
use Rattle.flog.specs.declared.half.Half.{Half}
use Rattle.map_table.specs.Entry.{entry_in, entry_of}
use Rattle.arena_open.specs.declared.cell.Cell.{Cell}
use Rattle.arena_open.specs.declared.cell.Cell.TheVariants as cell
use Rattle.arena_open.specs.declared.opened.Opened.{Opened}
use Rattle.arena_open.specs.declared.state.ArenaState.{ArenaState}
use Rattle.arena_open.specs.Moves.{IsOpenState, groups_of_lanes, state_of}
use Rattle.arena_open.specs.Reading.{cell_at, info_bytes, map_in, opening}
use Rattle.arena_open.specs.Reading.{entry_at as found_entry, is_pending as is_found_pending}
use Rattle.arena_open.proofs.Apart.{ordered}
use Rattle.arena_open.proofs.InPlace.{cell_same}
use Rattle.arena_open.proofs.Opening.{Parts, parts}
use Rattle.lane_core.specs.Areas.{Areas, block_in, entry_at, mapped, put}
use Rattle.lane_core.specs.Arenas.{areas_in, areas_of, shape_in, sides_in}
use Rattle.lane_core.specs.Cut.{AreLeft, IsRecoverable, Survives, half_at, recovered_entry}
use Rattle.lane_core.specs.History.{cell_in, cell_of, end_of}
use Rattle.lane_core.specs.Machine.{State}
use Rattle.lane_core.specs.Opening.{IsOpen, opened}
use Rattle.lane_core.specs.Places.{geometry, shape_of}
use Rattle.lane_core.specs.Reopening.{first_cells}
use Rattle.lane_core.proofs.Again.{found_arena, found_cell_is, left_opens}
use Rattle.lane_core.proofs.Beginning.{opened_sound}
use Rattle.lane_core.proofs.Cells.{cells_are}
use Rattle.lane_core.proofs.Put.{never}
use Rattle.lane_core.proofs.Recovering.{recovers}
use Rattle.lane_alone.specs.Alone.{IsWritten, IsWrittenIn}
use Rattle.lane_alone.specs.Lone.{lone_words}
use Rattle.lane_alone.proofs.Changed.{cells_now, open_now, turned}
use Rattle.lane_core.proofs.Openings.{state_open}
use Rattle.lane_core.specs.Fixed.{SameFixed}
use Rattle.lane_alone.proofs.Placed.{changed, fixed, left_length}

and_false : (a b : Bool) → b ≡ false → a && b ≡ false
and_false true b e = e
and_false false b e = refl

not_and : (a b : Bool) → a ≡ true → not a && b ≡ false
not_and a b e = rw e refl

none_pass : {X : Type 0} (p : X → Bool) (f : ℕ → X) (a n : ℕ) → ((i : ℕ) → a ≤ i → i < a + n → p (f i) ≡ false) → filter p (map f (range_with_len a n)) ≡ []
none_pass p f a zero all = refl
none_pass p f a (suc n) all = rw (all a (omega arith) (omega arith)) (none_pass p f (a + 1) n (λ i low high. all i (omega (arith, low)) (omega (arith, high))))

module _ (state : ArenaState) (h : IsOpenState state) (own : ℕ) (inside : own < state.info.layout.external) (value : List ℕ) (long : length value ≡ state.info.layout.sector / 8) where
  abbrev l : Layout
  l = state.info.layout

  ok : IsLayout state.info.layout
  ok = h.sound.layout

  abbrev left : List ℕ
  left = lone_words state own value

  abbrev areas : Areas
  areas = areas_of (shape_of state.info.layout) (lone_words state own value)

  abbrev sides : ℕ → ℕ
  sides = turned (sides_in state)

  left_size : length left ≡ state.info.layout.size / 8
  left_size = left_length state h own inside value long ∙ h.count

  same_fixed : SameFixed (shape_of state.info.layout) state.words (lone_words state own value)
  same_fixed = fixed state h own inside value long

  -- the words after it are open for lanes
  open_left : IsOpen (geometry (shape_of state.info.layout)) areas sides
  open_left = open_now (geometry (shape_in state)) (areas_in state) (areas_of (shape_in state) (lone_words state own value)) (sides_in state) own value (state_open state h) inside long (changed state h own inside value long)

  abbrev after : State
  after = opened areas sides

  are : AreLeft (geometry (shape_of state.info.layout)) areas areas areas
  are = record { data_left = λ b k lb lk. inl refl; map_left = λ m lt. inl refl; a_left = λ i side lt two. inl refl; b_left = λ i side lt two. inl refl }

  r : IsRecoverable (geometry (shape_of state.info.layout)) (cell_of (geometry (shape_of state.info.layout)) areas.data_at areas.map_at) after areas sides
  r = recovers (geometry (shape_of state.info.layout)) (cell_of (geometry (shape_of state.info.layout)) areas.data_at areas.map_at) after (opened_sound (geometry (shape_of state.info.layout)) areas sides open_left) areas are sides open_left.current

  abbrev halve : ℕ → Half
  halve i = half_at areas i (sides i)

  -- no lane is in a call, so a sector's cell is the one that its entry says
  survives : (t : ℕ) (c : Cell) → Survives (geometry (shape_of state.info.layout)) (cell_of (geometry (shape_of state.info.layout)) areas.data_at areas.map_at) after t c
      → c ≡ cell_of (geometry (shape_of state.info.layout)) areas.data_at areas.map_at t
  unfolding end_of
  survives t c (inl e) = e
  survives t c (inr w) = never w.2

  cell_is : (t : ℕ) → t < state.info.layout.external → cell_of (geometry (shape_of state.info.layout)) areas.data_at areas.map_at t ≡ put (first_cells state) own (cell.Bytes value) t
  cell_is t lt =
      cells_now (geometry (shape_in state)) (areas_in state) (areas_of (shape_in state) (lone_words state own value)) (sides_in state) own value (state_open state h) inside long (changed state h own inside value long) t lt
      ∙ ap (λ (cells : ℕ → Cell). put cells own (cell.Bytes value) t) (cells_are state)

  module _ (behind parent : List ℕ) (arena : Opened) (opens : opening (state.words ++ behind) parent ≡ Ok arena) where
    p : Parts (state.words ++ behind) parent arena
    p = parts (state.words ++ behind) parent arena opens

    enough : 512 ≤ length state.words
    enough = omega (arith, h.count, ordered state.info.layout ok)

    info_is : arena.info ≡ state.info
    info_is =
        let stands : StandsFor (info_bytes (state.words ++ behind)) parent (8 * length (state.words ++ behind)) arena.info =
        (reading_stands (info_bytes (state.words ++ behind)) parent (8 * length (state.words ++ behind)) (Ok arena.info) (sym p.info_is) arena.info).0 refl in
        sym stands.fields ∙ ap (λ (ws : List ℕ). info_of (bytes_of ws)) (take-append-le 512 state.words behind enough) ∙ h.said

    abbrev found : Opened
    found = found_arena state.info.layout ok state.words left behind h.count left_size same_fixed (groups_of_lanes state.lanes) h.groups sides open_left.current r.sized r.sound state.info

    found_opens : opening (left ++ behind) parent ≡ Ok found
    found_opens = left_opens state.info.layout ok state.words left behind h.count left_size same_fixed (groups_of_lanes state.lanes) h.groups sides open_left.current r.sized r.sound parent state.info refl
        (p.info_is ∙ ap (λ (i : Info). Ok i) info_is)

    entry_is : (i : ℕ) → i < state.info.layout.external → get_or (map_in state.info.layout (left ++ behind)) i 0 ≡ entry_at areas.map_at i
    entry_is i lt =
        get_or-map-range_with_len (found_entry state.info.layout (left ++ behind)) 0 state.info.layout.external i i 0 lt (omega arith)
        ∙ ap (λ (w : ℕ). entry_in w i) (get_or_append_left left behind 0 (state.info.layout.map_off / 8 + i / 2) (omega (arith, left_size, lt, ordered state.info.layout ok)))

    -- each lane's free block belongs to no sector
    unmoved : (i : ℕ) → i < state.info.layout.lanes → is_found_pending (map_in state.info.layout (left ++ behind)) (halve i) ≡ false
    unfolding block_in
    unmoved i lt = elim (r.sized i lt).lba [
      | inl same ↦ not_and ((halve i).old == (halve i).new) _ (eq-eqb (halve i).old (halve i).new same)
      | inr below ↦
          let block : (entry_of (get_or (map_in state.info.layout (left ++ behind)) (halve i).lba 0) (halve i).lba).block ≡ mapped areas.map_at (halve i).lba =
          ap (λ (e : ℕ). (entry_of e (halve i).lba).block) (entry_is (halve i).lba below) in
          and_false (not ((halve i).old == (halve i).new)) _ (ne_eqb _ (halve i).old (λ e. open_left.once.apart (halve i).lba i below lt (sym block ∙ e)))
    ]

    none_left : found.moves ≡ []
    none_left = none_pass (is_found_pending (map_in state.info.layout (left ++ behind))) halve 0 state.info.layout.lanes (λ i low high. unmoved i (omega (arith, high)))

    cell_found : (t : ℕ) → t < state.info.layout.external → cell_at state.info.layout (state_of (left ++ behind) found).words t ≡ put (first_cells state) own (cell.Bytes value) t
    cell_found t lt =
        cell_same (left ++ behind) parent found found_opens t lt
        ∙ found_cell_is state.info.layout ok state.words left behind h.count left_size same_fixed (groups_of_lanes state.lanes) h.groups sides open_left.current r.sized r.sound t lt
        ∙ survives t (cell_in (state.info.layout.sector / 8) areas.data_at (recovered_entry areas sides state.info.layout.lanes t) t) (r.contents t lt) ∙ cell_is t lt

    written_in : IsWrittenIn state own value (left ++ behind) parent
    written_in = record { opened = found; opens = found_opens; info = refl; none = none_left; cells = cell_found }

  pub written : IsWritten state own value (lone_words state own value)
  written = record {
    size = left_length state h own inside value long;
    fixed = same_fixed;
    opens = λ behind parent arena opens. written_in behind parent arena opens;
  }
