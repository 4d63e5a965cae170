-- A namespace's words after one sector of one of its arenas was written.
use Rattle.std.proofs.Common.{◌≡◌, ◌≢◌, ℕ, zero, suc, ◌+◌, ◌-◌, ◌/◌, ◌<◌, ◌≤◌, List, [], ◌∷◌, ◌++◌, length, map, take, drop, get_or, Some, Ok, refl, sym, ap, ◌∙◌, subst, inl, inr, arith}
use Rattle.std.specs.List.{All, flat_map, slice_get}
use Rattle.std.specs.Option.{option_map}
use Rattle.std.proofs.Math.ListN.{set}
use Rattle.std.proofs.lemmas.List.{drop-drop, drop_at, ext_get_or, get_or-map, get_or-set_other, get_or-set_same, length-append, length-drop, length-map, length-set, length-take-le, map-set, nil_from_length, set-append_left, set-append_right, set-get_or, take-append-drop, take_at}
use Rattle.std.proofs.lemmas.List.Elements.{All-cons, All-nil}
use Rattle.std.proofs.lemmas.List.FromFn.{get_or-map-range_with_len, length-map-range_with_len}
use Rattle.std.proofs.lemmas.List.Sums.{sum_by-cons}
use Rattle.std.proofs.lemmas.Option.{slice_get-get_or, slice_get-map}
use Rattle.cut_words.specs.WordBytes.{put_at}
use Rattle.cut_words.proofs.Put.{length_put}
use Rattle.arena_layout.specs.declared.info.Info.{Info}
use Rattle.arena_open.specs.declared.cell.Cell.{Cell}
use Rattle.arena_open.specs.declared.cell.Cell.TheVariants as cell
use Rattle.arena_open.specs.declared.opened.Opened.{Opened}
use Rattle.arena_open.specs.declared.state.ArenaState.{ArenaState}
use Rattle.arena_open.specs.Chain.{found_again}
use Rattle.arena_open.specs.ChainCells.{LiesIn, cells_of, contents_of, external_of, sectors_of}
use Rattle.arena_open.specs.Moves.{IsOpenState, move_writes, moves_made, state_of}
use Rattle.arena_open.specs.Reading.{cell_at, opening}
use Rattle.arena_open.specs.Writes.{written_over}
use Rattle.lane_core.specs.Arenas.{shape_in}
use Rattle.lane_core.specs.Fixed.{SameFixed}
use Rattle.lane_core.specs.Areas.{put}
use Rattle.lane_core.specs.Reopening.{first_cells}
use Rattle.lane_core.proofs.Put.{put_at as put_here, put_other, same_or_not}
use Rattle.sector_namespaces.specs.Changing.{DifferIn, IsFoundAs, OneArenaChanges, start_of}
use Rattle.sector_namespaces.specs.View.{opened_view}
use Rattle.sector_namespaces.proofs.Chains.{AtArena, at_arena, start_take, view_walk}
use Rattle.served_namespaces.specs.Places.{arena_words}
use Rattle.served_namespaces.proofs.Arenas.{again_words, ends_inside, own_words as size_words}
use Rattle.served_namespaces.proofs.Parts.{put_behind}
use Rattle.lane_alone.specs.Alone.{IsWritten, IsWrittenIn}
use Rattle.shell_sectors.specs.Write.{HasSector}

-- ---- lists

get_set_other : {X : Type 0} (xs : List X) (k j : ℕ) (x : X) → j ≢ k → slice_get (set xs k x) j ≡ slice_get xs j
get_set_other [] k j x ne = refl
get_set_other (y ∷ xs) zero zero x ne = absurd (ne refl)
get_set_other (y ∷ xs) zero (suc j) x ne = refl
get_set_other (y ∷ xs) (suc k) zero x ne = refl
get_set_other (y ∷ xs) (suc k) (suc j) x ne = get_set_other xs k j x (λ e. ne (ap suc e))

get_set_here : {X : Type 0} (xs : List X) (k : ℕ) (x : X) → k < length xs → slice_get (set xs k x) k ≡ Some x
get_set_here [] k x lt = absurd (omega (arith, lt))
get_set_here (y ∷ xs) zero x lt = refl
get_set_here (y ∷ xs) (suc k) x lt = get_set_here xs k x (omega (arith, lt))

same_some : {X : Type 0} (x y : X) → Some x ≡ Some y → x ≡ y
same_some x y e = cc

-- ---- arenas that were found again

infos_again : (states : List ArenaState) → map (λ (s : ArenaState). s.info) (map found_again states) ≡ map (λ (s : ArenaState). s.info) states
infos_again [] = refl
infos_again (state ∷ states) = ap (λ (is : List Info). state.info ∷ is) (infos_again states)

none_again : (states : List ArenaState) → All (λ s. moves_made s ≡ 0) (map found_again states)
none_again [] = All-nil (λ s. moves_made s ≡ 0)
none_again (state ∷ states) = All-cons (λ s. moves_made s ≡ 0) (found_again state) (map found_again states) refl (none_again states)

parts_again : (states : List ArenaState) → flat_map cells_of (map found_again states) ≡ flat_map cells_of states
parts_again [] = refl
parts_again (state ∷ states) = ap (λ (cs : List Cell). cells_of state ++ cs) (parts_again states)

-- ---- the cells of all of them

count_cells : (state : ArenaState) → length (cells_of state) ≡ external_of state
count_cells state = length-map-range_with_len (cell_at state.info.layout state.words) 0 state.info.layout.external

parts_set : (states : List ArenaState) (k own : ℕ) (c : Cell) (new d : ArenaState) → k < length states → own < external_of (get_or states k d) → cells_of new ≡ set (cells_of (get_or states k d)) own c
    → flat_map cells_of (set states k new) ≡ set (flat_map cells_of states) (sectors_of (take k states) + own) c
parts_set [] k own c new d lt inside e = absurd (omega (arith, lt))
parts_set (state ∷ states) zero own c new d lt inside e =
    ap (λ (cs : List Cell). cs ++ flat_map cells_of states) e
    ∙ sym (set-append_left (cells_of state) (flat_map cells_of states) own c (omega (arith, inside, count_cells state)))
    ∙ ap (λ (i : ℕ). set (cells_of state ++ flat_map cells_of states) i c) (let z : own ≡ 0 + own = omega arith in z)
parts_set (state ∷ states) (suc k) own c new d lt inside e =
    let cons : sectors_of (state ∷ take k states) ≡ external_of state + sectors_of (take k states) = sum_by-cons external_of state (take k states) in
    let far : external_of state ≤ sectors_of (state ∷ take k states) + own = omega (arith, cons) in
    let rest : sectors_of (take k states) + own ≡ sectors_of (state ∷ take k states) + own - external_of state = omega (arith, cons) in
    ap (λ (cs : List Cell). cells_of state ++ cs) (parts_set states k own c new d (omega (arith, lt)) inside e)
    ∙ ap (λ (i : ℕ). cells_of state ++ set (flat_map cells_of states) i c) rest
    ∙ sym (set-append_right (cells_of state) (flat_map cells_of states) (external_of state) (sectors_of (state ∷ take k states) + own) c (count_cells state) far)

-- ---- the words of one arena are others

module _ (W : List ℕ) (states : List ArenaState) (which : ℕ) (state : ArenaState) (at_which : (d : ArenaState) → state ≡ get_or states which d) (there : which < length states) (is_open : IsOpenState state)
    (left : List ℕ) (left_size : length left ≡ length state.words) (uuid : List ℕ) (e : opened_view W uuid ≡ Ok (map found_again states)) where
  abbrev p : ℕ
  p = start_of (take which states)

  count : which < length (map found_again states)
  count = omega (arith, there, length-map states found_again)

  again_is : get_or (map found_again states) which (found_again state) ≡ found_again state
  again_is = get_or-map found_again states which state (found_again state) there ∙ ap found_again (sym (at_which state))

  at : AtArena W uuid p (found_again state)
  at =
      let place : 0 + start_of (take which (map found_again states)) ≡ start_of (take which states) = omega (arith, start_take which states) in
      subst (λ (s : ArenaState). AtArena W uuid (start_of (take which states)) s) again_is
      (subst (λ (q : ℕ). AtArena W uuid q (get_or (map found_again states) which (found_again state))) place
      (at_arena W uuid 0 (map found_again states) which (found_again state) (view_walk W uuid (map found_again states) e) count))

  none : at.opened.moves ≡ []
  none = nil_from_length at.opened.moves (sym (ap (λ (s : ArenaState). moves_made s) at.is))

  own_words : state.words ≡ take (at.opened.info.layout.size / 8) (drop p W)
  own_words =
      ap (λ (s : ArenaState). s.words) at.is
      ∙ ap (λ ms. take (at.opened.info.layout.size / 8) (written_over (drop p W) (move_writes at.opened.info.layout (drop p W) ms))) none

  size : state.info.layout.size ≡ at.opened.info.layout.size
  size = ap (λ (s : ArenaState). s.info.layout.size) at.is

  -- its words, with its pending moves made
  pub found_words : take (state.info.layout.size / 8) (drop (start_of (take which states)) W) ≡ state.words
  found_words = ap (λ (k : ℕ). take (k / 8) (drop p W)) size ∙ sym own_words

  -- the words behind the arena
  abbrev pub behind_of : List ℕ
  behind_of = drop (p + state.info.layout.size / 8) W

  parted : drop p W ≡ state.words ++ behind_of
  parted =
      let first : take (state.info.layout.size / 8) (drop p W) ≡ state.words = ap (λ (k : ℕ). take (k / 8) (drop p W)) size ∙ sym own_words in
      let second : drop (state.info.layout.size / 8) (drop p W) ≡ behind_of = drop-drop (state.info.layout.size / 8) p W in
      sym (take-append-drop (state.info.layout.size / 8) (drop p W)) ∙ (λ i. first i ++ second i)

  -- the old words opened there
  pub opened_there : (old : Opened) × (opening (state.words ++ behind_of) uuid ≡ Ok old)
  opened_there = (at.opened, ap (λ (ws : List ℕ). opening ws uuid) (sym parted) ∙ at.opens)

  left_long : length left ≡ state.info.layout.size / 8
  left_long = left_size ∙ is_open.count

  pub fits : p + length left ≤ length W
  fits = omega (arith, ap length parted, length-drop p W, length-append state.words behind_of, is_open.count, at.inside, left_long)

  front_long : length (take p W) ≡ p
  front_long = length-take-le p W at.inside

  abbrev tail : List ℕ
  tail = left ++ drop (p + length left) W

  abbrev now : List ℕ
  now = put_at W p left

  now_drop : drop p now ≡ left ++ behind_of
  now_drop = drop_at (take p W) tail p front_long ∙ ap (λ (k : ℕ). left ++ drop (p + k) W) left_long

  differ : DifferIn p (state.info.layout.size / 8) W now
  differ = record {
    size = length_put W p left fits;
    before = take_at (take p W) tail p front_long;
    behind = sym (drop-drop (state.info.layout.size / 8) p now) ∙ ap (drop (state.info.layout.size / 8)) now_drop ∙ drop_at left behind_of (state.info.layout.size / 8) left_long;
  }

  module _ (o : Opened) (opens : opening (left ++ behind_of) uuid ≡ Ok o) (info : o.info ≡ state.info) where
    abbrev put_state : ArenaState
    put_state = state_of (left ++ behind_of) o

    found : IsFoundAs (drop p now) uuid put_state
    found = record {
      opened = o;
      opens = ap (λ (ws : List ℕ). opening ws uuid) now_drop ∙ opens;
      is = ap (λ (ws : List ℕ). state_of ws o) now_drop;
    }

    -- then only this arena is another one
    pub opens_now : OneArenaChanges → opened_view (put_at W (start_of (take which states)) left) uuid ≡ Ok (set (map found_again states) which (state_of (left ++ behind_of) o))
    opens_now law =
        law W now uuid (map found_again states) which (found_again state) put_state e count (sym again_is) info
        (subst (λ (q : ℕ). DifferIn q (state.info.layout.size / 8) W now) (sym (start_take which states)) differ)
        (subst (λ (q : ℕ). IsFoundAs (drop q now) uuid put_state) (sym (start_take which states)) found)

-- ---- a sector is written

module _ (W : List ℕ) (states : List ArenaState) (which own : ℕ) (words : List ℕ) (state : ArenaState) (at_which : (d : ArenaState) → state ≡ get_or states which d) (there : which < length states) (is_open : IsOpenState state)
    (left : List ℕ) (w : IsWritten state own words left) (uuid : List ℕ) (e : opened_view W uuid ≡ Ok (map found_again states)) where
  abbrev behind : List ℕ
  behind = behind_of W states which state at_which there is_open left w.size uuid e

  wi : IsWrittenIn state own words (left ++ behind) uuid
  wi =
      let old = opened_there W states which state at_which there is_open left w.size uuid e in
      w.opens (behind_of W states which state at_which there is_open left w.size uuid e) uuid old.0 old.1

  abbrev new : ArenaState
  new = state_of (left ++ behind) wi.opened

  new_again : found_again new ≡ new
  new_again = λ i. record { info = new.info; words = new.words; lanes = new.lanes; made = sym (ap length wi.none) i }

  abbrev news : List ArenaState
  news = map found_again (set states which new)

  news_are : set (map found_again states) which new ≡ news
  news_are = ap (set (map found_again states) which) (sym new_again) ∙ sym (map-set found_again states which new)

  opens_as : OneArenaChanges → opened_view (put_at W (start_of (take which states)) left) uuid ≡ Ok news
  opens_as law =
      opens_now W states which state at_which there is_open left w.size uuid e wi.opened wi.opens wi.info law
      ∙ ap (λ (ss : List ArenaState). Ok ss) news_are

  new_words : new.words ≡ left
  new_words =
      ap (λ ms. take (wi.opened.info.layout.size / 8) (written_over (left ++ behind) (move_writes wi.opened.info.layout (left ++ behind) ms))) wi.none
      ∙ take_at left behind (wi.opened.info.layout.size / 8) (w.size ∙ is_open.count ∙ ap (λ (i : Info). i.layout.size / 8) (sym wi.info))

  external : wi.opened.info.layout.external ≡ state.info.layout.external
  external = ap (λ (i : Info). i.layout.external) wi.info

  cells_new : own < state.info.layout.external → cells_of new ≡ set (cells_of state) own (cell.Bytes words)
  cells_new inside =
      ext_get_or cell.Bad (cells_of new) (set (cells_of state) own (cell.Bytes words))
      (count_cells new ∙ external ∙ sym (count_cells state) ∙ sym (length-set (cells_of state) own (cell.Bytes words)))
      (λ i lt. each i (omega (arith, lt, count_cells new, external)))
    where
      was : (i : ℕ) → i < state.info.layout.external → get_or (cells_of state) i cell.Bad ≡ first_cells state i
      was i lt = get_or-map-range_with_len (cell_at state.info.layout state.words) 0 state.info.layout.external i i cell.Bad lt (omega arith)

      each : (i : ℕ) → i < state.info.layout.external → get_or (cells_of new) i cell.Bad ≡ get_or (set (cells_of state) own (cell.Bytes words)) i cell.Bad
      each i lt =
          get_or-map-range_with_len (cell_at new.info.layout new.words) 0 new.info.layout.external i i cell.Bad (omega (arith, lt, external)) (omega arith)
          ∙ wi.cells i lt
          ∙ elim (same_or_not i own) [
            | inl same ↦ ap (put (first_cells state) own (cell.Bytes words)) same ∙ put_here (first_cells state) own (cell.Bytes words)
                ∙ sym (get_or-set_same (cells_of state) own (cell.Bytes words) cell.Bad (omega (arith, inside, count_cells state)))
                ∙ ap (λ (j : ℕ). get_or (set (cells_of state) own (cell.Bytes words)) j cell.Bad) (sym same)
            | inr ne ↦ put_other (first_cells state) own (cell.Bytes words) i ne ∙ sym (was i lt) ∙ sym (get_or-set_other (cells_of state) own i (cell.Bytes words) cell.Bad ne)
          ]

  -- the arena ends within those of all
  ends : start_of (take which states) + state.info.layout.size / 8 ≤ arena_words states
  ends =
      let lt : which < length (map found_again states) = count W states which state at_which there is_open left w.size uuid e in
      let at : get_or (map found_again states) which (found_again state) ≡ found_again state = again_is W states which state at_which there is_open left w.size uuid e in
      let end = ends_inside W uuid 0 (map found_again states) which (found_again state) (view_walk W uuid (map found_again states) e) lt in
      omega (arith, end, start_take which states, again_words states, ap size_words at)

  behind_all : drop (arena_words states) (put_at W (start_of (take which states)) left) ≡ drop (arena_words states) W
  behind_all =
      let room : start_of (take which states) + length left ≤ length W = fits W states which state at_which there is_open left w.size uuid e in
      let long : length left ≡ state.info.layout.size / 8 = left_long W states which state at_which there is_open left w.size uuid e in
      let first : start_of (take which states) + length left + (arena_words states - (start_of (take which states) + length left)) ≡ arena_words states = omega (arith, ends, long) in
      subst (λ (k : ℕ). drop k (put_at W (start_of (take which states)) left) ≡ drop k W) first
      (sym (drop-drop (arena_words states - (start_of (take which states) + length left)) (start_of (take which states) + length left) (put_at W (start_of (take which states)) left))
      ∙ ap (drop (arena_words states - (start_of (take which states) + length left))) (put_behind (start_of (take which states)) W left room)
      ∙ drop-drop (arena_words states - (start_of (take which states) + length left)) (start_of (take which states) + length left) W)

  pub has_sector : OneArenaChanges → (sector : ℕ) → LiesIn states sector which own → HasSector uuid sector words states W (put_at W (start_of (take which states)) left)
  unfolding contents_of
  has_sector law sector l =
      let inside : own < state.info.layout.external = subst (λ (s : ArenaState). own < s.info.layout.external) (sym (at_which state)) (l.inside state) in
      record {
        which = which;
        own = own;
        lies = l;
        news = news;
        opens = opens_as law;
        infos = infos_again (set states which new)
            ∙ map-set (λ (s : ArenaState). s.info) states which new
            ∙ ap (set (map (λ (s : ArenaState). s.info) states) which) (wi.info ∙ ap (λ (s : ArenaState). s.info) (at_which state) ∙ sym (get_or-map (λ (s : ArenaState). s.info) states which state state.info there))
            ∙ set-get_or (map (λ (s : ArenaState). s.info) states) which state.info;
        none = none_again (set states which new);
        others = λ j ne. slice_get-map found_again (set states which new) j ∙ ap (option_map found_again) (get_set_other states which j new ne);
        fixed = λ old new' was is.
            let old_is : state ≡ old = at_which state ∙ same_some (get_or states which state) old (sym (slice_get-get_or states which state there) ∙ was) in
            let new_is : found_again new ≡ new' =
            same_some (found_again new) new' (sym (slice_get-map found_again (set states which new) which ∙ ap (option_map found_again) (get_set_here states which new there)) ∙ is) in
            subst (λ (s : ArenaState). SameFixed (shape_in s) s.words new'.words) old_is
            (subst (λ (ws : List ℕ). SameFixed (shape_in state) state.words ws) (sym new_words ∙ ap (λ (s : ArenaState). s.words) new_is) w.fixed);
        behind = behind_all;
        cells = parts_again (set states which new)
            ∙ parts_set states which own (cell.Bytes words) new state there (subst (λ (s : ArenaState). own < s.info.layout.external) (at_which state) inside)
            (cells_new inside ∙ ap (λ (s : ArenaState). set (cells_of s) own (cell.Bytes words)) (at_which state))
            ∙ ap (λ (i : ℕ). set (flat_map cells_of states) i (cell.Bytes words)) (sym l.is);
      }
