-- Which words a write changes.
use Rattle.std.proofs.Common.{◌≡◌, ◌≢◌, ℕ, ◌+◌, ◌-◌, ◌*◌, ◌/◌, ◌^◌, ◌<◌, ◌≤◌, ◌⊎◌, inl, inr, List, ◌++◌, length, get_or, take, drop, sym, ap, ap₂, ◌∙◌, subst, arith, get_or-set_same, get_or-set_other}
use Rattle.std.proofs.lemmas.Bool.{cases_lt}
use Rattle.std.proofs.lemmas.List.{get_or_append_left, get_or-append_right, get_or-drop, get_or-take, length-append, length-drop, length-set, length-take-le}
use Rattle.map_table.specs.Entry.{with_entry}
use Rattle.flog.specs.Group.{words_of_half}
use Rattle.arena_open.specs.declared.state.ArenaState.{ArenaState}
use Rattle.arena_open.specs.Moves.{IsOpenState}
use Rattle.lane_core.specs.declared.shape.Shape.{Shape}
use Rattle.lane_core.specs.Areas.{mapped, next_seq, normal, word_a, word_b}
use Rattle.lane_core.specs.Arenas.{areas_in, areas_of, shape_in, sides_in}
use Rattle.lane_core.specs.Cut.{half_at}
use Rattle.lane_core.specs.Fixed.{SameFixed}
use Rattle.lane_core.specs.Machine.{other}
use Rattle.lane_core.specs.Places.{IsIn, Place, SeenA, SeenB, SeenData, SeenMap, geometry, word_of}
use Rattle.lane_core.proofs.Places.{in_order, same_place}
use Rattle.lane_alone.specs.Lone.{block_place, half_place, lane_zero, lone_words, map_place, move_half, moved_word, with_run}
use Rattle.lane_alone.proofs.Changed.{Changed}
use Rattle.lane_alone.proofs.Facts.{block_end, block_ends, block_is, free_in, free_is, half_end, half_is_at, is_open, map_end, seq_is, shape_ok, some}

-- ---- a run of words

module _ (words : List ℕ) (at : ℕ) (values : List ℕ) (fits : at + length values ≤ length words) where
  first_length : length (take at words) ≡ at
  first_length = length-take-le at words (omega (arith, fits))

  front_length : length (take at words ++ values) ≡ at + length values
  front_length = length-append (take at words) values ∙ ap (λ (n : ℕ). n + length values) first_length

  run_length : length (with_run words at values) ≡ length words
  run_length =
      length-append (take at words ++ values) (drop (at + length values) words) ∙ ap₂ (λ (n m : ℕ). n + m) front_length (length-drop (at + length values) words) ∙ omega (arith, fits)

  run_here : (i : ℕ) → i < length values → get_or (with_run words at values) (at + i) 0 ≡ get_or values i 0
  run_here i lt =
      get_or_append_left (take at words ++ values) (drop (at + length values) words) 0 (at + i) (omega (arith, front_length, lt))
      ∙ get_or-append_right (take at words) values at (at + i) 0 first_length (omega arith) ∙ ap (λ (j : ℕ). get_or values j 0) (let e : at + i - at ≡ i = omega arith in e)

  run_there : (i : ℕ) → (i < at) ⊎ (at + length values ≤ i) → get_or (with_run words at values) i 0 ≡ get_or words i 0
  run_there i (inl lt) =
      get_or_append_left (take at words ++ values) (drop (at + length values) words) 0 i (omega (arith, front_length, lt))
      ∙ get_or_append_left (take at words) values 0 i (omega (arith, first_length, lt)) ∙ get_or-take at words i 0 lt
  run_there i (inr le) =
      get_or-append_right (take at words ++ values) (drop (at + length values) words) (at + length values) i 0 front_length le
      ∙ get_or-drop (at + length values) words (i - (at + length values)) 0 ∙ ap (λ (j : ℕ). get_or words j 0) (omega (arith, le))

outside : (at n i : ℕ) → ((k : ℕ) → k < n → i ≢ at + k) → (i < at) ⊎ (at + n ≤ i)
outside at n i none = elim (cases_lt i at) [
  | inl lt ↦ inl lt
  | inr le ↦ elim (cases_lt i (at + n)) [
    | inl in' ↦ absurd (none (i - at) (omega (arith, le, in')) (omega (arith, le)))
    | inr past ↦ inr past
  ]
]

-- ---- the words of a write

module _ (state : ArenaState) (h : IsOpenState state) (own : ℕ) (inside : own < state.info.layout.external) (value : List ℕ) (long : length value ≡ state.info.layout.sector / 8) where
  abbrev x : Shape
  x = shape_in state

  abbrev d : ℕ
  d = block_place state

  abbrev g : ℕ
  g = half_place state

  abbrev m : ℕ
  m = map_place state own

  abbrev free : ℕ
  free = (lane_zero state).free

  abbrev pair : List ℕ
  pair = words_of_half (move_half state own)

  abbrev filled : List ℕ
  filled = with_run state.words d value

  abbrev logged : List ℕ
  logged = with_run filled g pair

  abbrev left : List ℕ
  left = lone_words state own value

  data_fits : d + length value ≤ length state.words
  data_fits = omega (arith, long, block_ends state h)

  data_below : d + length value ≤ x.map_at
  data_below = omega (arith, long, block_end state h)

  filled_length : length filled ≡ length state.words
  filled_length = run_length state.words d value data_fits

  log_fits : g + length pair ≤ length filled
  log_fits = omega (arith, filled_length, half_end state h)

  logged_length : length logged ≡ length state.words
  logged_length = run_length filled g pair log_fits ∙ filled_length

  pub left_length : length (lone_words state own value) ≡ length state.words
  left_length = length-set logged m (moved_word state own) ∙ logged_length

  map_low : x.map_at ≤ m
  map_low = omega arith

  log_low : x.log_at ≤ g
  log_low = omega (arith, half_is_at state h)

  map_high : m < x.log_at
  map_high = map_end state h own inside

  order : (x.data_at ≤ x.map_at) × (x.map_at ≤ x.log_at) × (x.log_at ≤ x.total)
  order = in_order x (shape_ok state h)

  at_data : (k : ℕ) → k < length value → get_or left (d + k) 0 ≡ get_or value k 0
  at_data k lt =
      get_or-set_other logged m (d + k) (moved_word state own) 0 (λ e. omega (arith, e, data_below, map_low, lt))
      ∙ run_there filled g pair log_fits (d + k) (inl (omega (arith, data_below, log_low, order.1, lt))) ∙ run_here state.words d value data_fits k lt

  at_log : (k : ℕ) → k < 2 → get_or left (g + k) 0 ≡ get_or pair k 0
  at_log k lt = get_or-set_other logged m (g + k) (moved_word state own) 0 (λ e. omega (arith, e, map_high, log_low)) ∙ run_here filled g pair log_fits k lt

  at_map : get_or left m 0 ≡ moved_word state own
  at_map = get_or-set_same logged m (moved_word state own) 0 (omega (arith, logged_length, map_high, order.2, h.count))

  elsewhere : (i : ℕ) → ((k : ℕ) → k < length value → i ≢ d + k) → i ≢ g → i ≢ g + 1 → i ≢ m → get_or left i 0 ≡ get_or state.words i 0
  elsewhere i runs one two switched =
      get_or-set_other logged m i (moved_word state own) 0 switched
      ∙ run_there filled g pair log_fits i (elim (cases_lt i g) [ inl lt ↦ inl lt | inr le ↦ inr (omega (arith, le, one, two)) ])
      ∙ run_there state.words d value data_fits i (outside d (length value) i runs)

  -- ---- by their places

  data_word : (k : ℕ) → word_of x (SeenData free k) ≡ d + k
  data_word k = omega arith

  a_word : word_of x (SeenA 0 (other (sides_in state 0))) ≡ g
  a_word = omega (arith, half_is_at state h)

  b_word : word_of x (SeenB 0 (other (sides_in state 0))) ≡ g + 1
  b_word = omega (arith, half_is_at state h)

  two : sides_in state 0 < 2
  two = ((is_open state h).current 0 (some state h)).two

  other_two : other (sides_in state 0) < 2
  other_two = omega (arith, two)

  apart : (p : Place) → IsIn x p → ((k : ℕ) → p ≢ SeenData free k) → p ≢ SeenA 0 (other (sides_in state 0)) → p ≢ SeenB 0 (other (sides_in state 0)) → p ≢ SeenMap (own / 2)
      → get_or left (word_of x p) 0 ≡ get_or state.words (word_of x p) 0
  apart p is runs a b switched =
      elsewhere (word_of x p)
      (λ k lt e. runs k (same_place x (shape_ok state h) p (SeenData free k) is (free_in state h, omega (arith, lt, long)) (e ∙ sym (data_word k))))
      (λ e. a (same_place x (shape_ok state h) p (SeenA 0 (other (sides_in state 0))) is (some state h, other_two) (e ∙ sym a_word)))
      (λ e. b (same_place x (shape_ok state h) p (SeenB 0 (other (sides_in state 0))) is (some state h, other_two) (e ∙ sym b_word)))
      (λ e. switched (same_place x (shape_ok state h) p (SeenMap (own / 2)) is (omega (arith, inside)) e))

  pub fixed : SameFixed (shape_in state) state.words (lone_words state own value)
  fixed i f =
      elsewhere i
      (λ k lt e. f.apart (SeenData free k) (free_in state h, omega (arith, lt, long)) (data_word k ∙ sym e))
      (λ e. f.apart (SeenA 0 (other (sides_in state 0))) (some state h, other_two) (a_word ∙ sym e))
      (λ e. f.apart (SeenB 0 (other (sides_in state 0))) (some state h, other_two) (b_word ∙ sym e))
      (λ e. f.apart (SeenMap (own / 2)) (omega (arith, inside)) (sym e))

  -- ---- what each area has

  data_here : (k : ℕ) → k < x.width → (areas_of x left).data_at free k ≡ get_or value k 0
  data_here k lt = ap (λ (i : ℕ). get_or left i 0) (data_word k) ∙ at_data k (omega (arith, lt, long))

  data_there : (c k : ℕ) → c < x.sectors + x.lanes → k < x.width → c ≢ free → (areas_of x left).data_at c k ≡ (areas_in state).data_at c k
  data_there c k lc lk ne = apart (SeenData c k) (lc, lk) (λ j e. ne (let q = e in cc)) (λ e. let q = e in cc) (λ e. let q = e in cc) (λ e. let q = e in cc)

  map_here : (areas_of x left).map_at (own / 2) ≡ with_entry ((areas_in state).map_at (own / 2)) own (normal free)
  unfolding normal
  map_here = at_map

  map_there : (w : ℕ) → 2 * w < x.sectors → w ≢ own / 2 → (areas_of x left).map_at w ≡ (areas_in state).map_at w
  map_there w lt ne = apart (SeenMap w) lt (λ j e. let q = e in cc) (λ e. let q = e in cc) (λ e. let q = e in cc) (λ e. ne (let q = e in cc))

  a_here : (areas_of x left).log_a 0 (other (sides_in state 0)) ≡ word_a own (mapped (areas_in state).map_at own)
  unfolding word_a
  a_here = ap (λ (i : ℕ). get_or left i 0) (let e : word_of x (SeenA 0 (other (sides_in state 0))) ≡ g + 0 = omega (arith, a_word) in e) ∙ at_log 0 (omega arith) ∙ ap (λ (b : ℕ). own + 2 ^ 32 * b) (block_is state h own)

  b_here : (areas_of x left).log_b 0 (other (sides_in state 0)) ≡ word_b free (next_seq (half_at (areas_in state) 0 (sides_in state 0)).seq)
  unfolding word_b next_seq
  b_here = ap (λ (i : ℕ). get_or left i 0) b_word ∙ at_log 1 (omega arith) ∙ ap (λ (q : ℕ). word_b free (next_seq q)) (seq_is state h)

  b_same : (areas_of x left).log_b 0 (sides_in state 0) ≡ (areas_in state).log_b 0 (sides_in state 0)
  b_same = apart (SeenB 0 (sides_in state 0)) (some state h, two) (λ j e. let q = e in cc) (λ e. let q = e in cc) (λ e. omega (arith, two, let q : sides_in state 0 ≡ other (sides_in state 0) = cc in q)) (λ e. let q = e in cc)

  a_there : (l side : ℕ) → l < x.lanes → side < 2 → l ≢ 0 → (areas_of x left).log_a l side ≡ (areas_in state).log_a l side
  a_there l side lt small ne = apart (SeenA l side) (lt, small) (λ j e. let q = e in cc) (λ e. ne (let q = e in cc)) (λ e. let q = e in cc) (λ e. let q = e in cc)

  b_there : (l side : ℕ) → l < x.lanes → side < 2 → l ≢ 0 → (areas_of x left).log_b l side ≡ (areas_in state).log_b l side
  b_there l side lt small ne = apart (SeenB l side) (lt, small) (λ j e. let q = e in cc) (λ e. let q = e in cc) (λ e. ne (let q = e in cc)) (λ e. let q = e in cc)

  pub changed : Changed (geometry (shape_in state)) (areas_in state) (areas_of (shape_in state) (lone_words state own value)) (sides_in state) own value
  changed = record {
    data_here = subst (λ (f : ℕ). (k : ℕ) → k < x.width → (areas_of x left).data_at f k ≡ get_or value k 0) (free_is state h) data_here;
    data_there = subst (λ (f : ℕ). (c k : ℕ) → c < x.sectors + x.lanes → k < x.width → c ≢ f → (areas_of x left).data_at c k ≡ (areas_in state).data_at c k) (free_is state h) data_there;
    map_here = map_here ∙ ap (λ (f : ℕ). with_entry ((areas_in state).map_at (own / 2)) own (normal f)) (free_is state h);
    map_there = map_there;
    a_here = a_here;
    b_here = b_here ∙ ap (λ (f : ℕ). word_b f (next_seq (half_at (areas_in state) 0 (sides_in state 0)).seq)) (free_is state h);
    b_same = b_same;
    a_there = a_there;
    b_there = b_there;
  }
