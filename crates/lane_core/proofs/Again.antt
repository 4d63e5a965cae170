-- An arena's words after a power cut open as this arena.
use Rattle.std.proofs.Common.{◌≡◌, ◌≢◌, ℕ, zero, suc, ◌+◌, ◌*◌, ◌/◌, ◌<◌, ◌≤◌, ◌-◌, ◌⊎◌, Bool, true, false, not, cond, eqb, List, [], ◌∷◌, ◌++◌, length, map, take, get_or, slice_set, None, Ok, refl, sym, ap, ap₂, ◌∙◌, subst, inl, inr, arith, append-nil, get_or-set_same, get_or-set_other, if◌then◌else◌}
use Rattle.std.specs.Prelude.{◌&&◌, ◌==◌, filter}
use Rattle.std.specs.List.{list_all, range_with_len}
use Rattle.std.proofs.lemmas.Bool.{cases_lt, eq-eqb, ne_eqb}
use Rattle.std.proofs.lemmas.List.{ext_get_or, get_or_append_left, get_or-append_right, get_or-take, length-append, length-map, length-take-le, get_or-map}
use Rattle.std.proofs.lemmas.List.FromFn.{filter_of_map_range_with_len_more, get_or-map-range_with_len, length-map-range_with_len}
use Rattle.cut_words.specs.WordBytes.{bytes_of}
use Rattle.arena_layout.specs.declared.info.Info.{Info}
use Rattle.arena_layout.specs.declared.layout.Layout.{Layout}
use Rattle.arena_layout.specs.Info.{info_reading}
use Rattle.arena_layout.specs.Layout.{IsLayout}
use Rattle.flog.specs.declared.group.Group.{Group}
use Rattle.flog.specs.declared.half.Half.{Half}
use Rattle.flog.specs.Group.{is_padded, group_reading, out_of_range, StandsFor}
use Rattle.flog.specs.Group.{half_in as group_half}
use Rattle.map_table.specs.Blocks.{block_check, blocks_from, blocks_of}
use Rattle.map_table.specs.Entry.{entry_in, entry_of, normal_of}
use Rattle.arena_open.specs.declared.opened.Opened.{Opened}
use Rattle.arena_open.specs.Places.{group_words}
use Rattle.arena_open.specs.Reading.{cell_with, free_of, groups_in, groups_of, info_bytes, map_in, moved, moves_of, on_blocks, on_map, opened_with, opening, with_group}
use Rattle.arena_open.specs.Reading.{entry_at as found_entry, is_pending as is_found_pending}
use Rattle.arena_open.proofs.Apart.{ordered}
use Rattle.arena_open.proofs.OnceMore.{block_index, length_blocks, length_moved}
use Rattle.arena_open.proofs.Opening.{length_map, opening_map}
use Rattle.arena_open.proofs.Ranges.{map_map}
use Rattle.lane_core.specs.Areas.{Areas, IsNewer, block_in, entry_at, half_in, mapped, normal, seq_in}
use Rattle.lane_core.specs.Arenas.{areas_of, no_group}
use Rattle.lane_core.specs.Cut.{EachOnce, IsCurrent, half_at, is_pending, recovered_entry}
use Rattle.lane_core.specs.Fixed.{IsFixed, SameFixed}
use Rattle.lane_core.specs.Invariant.{Sized}
use Rattle.lane_core.specs.Machine.{other}
use Rattle.lane_core.specs.Places.{Place, SeenData, KeptData, SeenMap, KeptMap, SeenA, KeptA, SeenB, KeptB, Reader, Lock, IsIn, geometry, shape_of, word_of}
use Rattle.lane_core.specs.History.{cell_in}
use Rattle.lane_core.proofs.Cells.{cell_is}
use Rattle.lane_core.proofs.Groups.{groups_each, half_one, half_zero, read_group}
use Rattle.lane_core.proofs.Naming.{once_checked}
use Rattle.lane_core.proofs.Past.{cell_in-words}
use Rattle.lane_core.proofs.Places.{after_info, data_in, in_order}
use Rattle.lane_core.proofs.Put.{same_or_not}
use Rattle.lane_core.proofs.Shapes.{shape_is}
use Rattle.lane_core.proofs.Stands.{range_none, stands_one, stands_zero}

moved_grown : (entries : List ℕ) (moves : List Half) (half : Half) → moved entries (moves ++ half ∷ []) ≡ slice_set (moved entries moves) half.lba (normal_of half.new)
moved_grown entries [] half = refl
moved_grown entries (h ∷ moves) half = moved_grown (slice_set entries h.lba (normal_of h.new)) moves half

module _ (l : Layout) (ok : IsLayout l) (was left behind : List ℕ) (was_size : length was ≡ l.size / 8) (size : length left ≡ l.size / 8) (fixed : SameFixed (shape_of l) was left) where
  abbrev all : List ℕ
  all = left ++ behind

  abbrev areas : Areas
  areas = areas_of (shape_of l) left

  in_left : (i : ℕ) → i < l.size / 8 → get_or all i 0 ≡ get_or left i 0
  in_left i lt = get_or_append_left left behind 0 i (omega (arith, size))

  -- ---- the info block

  info_fixed : (i : ℕ) → i < 512 → IsFixed (shape_of l) i
  info_fixed i lt = record {
    inside = omega (arith, ordered l ok);
    apart = λ p m e. let a = after_info (shape_of l) (shape_is l ok) p m in let b = (ordered l ok).after_info in omega arith;
  }

  first_of : (words : List ℕ) → length words ≡ l.size / 8 → length (take 512 (words ++ behind)) ≡ 512
  first_of words n = length-take-le 512 (words ++ behind) (omega (arith, length-append words behind, n, ordered l ok))

  first_same : take 512 all ≡ take 512 (was ++ behind)
  first_same = ext_get_or 0 (take 512 all) (take 512 (was ++ behind)) (first_of left size ∙ sym (first_of was was_size)) (λ i lt. each i (subst (λ n. i < n) (first_of left size) lt))
    where
      each : (i : ℕ) → i < 512 → get_or (take 512 (left ++ behind)) i 0 ≡ get_or (take 512 (was ++ behind)) i 0
      each i lt =
          get_or-take 512 all i 0 lt ∙ in_left i (info_fixed i lt).inside ∙ fixed i (info_fixed i lt)
          ∙ sym (get_or_append_left was behind 0 i (omega (arith, was_size, (info_fixed i lt).inside))) ∙ sym (get_or-take 512 (was ++ behind) i 0 lt)

  length_same : length all ≡ length (was ++ behind)
  length_same = omega (arith, length-append left behind, length-append was behind, size, was_size)

  pub info_same : (parent : List ℕ) → info_reading (info_bytes all) parent (8 * length all) ≡ info_reading (info_bytes (was ++ behind)) parent (8 * length (was ++ behind))
  info_same parent = λ i. info_reading (bytes_of (first_same i)) parent (8 * length_same i)

  -- ---- the log

  module _ (gs : List Group) (groups : groups_in l was ≡ Ok gs) (sides : ℕ → ℕ) (current : (k : ℕ) → k < l.lanes → IsCurrent areas k (sides k)) (sized : (k : ℕ) → k < l.lanes → Sized (geometry (shape_of l)) (half_at areas k (sides k))) where
    abbrev half : ℕ → Half
    half k = half_at areas k (sides k)

    abbrev group_at : ℕ → Group
    group_at k = record { side = sides k; half = half k }

    -- behind a lane's two halves stands padding
    padding_fixed : (k j : ℕ) → k < l.lanes → 4 ≤ j → j < 8 → IsFixed (shape_of l) (l.flog_off / 8 + (8 * k + j))
    padding_fixed k j lk low high = record {
      inside = omega (arith, ordered l ok);
      apart = λ p m e. off p m e;
    }
      where
        o : ((shape_of l).data_at ≤ (shape_of l).map_at) × ((shape_of l).map_at ≤ (shape_of l).log_at) × ((shape_of l).log_at ≤ (shape_of l).total)
        o = in_order (shape_of l) (shape_is l ok)

        inside : l.flog_off / 8 + (8 * k + j) < l.size / 8
        inside = omega (arith, ordered l ok)

        off : (p : Place) → IsIn (shape_of l) p → word_of (shape_of l) p ≢ l.flog_off / 8 + (8 * k + j)
        off (SeenData b i) m e = let a = data_in (shape_of l) (shape_is l ok) b i m.0 m.1 in omega (arith, a, o, e)
        off (SeenMap w) m e = let a = (ordered l ok).after_map in omega (arith, a, m, e)
        off (SeenA n s) m e = omega (arith, m.1, e)
        off (SeenB n s) m e = omega (arith, m.1, e)
        off (KeptData b i) m e = omega (arith, inside, e)
        off (KeptMap w) m e = omega (arith, inside, e)
        off (KeptA n s) m e = omega (arith, inside, e)
        off (KeptB n s) m e = omega (arith, inside, e)
        off (Reader n) m e = omega (arith, inside, e)
        off (Lock n) m e = omega (arith, inside, e)

    padding_same : (k j : ℕ) → k < l.lanes → 4 ≤ j → j < 8 → get_or all (l.flog_off / 8 + (8 * k + j)) 0 ≡ get_or was (l.flog_off / 8 + (8 * k + j)) 0
    padding_same k j lk low high = let f = padding_fixed k j lk low high in in_left (l.flog_off / 8 + (8 * k + j)) f.inside ∙ fixed (l.flog_off / 8 + (8 * k + j)) f

    padded : (k : ℕ) → k < l.lanes → is_padded (group_words l all k) ≡ true
    unfolding is_padded
    padded k lk = same ∙ (read_group (group_words l was k) l.external l.internal (get_or gs k no_group) ((groups_each l was gs groups).1 k lk)).padded
      where
        same : is_padded (group_words l (left ++ behind) k) ≡ is_padded (group_words l was k)
        same = λ i. list_all (λ word. word == 0) (
            padding_same k 4 lk (omega arith) (omega arith) i ∷ padding_same k 5 lk (omega arith) (omega arith) i ∷ padding_same k 6 lk (omega arith) (omega arith) i
            ∷ padding_same k 7 lk (omega arith) (omega arith) i ∷ [])

    -- a lane's half in the arena's words is that in all words
    half_same : (k s : ℕ) → k < l.lanes → s < 2 → half_at (areas_of (shape_of l) all) k s ≡ half_at areas k s
    half_same k s lk ls = ap₂ half_in (in_left (l.flog_off / 8 + 8 * k + 2 * s) (omega (arith, ordered l ok))) (in_left (l.flog_off / 8 + 8 * k + 2 * s + 1) (omega (arith, ordered l ok)))

    side_is : (s : ℕ) → s < 2 → (s ≡ 0) ⊎ (s ≡ 1)
    side_is s lt = elim (same_or_not s 0) [ inl e ↦ inl e | inr ne ↦ inr (omega arith) ]

    stands : (k : ℕ) → k < l.lanes → StandsFor (group_words l all k) l.external l.internal (group_at k)
    stands k lk =
        elim (side_is (sides k) (current k lk).two) [
          | inl e ↦ subst (λ s. StandsFor (group_words l all k) l.external l.internal (record { side = s; half = half_at areas k s })) (sym e)
              (stands_zero (group_words l all k) l.external l.internal (half_at areas k 0) (half_at areas k 1) (padded k lk) is0 is1
              (subst (λ s. IsNewer (seq_in (areas.log_b k s)) (seq_in (areas.log_b k (other s)))) e (current k lk).newer) (range 0 e))
          | inr e ↦ subst (λ s. StandsFor (group_words l all k) l.external l.internal (record { side = s; half = half_at areas k s })) (sym e)
              (stands_one (group_words l all k) l.external l.internal (half_at areas k 0) (half_at areas k 1) (padded k lk) is0 is1
              (subst (λ s. IsNewer (seq_in (areas.log_b k s)) (seq_in (areas.log_b k (other s)))) e (current k lk).newer) (range 1 e))
        ]
      where
        is0 : group_half (group_words l all k) 0 ≡ half_at areas k 0
        is0 = half_zero l all k ∙ half_same k 0 lk (omega arith)

        is1 : group_half (group_words l all k) 1 ≡ half_at areas k 1
        is1 = half_one l all k ∙ half_same k 1 lk (omega arith)

        range : (s : ℕ) → sides k ≡ s → out_of_range l.external l.internal (half_at areas k s) ≡ None
        range s e =
            let z : Sized (geometry (shape_of l)) (half_at areas k s) = subst (λ s. Sized (geometry (shape_of l)) (half_at areas k s)) e (sized k lk) in
            range_none l.external l.internal (half_at areas k s) (subst (λ n. (half_at areas k s).old < n) (sym ok.internal_is) z.old) (subst (λ n. (half_at areas k s).new < n) (sym ok.internal_is) z.new) z.lba

    groups_at : (a n : ℕ) → a + n ≤ l.lanes → groups_of l all (range_with_len a n) ≡ Ok (map group_at (range_with_len a n))
    groups_at a zero le = refl
    groups_at a (suc n) le =
        let here : group_reading (group_words l all a) l.external l.internal ≡ Ok (group_at a) = stands a (omega arith) in
        let more : groups_of l all (range_with_len (a + 1) n) ≡ Ok (map group_at (range_with_len (a + 1) n)) = groups_at (a + 1) n (omega arith) in
        λ i. with_group a (here i) (more i)

    abbrev found_groups : List Group
    found_groups = map group_at (range_with_len 0 l.lanes)

    groups_left : groups_in l all ≡ Ok found_groups
    groups_left = groups_at 0 l.lanes (omega arith)

    -- ---- the map

    abbrev entries : List ℕ
    entries = map_in l all

    entry_index : (t : ℕ) → t < l.external → get_or entries t 0 ≡ entry_at areas.map_at t
    entry_index t lt =
        get_or-map-range_with_len (found_entry l all) 0 l.external t t 0 lt (omega arith)
        ∙ ap (λ w. entry_in w t) (in_left (l.map_off / 8 + t / 2) (omega (arith, ordered l ok)))

    pending_same : (k : ℕ) → k < l.lanes → is_found_pending entries (half k) ≡ is_pending areas (half k)
    unfolding block_in
    pending_same k lk = elim (sized k lk).lba [
      | inl e ↦ none (eqb (entry_of (get_or entries (half k).lba 0) (half k).lba).block (half k).old) (eqb (mapped areas.map_at (half k).lba) (half k).old) (eq-eqb (half k).old (half k).new e)
      | inr lt ↦ ap (λ w. not ((half k).old == (half k).new) && ((entry_of w (half k).lba).block == (half k).old)) (entry_index (half k).lba lt)
    ]
      where
        none : (a b : Bool) → eqb (half k).old (half k).new ≡ true → (not (eqb (half k).old (half k).new) && a) ≡ (not (eqb (half k).old (half k).new) && b)
        none a b e = rw e refl

    -- the pending moves of the first n lanes
    abbrev moves_at : ℕ → List Half
    moves_at n = filter (is_found_pending entries) (map half (range_with_len 0 n))

    moves_grown : (n : ℕ) → moves_at (suc n) ≡ moves_at n ++ cond (is_found_pending entries (half n)) (half n ∷ []) []
    moves_grown n = ap moves_at (add-one' n) ∙ filter_of_map_range_with_len_more (is_found_pending entries) half 0 n n (omega arith)
      where
        add-one' : (n : ℕ) → suc n ≡ n + 1
        add-one' n = omega arith

    moves_are : moves_of entries found_groups ≡ moves_at l.lanes
    moves_are = ap (filter (is_found_pending entries)) (map_map (λ (g : Group). g.half) group_at (range_with_len 0 l.lanes))

    made_length : (n : ℕ) → length (moved entries (moves_at n)) ≡ l.external
    made_length n = length_moved entries (moves_at n) ∙ length_map l all

    made_index : (n : ℕ) → n ≤ l.lanes → (t : ℕ) → t < l.external → get_or (moved entries (moves_at n)) t 0 ≡ recovered_entry areas sides n t
    unfolding recovered_entry normal
    made_index zero le t lt = entry_index t lt
    made_index (suc n) le t lt =
        ap (λ ms. get_or (moved entries ms) t 0) (moves_grown n) ∙ ap (λ b. get_or (moved entries (moves_at n ++ cond b (half n ∷ []) [])) t 0) (pending_same n (omega arith))
        ∙ go (is_pending areas (half n)) (made_index n (omega arith) t lt)
      where
        go : (b : Bool) → get_or (moved entries (moves_at n)) t 0 ≡ recovered_entry areas sides n t
            → get_or (moved entries (moves_at n ++ cond b (half n ∷ []) [])) t 0 ≡ (if b && ((half n).lba == t) then normal (half n).new else recovered_entry areas sides n t)
        go false before = ap (λ ms. get_or (moved entries ms) t 0) (append-nil (moves_at n)) ∙ before
        go true before = ap (λ es. get_or es t 0) (moved_grown entries (moves_at n) (half n)) ∙ elim (same_or_not t (half n).lba) [
          | inl e ↦ ap (λ i. get_or (slice_set (moved entries (moves_at n)) (half n).lba (normal_of (half n).new)) i 0) e
              ∙ get_or-set_same (moved entries (moves_at n)) (half n).lba (normal_of (half n).new) 0 (omega (arith, made_length n, e, lt))
              ∙ rw (eq-eqb (half n).lba t (sym e)) refl
          | inr ne ↦ get_or-set_other (moved entries (moves_at n)) (half n).lba t (normal_of (half n).new) 0 ne ∙ before ∙ rw (ne_eqb (half n).lba t (λ q. ne (sym q))) refl
        ]

    -- ---- the blocks

    module _ (once : EachOnce (geometry (shape_of l)) (λ t. block_in (recovered_entry areas sides l.lanes t) t) (λ k. (half_at areas k (sides k)).old)) where
      abbrev made : List ℕ
      made = moved entries (moves_at l.lanes)

      abbrev blocks : List ℕ
      blocks = blocks_of made (free_of found_groups)

      from_length : length (blocks_from 0 made) ≡ l.external
      from_length = length_blocks 0 made ∙ made_length l.lanes

      lanes_length : length found_groups ≡ l.lanes
      lanes_length = length-map-range_with_len group_at 0 l.lanes

      all_length : length blocks ≡ l.internal
      all_length = length-append (blocks_from 0 made) (free_of found_groups) ∙ omega (arith, from_length, length-map found_groups (λ (g : Group). g.half.old), lanes_length, ok.internal_is)

      sector_block : (t : ℕ) → t < l.external → get_or blocks t 0 ≡ block_in (recovered_entry areas sides l.lanes t) t
      unfolding block_in
      sector_block t lt =
          get_or_append_left (blocks_from 0 made) (free_of found_groups) 0 t (omega (arith, from_length))
          ∙ block_index 0 made t (omega (arith, made_length l.lanes))
          ∙ ap (λ (e : ℕ). (entry_of e (0 + t)).block) (made_index l.lanes (omega arith) t lt)
          ∙ ap (λ (i : ℕ). (entry_of (recovered_entry areas sides l.lanes t) i).block) (let e : 0 + t ≡ t = omega arith in e)

      lane_block : (k : ℕ) → k < l.lanes → get_or blocks (l.external + k) 0 ≡ (half k).old
      lane_block k lk =
          get_or-append_right (blocks_from 0 made) (free_of found_groups) l.external (l.external + k) 0 from_length (omega arith)
          ∙ ap (λ i. get_or (free_of found_groups) i 0) (let e : l.external + k - l.external ≡ k = omega arith in e)
          ∙ get_or-map (λ (g : Group). g.half.old) found_groups k no_group 0 (omega (arith, lanes_length))
          ∙ ap (λ (g : Group). g.half.old) (get_or-map-range_with_len group_at 0 l.lanes k k no_group lk (omega arith))

      -- a place is a sector's or a lane's
      which : (i : ℕ) → i < l.internal → (i < l.external) ⊎ ((k : ℕ) × (k < l.lanes) × (i ≡ l.external + k))
      which i lt = elim (cases_lt i l.external) [
        | inl low ↦ inl low
        | inr high ↦ inr (i - l.external, omega (arith, ok.internal_is), omega arith)
      ]

      below : (i : ℕ) → i < l.internal → get_or blocks i 0 < l.internal
      below i lt = subst (λ n. get_or blocks i 0 < n) (sym ok.internal_is) (elim (which i lt) [
        | inl low ↦ subst (λ b. b < l.external + l.lanes) (sym (sector_block i low)) (once.sector_in i low)
        | inr w ↦ subst (λ b. b < l.external + l.lanes) (sym (ap (λ i. get_or blocks i 0) w.2 ∙ lane_block w.0 w.1)) (once.lane_in w.0 w.1)
      ])

      one_place : (i j : ℕ) → i < l.internal → j < l.internal → get_or blocks i 0 ≡ get_or blocks j 0 → i ≡ j
      one_place i j li lj e = elim (which i li) [
        | inl a ↦ elim (which j lj) [
          | inl b ↦ once.sector_once i j a b (sym (sector_block i a) ∙ e ∙ sector_block j b)
          | inr b ↦ absurd (once.apart i b.0 a b.1 (sym (sector_block i a) ∙ e ∙ ap (λ i. get_or blocks i 0) b.2 ∙ lane_block b.0 b.1))
        ]
        | inr a ↦ elim (which j lj) [
          | inl b ↦ absurd (once.apart j a.0 b a.1 (sym (sector_block j b) ∙ sym e ∙ ap (λ i. get_or blocks i 0) a.2 ∙ lane_block a.0 a.1))
          | inr b ↦ a.2 ∙ ap (λ k. l.external + k) (once.lane_once a.0 b.0 a.1 b.1 (sym (ap (λ i. get_or blocks i 0) a.2 ∙ lane_block a.0 a.1) ∙ e ∙ ap (λ i. get_or blocks i 0) b.2 ∙ lane_block b.0 b.1)) ∙ sym b.2
        ]
      ]

      -- ---- the whole

      abbrev pub found_arena : Info → Opened
      found_arena info = opened_with info found_groups made (moves_at l.lanes)

      pub left_opens : (parent : List ℕ) (info : Info) → info.layout ≡ l → info_reading (info_bytes (was ++ behind)) parent (8 * length (was ++ behind)) ≡ Ok info → opening all parent ≡ Ok (found_arena info)
      left_opens parent info same reads =
          opening_map all parent info found_groups (info_same parent ∙ reads) (ap (λ (l : Layout). groups_in l all) same ∙ groups_left)
          ∙ ap (λ (l : Layout). on_map info found_groups (map_in l all)) same
          ∙ ap (λ ms. on_blocks (opened_with info found_groups (moved entries ms) ms) (block_check info.layout.internal (blocks_of (moved entries ms) (free_of found_groups)))) moves_are
          ∙ ap (λ n. on_blocks (found_arena info) (block_check n blocks)) (ap (λ (l : Layout). l.internal) same)
          ∙ ap (on_blocks (found_arena info)) (once_checked l.internal blocks all_length below one_place)

      -- the cell of a sector there is that of its recovered entry
      pub found_cell_is : (t : ℕ) → t < l.external → cell_with l all (entry_of (get_or made t 0) t) ≡ cell_in (l.sector / 8) areas.data_at (recovered_entry areas sides l.lanes t) t
      found_cell_is t lt =
          ap (λ e. cell_with l all (entry_of e t)) (made_index l.lanes (omega arith) t lt) ∙ cell_is l all (recovered_entry areas sides l.lanes t) t
          ∙ cell_in-words (l.sector / 8) (areas_of (shape_of l) all).data_at areas.data_at (recovered_entry areas sides l.lanes t) t (λ j lj.
          let a = data_in (shape_of l) (shape_is l ok) (block_in (recovered_entry areas sides l.lanes t) t) j (once.sector_in t lt) lj in
          let o = in_order (shape_of l) (shape_is l ok) in
          in_left (l.data_off / 8 + block_in (recovered_entry areas sides l.lanes t) t * (l.inner / 8) + j) (omega (arith, a, o)))
