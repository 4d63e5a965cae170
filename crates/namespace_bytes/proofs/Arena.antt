-- An arena after the bytes of all its sectors were put: it opens, without a pending move.
use Rattle.std.proofs.Common.{◌≡◌, ◌≢◌, ◌⊎◌, ℕ, zero, suc, ◌+◌, ◌-◌, ◌*◌, ◌/◌, ◌^◌, ◌<◌, ◌≤◌, Bool, true, false, not, eqb, List, [], ◌∷◌, ◌++◌, length, map, get_or, take, drop, Ok, refl, sym, ap, ◌∙◌, subst, inl, inr, arith}
use Rattle.std.specs.Prelude.{◌&&◌, filter}
use Rattle.std.proofs.Math.ListN.{set}
use Rattle.std.proofs.lemmas.Bool.{cases_eq, cases_lt, eq-eqb, ne_eqb}
use Rattle.std.proofs.lemmas.List.{ext_get_or, get_or-drop, get_or-take, get_or_append_left, length-append, length-drop, length-map, length-take-le}
use Rattle.std.proofs.lemmas.List.Elements.{All-cons, All-head, All-nil, All-tail}
use Rattle.std.proofs.lemmas.List.FromFn.{get_or-map-range_with_len, length-map-range_with_len}
use Rattle.cut_words.specs.WordBytes.{bytes_of, words_in}
use Rattle.arena_layout.specs.declared.layout.Layout.{Layout}
use Rattle.arena_layout.specs.Layout.{IsLayout}
use Rattle.arena_layout.specs.Info.{info_reading}
use Rattle.flog.specs.declared.half.Half.{Half}
use Rattle.flog.specs.declared.group.Group.{Group}
use Rattle.map_table.specs.declared.kinds.MapEntry.{MapEntry}
use Rattle.map_table.specs.declared.kinds.Kind.TheVariants as kind
use Rattle.map_table.specs.Blocks.{block_check, blocks_from, blocks_of}
use Rattle.map_table.specs.Entry.{entry_in, entry_of, normal_of}
use Rattle.map_table.proofs.Entries.{normal_back}
use Rattle.arena_open.specs.declared.cell.Cell.TheVariants as cell
use Rattle.arena_open.specs.declared.opened.Opened.{Opened}
use Rattle.arena_open.specs.declared.state.ArenaState.{ArenaState}
use Rattle.arena_open.specs.Halves.{AreInRange, IsInRange}
use Rattle.arena_open.specs.Moves.{move_write, move_writes, recovered, state_of, with_all_made}
use Rattle.arena_open.specs.Places.{block_word, block_words, group_words, log_word, map_word, value_at, word_of}
use Rattle.arena_open.specs.Reading.{cell_at, cell_with, entry_at, free_of, groups_in, info_bytes, is_pending, map_in, moved, moves_of, on_blocks, opened_with, opening}
use Rattle.arena_open.proofs.Again.{opens_all}
use Rattle.arena_open.proofs.Apart.{ordered}
use Rattle.arena_open.proofs.OnceMore.{Apart, apart_once, block_index, length_blocks, length_moved, not_free}
use Rattle.arena_open.proofs.Opening.{Parts, Sound, lanes_in_range, length_map, opening_map, parts, sound_parts}
use Rattle.arena_open.proofs.Ranges.{map_range}
use Rattle.arena_open.proofs.Rewritten.{groups_same}
use Rattle.arena_open.proofs.Runs.{Misses, over_misses}
use Rattle.arena_open.proofs.States.{own_map}
use Rattle.namespace_bytes.specs.Contents.{IsElse, IsRewritten, block_in}
use Rattle.namespace_bytes.specs.Putting.{arena_bytes, block_at, piece, put_arena}
use Rattle.namespace_bytes.proofs.All.{Beside, So, all_put, none_put, value_long}
use Rattle.namespace_bytes.proofs.One.{block_inside, block_place}

-- ---- lists

none_pass : {X : Type 0} (p : X → Bool) (xs : List X) → ((k : ℕ) (d : X) → k < length xs → p (get_or xs k d) ≡ false) → filter p xs ≡ []
none_pass p [] all = refl
none_pass p (x ∷ xs) all = rw (all 0 x (omega arith)) (none_pass p xs (λ k d lt. all (suc k) d (omega (arith, lt))))

half_in : (groups : List Group) (k : ℕ) (d : Half) → k < length (map (λ (g : Group). g.half) groups) → get_or (free_of groups) k d.old ≡ (get_or (map (λ (g : Group). g.half) groups) k d).old
half_in [] k d lt = refl
half_in (g ∷ groups) zero d lt = refl
half_in (g ∷ groups) (suc k) d lt = half_in groups k d (omega (arith, lt))

range_in : (external : ℕ) (groups : List Group) → AreInRange external groups → (k : ℕ) (d : Half) → k < length (map (λ (g : Group). g.half) groups) → IsInRange external (get_or (map (λ (g : Group). g.half) groups) k d)
range_in external [] all k d lt = absurd (omega (arith, lt))
range_in external (g ∷ groups) all zero d lt = All-head (λ group. IsInRange external group.half) g groups all
range_in external (g ∷ groups) all (suc k) d lt = range_in external groups (All-tail (λ group. IsInRange external group.half) g groups all) k d (omega (arith, lt))

not_and : (a b : Bool) → a ≡ true → not a && b ≡ false
not_and a b e = rw e refl

and_not : (a b : Bool) → b ≡ false → a && b ≡ false
and_not true b e = e
and_not false b e = refl

-- distinct numbers, by place
differ : (xs : List ℕ) (a b : ℕ) → Apart xs → a < b → b < length xs → get_or xs a 0 ≢ get_or xs b 0
differ [] a b apart lt lt' = absurd (omega (arith, lt'))
differ (x ∷ xs) zero zero apart lt lt' = absurd (omega (arith, lt))
differ (x ∷ xs) zero (suc b) apart lt lt' = λ e. apart.0 b 0 (omega (arith, lt')) (sym e)
differ (x ∷ xs) (suc a) zero apart lt lt' = absurd (omega (arith, lt))
differ (x ∷ xs) (suc a) (suc b) apart lt lt' = differ xs a b apart.1 (omega (arith, lt)) (omega (arith, lt'))

-- a word that isn't in the map stays when moves are made
moves_miss : (moves : List Half) (l : Layout) (words : List ℕ) (i : ℕ) → ((w : ℕ) → word_of l (map_word w) ≢ i) → Misses i (move_writes l words moves)
moves_miss [] l words i clear = All-nil (λ w. w.place ≢ i)
moves_miss (half ∷ moves) l words i clear =
    All-cons (λ w. w.place ≢ i) (move_write l words half) (move_writes l (set words (move_write l words half).place (move_write l words half).value) moves) (clear (half.lba / 2))
    (moves_miss moves l (set words (move_write l words half).place (move_write l words half).value) i clear)

-- ---- the arena

module _ (at : ℕ) (o : Opened) (bytes words parent : List ℕ) (opens : opening (drop at words) parent ≡ Ok o) (le : at ≤ length words) (fits : length bytes ≡ arena_bytes o) where
  abbrev old : List ℕ
  old = drop at words

  parts_are : Parts (drop at words) parent o
  parts_are = parts (drop at words) parent o opens

  sound_is : Sound (drop at words) parent o
  sound_is = sound_parts (drop at words) parent o parts_are

  pub ok : IsLayout o.info.layout
  ok = sound_is.arena.sound.layout

  pub inside : at + o.info.layout.size / 8 ≤ length words
  inside = omega (arith, sound_is.arena.size_inside, length-drop at words, le)

  pub entries_long : length o.entries ≡ o.info.layout.external
  entries_long = ap length parts_are.entries_is ∙ length_moved (map_in o.info.layout (drop at words)) o.moves ∙ length_map o.info.layout (drop at words)

  block_is : (own : ℕ) → own < o.info.layout.external → get_or (blocks_from 0 o.entries) own 0 ≡ block_at o.entries own
  block_is own lt =
      block_index 0 o.entries own (omega (arith, lt, entries_long)) ∙ ap (λ (s : ℕ). (entry_of (get_or o.entries own 0) s).block) (let e : 0 + own ≡ own = omega arith in e)

  abbrev named : List ℕ
  named = blocks_of o.entries (free_of o.groups)

  first_long : length (blocks_from 0 o.entries) ≡ o.info.layout.external
  first_long = length_blocks 0 o.entries ∙ entries_long

  named_long : o.info.layout.external ≤ length (blocks_of o.entries (free_of o.groups))
  named_long = omega (arith, length-append (blocks_from 0 o.entries) (free_of o.groups), first_long)

  named_is : (own : ℕ) → own < o.info.layout.external → get_or (blocks_of o.entries (free_of o.groups)) own 0 ≡ block_at o.entries own
  named_is own lt = get_or_append_left (blocks_from 0 o.entries) (free_of o.groups) 0 own (omega (arith, lt, first_long)) ∙ block_is own lt

  pub below : (own : ℕ) → own < o.info.layout.external → block_at o.entries own < o.info.layout.internal
  below own lt = subst (λ (b : ℕ). b < o.info.layout.internal) (named_is own lt) (sound_is.once.below own 0 (omega (arith, lt, named_long)))

  named_apart : Apart (blocks_of o.entries (free_of o.groups))
  named_apart = apart_once o.info.layout.internal (blocks_of o.entries (free_of o.groups)) sound_is.once.below (λ b lt. omega (arith, sound_is.once.once b lt))

  pub apart : (a b : ℕ) → a < o.info.layout.external → b < o.info.layout.external → a ≢ b → block_at o.entries a ≢ block_at o.entries b
  apart a b lt lt' ne e = elim (cases_lt a b) [
    | inl low ↦ differ (blocks_of o.entries (free_of o.groups)) a b named_apart low (omega (arith, lt', named_long)) (named_is a lt ∙ e ∙ sym (named_is b lt'))
    | inr high ↦ differ (blocks_of o.entries (free_of o.groups)) b a named_apart (omega (arith, high, ne)) (omega (arith, lt, named_long)) (named_is b lt' ∙ sym e ∙ sym (named_is a lt))
  ]

  abbrev now : List ℕ
  now = put_arena at o bytes words

  so : So at o bytes words o.info.layout.external (put_arena at o bytes words)
  so = all_put at o bytes words ok inside fits below apart o.info.layout.external 0 words (omega arith) (none_put at o bytes words)

  abbrev new : List ℕ
  new = drop at (put_arena at o bytes words)

  -- ---- the areas beside the map and the blocks

  -- a word outside the blocks and the map
  outside : (i : ℕ) → (i < at + o.info.layout.data_off / 8) ⊎ (at + o.info.layout.flog_off / 8 ≤ i) → Beside at o bytes words o.info.layout.external i
  outside i out = record {
    no_map = λ own lt e. elim out [
      | inl low ↦ omega (arith, low, e, ordered o.info.layout ok)
      | inr high ↦ omega (arith, high, e, lt, ordered o.info.layout ok)
    ];
    no_block = λ own lt. elim out [
      | inl low ↦ inl (omega (arith, low))
      | inr high ↦ inr (omega (arith, high, block_inside at o.info.layout (block_at o.entries own) ok (below own lt), ok.inner_enough, ordered o.info.layout ok))
    ];
  }

  same_at : (i : ℕ) → Beside at o bytes words o.info.layout.external (at + i) → get_or (drop at (put_arena at o bytes words)) i 0 ≡ get_or (drop at words) i 0
  same_at i b = get_or-drop at (put_arena at o bytes words) i 0 ∙ so.rest (at + i) b ∙ sym (get_or-drop at words i 0)

  long_now : length (drop at (put_arena at o bytes words)) ≡ length (drop at words)
  long_now = length-drop at (put_arena at o bytes words) ∙ ap (λ (n : ℕ). n - at) so.size ∙ sym (length-drop at words)

  info_same : info_bytes (drop at (put_arena at o bytes words)) ≡ info_bytes (drop at words)
  info_same = ap bytes_of (ext_get_or 0 (take 512 (drop at (put_arena at o bytes words))) (take 512 (drop at words)) (a ∙ sym b) (λ i lt. one i (omega (arith, lt, a))))
    where
      room : 512 ≤ length (drop at words)
      room = omega (arith, length-drop at words, inside, ordered o.info.layout ok)

      a : length (take 512 (drop at (put_arena at o bytes words))) ≡ 512
      a = length-take-le 512 (drop at (put_arena at o bytes words)) (omega (arith, long_now, room))

      b : length (take 512 (drop at words)) ≡ 512
      b = length-take-le 512 (drop at words) room

      one : (i : ℕ) → i < 512 → get_or (take 512 (drop at (put_arena at o bytes words))) i 0 ≡ get_or (take 512 (drop at words)) i 0
      one i lt =
          get_or-take 512 (drop at (put_arena at o bytes words)) i 0 lt
          ∙ same_at i (outside (at + i) (inl (omega (arith, lt, ordered o.info.layout ok))))
          ∙ sym (get_or-take 512 (drop at words) i 0 lt)

  group_same : (lane : ℕ) → lane < o.info.layout.lanes → group_words o.info.layout (drop at (put_arena at o bytes words)) lane ≡ group_words o.info.layout (drop at words) lane
  group_same lane lt =
      map_range (λ k. value_at o.info.layout (drop at (put_arena at o bytes words)) (log_word lane k)) (λ k. value_at o.info.layout (drop at words) (log_word lane k)) 0 8
      (λ k low high. same_at (o.info.layout.flog_off / 8 + (8 * lane + k)) (outside (at + (o.info.layout.flog_off / 8 + (8 * lane + k))) (inr (omega arith))))

  -- ---- the map

  entry_is : (own : ℕ) → own < o.info.layout.external → entry_at o.info.layout (drop at (put_arena at o bytes words)) own ≡ normal_of (block_at o.entries own)
  entry_is own lt =
      ap (λ (w : ℕ). entry_in w own) (get_or-drop at (put_arena at o bytes words) (o.info.layout.map_off / 8 + own / 2) 0
      ∙ ap (λ (i : ℕ). get_or (put_arena at o bytes words) i 0) (let e : at + (o.info.layout.map_off / 8 + own / 2) ≡ at + o.info.layout.map_off / 8 + own / 2 = omega arith in e))
      ∙ so.entries own lt

  small : (own : ℕ) → own < o.info.layout.external → block_at o.entries own < 2 ^ 30
  small own lt = omega (arith, below own lt, ok.internal_few)

  map_at : (own : ℕ) → own < o.info.layout.external → get_or (map_in o.info.layout (drop at (put_arena at o bytes words))) own 0 ≡ normal_of (block_at o.entries own)
  map_at own lt =
      get_or-map-range_with_len (entry_at o.info.layout (drop at (put_arena at o bytes words))) 0 o.info.layout.external own own 0 lt (omega arith) ∙ entry_is own lt

  map_block : (own sector : ℕ) → own < o.info.layout.external → (entry_of (get_or (map_in o.info.layout (drop at (put_arena at o bytes words))) own 0) sector).block ≡ block_at o.entries own
  map_block own sector lt =
      ap (λ (w : ℕ). (entry_of w sector).block) (map_at own lt) ∙ ap (λ (e : MapEntry). e.block) (normal_back (block_at o.entries own) sector (small own lt))

  blocks_same : blocks_from 0 (map_in o.info.layout (drop at (put_arena at o bytes words))) ≡ blocks_from 0 o.entries
  blocks_same =
      ext_get_or 0 (blocks_from 0 (map_in o.info.layout (drop at (put_arena at o bytes words)))) (blocks_from 0 o.entries)
      (new_long ∙ sym first_long)
      (λ own lt. let in' : own < o.info.layout.external = omega (arith, lt, new_long) in
      block_index 0 (map_in o.info.layout (drop at (put_arena at o bytes words))) own (omega (arith, in', length_map o.info.layout (drop at (put_arena at o bytes words))))
      ∙ map_block own (0 + own) in' ∙ sym (block_is own in'))
    where
      new_long : length (blocks_from 0 (map_in o.info.layout (drop at (put_arena at o bytes words)))) ≡ o.info.layout.external
      new_long = length_blocks 0 (map_in o.info.layout (drop at (put_arena at o bytes words))) ∙ length_map o.info.layout (drop at (put_arena at o bytes words))

  -- no move is pending
  not_pending : (k : ℕ) (d : Half) → k < length (map (λ (g : Group). g.half) o.groups)
      → is_pending (map_in o.info.layout (drop at (put_arena at o bytes words))) (get_or (map (λ (g : Group). g.half) o.groups) k d) ≡ false
  not_pending k d lt =
      let half : Half = get_or (map (λ (g : Group). g.half) o.groups) k d in
      elim (cases_eq (get_or (map (λ (g : Group). g.half) o.groups) k d).old (get_or (map (λ (g : Group). g.half) o.groups) k d).new) [
        | inl same ↦ not_and (eqb (get_or (map (λ (g : Group). g.half) o.groups) k d).old (get_or (map (λ (g : Group). g.half) o.groups) k d).new) _ (eq-eqb _ _ same)
        | inr ne ↦
            let move = range_in o.info.layout.external o.groups (lanes_in_range o.info.layout (drop at words) o.groups ok parts_are.groups_is) k d lt ne in
            and_not (not (eqb (get_or (map (λ (g : Group). g.half) o.groups) k d).old (get_or (map (λ (g : Group). g.half) o.groups) k d).new)) _
            (ne_eqb _ (get_or (map (λ (g : Group). g.half) o.groups) k d).old
            (λ e. not_free o.info.layout.internal o.entries (free_of o.groups) (get_or (map (λ (g : Group). g.half) o.groups) k d).lba k d.old sound_is.once (omega (arith, move.sector, entries_long))
            (omega (arith, lt, length-map o.groups (λ (g : Group). g.half), length-map o.groups (λ (g : Group). g.half.old)))
            (sym (map_block (get_or (map (λ (g : Group). g.half) o.groups) k d).lba (get_or (map (λ (g : Group). g.half) o.groups) k d).lba move.sector) ∙ e ∙ sym (half_in o.groups k d lt))))
      ]

  none_pending : moves_of (map_in o.info.layout (drop at (put_arena at o bytes words))) o.groups ≡ []
  none_pending = none_pass (is_pending (map_in o.info.layout (drop at (put_arena at o bytes words)))) (map (λ (g : Group). g.half) o.groups) not_pending

  -- ---- it opens

  abbrev pub put_opened : Opened
  put_opened = opened_with o.info o.groups (map_in o.info.layout (drop at (put_arena at o bytes words))) []

  pub opens_now : opening (drop at (put_arena at o bytes words)) parent ≡ Ok (opened_with o.info o.groups (map_in o.info.layout (drop at (put_arena at o bytes words))) [])
  opens_now =
      let info : info_reading (info_bytes (drop at (put_arena at o bytes words))) parent (8 * length (drop at (put_arena at o bytes words))) ≡ Ok o.info =
      (λ i. info_reading (info_same i) parent (8 * long_now i)) ∙ parts_are.info_is in
      let groups : groups_in o.info.layout (drop at (put_arena at o bytes words)) ≡ Ok o.groups =
      groups_same o.info.layout (drop at words) (drop at (put_arena at o bytes words)) 0 o.info.layout.lanes group_same (omega arith) ∙ parts_are.groups_is in
      opening_map (drop at (put_arena at o bytes words)) parent o.info o.groups info groups
      ∙ ap (λ (ms : List Half). on_blocks (opened_with o.info o.groups (moved (map_in o.info.layout (drop at (put_arena at o bytes words))) ms) ms)
      (block_check o.info.layout.internal (blocks_of (moved (map_in o.info.layout (drop at (put_arena at o bytes words))) ms) (free_of o.groups)))) none_pending
      ∙ ap (λ (bs : List ℕ). on_blocks (opened_with o.info o.groups (map_in o.info.layout (drop at (put_arena at o bytes words))) [])
      (block_check o.info.layout.internal (bs ++ free_of o.groups))) blocks_same
      ∙ ap (on_blocks (opened_with o.info o.groups (map_in o.info.layout (drop at (put_arena at o bytes words))) [])) parts_are.check_is

  -- ---- its words

  pub size_same : length (put_arena at o bytes words) ≡ length words
  size_same = so.size

  pub before_same : take at (put_arena at o bytes words) ≡ take at words
  before_same = ext_get_or 0 (take at (put_arena at o bytes words)) (take at words) (a ∙ sym (length-take-le at words le)) (λ i lt. one i (omega (arith, lt, a)))
    where
      a : length (take at (put_arena at o bytes words)) ≡ at
      a = length-take-le at (put_arena at o bytes words) (omega (arith, so.size, le))

      one : (i : ℕ) → i < at → get_or (take at (put_arena at o bytes words)) i 0 ≡ get_or (take at words) i 0
      one i lt = get_or-take at (put_arena at o bytes words) i 0 lt ∙ so.rest i (outside i (inl (omega (arith, lt)))) ∙ sym (get_or-take at words i 0 lt)

  pub behind_same : drop (at + o.info.layout.size / 8) (put_arena at o bytes words) ≡ drop (at + o.info.layout.size / 8) words
  behind_same =
      ext_get_or 0 (drop (at + o.info.layout.size / 8) (put_arena at o bytes words)) (drop (at + o.info.layout.size / 8) words)
      (length-drop (at + o.info.layout.size / 8) (put_arena at o bytes words) ∙ ap (λ (n : ℕ). n - (at + o.info.layout.size / 8)) so.size ∙ sym (length-drop (at + o.info.layout.size / 8) words))
      (λ i lt. get_or-drop (at + o.info.layout.size / 8) (put_arena at o bytes words) i 0
      ∙ so.rest (at + o.info.layout.size / 8 + i) (outside (at + o.info.layout.size / 8 + i) (inr (omega (arith, ordered o.info.layout ok))))
      ∙ sym (get_or-drop (at + o.info.layout.size / 8) words i 0))

  -- ---- its state

  abbrev pub new_state : ArenaState
  new_state = state_of (drop at (put_arena at o bytes words)) (opened_with o.info o.groups (map_in o.info.layout (drop at (put_arena at o bytes words))) [])

  abbrev pub old_state : ArenaState
  old_state = state_of (drop at words) o

  abbrev own_words : List ℕ
  own_words = take (o.info.layout.size / 8) (drop at (put_arena at o bytes words))

  word_in : (i : ℕ) → i < o.info.layout.size / 8 → get_or (take (o.info.layout.size / 8) (drop at (put_arena at o bytes words))) i 0 ≡ get_or (put_arena at o bytes words) (at + i) 0
  word_in i lt = get_or-take (o.info.layout.size / 8) (drop at (put_arena at o bytes words)) i 0 lt ∙ get_or-drop at (put_arena at o bytes words) i 0

  entry_own : (own : ℕ) → own < o.info.layout.external → entry_of (entry_at o.info.layout (take (o.info.layout.size / 8) (drop at (put_arena at o bytes words))) own) own ≡ record { kind = kind.Normal; block = block_at o.entries own }
  entry_own own lt =
      ap (λ (w : ℕ). entry_of (entry_in w own) own) (get_or-take (o.info.layout.size / 8) (drop at (put_arena at o bytes words)) (o.info.layout.map_off / 8 + own / 2) 0 (omega (arith, lt, ordered o.info.layout ok)))
      ∙ ap (λ (e : ℕ). entry_of e own) (entry_is own lt) ∙ normal_back (block_at o.entries own) own (small own lt)

  -- the old map, with its pending moves made
  abbrev old_words : List ℕ
  old_words = take (o.info.layout.size / 8) (recovered (drop at words) o)

  map_old : map_in o.info.layout (take (o.info.layout.size / 8) (recovered (drop at words) o)) ≡ o.entries
  map_old =
      let p : Parts (recovered (drop at words) o) parent (with_all_made o) = parts (recovered (drop at words) o) parent (with_all_made o) (opens_all (drop at words) parent o opens) in
      own_map o.info.layout (recovered (drop at words) o) ok ∙ sym p.entries_is

  block_old : (own : ℕ) → own < o.info.layout.external → block_in o.info.layout (take (o.info.layout.size / 8) (recovered (drop at words) o)) own ≡ block_at o.entries own
  block_old own lt =
      ap (λ (w : ℕ). (entry_of w own).block)
      (sym (get_or-map-range_with_len (entry_at o.info.layout (take (o.info.layout.size / 8) (recovered (drop at words) o))) 0 o.info.layout.external own own 0 lt (omega arith))
      ∙ ap (λ (es : List ℕ). get_or es own 0) map_old)

  beside : (i : ℕ) → IsElse o.info.layout (take (o.info.layout.size / 8) (recovered (drop at words) o)) i → Beside at o bytes words o.info.layout.external (at + i)
  beside i e = record {
    no_map = λ own lt same. e.no_map (own / 2) (omega (arith, same));
    no_block = λ own lt. by_place own lt (cases_lt (at + i) (block_place at o.info.layout (block_at o.entries own)));
  }
    where
      by_place : (own : ℕ) → own < o.info.layout.external → (at + i < block_place at o.info.layout (block_at o.entries own)) ⊎ (block_place at o.info.layout (block_at o.entries own) ≤ at + i)
          → (at + i < block_place at o.info.layout (block_at o.entries own)) ⊎ (block_place at o.info.layout (block_at o.entries own) + o.info.layout.sector / 8 ≤ at + i)
      by_place own lt (inl low) = inl low
      by_place own lt (inr high) = elim (cases_lt (at + i) (block_place at o.info.layout (block_at o.entries own) + o.info.layout.sector / 8)) [
        | inl in' ↦ absurd (e.no_block own (at + i - block_place at o.info.layout (block_at o.entries own)) lt (omega (arith, in', high))
            (ap (λ (b : ℕ). o.info.layout.data_off / 8 + (b * (o.info.layout.inner / 8) + (at + i - block_place at o.info.layout (block_at o.entries own)))) (block_old own lt) ∙ omega (arith, high)))
        | inr past ↦ inr past
      ]

  pub rewritten : IsRewritten (state_of (drop at words) o) (state_of (drop at (put_arena at o bytes words)) (opened_with o.info o.groups (map_in o.info.layout (drop at (put_arena at o bytes words))) []))
  rewritten = record {
    info = refl;
    lanes = refl;
    none = refl;
    blocks = λ own lt. entry_own own lt ∙ ap (λ (b : ℕ). record { kind = kind.Normal; block = b }) (sym (block_old own lt));
    others = λ i lt e. word_in i lt ∙ so.rest (at + i) (beside i e) ∙ sym (get_or-drop at words i 0)
        ∙ sym (over_misses (drop at words) (move_writes o.info.layout (drop at words) o.moves) i (moves_miss o.moves o.info.layout (drop at words) i e.no_map))
        ∙ sym (get_or-take (o.info.layout.size / 8) (recovered (drop at words) o) i 0 lt);
  }

  -- ---- its cells

  block_words_are : (own : ℕ) → own < o.info.layout.external
      → block_words o.info.layout (take (o.info.layout.size / 8) (drop at (put_arena at o bytes words))) (block_at o.entries own) (o.info.layout.sector / 8) ≡ words_in (piece o.info.layout.sector own bytes)
  block_words_are own lt =
      ext_get_or 0 (block_words o.info.layout (take (o.info.layout.size / 8) (drop at (put_arena at o bytes words))) (block_at o.entries own) (o.info.layout.sector / 8)) (words_in (piece o.info.layout.sector own bytes))
      (count ∙ sym (value_long at o bytes words ok inside fits below apart own lt))
      (λ k in'. one k (omega (arith, in', count)))
    where
      count : length (block_words o.info.layout (take (o.info.layout.size / 8) (drop at (put_arena at o bytes words))) (block_at o.entries own) (o.info.layout.sector / 8)) ≡ o.info.layout.sector / 8
      count = length-map-range_with_len (λ k. value_at o.info.layout (take (o.info.layout.size / 8) (drop at (put_arena at o bytes words))) (block_word (block_at o.entries own) k)) 0 (o.info.layout.sector / 8)

      one : (k : ℕ) → k < o.info.layout.sector / 8
          → get_or (block_words o.info.layout (take (o.info.layout.size / 8) (drop at (put_arena at o bytes words))) (block_at o.entries own) (o.info.layout.sector / 8)) k 0 ≡ get_or (words_in (piece o.info.layout.sector own bytes)) k 0
      one k in' =
          get_or-map-range_with_len (λ j. value_at o.info.layout (take (o.info.layout.size / 8) (drop at (put_arena at o bytes words))) (block_word (block_at o.entries own) j)) 0 (o.info.layout.sector / 8) k k 0 in' (omega arith)
          ∙ word_in (o.info.layout.data_off / 8 + (block_at o.entries own * (o.info.layout.inner / 8) + k))
          (omega (arith, in', block_inside at o.info.layout (block_at o.entries own) ok (below own lt), ok.inner_enough, ordered o.info.layout ok))
          ∙ ap (λ (i : ℕ). get_or (put_arena at o bytes words) i 0)
          (let e : at + (o.info.layout.data_off / 8 + (block_at o.entries own * (o.info.layout.inner / 8) + k)) ≡ at + o.info.layout.data_off / 8 + block_at o.entries own * (o.info.layout.inner / 8) + k = omega arith in e)
          ∙ so.values own k lt in'

  pub cell_is : (own : ℕ) → own < o.info.layout.external
      → cell_at o.info.layout (take (o.info.layout.size / 8) (drop at (put_arena at o bytes words))) own ≡ cell.Bytes (words_in (piece o.info.layout.sector own bytes))
  cell_is own lt =
      ap (λ (e : MapEntry). cell_with o.info.layout (take (o.info.layout.size / 8) (drop at (put_arena at o bytes words))) e) (entry_own own lt)
      ∙ ap (λ (ws : List ℕ). cell.Bytes ws) (block_words_are own lt)
