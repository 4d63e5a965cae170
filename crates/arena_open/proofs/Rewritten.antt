-- Writing one map word of an arena changes only one entry of the map.
use Rattle.std.proofs.Common.{◌≡◌, ◌≢◌, ℕ, zero, suc, ◌+◌, ◌*◌, ◌/◌, ◌^◌, ◌<◌, ◌≤◌, List, [], ◌∷◌, length, map, get_or, Ok, refl, sym, ap, ◌∙◌, subst, inl, inr, arith}
use Rattle.std.specs.Prelude.{filter}
use Rattle.std.specs.List.{All, range_with_len}
use Rattle.std.proofs.Math.ListN.{set}
use Rattle.std.proofs.lemmas.Bool.{cases_eq}
use Rattle.std.proofs.lemmas.List.{ext_get_or, get_or-set_same, get_or-set_other, length-set, take-set-le, get_or-map}
use Rattle.std.proofs.lemmas.List.Elements.{All-head}
use Rattle.std.proofs.lemmas.List.FromFn.{get_or-map-range_with_len}
use Rattle.cut_words.specs.WordBytes.{bytes_of}
use Rattle.arena_layout.specs.declared.layout.Layout.{Layout}
use Rattle.arena_layout.specs.Layout.{IsLayout}
use Rattle.arena_layout.specs.Info.{info_reading}
use Rattle.flog.specs.declared.half.Half.{Half}
use Rattle.flog.specs.declared.group.Group.{Group}
use Rattle.flog.specs.Group.{group_reading}
use Rattle.map_table.specs.declared.kinds.MapEntry.{MapEntry}
use Rattle.map_table.specs.Entry.{entry_of, normal_of, entry_in, with_entry}
use Rattle.map_table.specs.Blocks.{blocks_of, block_check}
use Rattle.map_table.proofs.Entries.{put_back, other_stays, normal_back}
use Rattle.arena_open.specs.declared.opened.Opened.{Opened}
use Rattle.arena_open.specs.Places.{log_word, value_at, group_words}
use Rattle.arena_open.specs.Halves.{IsMove}
use Rattle.arena_open.specs.Reading.{info_bytes, entry_at, map_in, with_group, groups_of, groups_in, is_pending, moves_of, moved, free_of, on_blocks, on_map, opened_with, opening}
use Rattle.arena_open.specs.Moves.{move_write}
use Rattle.arena_open.proofs.Apart.{ordered}
use Rattle.arena_open.proofs.Ranges.{map_range}
use Rattle.arena_open.proofs.Opening.{Parts, Sound, sound_parts, length_map, opening_map}
use Rattle.arena_open.proofs.Turns.{move_inside}
use Rattle.arena_open.proofs.OnceMore.{Apart, olds, first_made, rest_elsewhere, moved_keeps, length_moved, free_apart, not_free}

-- ---- one map word

module _ (l : Layout) (words : List ℕ) (ok : IsLayout l) (fits : l.size / 8 ≤ length words) (half : Half) (move : IsMove l.external half) where
  abbrev pub place : ℕ
  place = l.map_off / 8 + half.lba / 2

  abbrev pub value : ℕ
  value = with_entry (get_or words place 0) half.lba (normal_of half.new)

  abbrev pub now : List ℕ
  now = set words place value

  at_place : get_or now place 0 ≡ value
  at_place = get_or-set_same words place value 0 (omega (arith, move_inside l half ok move.sector))

  small : normal_of half.new < 2 ^ 32
  small = omega (arith, move.block)

  same_word : (sector : ℕ) → sector ≢ half.lba → sector / 2 ≡ half.lba / 2 → entry_at l now sector ≡ entry_at l words sector
  same_word sector other same =
      let there : l.map_off / 8 + sector / 2 ≡ l.map_off / 8 + half.lba / 2 = omega (arith, same) in
      ap (λ (i : ℕ). entry_in (get_or now i 0) sector) there ∙ ap (λ (word : ℕ). entry_in word sector) at_place
      ∙ other_stays (get_or words place 0) half.lba (normal_of half.new) sector small (λ e. other (omega (arith, e, same)))
      ∙ ap (λ (i : ℕ). entry_in (get_or words i 0) sector) (sym there)

  other_word : (sector : ℕ) → sector / 2 ≢ half.lba / 2 → entry_at l now sector ≡ entry_at l words sector
  other_word sector apart = ap (λ (word : ℕ). entry_in word sector) (get_or-set_other words place (l.map_off / 8 + sector / 2) value 0 (λ e. apart (omega (arith, e))))

  others_stay : (sector : ℕ) → sector ≢ half.lba → entry_at l now sector ≡ entry_at l words sector
  others_stay sector other = elim (cases_eq (sector / 2) (half.lba / 2)) [ inl same ↦ same_word sector other same | inr apart ↦ other_word sector apart ]

  entry_put : entry_at l now half.lba ≡ normal_of half.new
  entry_put = ap (λ (word : ℕ). entry_in word half.lba) at_place ∙ put_back (get_or words place 0) half.lba (normal_of half.new) small

  index_is : (ws : List ℕ) (sector : ℕ) → sector < l.external → get_or (map_in l ws) sector 0 ≡ entry_at l ws sector
  index_is ws sector lt = get_or-map-range_with_len (entry_at l ws) 0 l.external sector sector 0 lt (omega arith)

  pub map_set : map_in l now ≡ set (map_in l words) half.lba (normal_of half.new)
  map_set =
      ext_get_or 0 (map_in l now) (set (map_in l words) half.lba (normal_of half.new))
      (length_map l now ∙ sym (length-set (map_in l words) half.lba (normal_of half.new) ∙ length_map l words))
      (λ sector lt. let in' : sector < l.external = omega (arith, length_map l now) in
      index_is now sector in' ∙ elim (cases_eq sector half.lba) [
        | inl same ↦ ap (entry_at l now) same ∙ entry_put
            ∙ sym (ap (λ (s : ℕ). get_or (set (map_in l words) half.lba (normal_of half.new)) s 0) same
            ∙ get_or-set_same (map_in l words) half.lba (normal_of half.new) 0 (omega (arith, length_map l words, move.sector)))
        | inr other ↦ others_stay sector other
            ∙ sym (get_or-set_other (map_in l words) half.lba sector (normal_of half.new) 0 other ∙ index_is words sector in')
      ])

  -- ---- the other parts

  pub info_same : info_bytes now ≡ info_bytes words
  info_same = ap bytes_of (take-set-le 512 words place value (omega (arith, ordered l ok)))

  group_same : (lane : ℕ) → lane < l.lanes → group_words l now lane ≡ group_words l words lane
  group_same lane lt = map_range (λ k. value_at l now (log_word lane k)) (λ k. value_at l words (log_word lane k)) 0 8 (λ k low high.
      get_or-set_other words place (l.flog_off / 8 + (8 * lane + k)) value 0 (λ e. omega (arith, e, ordered l ok, move.sector)))

-- groups whose words are the same
pub groups_same : (l : Layout) (words now : List ℕ) (a n : ℕ) → ((lane : ℕ) → lane < l.lanes → group_words l now lane ≡ group_words l words lane) → a + n ≤ l.lanes
    → groups_of l now (range_with_len a n) ≡ groups_of l words (range_with_len a n)
groups_same l words now a zero same fits = refl
groups_same l words now a (suc n) same fits =
    let here : group_reading (group_words l now a) l.external l.internal ≡ group_reading (group_words l words a) l.external l.internal =
    ap (λ (ws : List ℕ). group_reading ws l.external l.internal) (same a (omega arith)) in
    let rest : groups_of l now (range_with_len (a + 1) n) ≡ groups_of l words (range_with_len (a + 1) n) = groups_same l words now (a + 1) n same (omega arith) in
    λ i. with_group a (here i) (rest i)

-- ---- the first pending move is completed

abbrev pub with_rest : Opened → List Half → Opened
with_rest opened rest = record { info = opened.info; groups = opened.groups; entries = opened.entries; moves = rest }

module _ (words parent : List ℕ) (opened : Opened) (half : Half) (rest : List Half) (p : Parts words parent opened) (first : opened.moves ≡ half ∷ rest) where
  abbrev l : Layout
  l = opened.info.layout

  abbrev entries : List ℕ
  entries = map_in opened.info.layout words

  abbrev halves : List Half
  halves = map (λ group. group.half) opened.groups

  s : Sound words parent opened
  s = sound_parts words parent opened p

  ok : IsLayout opened.info.layout
  ok = s.arena.sound.layout

  inside : opened.info.layout.size / 8 ≤ length words
  inside = omega (arith, s.arena.size_inside)

  pub move : IsMove opened.info.layout.external half
  move = All-head (IsMove opened.info.layout.external) half rest (subst (λ (ms : List Half). (k : ℕ) (d : Half) → k < length ms → IsMove opened.info.layout.external (get_or ms k d)) first s.moves)

  listed : filter (is_pending entries) halves ≡ half ∷ rest
  listed = sym p.moves_is ∙ first

  final : opened.entries ≡ moved (set entries half.lba (normal_of half.new)) rest
  final = p.entries_is ∙ ap (moved entries) first

  lba_in : half.lba < length entries
  lba_in = omega (arith, length_map opened.info.layout words, move.sector)

  olds_are : free_of opened.groups ≡ olds halves
  olds_are = sym (map_map_groups opened.groups)
    where
      map_map_groups : (groups : List Group) → olds (map (λ group. group.half) groups) ≡ free_of groups
      map_map_groups [] = refl
      map_map_groups (g ∷ groups) = ap (λ (xs : List ℕ). g.half.old ∷ xs) (map_map_groups groups)

  apart : Apart (olds halves)
  apart = subst Apart olds_are (free_apart opened.info.layout.internal opened.entries (free_of opened.groups) s.once)

  elsewhere : All (λ other. other.lba ≢ half.lba) rest
  elsewhere = rest_elsewhere entries halves half rest lba_in move.block listed apart

  final_block : (entry_of (get_or opened.entries half.lba 0) half.lba).block ≡ half.new
  final_block =
      ap (λ (es : List ℕ). (entry_of (get_or es half.lba 0) half.lba).block) final
      ∙ ap (λ (e : ℕ). (entry_of e half.lba).block) (moved_keeps (set entries half.lba (normal_of half.new)) rest half.lba elsewhere
      ∙ get_or-set_same entries half.lba (normal_of half.new) 0 lba_in)
      ∙ ap (λ (e : MapEntry). e.block) (normal_back half.new half.lba move.block)

  final_in : half.lba < length opened.entries
  final_in = omega (arith, lba_in, ap length p.entries_is, length_moved entries opened.moves)

  new_apart : All (λ other. half.new ≢ other.old) halves
  new_apart = λ k d lt e. not_free opened.info.layout.internal opened.entries (free_of opened.groups) half.lba k d.old s.once final_in
      (omega (arith, ap length olds_are, length-olds halves)) (final_block ∙ e ∙ sym (ap (λ (xs : List ℕ). get_or xs k d.old) olds_are ∙ get_or-map (λ h. h.old) halves k d d.old lt))
    where
      length-olds : (hs : List Half) → length (olds hs) ≡ length hs
      length-olds [] = refl
      length-olds (h ∷ hs) = ap suc (length-olds hs)

  rest_is : moves_of (set entries half.lba (normal_of half.new)) opened.groups ≡ rest
  rest_is = first_made entries halves half rest lba_in move.block listed apart new_apart

  abbrev pub next : List ℕ
  next = set words (move_write opened.info.layout words half).place (move_write opened.info.layout words half).value

  pub opens_next : opening next parent ≡ Ok (with_rest opened rest)
  opens_next =
      let info : info_reading (info_bytes next) parent (8 * length next) ≡ Ok opened.info =
      (λ i. info_reading (info_same opened.info.layout words ok inside half move i) parent
      (8 * length-set words (move_write opened.info.layout words half).place (move_write opened.info.layout words half).value i)) ∙ p.info_is in
      let groups : groups_in opened.info.layout next ≡ Ok opened.groups =
      groups_same opened.info.layout words next 0 opened.info.layout.lanes (group_same opened.info.layout words ok inside half move) (omega arith) ∙ p.groups_is in
      opening_map next parent opened.info opened.groups info groups
      ∙ ap (on_map opened.info opened.groups) (map_set opened.info.layout words ok inside half move)
      ∙ ap (λ (ms : List Half). on_blocks (opened_with opened.info opened.groups (moved (set entries half.lba (normal_of half.new)) ms) ms)
      (block_check opened.info.layout.internal (blocks_of (moved (set entries half.lba (normal_of half.new)) ms) (free_of opened.groups)))) rest_is
      ∙ ap (λ (es : List ℕ). on_blocks (opened_with opened.info opened.groups es rest) (block_check opened.info.layout.internal (blocks_of es (free_of opened.groups)))) (sym final)
      ∙ ap (on_blocks (opened_with opened.info opened.groups opened.entries rest)) p.check_is
