-- A sector's cell after all pending moves is the cell of its moved entry, in the unchanged words.
use Rattle.std.proofs.Common.{◌≡◌, ℕ, ◌+◌, ◌*◌, ◌/◌, ◌<◌, ◌≤◌, List, [], ◌∷◌, length, take, drop, get_or, Ok, refl, sym, ap, ◌∙◌, subst, arith}
use Rattle.std.proofs.Math.ListN.{set}
use Rattle.std.proofs.Math.Nat.{mul-le-mul_left}
use Rattle.std.proofs.lemmas.List.{ext_get_or, get_or-set_other, get_or-take, get_or-drop}
use Rattle.std.proofs.lemmas.List.FromFn.{get_or-map-range_with_len, length-map-range_with_len}
use Rattle.arena_layout.specs.declared.layout.Layout.{Layout}
use Rattle.arena_layout.specs.Layout.{IsLayout}
use Rattle.flog.specs.declared.half.Half.{Half}
use Rattle.map_table.specs.declared.kinds.Kind.{Kind}
use Rattle.map_table.specs.declared.kinds.Kind.TheVariants as kind
use Rattle.map_table.specs.Entry.{entry_of}
use Rattle.arena_open.specs.declared.opened.Opened.{Opened}
use Rattle.arena_open.specs.declared.cell.Cell.TheVariants as cell
use Rattle.arena_open.specs.Places.{block_word, block_words, value_at}
use Rattle.arena_open.specs.Writes.{written_over}
use Rattle.arena_open.specs.Reading.{cell_at, cell_by, cell_with, entry_at, free_of, map_in, opening}
use Rattle.arena_open.specs.Moves.{groups_of_lanes, move_write, move_writes, recovered, state_of, with_all_made, IsOpenState}
use Rattle.arena_open.proofs.Again.{opens_all}
use Rattle.arena_open.proofs.Apart.{ordered}
use Rattle.arena_open.proofs.Opening.{Parts, Sound, length_map, parts, sound}
use Rattle.arena_open.proofs.Ranges.{map_range}
use Rattle.arena_open.proofs.Sectors.{sector_block}
use Rattle.arena_open.proofs.States.{open_state, own_map}

-- moves write only map words
below_map : (l : Layout) (words : List ℕ) (moves : List Half) (i : ℕ) → i < l.map_off / 8 → get_or (written_over words (move_writes l words moves)) i 0 ≡ get_or words i 0
below_map l words [] i lt = refl
below_map l words (half ∷ halves) i lt =
    let w = move_write l words half in
    below_map l (set words (move_write l words half).place (move_write l words half).value) halves i lt
    ∙ get_or-set_other words (move_write l words half).place i (move_write l words half).value 0 (λ e. absurd (omega (arith, e)))

module _ (words parent : List ℕ) (opened : Opened) (is : opening words parent ≡ Ok opened) where
  abbrev l : Layout
  l = opened.info.layout

  abbrev own : List ℕ
  own = (state_of words opened).words

  s : Sound words parent opened
  s = sound words parent opened is

  ok : IsLayout opened.info.layout
  ok = s.arena.sound.layout

  -- the entry of a sector
  entry_same : (sector : ℕ) → sector < opened.info.layout.external → entry_at opened.info.layout (state_of words opened).words sector ≡ get_or opened.entries sector 0
  entry_same sector lt =
      let p : Parts (recovered words opened) parent (with_all_made opened) = parts (recovered words opened) parent (with_all_made opened) (opens_all words parent opened is) in
      let entries : map_in opened.info.layout (state_of words opened).words ≡ opened.entries = own_map opened.info.layout (recovered words opened) ok ∙ sym p.entries_is in
      sym (get_or-map-range_with_len (entry_at opened.info.layout (state_of words opened).words) 0 opened.info.layout.external sector sector 0 lt (omega arith))
      ∙ ap (λ (es : List ℕ). get_or es sector 0) entries

  -- the words of a block
  block_same : (b count : ℕ) → b < opened.info.layout.internal → count ≤ opened.info.layout.sector / 8
      → block_words opened.info.layout (state_of words opened).words b count ≡ block_words opened.info.layout words b count
  block_same b count lt few =
      map_range (λ k. value_at opened.info.layout (state_of words opened).words (block_word b k)) (λ k. value_at opened.info.layout words (block_word b k)) 0 count (λ k low high.
      let places = ordered opened.info.layout ok in
      let up : opened.info.layout.inner / 8 * (b + 1) ≤ opened.info.layout.inner / 8 * opened.info.layout.internal =
      mul-le-mul_left (opened.info.layout.inner / 8) (let le : b + 1 ≤ opened.info.layout.internal = omega (arith, lt) in le) in
      let enough : opened.info.layout.sector / 8 ≤ opened.info.layout.inner / 8 = omega (arith, ok.inner_enough) in
      let low' : k < opened.info.layout.inner / 8 = omega (arith, high, few, enough) in
      let here : opened.info.layout.data_off / 8 + (b * (opened.info.layout.inner / 8) + k) < opened.info.layout.map_off / 8 = omega (arith, up, places.after_data, low') in
      get_or-take (opened.info.layout.size / 8) (recovered words opened) (opened.info.layout.data_off / 8 + (b * (opened.info.layout.inner / 8) + k)) 0 (omega (arith, places, here))
      ∙ below_map opened.info.layout words opened.moves (opened.info.layout.data_off / 8 + (b * (opened.info.layout.inner / 8) + k)) here)

  -- the block of a sector
  pub block_in : (sector : ℕ) → sector < opened.info.layout.external → (entry_of (get_or opened.entries sector 0) sector).block < opened.info.layout.internal
  block_in sector lt =
      let state : IsOpenState (state_of words opened) = open_state words parent opened is in
      subst (λ (e : ℕ). (entry_of e sector).block < opened.info.layout.internal) (entry_same sector lt)
      (sector_block opened.info.layout (state_of words opened).words (free_of (groups_of_lanes (state_of words opened).lanes)) sector state.once lt)

  by_same : (k : Kind) (block : ℕ) → block < opened.info.layout.internal → cell_by opened.info.layout (state_of words opened).words k block ≡ cell_by opened.info.layout words k block
  by_same kind.Zero block lt = refl
  by_same kind.Bad block lt = refl
  by_same kind.Initial block lt = ap (λ (ws : List ℕ). cell.Bytes ws) (block_same block (opened.info.layout.sector / 8) lt (omega arith))
  by_same kind.Normal block lt = ap (λ (ws : List ℕ). cell.Bytes ws) (block_same block (opened.info.layout.sector / 8) lt (omega arith))

  pub cell_same : (sector : ℕ) → sector < opened.info.layout.external
      → cell_at opened.info.layout (state_of words opened).words sector ≡ cell_with opened.info.layout words (entry_of (get_or opened.entries sector 0) sector)
  cell_same sector lt =
      ap (λ (e : ℕ). cell_with opened.info.layout (state_of words opened).words (entry_of e sector)) (entry_same sector lt)
      ∙ by_same (entry_of (get_or opened.entries sector 0) sector).kind (entry_of (get_or opened.entries sector 0) sector).block (block_in sector lt)

-- as many entries as sectors
pub count_entries : (words parent : List ℕ) (opened : Opened) → opening words parent ≡ Ok opened → length opened.entries ≡ opened.info.layout.external
count_entries words parent opened is =
    let p : Parts (recovered words opened) parent (with_all_made opened) = parts (recovered words opened) parent (with_all_made opened) (opens_all words parent opened is) in
    ap (λ (es : List ℕ). length es) p.entries_is ∙ length_map opened.info.layout (recovered words opened)

-- the words that were loaded are the block's
pub loaded_block : (kept into : List ℕ) (at from : ℕ) (l : Layout) (b count : ℕ) → from ≡ l.data_off / 8 + b * (l.inner / 8) → length into ≡ count → into ≡ take count (drop (at + from) kept)
    → into ≡ block_words l (drop at kept) b count
loaded_block kept into at from l b count from_is n is =
    ext_get_or 0 into (block_words l (drop at kept) b count) (n ∙ sym (length-map-range_with_len (λ k. value_at l (drop at kept) (block_word b k)) 0 count))
    (λ k lt. let in' : k < count = omega (arith, lt, n) in
    ap (λ (ws : List ℕ). get_or ws k 0) is ∙ get_or-take count (drop (at + from) kept) k 0 in' ∙ get_or-drop (at + from) kept k 0
    ∙ ap (λ (i : ℕ). get_or kept i 0) (omega (arith, from_is)) ∙ sym (get_or-drop at kept (l.data_off / 8 + (b * (l.inner / 8) + k)) 0)
    ∙ sym (get_or-map-range_with_len (λ j. value_at l (drop at kept) (block_word b j)) 0 count k k 0 in' (omega arith)))
