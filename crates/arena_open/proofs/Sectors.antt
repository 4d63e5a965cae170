-- The words of a sector.
use Rattle.std.proofs.Common.{◌≡◌, ℕ, ◌+◌, ◌*◌, ◌/◌, ◌<◌, ◌≤◌, List, length, take, drop, get_or, sym, ap, ◌∙◌, subst, arith}
use Rattle.std.proofs.Math.Nat.{mul-le-mul_left}
use Rattle.std.proofs.lemmas.List.{ext_get_or, length-append, length-drop, length-take-le, get_or_append_left, get_or-take, get_or-drop}
use Rattle.std.proofs.lemmas.List.FromFn.{get_or-map-range_with_len, length-map-range_with_len}
use Rattle.arena_layout.specs.declared.layout.Layout.{Layout}
use Rattle.arena_layout.specs.Layout.{IsLayout}
use Rattle.map_table.specs.Entry.{entry_of}
use Rattle.map_table.specs.Blocks.{blocks_from, blocks_of, NamesEachOnce}
use Rattle.arena_open.specs.Places.{block_word, value_at, block_words}
use Rattle.arena_open.specs.Reading.{entry_at, map_in}
use Rattle.arena_open.proofs.Apart.{ordered}
use Rattle.arena_open.proofs.Opening.{length_map}
use Rattle.arena_open.proofs.OnceMore.{block_index, length_blocks}

-- a sector's words lie in its block, and the block in the arena
pub block_fits : (l : Layout) (b : ℕ) → IsLayout l → b < l.internal → l.data_off / 8 + b * (l.inner / 8) + l.sector / 8 ≤ l.size / 8
block_fits l b ok lt =
    let up : l.inner / 8 * (b + 1) ≤ l.inner / 8 * l.internal = mul-le-mul_left (l.inner / 8) (let le : b + 1 ≤ l.internal = omega arith in le) in
    omega (arith, up, ordered l ok, ok.inner_enough)

pub words_are : (l : Layout) (words : List ℕ) (b count : ℕ) → l.data_off / 8 + b * (l.inner / 8) + count ≤ length words
    → take count (drop (l.data_off / 8 + b * (l.inner / 8)) words) ≡ block_words l words b count
words_are l words b count fits =
    let n : length (take count (drop (l.data_off / 8 + b * (l.inner / 8)) words)) ≡ count =
    length-take-le count (drop (l.data_off / 8 + b * (l.inner / 8)) words) (omega (arith, length-drop (l.data_off / 8 + b * (l.inner / 8)) words)) in
    ext_get_or 0 (take count (drop (l.data_off / 8 + b * (l.inner / 8)) words)) (block_words l words b count)
    (n ∙ sym (length-map-range_with_len (λ k. value_at l words (block_word b k)) 0 count))
    (λ k lt. let in' : k < count = omega (arith, n) in
    get_or-take count (drop (l.data_off / 8 + b * (l.inner / 8)) words) k 0 in' ∙ get_or-drop (l.data_off / 8 + b * (l.inner / 8)) words k 0
    ∙ ap (λ (i : ℕ). get_or words i 0) (omega arith)
    ∙ sym (get_or-map-range_with_len (λ j. value_at l words (block_word b j)) 0 count k k 0 in' (omega arith)))

-- a sector's block is one of the arena
pub sector_block : (l : Layout) (words free : List ℕ) (sector : ℕ) → NamesEachOnce l.internal (blocks_of (map_in l words) free) → sector < l.external
    → (entry_of (entry_at l words sector) sector).block < l.internal
sector_block l words free sector once lt =
    let n : length (blocks_from 0 (map_in l words)) ≡ l.external = length_blocks 0 (map_in l words) ∙ length_map l words in
    let low : get_or (blocks_of (map_in l words) free) sector 0 < l.internal =
    once.below sector 0 (omega (arith, n, length-append (blocks_from 0 (map_in l words)) free)) in
    let is : get_or (blocks_of (map_in l words) free) sector 0 ≡ (entry_of (entry_at l words sector) sector).block =
    get_or_append_left (blocks_from 0 (map_in l words)) free 0 sector (omega (arith, n)) ∙ block_index 0 (map_in l words) sector (omega (arith, length_map l words))
    ∙ ap (λ (e : ℕ). (entry_of e (0 + sector)).block) (get_or-map-range_with_len (entry_at l words) 0 l.external sector sector 0 lt (omega arith))
    ∙ ap (λ (s : ℕ). (entry_of (entry_at l words sector) s).block) (let e : 0 + sector ≡ sector = omega arith in e) in
    subst (λ (x : ℕ). x < l.internal) is low
