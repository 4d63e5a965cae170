-- The cells of an arena's words: a reader of the arena and a core give a sector the same one.
use Rattle.std.proofs.Common.{◌≡◌, ℕ, zero, suc, ◌+◌, ◌/◌, List, [], ◌∷◌, ◌++◌, map, get_or, refl, sym, ap, ◌∙◌, arith}
use Rattle.std.specs.List.{range_with_len}
use Rattle.std.proofs.lemmas.List.FromFn.{map-range_with_len_more}
use Rattle.arena_layout.specs.declared.layout.Layout.{Layout}
use Rattle.map_table.specs.declared.kinds.Kind.{Kind}
use Rattle.map_table.specs.declared.kinds.Kind.TheVariants as kind
use Rattle.map_table.specs.Entry.{entry_of}
use Rattle.arena_open.specs.declared.cell.Cell.TheVariants as cell
use Rattle.arena_open.specs.declared.state.ArenaState.{ArenaState}
use Rattle.arena_open.specs.Places.{block_word, block_words, value_at}
use Rattle.arena_open.specs.Reading.{cell_with}
use Rattle.arena_open.specs.Reading.{cell_by as found_cell, entry_at as found_entry}
use Rattle.arena_open.proofs.Ranges.{map_range}
use Rattle.lane_core.specs.Areas.{block_in, kind_in}
use Rattle.lane_core.specs.Arenas.{areas_of, cells_in}
use Rattle.lane_core.specs.History.{cell_by, cell_in, listed}
use Rattle.lane_core.specs.Places.{shape_of}
use Rattle.lane_core.specs.Reopening.{first_cells}

listed_range : (n : ℕ) (f : ℕ → ℕ) → listed n f ≡ map f (range_with_len 0 n)
unfolding listed
listed_range zero f = refl
listed_range (suc n) f =
    ap (λ (ws : List ℕ). ws ++ f n ∷ []) (listed_range n f) ∙ sym (map-range_with_len_more f 0 n n (omega arith)) ∙ ap (λ (m : ℕ). map f (range_with_len 0 m)) (let e : n + 1 ≡ suc n = omega arith in e)

module _ (l : Layout) (words : List ℕ) where
  block_same : (b : ℕ) → block_words l words b (l.sector / 8) ≡ listed (l.sector / 8) ((areas_of (shape_of l) words).data_at b)
  block_same b =
      map_range (λ k. value_at l words (block_word b k)) ((areas_of (shape_of l) words).data_at b) 0 (l.sector / 8) (λ k low high. ap (λ (i : ℕ). get_or words i 0) (omega arith))
      ∙ sym (listed_range (l.sector / 8) ((areas_of (shape_of l) words).data_at b))

  by_kind : (k : Kind) (b : ℕ) → found_cell l words k b ≡ cell_by (l.sector / 8) k ((areas_of (shape_of l) words).data_at b)
  by_kind kind.Zero b = refl
  by_kind kind.Bad b = refl
  by_kind kind.Initial b = ap (λ (ws : List ℕ). cell.Bytes ws) (block_same b)
  by_kind kind.Normal b = ap (λ (ws : List ℕ). cell.Bytes ws) (block_same b)

  -- what an entry says, in either definition
  pub cell_is : (e t : ℕ) → cell_with l words (entry_of e t) ≡ cell_in (l.sector / 8) (areas_of (shape_of l) words).data_at e t
  unfolding cell_in kind_in block_in entry_of
  cell_is e t = by_kind (entry_of e t).kind (entry_of e t).block

-- the contents at a core's opening are what a reader of the arena gets
pub cells_are : (state : ArenaState) → cells_in state ≡ first_cells state
cells_are state = λ i t. sym (cell_is state.info.layout state.words (found_entry state.info.layout state.words t) t) i
