-- Sectors numbered from arena to arena.
use Rattle.std.proofs.Common.{◌≡◌, ℕ, zero, suc, ◌+◌, ◌^◌, ◌<◌, ◌≤◌, List, [], ◌∷◌, ◌++◌, length, take, get_or, replicate, Some, None, refl, sym, ap, ◌∙◌, arith}
use Rattle.std.specs.List.{flat_map, slice_get}
use Rattle.std.proofs.lemmas.List.{get_or_append_left, get_or-append-add, length-append, length-replicate, get_or-replicate}
use Rattle.std.proofs.lemmas.List.FromFn.{get_or-map-range_with_len, length-map-range_with_len}
use Rattle.std.proofs.lemmas.List.Sums.{sum_by_more_le, sum_by-cons}
use Rattle.std.proofs.lemmas.Option.{slice_get_past, slice_get-get_or}
use Rattle.arena_open.specs.declared.state.ArenaState.{ArenaState}
use Rattle.arena_open.specs.declared.cell.Cell.{Cell}
use Rattle.arena_open.specs.Reading.{cell_at}
use Rattle.arena_open.specs.Moves.{IsOpenState}
use Rattle.arena_open.specs.ChainCells.{external_of, sectors_of, cells_of, contents_of, sizes_of, LiesIn, AreOpen}

-- an arena has few sectors
pub few_sectors : (states : List ArenaState) (k : ℕ) (d : ArenaState) → AreOpen states → k < length states → external_of (get_or states k d) ≤ 2 ^ 30
few_sectors states k d open' lt =
    let s : IsOpenState (get_or states k d) = open'.each k d lt in
    omega (arith, s.sound.layout.internal_is, s.sound.layout.internal_few)

sectors_cons : (state : ArenaState) (states : List ArenaState) → sectors_of (state ∷ states) ≡ external_of state + sectors_of states
sectors_cons state states = sum_by-cons external_of state states

-- ---- lists with so many elements for each arena

module _ {X : Type 0} (part : ArenaState → List X) (count : (state : ArenaState) → length (part state) ≡ external_of state) where
  pub length_parts : (states : List ArenaState) → length (flat_map part states) ≡ sectors_of states
  length_parts [] = refl
  length_parts (state ∷ states) = length-append (part state) (flat_map part states) ∙ (λ i. count state i + length_parts states i) ∙ sym (sectors_cons state states)

  pub part_at : (states : List ArenaState) (k own : ℕ) (d : X) (e : ArenaState) → k < length states → own < external_of (get_or states k e)
      → get_or (flat_map part states) (sectors_of (take k states) + own) d ≡ get_or (part (get_or states k e)) own d
  part_at [] k own d e lt inside = absurd (omega arith)
  part_at (state ∷ states) zero own d e lt inside =
      ap (λ (i : ℕ). get_or (part state ++ flat_map part states) i d) (let z : 0 + own ≡ own = omega arith in z)
      ∙ get_or_append_left (part state) (flat_map part states) d own (omega (arith, count state))
  part_at (state ∷ states) (suc k) own d e lt inside =
      ap (λ (i : ℕ). get_or (part state ++ flat_map part states) i d) (let z : sectors_of (state ∷ take k states) + own ≡ length (part state) + (sectors_of (take k states) + own) = omega (arith, count state, sectors_cons state (take k states)) in z)
      ∙ get_or-append-add (part state) (flat_map part states) (sectors_of (take k states) + own) d
      ∙ part_at states k own d e (omega arith) inside

count_cells : (state : ArenaState) → length (cells_of state) ≡ external_of state
count_cells state = length-map-range_with_len (cell_at state.info.layout state.words) 0 state.info.layout.external

count_sizes : (state : ArenaState) → length (replicate state.info.layout.external state.info.layout.sector) ≡ external_of state
count_sizes state = length-replicate state.info.layout.external state.info.layout.sector

-- the cell of a sector of the namespace
pub cell_there : (states : List ArenaState) (sector k own : ℕ) (d : Cell) (e : ArenaState) → LiesIn states sector k own
    → get_or (contents_of states) sector d ≡ cell_at (get_or states k e).info.layout (get_or states k e).words own
unfolding contents_of
cell_there states sector k own d e l =
    ap (λ (i : ℕ). get_or (flat_map cells_of states) i d) l.is
    ∙ part_at cells_of count_cells states k own d e l.there (l.inside e)
    ∙ get_or-map-range_with_len (cell_at (get_or states k e).info.layout (get_or states k e).words) 0 (get_or states k e).info.layout.external own own d (l.inside e) (omega arith)

-- its size
pub size_there : (states : List ArenaState) (sector k own : ℕ) (d : ℕ) (e : ArenaState) → LiesIn states sector k own
    → get_or (sizes_of states) sector d ≡ (get_or states k e).info.layout.sector
unfolding sizes_of
size_there states sector k own d e l =
    ap (λ (i : ℕ). get_or (flat_map (λ state. replicate state.info.layout.external state.info.layout.sector) states) i d) l.is
    ∙ part_at (λ state. replicate state.info.layout.external state.info.layout.sector) count_sizes states k own d e l.there (l.inside e)
    ∙ get_or-replicate (get_or states k e).info.layout.external own (get_or states k e).info.layout.sector d (l.inside e)

pub size_past : (states : List ArenaState) (sector : ℕ) → sectors_of states ≤ sector → slice_get (sizes_of states) sector ≡ None
unfolding sizes_of
size_past states sector le =
    slice_get_past (sizes_of states) sector (omega (arith, length_parts (λ state. replicate state.info.layout.external state.info.layout.sector) count_sizes states))

pub sized : (states : List ArenaState) (sector k own : ℕ) (e : ArenaState) → LiesIn states sector k own
    → slice_get (sizes_of states) sector ≡ Some (get_or states k e).info.layout.sector
unfolding sizes_of
sized states sector k own e l =
    let n : length (sizes_of states) ≡ sectors_of states = length_parts (λ state. replicate state.info.layout.external state.info.layout.sector) count_sizes states in
    let more = sum_by_more_le external_of states k e l.there in
    slice_get-get_or (sizes_of states) sector 0 (omega (arith, n, l.is, l.inside e, more))
    ∙ ap Some (size_there states sector k own 0 e l)
