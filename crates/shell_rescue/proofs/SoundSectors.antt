-- The bytes of all sectors of a namespace, arena by arena.
use Rattle.std.proofs.Common.{◌≡◌, ℕ, zero, suc, ◌+◌, ◌/◌, ◌<◌, List, [], ◌∷◌, ◌++◌, length, map, replicate, get_or, refl, sym, ap, ◌∙◌, append_assoc, arith}
use Rattle.std.specs.List.{range_with_len, flat_map}
use Rattle.std.proofs.lemmas.List.{length-append, length-replicate}
use Rattle.std.proofs.lemmas.List.FromFn.{length-map-range_with_len}
use Rattle.std.proofs.lemmas.List.Sums.{sum_by-cons}
use Rattle.cut_words.specs.WordBytes.{bytes_of}
use Rattle.arena_open.specs.declared.cell.Cell.{Cell}
use Rattle.arena_open.specs.declared.cell.Cell.TheVariants as cell
use Rattle.arena_open.specs.declared.state.ArenaState.{ArenaState}
use Rattle.arena_open.specs.ChainCells.{cells_of, contents_of, external_of, sectors_of, sizes_of}
use Rattle.arena_open.specs.Reading.{cell_at}
use Rattle.shell_export.specs.Export.{cell_words, sector_bytes, sectors_bytes}
use Rattle.shell_rescue.proofs.SoundArena.{state_bytes}

-- the bytes of cells, whose sizes in bytes stand beside them
abbrev of_cell : ℕ → Cell → List ℕ
of_cell size c = bytes_of (cell_words (size / 8) c)

abbrev paired : List ℕ → List Cell → List ℕ
paired [] cells = []
paired (size ∷ sizes) [] = []
paired (size ∷ sizes) (c ∷ cells) = of_cell size c ++ paired sizes cells

-- by their numbers
by_number : (f : ℕ → List ℕ) (sizes : List ℕ) (cells : List Cell) (a : ℕ) → length cells ≡ length sizes
    → ((k : ℕ) → k < length sizes → f (a + k) ≡ of_cell (get_or sizes k 0) (get_or cells k cell.Bad)) → flat_map f (range_with_len a (length sizes)) ≡ paired sizes cells
by_number f [] cells a long same = refl
by_number f (size ∷ sizes) [] a long same = absurd (omega (arith, long))
by_number f (size ∷ sizes) (c ∷ cells) a long same =
    let here : f a ≡ of_cell size c = ap f (let e : a ≡ a + 0 = omega arith in e) ∙ same 0 (omega arith) in
    let behind : flat_map f (range_with_len (a + 1) (length sizes)) ≡ paired sizes cells =
    by_number f sizes cells (a + 1) (omega (arith, long)) (λ k lt. ap f (let e : a + 1 + k ≡ a + suc k = omega arith in e) ∙ same (suc k) (omega (arith, lt))) in
    λ i. here i ++ behind i

-- those of one arena in front of others
one_arena : (size a n : ℕ) (g : ℕ → Cell) (sizes : List ℕ) (cells : List Cell)
    → paired (replicate n size ++ sizes) (map g (range_with_len a n) ++ cells) ≡ flat_map (λ k. of_cell size (g k)) (range_with_len a n) ++ paired sizes cells
one_arena size a zero g sizes cells = refl
one_arena size a (suc n) g sizes cells =
    ap (λ (xs : List ℕ). of_cell size (g a) ++ xs) (one_arena size (a + 1) n g sizes cells)
    ∙ sym (append_assoc (of_cell size (g a)) (flat_map (λ k. of_cell size (g k)) (range_with_len (a + 1) n)) (paired sizes cells))

abbrev sizes_in : ArenaState → List ℕ
sizes_in state = replicate state.info.layout.external state.info.layout.sector

all_arenas : (states : List ArenaState) → paired (flat_map sizes_in states) (flat_map cells_of states) ≡ flat_map state_bytes states
all_arenas [] = refl
all_arenas (state ∷ states) =
    one_arena state.info.layout.sector 0 state.info.layout.external (cell_at state.info.layout state.words) (flat_map sizes_in states) (flat_map cells_of states)
    ∙ ap (λ (xs : List ℕ). state_bytes state ++ xs) (all_arenas states)

-- ---- how many there are

many_sizes : (states : List ArenaState) → length (flat_map sizes_in states) ≡ sectors_of states
many_sizes [] = refl
many_sizes (state ∷ states) =
    length-append (sizes_in state) (flat_map sizes_in states)
    ∙ (λ i. length-replicate state.info.layout.external state.info.layout.sector i + many_sizes states i)
    ∙ sym (sum_by-cons external_of state states)

many_cells : (states : List ArenaState) → length (flat_map cells_of states) ≡ sectors_of states
many_cells [] = refl
many_cells (state ∷ states) =
    length-append (cells_of state) (flat_map cells_of states)
    ∙ (λ i. length-map-range_with_len (cell_at state.info.layout state.words) 0 state.info.layout.external i + many_cells states i)
    ∙ sym (sum_by-cons external_of state states)

-- ---- all of them

pub sectors_are : (states : List ArenaState) → sectors_bytes states ≡ flat_map state_bytes states
unfolding contents_of sizes_of
sectors_are states =
    ap (λ (n : ℕ). flat_map (sector_bytes states) (range_with_len 0 n)) (sym (many_sizes states))
    ∙ by_number (sector_bytes states) (flat_map sizes_in states) (flat_map cells_of states) 0 (many_cells states ∙ sym (many_sizes states))
    (λ k lt. ap (sector_bytes states) (let e : 0 + k ≡ k = omega arith in e))
    ∙ all_arenas states
