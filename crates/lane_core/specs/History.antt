-- Histories of an arena: the calls on its sectors, one after another, and what they leave. They
-- know no block, lane word or lock.
use Rattle.std.specs.Prelude.{◌≡◌, ⊤, ℕ, ◌==◌, Bool, true, false, filter, replicate, List, [], ◌∷◌, ◌++◌, zero, suc}
pub use Rattle.nvd_words.specs.declared.tag.Tag.{Tag}
pub use Rattle.arena_open.specs.declared.cell.Cell.{Cell}
use Rattle.arena_open.specs.declared.cell.Cell.TheVariants as cell
pub use Rattle.lane_core.specs.declared.history.Act.{Act}
use Rattle.lane_core.specs.declared.history.Act.TheVariants as act
pub use Rattle.lane_core.specs.declared.history.Entry.{Entry}
use Rattle.map_table.specs.declared.kinds.Kind.{Kind}
use Rattle.map_table.specs.declared.kinds.Kind.TheVariants as kind
use Rattle.lane_core.specs.Areas.{put, Geometry, entry_at, block_in, kind_in}

-- the cell of each sector
abbrev pub Cells : Type 0
Cells = ℕ → Cell

-- ---- one act: a further kind of act, such as a compare with a result, is a further line of each of these

-- the cell after an act, by the cell that it finds
abbrev pub left_of : Act → Cell → Cell
left_of (act.Read seen) found = found
left_of (act.Write words) found = cell.Bytes words

-- what an act says of the cell that it finds is true
abbrev pub IsRight : Act → Cell → Type 0
IsRight (act.Read seen) found = seen ≡ found
IsRight (act.Write words) found = ⊤

-- an act that changes no cell
abbrev pub changes_nothing : Act → Bool
changes_nothing (act.Read seen) = true
changes_nothing (act.Write words) = false

-- ---- a history, oldest call first

-- the cells after one call
abbrev pub after : Cells → Entry → Cells
after cells e = put cells e.sector (left_of e.act (cells e.sector))

-- the cells after all calls
unfoldable pub end_of : Cells → List Entry → Cells
end_of cells [] = cells
end_of cells (e ∷ es) = end_of (after cells e) es

-- each call found the cell that those before it left
unfoldable pub IsLegal : Cells → List Entry → Type 0
IsLegal cells [] = ⊤
IsLegal cells (e ∷ es) = IsRight e.act (cells e.sector) × IsLegal (after cells e) es

-- the entries of a lane, and those of a session
unfoldable pub of_lane : ℕ → List Entry → List Entry
of_lane l es = filter (λ e. e.lane == l) es

unfoldable pub of_session : ℕ → List Entry → List Entry
of_session q es = filter (λ e. e.tag.session == q) es

-- a law: calls that change nothing may be left out of a history
abbrev pub SomeMayGo : Type 0
SomeMayGo =
    (cells : Cells) (keeps : Entry → Bool) (history : List Entry) → ((e : Entry) → keeps e ≡ false → changes_nothing e.act ≡ true)
    → IsLegal cells history → IsLegal cells (filter keeps history) × (end_of cells (filter keeps history) ≡ end_of cells history)

-- ---- cells in an arena's words

-- the first n values of f
unfoldable pub listed : ℕ → (ℕ → ℕ) → List ℕ
listed zero f = []
listed (suc n) f = listed n f ++ f n ∷ []

abbrev pub cell_by : ℕ → Kind → (ℕ → ℕ) → Cell
cell_by width kind.Zero row = cell.Bytes (replicate width 0)
cell_by width kind.Bad row = cell.Bad
cell_by width kind.Initial row = cell.Bytes (listed width row)
cell_by width kind.Normal row = cell.Bytes (listed width row)

-- the cell of sector t with the entry e
unfoldable pub cell_in : ℕ → (ℕ → ℕ → ℕ) → ℕ → ℕ → Cell
cell_in width data_at e t = cell_by width (kind_in e) (data_at (block_in e t))

-- the cells that words encode
abbrev pub cell_of : Geometry → (ℕ → ℕ → ℕ) → (ℕ → ℕ) → Cells
cell_of g data_at map_at t = cell_in g.width data_at (entry_at map_at t) t
