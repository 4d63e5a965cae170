use Rattle.std.proofs.Common.{◌≡◌, ◌<◌, ◌∙◌, ℕ, List, drop, get_or, length, ap, sym, subst, arith}
use Rattle.map_table.specs.declared.kinds.MapEntry.{MapEntry}
use Rattle.map_table.specs.Entry.{entry_of}
use Rattle.arena_open.specs.declared.cell.Cell.{Cell}
use Rattle.arena_open.specs.Cells.{GivesCell}
use Rattle.arena_open.specs.Reading.{cell_with}
use Rattle.arena_open.proofs.InPlace.{block_in, cell_same, count_entries}
use Rattle.arena_open.proofs.Opening.{arena_inside, sound}
use Rattle.arena_open.proofs.in_place.cell_in_place.Goals as goal

pub bounds-entries-sector : goal.bounds-entries-sector
bounds-entries-sector g c =
    let n : length c.as_slice-entries.result.now ≡ length c.args.opened.now.entries = ap (λ (es : List ℕ). length es) c.as_slice-entries.ensures in
    omega (arith, n, c.requires.sector, count_entries (drop c.args.at (g.W.WordSpace.words c.args.space.now).kept) c.requires.opened.0 c.args.opened.now c.requires.opened.1)

pub load_cell-requires-clause-layout : goal.load_cell-requires-clause-layout
load_cell-requires-clause-layout g c =
    (sound (drop c.args.at (g.W.WordSpace.words c.args.space.now).kept) c.requires.opened.0 c.args.opened.now c.requires.opened.1).arena.sound.layout

pub load_cell-requires-clause-block : goal.load_cell-requires-clause-block
load_cell-requires-clause-block g c =
    let is : c.entry-found.result ≡ entry_of (get_or c.args.opened.now.entries c.args.sector 0) c.args.sector =
    c.entry-found.ensures ∙ ap (λ (es : List ℕ). entry_of (get_or es c.args.sector 0) c.args.sector) c.as_slice-entries.ensures in
    subst (λ (e : MapEntry). e.block < c.args.opened.now.info.layout.internal) (sym is)
    (block_in (drop c.args.at (g.W.WordSpace.words c.args.space.now).kept) c.requires.opened.0 c.args.opened.now c.requires.opened.1 c.args.sector c.requires.sector)

pub load_cell-requires-clause-inside : goal.load_cell-requires-clause-inside
load_cell-requires-clause-inside g c =
    arena_inside (g.W.WordSpace.words c.args.space.now).kept c.requires.opened.0 c.args.at c.args.opened.now.info c.requires.inside
    (sound (drop c.args.at (g.W.WordSpace.words c.args.space.now).kept) c.requires.opened.0 c.args.opened.now c.requires.opened.1).arena

pub returns : goal.returns
returns g c =
    let is : c.entry-found.result ≡ entry_of (get_or c.args.opened.now.entries c.args.sector 0) c.args.sector =
    c.entry-found.ensures ∙ ap (λ (es : List ℕ). entry_of (get_or es c.args.sector 0) c.args.sector) c.as_slice-entries.ensures in
    let same = cell_same (drop c.args.at (g.W.WordSpace.words c.args.space.now).kept) c.requires.opened.0 c.args.opened.now c.requires.opened.1 c.args.sector c.requires.sector
    ∙ ap (λ (e : MapEntry). cell_with c.args.opened.now.info.layout (drop c.args.at (g.W.WordSpace.words c.args.space.now).kept) e) (sym is) in
    subst (λ (x : Cell). GivesCell x c.load_cell.result c.args.into.now c.load_cell.new.into) (sym same) c.load_cell.ensures
