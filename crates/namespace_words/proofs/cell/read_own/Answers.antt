use Rattle.std.proofs.Common.{◌≡◌, ◌<◌, ◌∙◌, ℕ, List, drop, get_or, length, ap, sym, subst, arith}
use Rattle.std.specs.Prelude.{IfOk}
use Rattle.map_table.specs.declared.kinds.MapEntry.{MapEntry}
use Rattle.map_table.specs.Entry.{entry_of}
use Rattle.arena_open.specs.Reading.{cell_with}
use Rattle.namespace_words.specs.Source.{words_by}
use Rattle.namespace_words.proofs.cell.read_own.Goals as goal

pub bounds-entries-own : goal.bounds-entries-own
bounds-entries-own g c =
    let long : length c.as_slice-entries.result.now ≡ length c.args.opened.now.entries = ap (λ (es : List ℕ). length es) c.as_slice-entries.ensures in
    omega (arith, long, c.requires.own, c.requires.blocks.entries)

pub read_entry-requires-clause-block : goal.read_entry-requires-clause-block
read_entry-requires-clause-block g c =
    let is : c.entry-found.result ≡ entry_of (get_or c.args.opened.now.entries c.args.own 0) c.args.own =
    c.entry-found.ensures ∙ ap (λ (es : List ℕ). entry_of (get_or es c.args.own 0) c.args.own) c.as_slice-entries.ensures in
    subst (λ (e : MapEntry). e.block < c.args.opened.now.info.layout.internal) (sym is) (c.requires.blocks.below c.args.own c.requires.own)

pub returns-clause-told : goal.returns-clause-told
returns-clause-told g c = λ contents reveals.
    let is : c.entry-found.result ≡ entry_of (get_or c.args.opened.now.entries c.args.own 0) c.args.own =
    c.entry-found.ensures ∙ ap (λ (es : List ℕ). entry_of (get_or es c.args.own 0) c.args.own) c.as_slice-entries.ensures in
    subst (λ (e : MapEntry). IfOk c.read_entry.result (λ answer. IfOk answer (λ found. found ≡ cell_with c.args.opened.now.info.layout (drop c.args.at (words_by c.args.extent.now contents)) e))) is
    (c.read_entry.ensures.told contents reveals)

pub read_entry-requires-clause-few : goal.read_entry-requires-clause-few
read_entry-requires-clause-few g c = omega (arith, c.requires.blocks.small)
