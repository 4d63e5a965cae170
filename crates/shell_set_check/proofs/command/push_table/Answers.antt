use Rattle.std.proofs.Common.{◌≡◌, Result, ◌++◌, map, refl, sym, subst, nat_eq}
use Rattle.std.specs.Prelude.{IfOk, OnOk}
use Rattle.std.specs.Option.{option_map}
use Rattle.image_set.specs.declared.outline.Outline.{Outline}
use Rattle.image_set.specs.Load.{bytes_kept}
use Rattle.image_set.specs.Outline.{IsLoadable}
use Rattle.shell_set_check.specs.Whole.{outline_lines}
use Rattle.shell_set_check.proofs.Parts.{none_at, table_said}
use Rattle.shell_set_check.proofs.command.push_table.Goals as goal

pub push_arenas-requires-clause-loadable : goal.push_arenas-requires-clause-loadable
push_arenas-requires-clause-loadable g c = λ holds.
    let same = subst (λ (q : Result Outline _). IfOk q (λ (o : Outline). o ≡ c.args.read.outline)) c.in_ok-outline.ensures.same c.push_outline.ensures.same in
    subst (λ (o : Outline). IsLoadable o) (sym same) (c.requires.read.loadable (none_at c.args.read.faults c.len-whole.result c.len-whole.ensures holds))

pub returns-clause-told : goal.returns-clause-told
returns-clause-told g c = λ x at.
    let read = c.args.read in
    let old = c.args.text.now.items in
    let mid = c.push_outline.new.text.items in
    let same = subst (λ (q : Result Outline _). IfOk q (λ (o : Outline). o ≡ read.outline)) c.in_ok-outline.ensures.same c.push_outline.ensures.same in
    let begun = subst (λ (q : Result Outline _). OnOk q (mid ≡ old ++ outline_lines read.outline.nfit read.faults (map (option_map bytes_kept) read.outline.labels) read.outline.bad))
    c.in_ok-outline.ensures.same c.push_outline.ensures.lines in
    table_said (g.S.ImageSource.held c.args.images.now) x at read (c.requires.there x at) old mid c.push_arenas.new.text.items begun
    c.push_arenas.result c.in_ok-outline.outline c.len-whole.result (nat_eq c.len-whole.result 0) same c.len-whole.ensures refl c.push_arenas.ensures.checked c.push_arenas.ensures.unchecked
