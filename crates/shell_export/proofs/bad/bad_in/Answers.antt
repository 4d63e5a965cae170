use Rattle.std.proofs.Common.{◌∙◌, ℕ, ◌<◌, List, get_or, ap, sym, arith}
use Rattle.map_table.specs.declared.kinds.MapEntry.{MapEntry}
use Rattle.map_table.specs.Entry.{entry_of}
use Rattle.arena_open.specs.declared.opened.Opened.{Opened}
use Rattle.namespace_bytes.specs.Bad.{says_bad}
use Rattle.namespace_bytes.proofs.Flagged.{found_later}
use Rattle.shell_export.proofs.bad.bad_in.Goals as goal

pub loop-own-preserved : goal.loop-own-preserved
loop-own-preserved c =
    let inside : c.loop-own.own < c.args.arena.now.opened.info.layout.external = omega (arith, c.loop-own-test.true, c.loop-own.auto.own-end, ap (λ (o : Opened). o.info.layout.external) c.parts-opened.ensures) in
    c.loop-own.invariant
    ∙ found_later (λ own. says_bad (entry_of (get_or c.args.arena.now.opened.entries own 0) own).kind) c.loop-own.own c.args.arena.now.opened.info.layout.external inside
    (sym (ap (λ (e : MapEntry). says_bad e.kind)
    (c.entry.ensures ∙ ap (λ (es : List ℕ). entry_of (get_or es c.loop-own.own 0) c.loop-own.own) (c.as_slice-entries.ensures ∙ ap (λ (o : Opened). o.entries) c.parts-opened.ensures)))
    ∙ sym c.if-says_bad.ensures)
