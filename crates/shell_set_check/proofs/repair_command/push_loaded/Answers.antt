use Rattle.std.proofs.Common.{◌≡◌, Result, ◌++◌, map, subst}
use Rattle.std.specs.Prelude.{IfOk, OnOk}
use Rattle.std.specs.Option.{option_map}
use Rattle.image_set.specs.declared.outline.Outline.{Outline}
use Rattle.image_set.specs.Load.{bytes_kept}
use Rattle.shell_set_check.specs.Whole.{outline_lines}
use Rattle.shell_set_check.proofs.RepairedSet.{loaded_said}
use Rattle.shell_set_check.proofs.repair_command.push_loaded.Goals as goal

pub returns-clause-told : goal.returns-clause-told
returns-clause-told g c =
    let outline = c.args.outline in
    let faults = c.new-faults.result in
    let old = c.args.text.now.items in
    let mid = c.push_outline.new.text.items in
    let same = subst (λ (q : Result Outline _). IfOk q (λ (o : Outline). o ≡ outline)) c.in_ok-outline.ensures.same c.push_outline.ensures.same in
    let begun = subst (λ (q : Result Outline _). OnOk q (mid ≡ old ++ outline_lines outline.nfit faults (map (option_map bytes_kept) outline.labels) outline.bad))
    c.in_ok-outline.ensures.same c.push_outline.ensures.lines in
    loaded_said (g.S.ImageSource.held c.args.images.now) outline c.in_ok-outline.outline same faults c.new-faults.ensures old mid c.push_opened.new.text.items begun
    c.push_opened.result c.push_opened.ensures.told
