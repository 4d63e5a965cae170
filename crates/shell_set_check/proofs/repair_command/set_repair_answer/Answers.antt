use Rattle.std.proofs.Common.{◌≡◌, List, ℕ, Result, ◌∙◌, ◌++◌, map, sym, ap, subst}
use Rattle.std.specs.Prelude.{IfOk, OnOk}
use Rattle.std.specs.Option.{option_map}
use Rattle.image_set.specs.declared.outline.Outline.{Outline}
use Rattle.image_set.specs.Load.{bytes_kept}
use Rattle.image_set.specs.Outline.{IsOutlined}
use Rattle.shell_reports.proofs.More.{if_more}
use Rattle.shell_set_check.specs.Repair.{repair_lines}
use Rattle.shell_set_check.specs.Repairing.{ChecksLoaded, repaired_outline}
use Rattle.shell_set_check.proofs.Repaired.{outlined}
use Rattle.shell_set_check.proofs.RepairedSet.{repairs_from}
use Rattle.shell_set_check.proofs.repair_command.set_repair_answer.Goals as goal

pub repaired_answer-requires-clause-sound : goal.repaired_answer-requires-clause-sound
repaired_answer-requires-clause-sound g c =
    let is = subst (λ (q : Result Outline _). IfOk q (λ (o : Outline). o ≡ repaired_outline c.args.outline)) c.in_ok-outline.ensures.same c.repair_outline.ensures.outline in
    subst (λ (o : Outline). IsOutlined o) (sym is) (outlined c.args.outline c.requires.sound)

pub returns-clause-told : goal.returns-clause-told
returns-clause-told g c =
    let outline = c.args.outline in
    let held = g.S.ImageSource.held c.args.images.now in
    let due = repair_lines 0 (map (option_map bytes_kept) outline.labels) in
    let lines = c.repair_outline.new.text.items in
    let is = subst (λ (q : Result Outline _). IfOk q (λ (o : Outline). o ≡ repaired_outline outline)) c.in_ok-outline.ensures.same c.repair_outline.ensures.outline in
    let said = subst (λ (q : Result Outline _). OnOk q (lines ≡ c.new-repairs.result.items ++ due)) c.in_ok-outline.ensures.same c.repair_outline.ensures.text
    ∙ ap (λ (front : List ℕ). front ++ due) c.new-repairs.ensures.items in
    if_more _ _ c.repaired_answer.result
    (λ answer checks.
    repairs_from held outline c.requires.sound answer
    (subst (λ (text : List ℕ). ChecksLoaded held text (repaired_outline outline) answer) said
    (subst (λ (o : Outline). ChecksLoaded held lines o answer) is checks)))
    c.repaired_answer.ensures.told
