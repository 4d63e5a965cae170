use Rattle.std.proofs.Common.{◌≡◌, ◌∙◌, ℕ, List, Vec, Global, ap}
use Rattle.std.specs.Option.{option_map}
use Rattle.image_set.specs.Outline.{image_set_with}
use Rattle.shell_reports.specs.declared.outcome.Report.{Report}
use Rattle.shell_reports.specs.Labels.{labels_outcome, module_outcome}
use Rattle.shell_reports.specs.Saved.{outcome_of}
use Rattle.shell_reports.proofs.More.{if_more}
use Rattle.shell_reports.proofs.labels.labels_answer.Goals as goal

pub returns : goal.returns
returns c =
    let m = c.args.«module» in
    if_more (λ (report : Report). outcome_of report ≡ module_outcome m (option_map (λ (bytes : Vec ℕ Global). bytes.items) c.in_ok-area.area))
    (λ (report : Report). (contents : List (List ℕ)) → outcome_of report ≡ labels_outcome m (image_set_with c.args.outline.now contents)) c.module_answer.result
    (λ report said contents. said ∙ ap (module_outcome m) (c.in_ok-area.ensures.area contents)) c.module_answer.ensures
