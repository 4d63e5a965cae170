use Rattle.std.proofs.Common.{ap, ◌∙◌, arith, length}
use Rattle.label_area.specs.State.{AreaState}
use Rattle.label_area.proofs.Opened.{few_slots}
use Rattle.label_area.proofs.Replaced.{labels_count}
use Rattle.label_area.proofs.labels.LabelArea.labels.Goals as goal

pub returns-clause-each : goal.returns-clause-each
returns-clause-each c =
    let ready = c.self.invariant (ap (λ (area : AreaState). area.stopped) c.self.view_is ∙ c.requires) in
    ap length c.as_slice.ensures ∙ labels_count _ ready ∙ ap (λ (area : AreaState). length area.block.free) c.self.view_is

pub returns-clause-few : goal.returns-clause-few
returns-clause-few c =
    let ready = c.self.invariant (ap (λ (area : AreaState). area.stopped) c.self.view_is ∙ c.requires) in
    omega (arith, ap length c.as_slice.ensures, labels_count _ ready, few_slots _ ready)
