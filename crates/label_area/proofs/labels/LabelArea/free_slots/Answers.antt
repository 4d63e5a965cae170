use Rattle.std.proofs.Common.{◌∙◌, ap, arith}
use Rattle.std.proofs.lemmas.List.Sums.{count_by-le-length}
use Rattle.label_area.specs.State.{AreaState}
use Rattle.label_area.proofs.Opened.{few_slots}
use Rattle.label_area.proofs.labels.LabelArea.free_slots.Goals as goal

pub overflow_cast-result : goal.overflow_cast-result
overflow_cast-result c =
    let ready = c.self.invariant (ap (λ (area : AreaState). area.stopped) c.self.view_is ∙ c.requires) in
    omega (arith, c.count.ensures, count_by-le-length (λ free. free) c.self.inside.block.free, few_slots _ ready)
