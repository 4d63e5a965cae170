use Rattle.std.proofs.Common.{subst, sym, ap, ◌∙◌}
use Rattle.std.specs.Option.{option_map}
use Rattle.image_set.specs.Changed.{with_area}
use Rattle.image_set.specs.Load.{bytes_kept}
use Rattle.image_set.specs.Outline.{IsOutlined, image_set_with}
use Rattle.image_set.specs.Sound.{IsArea}
use Rattle.image_set.proofs.Areas.{taken_is, taken_settled, outlined_without, others_without}
use Rattle.image_set.proofs.outline.Outline.take_area.Goals as goal

pub returns-clause-area : goal.returns-clause-area
returns-clause-area c = λ contents. ap (option_map bytes_kept) c.without_area-labels.ensures.area ∙ taken_is c.args.self c.args.«module» contents

pub returns-clause-settled : goal.returns-clause-settled
returns-clause-settled c = subst (λ a. IsArea a) (sym c.without_area-labels.ensures.area) (taken_settled c.args.self c.args.«module» c.requires)

pub returns-clause-sound : goal.returns-clause-sound
returns-clause-sound c =
    let self = c.args.self in
    subst (λ ls. IsOutlined (record { nfit = self.nfit; nfit_bytes = self.nfit_bytes; labels = ls; sizes = self.sizes; bad = self.bad })) (sym c.without_area-labels.ensures.rest)
    (outlined_without self c.args.«module» c.requires)

pub returns-clause-others : goal.returns-clause-others
returns-clause-others c = λ contents bytes.
    let self = c.args.self in
    ap (λ ls. with_area (image_set_with (record { nfit = self.nfit; nfit_bytes = self.nfit_bytes; labels = ls; sizes = self.sizes; bad = self.bad }) contents) c.args.«module» bytes)
    c.without_area-labels.ensures.rest ∙ others_without self c.args.«module» contents bytes
