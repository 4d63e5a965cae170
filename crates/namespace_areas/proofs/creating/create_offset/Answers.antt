use Rattle.std.proofs.Common.{◌≡◌, ◌∙◌, Some, sym, ap, subst, arith}
use Rattle.std.specs.Prelude.{slice_get}
use Rattle.std.proofs.lemmas.Option.{slice_get-get_or}
use Rattle.namespace_areas.specs.Groups.{AreGrouped}
use Rattle.namespace_areas.specs.Refusals.{offset_or, creating}
use Rattle.nvd_words.specs.Checks.{first_fault}
use Rattle.namespace_areas.proofs.InSet.{create_in, create_unnamed, create_nowhere}
use Rattle.namespace_areas.proofs.Room.{none_there}
use Rattle.namespace_areas.proofs.creating.create_offset.Goals as goal

pub returns-in-Some : goal.returns-in-Some
returns-in-Some c = λ _.
    create_unnamed c.args.sets.now c.args.areas.now c.args.spec.now c.in-Some.refused (sym c.bad_name.ensures ∙ c.in-Some.is)

pub returns-then-place-sets : goal.returns-then-place-sets
returns-then-place-sets c = λ _.
    create_nowhere c.args.sets.now c.args.areas.now c.args.spec.now (sym c.bad_name.ensures ∙ c.in_default.is)
    (none_there c.args.sets.now c.args.spec.now.region (omega (arith, c.if-place-sets.true)))

pub returns : goal.returns
returns c = λ other.
    let labels = c.labels.result.now in
    let order : AreGrouped c.args.groups.now.sorted = subst (λ l. AreGrouped l) c.labels.ensures.labels c.labels.ensures.order in
    let here : slice_get c.args.sets.now c.args.spec.now.region ≡ Some c.index-sets-place.result =
    slice_get-get_or c.args.sets.now c.args.spec.now.region c.index-sets-place.result (omega (arith, c.if-place-sets.false)) ∙ ap (λ s. Some s) (sym c.index-sets-place.is) in
    create_in c.args.sets.now c.args.areas.now c.args.groups.now c.requires.open order c.args.spec.now
    c.index-sets-place.result c.is_taken-taken.result c.offset_in.result here (sym c.is_taken-taken.ensures) (sym c.bad_name.ensures ∙ c.in_default.is)
    (c.offset_in.ensures other ∙ ap (λ ls. offset_or c.index-sets-place.result ls c.args.spec.now.size (first_fault (creating c.index-sets-place.result c.args.areas.now ls c.is_taken-taken.result c.args.spec.now.size c.args.spec.now.make))) c.labels.ensures.labels)
