use Rattle.std.proofs.Common.{◌≡◌, Some, is_ok, sym, ap, ◌∙◌}
use Rattle.std.specs.Prelude.{option_copied, slice_get}
use Rattle.std.proofs.lemmas.Option.{get_or_from_slice_get}
use Rattle.namespace_areas.specs.declared.area.Area.TheVariants.{Ready}
use Rattle.namespace_areas.proofs.Went.{there, went_one}
use Rattle.namespace_areas.proofs.change.change_label.Goals as goal

pub returns : goal.returns
returns c =
    let (a, at) = there c.args.areas.now c.args.«module» c.requires.ready in
    let same = sym (get_or_from_slice_get c.args.areas.now c.args.«module» (Ready a) c.index-areas-module.result at) ∙ c.in-Ready.is in
    let old : slice_get c.args.areas.now c.args.«module» ≡ Some (Ready c.in-Ready.area) = at ∙ ap Some same in
    went_one c.args.areas.now c.requires.held c.args.«module» c.args.uuid.now (option_copied c.args.put) c.in-Ready.area c.change_area.new.area c.args.fuse.now c.change_area.new.fuse (is_ok c.change_area.result)
    old c.change_area.ensures
