use Rattle.std.proofs.Common.{sym, ap, ◌∙◌, subst}
use Rattle.std.specs.Option.{option_copied}
use Rattle.label_area.specs.Change.{slot_of_put, IsFreeSlot}
use Rattle.label_area.specs.State.{AreaState}
use Rattle.label_area.proofs.Opened.{few_slots}
use Rattle.label_area.proofs.Replaced.{placed_free, placed_sound}
use Rattle.label_area.proofs.labels.LabelArea.replace.Goals as goal

pub placed-requires : goal.placed-requires
placed-requires c = few_slots _ (c.self.invariant (ap (λ (a : AreaState). a.stopped) c.self.view_is ∙ c.requires.running))

pub change-requires-clause-free : goal.change-requires-clause-free
change-requires-clause-free c =
    subst (λ (a : AreaState). IsFreeSlot a.block.free (slot_of_put c.in_ok-put.put)) c.self.view_is
    (placed_free c.self.inside.block.free (option_copied c.args.put) c.in_ok-put.put (sym c.in_ok-put.ensures))

pub change-requires-clause-sound : goal.change-requires-clause-sound
change-requires-clause-sound c =
    placed_sound c.self.inside.block.free (option_copied c.args.put) c.in_ok-put.put c.requires.sound (sym c.in_ok-put.ensures)
