use Rattle.namespace_areas.proofs.changes.make_change.Goals as goal

pub change_label-requires-clause-sound : goal.change_label-requires-clause-sound
change_label-requires-clause-sound c label e = c.requires.sound label (cc (c.as_ref.ensures.value, c.change.view_is))
