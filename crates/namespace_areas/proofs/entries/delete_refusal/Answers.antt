use Rattle.std.proofs.Common.{◌∙◌, sym, ap}
use Rattle.namespace_areas.specs.Refusals.{changing, deleting}
use Rattle.namespace_areas.proofs.Changing.{delete_of, entry_of_group}
use Rattle.namespace_areas.proofs.entries.delete_refusal.Goals as goal

pub returns : goal.returns
returns c =
    c.delete_labels.ensures ∙ ap (λ ls. changing (deleting c.args.sets.now c.args.areas.now) ls) c.group.ensures
    ∙ sym (delete_of c.args.sets.now c.args.areas.now c.args.uuid.now _ (entry_of_group c.args.sets.now c.args.areas.now c.args.groups.now c.requires.open c.args.uuid.now))
