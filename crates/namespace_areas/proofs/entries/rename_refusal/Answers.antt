use Rattle.std.proofs.Common.{◌∙◌, sym, ap}
use Rattle.namespace_map.specs.Commands.{bad_name}
use Rattle.namespace_areas.specs.Refusals.{changing, renaming}
use Rattle.namespace_areas.proofs.Changing.{rename_of, entry_of_group}
use Rattle.namespace_areas.proofs.Firsts.{first_here, first_next, first_last}
use Rattle.namespace_areas.proofs.entries.rename_refusal.Goals as goal

pub returns-in-Some : goal.returns-in-Some
returns-in-Some c =
    first_here (bad_name c.args.name.now) c.in-Some.refused _ (sym c.bad_name.ensures ∙ c.in-Some.is)
    ∙ sym (rename_of c.args.sets.now c.args.areas.now c.args.uuid.now c.args.name.now _ (entry_of_group c.args.sets.now c.args.areas.now c.args.groups.now c.requires.open c.args.uuid.now))

pub returns : goal.returns
returns c =
    first_next (bad_name c.args.name.now) _ c.rename_labels.result (sym c.bad_name.ensures ∙ c.in_default.is) (first_last _ _ (c.rename_labels.ensures ∙ ap (λ ls. changing (renaming c.args.sets.now c.args.areas.now) ls) c.group.ensures))
    ∙ sym (rename_of c.args.sets.now c.args.areas.now c.args.uuid.now c.args.name.now _ (entry_of_group c.args.sets.now c.args.areas.now c.args.groups.now c.requires.open c.args.uuid.now))
