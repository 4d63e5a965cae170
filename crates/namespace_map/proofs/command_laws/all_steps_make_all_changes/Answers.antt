use Rattle.namespace_map.proofs.Fronts.{uncut_is_whole}
use Rattle.namespace_map.proofs.command_laws.all_steps_make_all_changes.Goals as goal

pub returns : goal.returns
returns c = uncut_is_whole
