use Rattle.namespace_map.proofs.Others as others
use Rattle.namespace_map.proofs.command_laws.cut_leaves_others.Goals as goal

pub returns : goal.returns
returns c = others.cut_leaves_others
