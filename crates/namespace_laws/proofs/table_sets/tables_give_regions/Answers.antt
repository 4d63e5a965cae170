use Rattle.namespace_laws.proofs.TableRegions.{gives_regions}
use Rattle.namespace_laws.proofs.table_sets.tables_give_regions.Goals as goal

pub returns : goal.returns
returns c = gives_regions
