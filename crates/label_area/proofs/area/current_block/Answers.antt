use Rattle.std.proofs.Common.{ap, ◌∙◌}
use Rattle.label_index.specs.declared.index.Side.{Side}
use Rattle.std.specs.Prelude.{Option}
use Rattle.label_area.specs.Area.{current_block}
use Rattle.label_area.proofs.Current.{current_fits}
use Rattle.label_area.proofs.area.current_block.Goals as goal

pub returns-clause-fits : goal.returns-clause-fits
returns-clause-fits c =
    current_fits c.args.area.now c.read_index-a.result c.read_index-b.result c.block_of.result c.read_index-a.ensures c.read_index-b.ensures
    (c.block_of.ensures ∙ ap (λ (s : Option Side). current_block s c.read_index-a.result c.read_index-b.result) c.current.ensures)
