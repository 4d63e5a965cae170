use Rattle.lane_core.proofs.Shapes.{shape_is}
use Rattle.lane_core.proofs.shape.Shape.of.Goals as goal

pub returns-clause-shape : goal.returns-clause-shape
returns-clause-shape c = shape_is c.args.layout.now c.requires.layout
