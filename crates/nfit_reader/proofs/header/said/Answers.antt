use Rattle.std.proofs.Common.{arith}
use Rattle.nfit_reader.proofs.Spans.{little_said}
use Rattle.nfit_reader.proofs.header.said.Goals as goal

pub returns : goal.returns
returns c = omega (arith, little_said c.args.bytes.now)
