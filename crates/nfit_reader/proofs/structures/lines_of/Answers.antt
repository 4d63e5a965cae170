use Rattle.std.proofs.Common.{◌+◌, ◌*◌, arith}
use Rattle.std.specs.Int.{w32}
use Rattle.std.proofs.lemmas.List.FromFn.{map-range_with_len_more}
use Rattle.std.proofs.lemmas.Grind.{common_steps}
use Rattle.nvd_words.specs.Bytes.{number_at}
use Rattle.nfit_reader.proofs.structures.lines_of.Goals as goal

pub loop-line-preserved : goal.loop-line-preserved
loop-line-preserved c = grind (arith, common_steps, map-range_with_len_more (λ i. number_at w32 c.args.span.now (16 + 4 * i)) 0 c.loop-line.line c.loop-line.line (omega arith))
