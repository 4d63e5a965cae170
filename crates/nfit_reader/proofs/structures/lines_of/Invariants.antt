use Rattle.std.proofs.Common.{◌≡◌, ◌+◌, ◌*◌, map}
use Rattle.std.specs.List.{range_with_len}
use Rattle.std.specs.Int.{w32}
use Rattle.nvd_words.specs.Bytes.{number_at}
use Rattle.nfit_reader.proofs.structures.lines_of.Given as goal

abbrev pub invariant-loop-line : goal.invariant-loop-line
invariant-loop-line l = l.offsets ≡ map (λ i. number_at w32 l.span (16 + 4 * i)) (range_with_len 0 l.line)
