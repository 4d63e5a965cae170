use Rattle.std.proofs.Common.{◌/◌, ◌≤◌, sym, ◌∙◌, arith}
use Rattle.power_cut.specs.Namespace.{count_of}
use Rattle.bad_ranges.proofs.Runs.{le_is, past_end}
use Rattle.bad_ranges.proofs.extent.is_word_bad.Goals as goal

pub returns-else-i-bytes : goal.returns-else-i-bytes
returns-else-i-bytes c objects tables =
    let past : count_of c.args.extent.now ≤ c.args.i = omega (arith, c.if-i-bytes.false, c.bytes.ensures.bytes) in
    le_is c.args.i (c.bytes.result / 8) c.if-i-bytes.false ∙ sym (past_end c.args.extent.now objects c.args.i past)
