use Rattle.std.proofs.Common.{◌∙◌, ap, drop}
use Rattle.std.proofs.lemmas.List.{take_rest}
use Rattle.byteorder.specs.Endian.{little_number}
use Rattle.nvd_words.specs.Bytes.{number_at}
use Rattle.nfit_reader.proofs.Little.{little_eight}
use Rattle.nfit_reader.proofs.fields.eight_at.Goals as goal

pub returns : goal.returns
unfolding number_at
returns c = c.read_u64.ensures ∙ ap (little_number 8) (take_rest c.args.bytes.now c.args.at) ∙ little_eight (drop c.args.at c.args.bytes.now)
