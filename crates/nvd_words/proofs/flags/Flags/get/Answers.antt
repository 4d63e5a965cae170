use Rattle.std.proofs.Common.{arith, length}
use Rattle.nvd_words.proofs.FlagBits.{in_words, flag_read}
use Rattle.nvd_words.proofs.flags.Flags.get.Goals as goal

pub index-requires : goal.index-requires
index-requires c =
    omega (arith, in_words c.self.inside.words.items c.self.inside.count c.args.i (length c.self.inside.words.items) c.args.self.now c.self.view_is c.requires c.self.invariant, c.self.inside.words.ok.0)

pub returns : goal.returns
returns c = flag_read c.self.inside.words.items c.self.inside.count c.args.i c.index.result.now c.args.self.now c.self.view_is c.requires c.self.invariant c.index.ensures
