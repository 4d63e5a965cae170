use Rattle.std.proofs.Common.{◌^◌}
use Rattle.interleave.proofs.Stripes.{rest_of}
use Rattle.interleave.proofs.set.InterleaveSet.run_length.Goals as goal

pub returns-clause-run : goal.returns-clause-run
returns-clause-run c =
    (rest_of (2 ^ c.self.inside.line_bits) (2 ^ c.self.inside.count_bits) c.power-line.result c.self.inside.mappings c.args.self.now c.self.inside.table.items c.args.offset
    c.self.invariant.made c.self.invariant.some c.self.view_is c.power-line.ensures).run

pub returns-clause-line : goal.returns-clause-line
returns-clause-line c =
    (rest_of (2 ^ c.self.inside.line_bits) (2 ^ c.self.inside.count_bits) c.power-line.result c.self.inside.mappings c.args.self.now c.self.inside.table.items c.args.offset
    c.self.invariant.made c.self.invariant.some c.self.view_is c.power-line.ensures).to_end

pub returns-clause-some : goal.returns-clause-some
returns-clause-some c =
    (rest_of (2 ^ c.self.inside.line_bits) (2 ^ c.self.inside.count_bits) c.power-line.result c.self.inside.mappings c.args.self.now c.self.inside.table.items c.args.offset
    c.self.invariant.made c.self.invariant.some c.self.view_is c.power-line.ensures).some

pub returns-clause-words : goal.returns-clause-words
returns-clause-words c =
    (rest_of (2 ^ c.self.inside.line_bits) (2 ^ c.self.inside.count_bits) c.power-line.result c.self.inside.mappings c.args.self.now c.self.inside.table.items c.args.offset
    c.self.invariant.made c.self.invariant.some c.self.view_is c.power-line.ensures).words
