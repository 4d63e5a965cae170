use Rattle.std.proofs.Common.{arith, ◌<◌, ◌∙◌, sym}
use Rattle.arena_open.proofs.Counts.{length_log, log_index_in, log_index_past}
use Rattle.arena_open.proofs.area.NewLogAreaWords.word.Goals as goal

pub returns-then-i-from : goal.returns-then-i-from
returns-then-i-from c =
    let log = c.args.self.now in
    let lt : c.args.i < c.args.self.now.count = omega (arith, c.requires.inside, length_log c.args.self.now.external c.args.self.now.lanes c.args.self.now.count) in
    c.new_group_word.ensures ∙ sym (log_index_in c.args.self.now.external c.args.self.now.lanes c.args.self.now.count c.args.i lt (omega arith))

pub returns-else-i-from : goal.returns-else-i-from
returns-else-i-from c =
    let lt : c.args.i < c.args.self.now.count = omega (arith, c.requires.inside, length_log c.args.self.now.external c.args.self.now.lanes c.args.self.now.count) in
    sym (log_index_past c.args.self.now.external c.args.self.now.lanes c.args.self.now.count c.args.i lt (omega arith))
