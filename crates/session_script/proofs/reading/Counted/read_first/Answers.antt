use Rattle.session_script.specs.Schedule.{with_line}
use Rattle.session_script.proofs.Loops.{line_read, line_refused}
use Rattle.session_script.proofs.reading.Counted.read_first.Goals as goal

pub returns-in-Ok-clause-ok : goal.returns-in-Ok-clause-ok
returns-in-Ok-clause-ok c =
    line_read with_line c.args.text.now c.args.number c.args.self.now c.read.new.self c.first_line.result.now c.after_line.result.now c.requires.some
    c.first_line.ensures c.after_line.ensures c.in-Ok.ensures.ok

pub returns-in-Err-clause-err : goal.returns-in-Err-clause-err
returns-in-Err-clause-err c = λ some_memory.
    line_refused with_line c.args.text.now c.args.number c.args.self.now c.first_line.result.now c.in-Err.fault c.requires.some c.first_line.ensures
    (c.in-Err.ensures.err some_memory)
