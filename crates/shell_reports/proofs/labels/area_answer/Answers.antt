use Rattle.shell_reports.proofs.Faults.{fault_said, fault_uncut}
use Rattle.shell_reports.proofs.labels.area_answer.Goals as goal

pub fault_answer-requires : goal.fault_answer-requires
fault_answer-requires c = fault_uncut c.args.area.now c.in-Err.fault c.current_block.result c.in-Err.is c.current_block.ensures.block

pub returns-in-Err : goal.returns-in-Err
returns-in-Err c =
    fault_said c.fault_answer.result c.args.module c.args.area.now c.in-Err.fault c.current_block.result c.in-Err.is c.current_block.ensures.block
    c.fault_answer.ensures.text c.fault_answer.ensures.finding
