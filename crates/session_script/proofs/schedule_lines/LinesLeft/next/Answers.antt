use Rattle.std.proofs.Common.{◌≡◌, ◌<◌, Ok, length, rules, sym, ◌∙◌}
use Rattle.session_script.specs.ScheduleLines.{line_reading}
use Rattle.session_script.proofs.Stated.{line_next}
use Rattle.session_script.proofs.schedule_lines.LinesLeft.next.Goals as goal

pub returns-in-Ok-clause-next : goal.returns-in-Ok-clause-next
returns-in-Ok-clause-next c =
    let reads : line_reading c.first_line.result.now ≡ Ok c.in-Ok.line = search rules in
    let some : 0 < length c.self.inside.text.now = search rules in
    sym c.self.view_is
    ∙ line_next c.self.inside.text.now c.first_line.result.now c.after_line-self-inside.result.now c.in-Ok.line some c.first_line.ensures c.after_line-self-inside.ensures reads
