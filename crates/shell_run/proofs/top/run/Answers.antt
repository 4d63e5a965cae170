use Rattle.std.proofs.Common.{◌⊎◌, false}
use Rattle.std.specs.Prelude.{map, string_bytes}
use Rattle.nvd_media.specs.Causes.{Rose}
use Rattle.shell_changes.specs.Remains.{LeavesBy}
use Rattle.shell_run.specs.Printed.{IsMisused}
use Rattle.shell_run.specs.Run.{ComesTold, IsDue, copies, copies_by, streams, streams_by}
use Rattle.shell_run.proofs.Comes.{command_copies, command_due, command_streams, usage_due}
use Rattle.shell_run.proofs.Ending.{ends_more, holds_more, printing_more, stored_more}
use Rattle.shell_run.proofs.top.run.Goals as goal

pub returns-in-Ok-clause-ends : goal.returns-in-Ok-clause-ends
returns-in-Ok-clause-ends g c =
    let leaves = LeavesBy g.C.Chooser.begins g.C.Chooser.picks c.args.choose.now in
    let words = map string_bytes c.args.words.now in
    let held = g.S.ImageSource.held c.args.images.now in
    let left = g.T.TextSource.left c.args.script.now in
    let command = c.in-Ok.command in
    let rose = Rose (g.S.ImageSource.faults c.args.images.now) (g.S.ImageSource.faults c.carry_out_any.new.images) ⊎ Rose (g.T.TextSource.faults c.args.script.now) (g.T.TextSource.faults c.carry_out_any.new.script) in
    ends_more rose rose (copies command) (copies_by words) (streams command) (streams_by words) (ComesTold leaves command held left) (IsDue leaves words held left) (g.K.ImageSink.made c.args.out.now) (g.K.ImageSink.made c.carry_out_any.new.out)
    (g.O.TextSink.written c.args.text.now) (g.O.TextSink.written c.carry_out_any.new.text) c.carry_out_any.result (λ it. it) (command_copies words command c.in-Ok.ensures.command) (command_streams words command c.in-Ok.ensures.command)
    (λ outcome told. command_due leaves words held left outcome command c.in-Ok.ensures.command told) c.carry_out_any.ensures.ends

pub returns-in-Ok-clause-stored : goal.returns-in-Ok-clause-stored
returns-in-Ok-clause-stored g c =
    let leaves = LeavesBy g.C.Chooser.begins g.C.Chooser.picks c.args.choose.now in
    let words = map string_bytes c.args.words.now in
    let held = g.S.ImageSource.held c.args.images.now in
    let left = g.T.TextSource.left c.args.script.now in
    let command = c.in-Ok.command in
    holds_more (ComesTold leaves command held left) (IsDue leaves words held left) (g.K.ImageSink.kept c.args.out.now) (g.K.ImageSink.kept c.carry_out_any.new.out)
    (g.O.TextSink.kept c.args.text.now) (g.O.TextSink.kept c.carry_out_any.new.text) c.carry_out_any.result (λ outcome told. command_due leaves words held left outcome command c.in-Ok.ensures.command told) c.carry_out_any.ensures.stored

pub returns-in-Err-clause-ends : goal.returns-in-Err-clause-ends
returns-in-Err-clause-ends g c =
    let leaves = LeavesBy g.C.Chooser.begins g.C.Chooser.picks c.args.choose.now in
    let words = map string_bytes c.args.words.now in
    let held = g.S.ImageSource.held c.args.images.now in
    let left = g.T.TextSource.left c.args.script.now in
    let rose = Rose (g.S.ImageSource.faults c.args.images.now) (g.S.ImageSource.faults c.args.images.now) ⊎ Rose (g.T.TextSource.faults c.args.script.now) (g.T.TextSource.faults c.args.script.now) in
    printing_more ⊥ rose (copies_by words) false (streams_by words) (IsMisused c.in-Err.fault) (IsDue leaves words held left) (g.K.ImageSink.made c.args.out.now) (g.O.TextSink.written c.args.text.now) (g.O.TextSink.written c.misused.new.text) c.misused.result
    (λ never. absurd never) (λ never. absurd (let e = never in cc)) (λ outcome is. usage_due leaves words held left outcome (c.command_from.ensures.usage (rw is.0 at c.in-Err.is)) is.1) c.misused.ensures.ends

pub returns-in-Err-clause-stored : goal.returns-in-Err-clause-stored
returns-in-Err-clause-stored g c =
    let leaves = LeavesBy g.C.Chooser.begins g.C.Chooser.picks c.args.choose.now in
    let words = map string_bytes c.args.words.now in
    let held = g.S.ImageSource.held c.args.images.now in
    let left = g.T.TextSource.left c.args.script.now in
    stored_more (IsMisused c.in-Err.fault) (IsDue leaves words held left) (g.K.ImageSink.kept c.args.out.now) (g.O.TextSink.kept c.args.text.now) (g.O.TextSink.kept c.misused.new.text) c.misused.result
    (λ outcome is. usage_due leaves words held left outcome (c.command_from.ensures.usage (rw is.0 at c.in-Err.is)) is.1) c.misused.ensures.stored
