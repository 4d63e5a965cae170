use Rattle.std.proofs.Common.{◌⊎◌, true, inl, subst, sym}
use Rattle.std.specs.Prelude.{IsTrue}
use Rattle.nvd_media.specs.Causes.{Rose}
use Rattle.shell_changes.specs.Remains.{LeavesBy}
use Rattle.shell_run.specs.declared.words.CommandLine.{CommandLine}
use Rattle.shell_run.specs.declared.top.Streamed.{Streamed}
use Rattle.shell_run.specs.declared.top.Streamed.TheVariants.{Export, Rescue}
use Rattle.shell_run.specs.Printed.{Streams}
use Rattle.shell_run.specs.Run.{ComesTold, OnImages, copies, streams}
use Rattle.shell_run.proofs.Comes.{streamed_due}
use Rattle.shell_run.proofs.Ending.{printing_more, stored_more}
use Rattle.shell_run.proofs.top.carry_out.Goals as goal

pub returns-in-Export-clause-ends : goal.returns-in-Export-clause-ends
returns-in-Export-clause-ends g c =
    let leaves = LeavesBy g.C.Chooser.begins g.C.Chooser.picks c.args.choose.now in
    let held = g.S.ImageSource.held c.args.images.now in
    let left = g.T.TextSource.left c.args.script.now in
    let rose = Rose (g.S.ImageSource.faults c.args.images.now) (g.S.ImageSource.faults c.stream.new.images) in
    printing_more rose (rose ⊎ Rose (g.T.TextSource.faults c.args.script.now) (g.T.TextSource.faults c.args.script.now)) (copies c.args.command) true (streams c.args.command) (OnImages (Streams (Export c.in-Export.uuid c.in-Export.zeros)) held) (ComesTold leaves c.args.command held left) (g.K.ImageSink.made c.args.out.now) (g.O.TextSink.written c.args.text.now) (g.O.TextSink.written c.stream.new.text) c.stream.result
    (λ it. inl it) (λ it. subst (λ (line : CommandLine). IsTrue (streams line)) (sym c.in-Export.is) it) (λ outcome due. streamed_due leaves c.args.command (Export c.in-Export.uuid c.in-Export.zeros) held left outcome c.in-Export.is due) c.stream.ensures.ends

pub returns-in-Export-clause-stored : goal.returns-in-Export-clause-stored
returns-in-Export-clause-stored g c =
    let leaves = LeavesBy g.C.Chooser.begins g.C.Chooser.picks c.args.choose.now in
    let held = g.S.ImageSource.held c.args.images.now in
    let left = g.T.TextSource.left c.args.script.now in
    stored_more (OnImages (Streams (Export c.in-Export.uuid c.in-Export.zeros)) held) (ComesTold leaves c.args.command held left) (g.K.ImageSink.kept c.args.out.now) (g.O.TextSink.kept c.args.text.now) (g.O.TextSink.kept c.stream.new.text) c.stream.result
    (λ outcome due. streamed_due leaves c.args.command (Export c.in-Export.uuid c.in-Export.zeros) held left outcome c.in-Export.is due) c.stream.ensures.stored

pub returns-in-Rescue-clause-ends : goal.returns-in-Rescue-clause-ends
returns-in-Rescue-clause-ends g c =
    let leaves = LeavesBy g.C.Chooser.begins g.C.Chooser.picks c.args.choose.now in
    let held = g.S.ImageSource.held c.args.images.now in
    let left = g.T.TextSource.left c.args.script.now in
    let rose = Rose (g.S.ImageSource.faults c.args.images.now) (g.S.ImageSource.faults c.stream-in-Rescue.new.images) in
    printing_more rose (rose ⊎ Rose (g.T.TextSource.faults c.args.script.now) (g.T.TextSource.faults c.args.script.now)) (copies c.args.command) true (streams c.args.command) (OnImages (Streams (Rescue c.in-Rescue.uuid c.in-Rescue.listing)) held) (ComesTold leaves c.args.command held left) (g.K.ImageSink.made c.args.out.now) (g.O.TextSink.written c.args.text.now) (g.O.TextSink.written c.stream-in-Rescue.new.text) c.stream-in-Rescue.result
    (λ it. inl it) (λ it. subst (λ (line : CommandLine). IsTrue (streams line)) (sym c.in-Rescue.is) it) (λ outcome due. streamed_due leaves c.args.command (Rescue c.in-Rescue.uuid c.in-Rescue.listing) held left outcome c.in-Rescue.is due) c.stream-in-Rescue.ensures.ends

pub returns-in-Rescue-clause-stored : goal.returns-in-Rescue-clause-stored
returns-in-Rescue-clause-stored g c =
    let leaves = LeavesBy g.C.Chooser.begins g.C.Chooser.picks c.args.choose.now in
    let held = g.S.ImageSource.held c.args.images.now in
    let left = g.T.TextSource.left c.args.script.now in
    stored_more (OnImages (Streams (Rescue c.in-Rescue.uuid c.in-Rescue.listing)) held) (ComesTold leaves c.args.command held left) (g.K.ImageSink.kept c.args.out.now) (g.O.TextSink.kept c.args.text.now) (g.O.TextSink.kept c.stream-in-Rescue.new.text) c.stream-in-Rescue.result
    (λ outcome due. streamed_due leaves c.args.command (Rescue c.in-Rescue.uuid c.in-Rescue.listing) held left outcome c.in-Rescue.is due) c.stream-in-Rescue.ensures.stored
