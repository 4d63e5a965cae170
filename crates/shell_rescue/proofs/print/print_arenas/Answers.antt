use Rattle.std.proofs.Common.{◌≡◌}
use Rattle.namespace_words.specs.Source.{Reveals, words_by}
use Rattle.shell_reports.specs.declared.status.Status.TheVariants as status
use Rattle.shell_export.proofs.Told.{by_read, by_write, told}
use Rattle.shell_rescue.specs.Rescue.{arenas_bytes}
use Rattle.shell_rescue.proofs.print.print_arenas.Goals as goal

pub returns-clause-printed : goal.returns-clause-printed
returns-clause-printed g c =
    told c.print_all.result c.status_after.result (Reveals (g.S.ImageSource.held c.args.images.now) c.args.extent.now.set)
    (λ contents. arenas_bytes (words_by c.args.extent.now contents) c.args.arenas.now)
    (g.O.TextSink.written c.args.text.now) (g.O.TextSink.written c.print_all.new.text) (g.O.TextSink.kept c.args.text.now) (g.O.TextSink.kept c.print_all.new.text)
    c.print_all.ensures.all c.print_all.ensures.part c.status_after.ensures.all c.status_after.ensures.read c.status_after.ensures.write

pub returns-clause-read : goal.returns-clause-read
returns-clause-read g c = λ is.
    by_read c.print_all.result c.status_after.result _ c.print_all.ensures.read c.status_after.ensures.all c.status_after.ensures.write (let same : c.status_after.result ≡ status.ReadFault = cc in same)

pub returns-clause-failed : goal.returns-clause-failed
returns-clause-failed g c = λ is.
    by_write c.print_all.result c.status_after.result _ c.print_all.ensures.write c.status_after.ensures.all c.status_after.ensures.read (let same : c.status_after.result ≡ status.WriteFault = cc in same)
