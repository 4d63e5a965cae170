use Rattle.std.proofs.Common.{◌≡◌}
use Rattle.cut_words.specs.WordBytes.{bytes_of}
use Rattle.namespace_words.specs.Source.{Reveals, words_by}
use Rattle.shell_reports.specs.declared.status.Status.TheVariants as status
use Rattle.shell_export.proofs.Told.{by_read, by_write, told}
use Rattle.shell_export.proofs.raw.raw_answer.Goals as goal

pub returns-clause-printed : goal.returns-clause-printed
returns-clause-printed g c =
    told c.print_pieces.result c.status_after.result (Reveals (g.S.ImageSource.held c.args.images.now) c.args.extent.now.set)
    (λ contents. bytes_of (words_by c.args.extent.now contents))
    (g.O.TextSink.written c.args.text.now) (g.O.TextSink.written c.print_pieces.new.text) (g.O.TextSink.kept c.args.text.now) (g.O.TextSink.kept c.print_pieces.new.text)
    c.print_pieces.ensures.all c.print_pieces.ensures.part c.status_after.ensures.all c.status_after.ensures.read c.status_after.ensures.write

pub returns-clause-read : goal.returns-clause-read
returns-clause-read g c = λ is.
    by_read c.print_pieces.result c.status_after.result _ c.print_pieces.ensures.read c.status_after.ensures.all c.status_after.ensures.write (let same : c.status_after.result ≡ status.ReadFault = cc in same)

pub returns-clause-failed : goal.returns-clause-failed
returns-clause-failed g c = λ is.
    by_write c.print_pieces.result c.status_after.result _ c.print_pieces.ensures.write c.status_after.ensures.all c.status_after.ensures.read (let same : c.status_after.result ≡ status.WriteFault = cc in same)
