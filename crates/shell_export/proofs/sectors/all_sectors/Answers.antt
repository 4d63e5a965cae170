use Rattle.std.proofs.Common.{◌≡◌, map}
use Rattle.arena_open.specs.Chain.{state_at}
use Rattle.namespace_words.specs.Source.{words_by}
use Rattle.shell_reports.specs.declared.status.Status.TheVariants as status
use Rattle.shell_export.specs.Export.{sectors_bytes}
use Rattle.shell_export.specs.Printing.{KnowsAll}
use Rattle.shell_export.proofs.Told.{by_read, by_write, told}
use Rattle.shell_export.proofs.sectors.all_sectors.Goals as goal

pub returns-clause-printed : goal.returns-clause-printed
returns-clause-printed g c =
    told c.print_sectors.result c.status_after.result (KnowsAll (g.S.ImageSource.held c.args.images.now) c.args.extent.now c.args.arenas.now)
    (λ contents. sectors_bytes (map (state_at (words_by c.args.extent.now contents)) c.args.arenas.now))
    (g.O.TextSink.written c.args.text.now) (g.O.TextSink.written c.print_sectors.new.text) (g.O.TextSink.kept c.args.text.now) (g.O.TextSink.kept c.print_sectors.new.text)
    c.print_sectors.ensures.all c.print_sectors.ensures.part c.status_after.ensures.all c.status_after.ensures.read c.status_after.ensures.write

pub returns-clause-read : goal.returns-clause-read
returns-clause-read g c = λ is.
    by_read c.print_sectors.result c.status_after.result _ c.print_sectors.ensures.read c.status_after.ensures.all c.status_after.ensures.write (let same : c.status_after.result ≡ status.ReadFault = cc in same)

pub returns-clause-failed : goal.returns-clause-failed
returns-clause-failed g c = λ is.
    by_write c.print_sectors.result c.status_after.result _ c.print_sectors.ensures.write c.status_after.ensures.all c.status_after.ensures.read (let same : c.status_after.result ≡ status.WriteFault = cc in same)
