use Rattle.std.proofs.Common.{ap, arith}
use Rattle.std.specs.Prelude.{count_by}
use Rattle.std.proofs.lemmas.List.Sums.{sum_by_more}
use Rattle.shell_serve.specs.Texts.{is_read, is_write}
use Rattle.shell_serve.proofs.TextLines.{both_few}
use Rattle.shell_serve.proofs.texts.counts_of.Goals as goal

pub loop-session-preserved : goal.loop-session-preserved
loop-session-preserved c =
    let own = c.session-item.result in
    let both = both_few own.calls in
    let reads = sum_by_more (λ session. count_by is_read session.calls) c.as_slice-session-items.result.now c.loop-session.session-index own c.loop-session-test.true in
    let writes = sum_by_more (λ session. count_by is_write session.calls) c.as_slice-session-items.result.now c.loop-session.session-index own c.loop-session-test.true in
    let at_reads = ap (λ session. count_by is_read session.calls) c.session-item.is in
    let at_writes = ap (λ session. count_by is_write session.calls) c.session-item.is in
    record {
      reads = omega (arith, reads, at_reads, c.reads_of.ensures, c.loop-session.invariant.reads);
      writes = omega (arith, writes, at_writes, c.writes_of.ensures, c.loop-session.invariant.writes);
      few = omega (arith, both, c.reads_of.ensures, c.writes_of.ensures, c.len.ensures, c.loop-session.invariant.few);
      all = omega (arith, c.loop-session.invariant.all);
    }
