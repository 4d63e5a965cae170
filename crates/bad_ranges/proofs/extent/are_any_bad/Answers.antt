use Rattle.std.proofs.Common.{◌+◌, ◌≤◌, sym, ◌∙◌, arith, inl, inr}
use Rattle.std.proofs.lemmas.Bool.{cases_lt}
use Rattle.bad_ranges.specs.Bad.{bad_words}
use Rattle.bad_ranges.proofs.Records.{among_more, each_fails, none_here}
use Rattle.bad_ranges.proofs.Runs.{past_end}
use Rattle.bad_ranges.proofs.extent.are_any_bad.Goals as goal

pub returns-then-is_run_bad : goal.returns-then-is_run_bad
returns-then-is_run_bad c objects tables =
    let inside : c.loop-i.i + c.min-run.result ≤ c.args.first + c.args.count = omega (arith, c.min-run.ensures, c.min-end.ensures, c.loop-i-test.true) in
    sym (among_more (bad_words c.args.extent.now objects) c.args.first c.args.count c.loop-i.i c.min-run.result c.loop-i.invariant.from inside
    (sym (c.is_run_bad.ensures objects tables) ∙ c.if-is_run_bad.true))

pub loop-i-preserved : goal.loop-i-preserved
loop-i-preserved c = record {
  from = omega arith;
  good = λ objects tables j le lt. elim (cases_lt j c.loop-i.i) [
    | inl before ↦ c.loop-i.invariant.good objects tables j le before
    | inr here ↦ each_fails (bad_words c.args.extent.now objects) c.loop-i.i c.min-run.result j (sym (c.is_run_bad.ensures objects tables) ∙ c.if-is_run_bad.false) here lt
  ];
}

pub returns : goal.returns
returns c objects tables =
    sym (none_here (bad_words c.args.extent.now objects) c.args.first c.args.count (λ j le lt. elim (cases_lt j c.loop-i.i) [
      | inl before ↦ c.loop-i.invariant.good objects tables j le before
      | inr past ↦ past_end c.args.extent.now objects j (omega (arith, past, lt, c.loop-i-test.false, c.min-end.ensures, c.bytes.ensures.bytes))
    ]))
