use Rattle.std.proofs.Common.{arith, ◌∙◌}
use Rattle.std.specs.Prelude.{string_bytes}
use Rattle.shell_reports.proofs.Regions.{member_more}
use Rattle.shell_reports.proofs.nfit.add_members.Goals as goal

pub loop-position-preserved : goal.loop-position-preserved
loop-position-preserved c =
    member_more c.args.set.now c.loop-position.position c.module_at.result (string_bytes c.loop-position.text) c.as_str.result.now (string_bytes c.push_str.new.self) _
    (omega (arith, c.loop-position-test.true, c.ways-position-end.ensures.ways)) c.module_at.ensures (c.as_str.ensures.value ∙ c.in_ok-format.ensures.ok) c.in_ok-push_str.ensures.bytes c.loop-position.invariant
