use Rattle.std.proofs.Common.{ℕ, List, map, subst}
use Rattle.namespace_areas.specs.Seen.{words_of}
use Rattle.shell_reports.proofs.More.{if_more}
use Rattle.shell_sectors.specs.Patched.{PrintsPatched}
use Rattle.shell_sectors.proofs.patching.patched_answer.Goals as goal

pub returns : goal.returns
returns c =
    if_more _ _ c.printed_patched.result
    (λ answer prints. subst (λ (text : List ℕ). PrintsPatched text c.args.patch c.args.rest (map words_of c.args.areas.items) answer) c.in_ok-report.ensures.text prints)
    c.printed_patched.ensures
