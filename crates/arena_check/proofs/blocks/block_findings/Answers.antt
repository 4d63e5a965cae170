use Rattle.arena_check.proofs.Counted.{all_found}
use Rattle.arena_check.proofs.blocks.block_findings.Goals as goal

pub returns : goal.returns
returns c =
    all_found c.args.internal _ _ _ c.args.entries.now _ _ _ _ _ _ c.new-findings.ensures c.in_ok-counts.ensures
    c.count_entries.ensures.sized c.in_ok-count_entries.ensures.counted c.in_ok-count_entries.ensures.found
    c.count_free.ensures.sized c.in_ok-count_free.ensures.counted c.in_ok-count_free.ensures.found
    c.in_ok-list_twice.ensures c.in_ok-list_missing.ensures
