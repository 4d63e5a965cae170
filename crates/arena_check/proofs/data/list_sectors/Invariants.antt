use Rattle.std.proofs.Common.{◌≡◌}
use Rattle.std.specs.List.{range_with_len}
use Rattle.std.specs.Prelude.{slice_index}
use Rattle.map_table.specs.Entry.{entry_of}
use Rattle.arena_check.specs.declared.finding.Finding.TheVariants.{BadData}
use Rattle.arena_check.specs.Check.{in_arena, is_bad_data}
use Rattle.arena_check.proofs.Picked.{picked}
use Rattle.arena_check.proofs.data.list_sectors.Given as goal

abbrev pub invariant-loop-sector : goal.invariant-loop-sector
invariant-loop-sector g l =
    l.findings
    ≡ picked BadData (λ sector. is_bad_data l.layout (in_arena l.at (g.B.BadWords.bad l.bad)) (entry_of (slice_index l.entries sector) sector)) (range_with_len 0 l.sector)
