use Rattle.std.proofs.Common.{◌≡◌, ◌-◌, get_or}
use Rattle.std.specs.Prelude.{find}
use Rattle.std.specs.List.{range_with_len}
use Rattle.map_table.specs.Entry.{entry_of}
use Rattle.namespace_bytes.specs.Bad.{bad_in, says_bad}
use Rattle.shell_export.proofs.bad.bad_in.Given as goal

abbrev pub invariant-loop-own : goal.invariant-loop-own
invariant-loop-own l =
    bad_in l.arena.opened ≡ find (λ own. says_bad (entry_of (get_or l.arena.opened.entries own 0) own).kind) (range_with_len l.own (l.arena.opened.info.layout.external - l.own))
