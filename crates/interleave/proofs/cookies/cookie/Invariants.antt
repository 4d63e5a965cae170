use Rattle.std.proofs.Common.{◌≡◌, take}
use Rattle.std.specs.List.{flat_map}
use Rattle.interleave.specs.Places.{cookie_entry}
use Rattle.interleave.proofs.cookies.cookie.Given as goal

abbrev pub invariant-loop-position : goal.invariant-loop-position
invariant-loop-position l = l.bytes.items ≡ flat_map cookie_entry (take l.position l.mappings)
