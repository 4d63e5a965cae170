use Rattle.arena_layout.proofs.Reading.{layout_first}
use Rattle.arena_layout.proofs.info.read_checked.Goals as goal

pub returns-in-Some : goal.returns-in-Some
returns-in-Some c =
    layout_first _ _ _ _ c.if-not-has_signature.ensures c.if-not-has_checksum.ensures (cc) c.if-not-has_parent.ensures c.if-has_error.ensures c.in-Some.ensures.fault
