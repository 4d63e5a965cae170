use Rattle.std.proofs.Common.{refl}
use Rattle.interleave.proofs.Entries.{more}
use Rattle.interleave.proofs.cookies.add_entry.Goals as goal

pub returns : goal.returns
returns c =
    more _ _ _ _ _ _ c.in_ok-extend_from_slice.ensures.items c.to_le_bytes.ensures
    (more _ _ _ _ _ _ c.in_ok-extend_from_slice-2.ensures.items c.to_le_bytes-2.ensures
    (more _ _ _ _ _ _ c.in_ok-extend_from_slice-3.ensures.items c.to_le_bytes-3.ensures
    (more _ _ _ _ _ _ c.in_ok-extend_from_slice-4.ensures.items c.to_le_bytes-4.ensures
    (more _ _ _ _ _ _ c.in_ok-extend_from_slice-5.ensures.items refl c.in_ok-extend_from_slice-6.ensures.items))))
