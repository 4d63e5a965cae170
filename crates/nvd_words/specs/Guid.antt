-- GUID order: UEFI 2.10, appendix A, against RFC 9562, section 4.
use Rattle.std.specs.Prelude.{◌≡◌, ℕ, List, length}
use Rattle.uuid.specs.Parts.{swap_fields}

-- converting from one order to the other and back changes nothing
abbrev pub GuidOrderIsItsOwnInverse : Type 0
GuidOrderIsItsOwnInverse = (bytes : List ℕ) → length bytes ≡ 16 → swap_fields (swap_fields bytes) ≡ bytes
