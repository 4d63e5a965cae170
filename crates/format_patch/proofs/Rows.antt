-- Worked rows, computed: what is there after some steps of a format.
use Rattle.std.proofs.Common.{◌≡◌, true, false, refl}
use Rattle.format_patch.specs.Format.{is_pending, words_left}

-- no step was made
pub none : (words_left 0 false ≡ 0) × (is_pending 0 ≡ false)
none = (refl, refl)

-- the third word is stored: it is there, or not
pub odd : (words_left 5 false ≡ 2) × (words_left 5 true ≡ 3) × (is_pending 5 ≡ true)
odd = (refl, refl, refl)

-- it is flushed
pub even : (words_left 6 false ≡ 3) × (words_left 6 true ≡ 3) × (is_pending 6 ≡ false)
even = (refl, refl, refl)
