-- The values stored since the last flush, of words that may be pending or not.
use Rattle.std.specs.Prelude.{ℕ, Bool, if◌then◌else◌, List, [], ◌∷◌, Option, Some, None}

abbrev pub options_of : List Bool → List ℕ → List (Option ℕ)
options_of [] values = []
options_of (flag ∷ flags) [] = []
options_of (flag ∷ flags) (value ∷ values) = (if flag then Some value else None) ∷ options_of flags values
