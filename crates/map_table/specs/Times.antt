-- Counts as two rows of flags.
use Rattle.std.specs.Prelude.{ℕ, Bool, if◌then◌else◌, List, [], ◌∷◌}

-- 2 stands for every count above 1
abbrev pub times : Bool → Bool → ℕ
times named again = if again then 2 else if named then 1 else 0

abbrev pub counts_of : List Bool → List Bool → List ℕ
counts_of [] rest = []
counts_of (named ∷ others) [] = []
counts_of (named ∷ others) (again ∷ rest) = times named again ∷ counts_of others rest
