-- Whether power is off, what each caller did and what it was told.
use Rattle.std.specs.Prelude.{ℕ, List, [], ◌∷◌, length, Bool, false, ◌||◌, ◌&&◌, not, nat_lt, slice_index_or}
use Rattle.turn_callers.specs.declared.desk.Mine.{Mine}

-- one of them is true
abbrev pub any_of : List Bool → Bool
any_of [] = false
any_of (b ∷ bs) = b || any_of bs

-- callers were told that power is off only if it is
abbrev pub told_only : Bool → List Bool → Bool
told_only off told = off || not (any_of told)

abbrev pub mine : Bool → Bool → Bool → Mine
mine p s t = record { placed = p; stopped = s; told = t }

-- whether there is a place for the caller q, what it did, and what it was told
abbrev pub mine_at : List Bool → List Bool → ℕ → Mine
mine_at stopped told q = mine (nat_lt q (length stopped) && nat_lt q (length told)) (slice_index_or stopped q false) (slice_index_or told q false)
