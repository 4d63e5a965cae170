-- How often UUIDs are claimed, as a list of counts: this project's rules.
use Rattle.std.specs.Prelude.{ℕ, List, ◌∷◌, not, filter, find, unwrap_or}
use Rattle.std.specs.Option.{option_map}
use Rattle.std.specs.Str.{bytes_eq}

-- counts, and for how many there is room
pub record Counts : Type 0 where
  pub counts : List (List ℕ × ℕ)
  pub room : ℕ

-- the count of a UUID
abbrev pub count_of : List (List ℕ × ℕ) → List ℕ → ℕ
count_of counts uuid = unwrap_or (option_map (λ c. c.1) (find (λ c. bytes_eq c.0 uuid) counts)) 0

-- counts with this one for a UUID
abbrev pub with_count : List (List ℕ × ℕ) → List ℕ → ℕ → List (List ℕ × ℕ)
with_count counts uuid n = (uuid, n) ∷ filter (λ c. not (bytes_eq c.0 uuid)) counts
