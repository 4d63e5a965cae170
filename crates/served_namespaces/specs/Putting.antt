-- The words of arenas are put one behind another, as the code does it.
use Rattle.std.specs.Prelude.{ℕ, ◌+◌, List, [], ◌∷◌, length, sum_by}
use Rattle.cut_words.specs.WordBytes.{put_at}

abbrev pub put_parts : ℕ → List (List ℕ) → List ℕ → List ℕ
put_parts at [] words = words
put_parts at (part ∷ parts) words = put_parts (at + length part) parts (put_at words at part)

abbrev pub total_of : List (List ℕ) → ℕ
total_of parts = sum_by (λ (part : List ℕ). length part) parts
