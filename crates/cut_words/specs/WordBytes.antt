-- Words as bytes, low byte first, as UEFI 2.10 stores numbers.
use Rattle.std.specs.Prelude.{ℕ, ◌+◌, List, [], ◌∷◌, ◌++◌, length, take, drop}
use Rattle.std.specs.List.{flat_map}
use Rattle.std.specs.Int.{w64, to_le_bytes, from_le_bytes}

-- the bytes of words
abbrev pub bytes_of : List ℕ → List ℕ
bytes_of words = flat_map (to_le_bytes w64) words

-- the words of bytes
abbrev pub words_in : List ℕ → List ℕ
words_in (a ∷ b ∷ c ∷ d ∷ e ∷ f ∷ g ∷ h ∷ bytes) = from_le_bytes w64 (a ∷ b ∷ c ∷ d ∷ e ∷ f ∷ g ∷ h ∷ []) ∷ words_in bytes
words_in bytes = []

-- words, some of them replaced by others
abbrev pub put_at : List ℕ → ℕ → List ℕ → List ℕ
put_at words at others = take at words ++ (others ++ drop (at + length others) words)
