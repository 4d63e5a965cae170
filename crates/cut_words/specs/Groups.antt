-- Lists of stores and keeps that change words: this project's model.
use Rattle.std.specs.Prelude.{◌≢◌, ℕ, List, [], ◌∷◌, ◌++◌, map, slice_index}
use Rattle.std.specs.List.{All}
use Rattle.cut_words.specs.Words.{Step, store, keep}

-- each of these words is stored with its final value
abbrev pub stores : List ℕ → List ℕ → List Step
stores final places = map (λ i. store i (slice_index final i)) places

abbrev pub keeps : List ℕ → List Step
keeps places = map (λ i. keep i) places

-- a group: all of its words are stored, then all are flushed
abbrev pub group : List ℕ → List ℕ → List Step
group final places = stores final places ++ keeps places

-- one word is stored and flushed
abbrev pub written : ℕ → ℕ → List Step
written i v = store i v ∷ keep i ∷ []

-- A guarded change. Words that nobody reads yet are written. Then the guard is closed, the words it guards are written, and the
-- guard gets its final value.
abbrev pub guarded : List ℕ → List ℕ → ℕ → ℕ → List ℕ → List Step
guarded final before guard closed rest = group final before ++ (written guard closed ++ (group final rest ++ written guard (slice_index final guard)))

-- a place isn't among these
abbrev pub NotIn : List ℕ → ℕ → Type 0
NotIn places i = All (λ p. p ≢ i) places
