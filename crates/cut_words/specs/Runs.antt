-- Runs of words that lie side by side: this project's model.
use Rattle.std.specs.Prelude.{◌≡◌, ℕ, ◌+◌, ◌<◌, ◌≤◌, List, [], ◌∷◌, ◌++◌, length, slice_index_or, None}
use Rattle.std.specs.List.{range_with_len}
use Rattle.cut_words.specs.Words.{Words, Step, store}
use Rattle.cut_words.specs.Groups.{keeps}

-- these values are stored into the words from `base` on
abbrev pub stores_from : ℕ → List ℕ → List Step
stores_from base [] = []
stores_from base (v ∷ values) = store base v ∷ stores_from (base + 1) values

-- this many words from `base` on are flushed
abbrev pub keeps_from : ℕ → ℕ → List Step
keeps_from base count = keeps (range_with_len base count)

-- a run is written: all stored, then all kept
abbrev pub run_steps : ℕ → List ℕ → List Step
run_steps base values = stores_from base values ++ keeps_from base (length values)

-- none of this many words from `base` on is pending
abbrev pub NonePending : Words → ℕ → ℕ → Type 0
NonePending words base count = (i : ℕ) → base ≤ i → i < base + count → slice_index_or words.stored i None ≡ None
