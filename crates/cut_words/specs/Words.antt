-- Words that a power loss may change: this project's model of the persistence domain.
use Rattle.std.specs.Prelude.{◌≡◌, ◌⊎◌, ℕ, ◌+◌, ◌<◌, List, [], ◌∷◌, length, replicate, take, slice_index, slice_index_or, slice_set, Option, Some, None, unwrap_or}

-- the kept value of each word, and the value stored since, if there is one
pub record Words : Type 0 where
  pub kept : List ℕ
  pub stored : List (Option ℕ)

-- a load returns the stored value, or the kept one if there is none
abbrev pub seen_at : Words → ℕ → ℕ
seen_at words i = unwrap_or (slice_index_or words.stored i None) (slice_index words.kept i)

-- none of `count` words from word `first` on is pending
abbrev pub AreFlushed : Words → ℕ → ℕ → Type 0
AreFlushed words first count = (k : ℕ) → k < count → slice_index_or words.stored (first + k) None ≡ None

-- words with these kept values, none of them pending
abbrev pub settled : List ℕ → Words
settled values = record { kept = values; stored = replicate (length values) None }

pub data Step : Type 0 where
  store : ℕ → ℕ → Step
  keep : ℕ → Step

-- a step; a flush makes the value that a load returns the kept one
abbrev pub stepped : Words → Step → Words
stepped words (store i v) = record { kept = words.kept; stored = slice_set words.stored i (Some v) }
stepped words (keep i) = record { kept = slice_set words.kept i (seen_at words i); stored = slice_set words.stored i None }

unfoldable pub after : Words → List Step → Words
after words [] = words
after words (step ∷ steps) = after (stepped words step) steps

-- the words after a crash: each has, independently, its kept value or the one that a load returns
pub record IsLeft (words : Words) (left : List ℕ) : Type 0 where
  pub same_length : length left ≡ length words.kept
  pub each : (i : ℕ) → (slice_index left i ≡ slice_index words.kept i) ⊎ (slice_index left i ≡ seen_at words i)

-- the words after a crash that follows n steps
abbrev pub IsLeftAfter : List ℕ → List Step → ℕ → List ℕ → Type 0
IsLeftAfter values steps n left = IsLeft (after (settled values) (take n steps)) left
