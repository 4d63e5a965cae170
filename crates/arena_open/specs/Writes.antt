-- Words that are written in sequence, each stored and flushed before the next: this project's rule.
use Rattle.std.specs.Prelude.{◌≡◌, ◌⊎◌, ℕ, ◌+◌, ◌/◌, ◌^◌, ◌<◌, ◌≤◌, List, [], ◌∷◌, length, take, slice_set}
use Rattle.cut_words.specs.Words.{Words, Step, store, keep, after, settled, IsLeftAfter}

-- a word and its new value
pub record Write : Type 0 where
  pub place : ℕ
  pub value : ℕ

-- two steps each
abbrev pub write_steps : List Write → List Step
write_steps [] = []
write_steps (w ∷ writes) = store w.place w.value ∷ keep w.place ∷ write_steps writes

-- words with these values written
abbrev pub written_over : List ℕ → List Write → List ℕ
written_over words [] = words
written_over words (w ∷ writes) = written_over (slice_set words w.place w.value) writes

-- writes of these values from `base` on
abbrev pub run_at : ℕ → List ℕ → List Write
run_at base [] = []
run_at base (v ∷ values) = record { place = base; value = v } ∷ run_at (base + 1) values

-- none of the words is pending
abbrev pub IsSettled : Words → Type 0
IsSettled words = words ≡ settled words.kept

-- These words of a space can be read and written: `count` words from word `at` on.
pub record LiesInSpace (at count : ℕ) (space : Words) : Type 0 where
  -- they lie in the space
  pub inside : at + count ≤ length space.kept
  pub small : length space.kept < 2 ^ 60
  -- none of the space's words is pending
  pub settled : IsSettled space

-- a law: after all steps no word is pending, and each has the value that was last written, or its old one
abbrev pub WritesSettle : Type 0
WritesSettle = (old : List ℕ) (writes : List Write) → after (settled old) (write_steps writes) ≡ settled (written_over old writes)

-- a law: after a crash that follows n steps, the writes whose two steps were made are done; if the next one was stored, it may be
-- done too
abbrev pub WritesAreCut : Type 0
WritesAreCut = (old : List ℕ) (writes : List Write) (n : ℕ) (left : List ℕ) → IsLeftAfter old (write_steps writes) n left
    → (left ≡ written_over old (take (n / 2) writes)) ⊎ (left ≡ written_over old (take (n / 2 + 1) writes))
