-- The states after a crash during a change that one word guards: this project's model.
use Rattle.std.specs.Prelude.{◌≡◌, ◌≢◌, ◌⊎◌, ℕ, ◌+◌, ◌<◌, ◌≤◌, List, length, slice_index}
use Rattle.std.specs.List.{All}
use Rattle.cut_words.specs.Words.{after, settled, IsLeftAfter}
use Rattle.cut_words.specs.Groups.{NotIn, guarded}

-- the shape of a change: the guard is in neither group, and no other word changes
pub record IsGuarded (old final before : List ℕ) (guard : ℕ) (rest : List ℕ) : Type 0 where
  pub same_length : length final ≡ length old
  pub guard_in : guard < length old
  pub before_in : All (λ p. p < length old) before
  pub rest_in : All (λ p. p < length old) rest
  pub before_apart : NotIn before guard
  pub rest_apart : NotIn rest guard
  pub outside : (i : ℕ) → NotIn before i → NotIn rest i → i ≢ guard → slice_index final i ≡ slice_index old i

-- only words that nobody reads yet differ
pub record IsBut (old before left : List ℕ) : Type 0 where
  pub same_length : length left ≡ length old
  pub same : (i : ℕ) → NotIn before i → slice_index left i ≡ slice_index old i

-- the guard is closed; besides it only the words it guards and those that nobody reads yet differ
pub record IsClosed (old before : List ℕ) (guard closed : ℕ) (rest left : List ℕ) : Type 0 where
  pub same_length : length left ≡ length old
  pub shut : slice_index left guard ≡ closed
  pub same : (i : ℕ) → NotIn before i → NotIn rest i → i ≢ guard → slice_index left i ≡ slice_index old i

-- nothing of the change shows
abbrev pub IsOld : List ℕ → List ℕ → ℕ → ℕ → List ℕ → List ℕ → Type 0
IsOld old before guard closed rest left = IsBut old before left ⊎ IsClosed old before guard closed rest left

-- The words after a crash that follows n steps. With more than one step missing, nothing of the change shows; with one step
-- missing, nothing or all of it; after the last step, all of it.
pub record IsWhole (old final before : List ℕ) (guard closed : ℕ) (rest : List ℕ) (n : ℕ) (left : List ℕ) : Type 0 where
  pub early : n + 1 < length (guarded final before guard closed rest) → IsOld old before guard closed rest left
  pub last : n + 1 ≡ length (guarded final before guard closed rest) → IsOld old before guard closed rest left ⊎ (left ≡ final)
  pub done : length (guarded final before guard closed rest) ≤ n → left ≡ final

-- a law: a crash leaves a guarded change complete, or invisible
abbrev pub GuardedIsWhole : Type 0
GuardedIsWhole = (old final before : List ℕ) (guard closed : ℕ) (rest : List ℕ) → IsGuarded old final before guard rest
    → (n : ℕ) (left : List ℕ) → IsLeftAfter old (guarded final before guard closed rest) n left → IsWhole old final before guard closed rest n left

-- a law: after a guarded change no word is pending and each has its final value, so another change may follow
abbrev pub GuardedSettles : Type 0
GuardedSettles = (old final before : List ℕ) (guard closed : ℕ) (rest : List ℕ) → IsGuarded old final before guard rest
    → after (settled old) (guarded final before guard closed rest) ≡ settled final
