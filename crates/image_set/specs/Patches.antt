-- The contents of modules with some bytes changed, each by itself: this project's rules.
use Rattle.std.specs.Prelude.{◌≡◌, ℕ, ◌+◌, ◌<◌, List, [], length, map, slice_index, slice_index_or}
use Rattle.std.specs.List.{range_with_len}

-- a piece of a module's contents, of which `at` is the address of the first byte, changed by the new value of each byte
abbrev pub patched_row : (ℕ → ℕ → ℕ → ℕ) → ℕ → ℕ → List ℕ → List ℕ
patched_row f m at row = map (λ k. f m (at + k) (slice_index row k)) (range_with_len 0 (length row))

-- the contents of all modules, changed
abbrev pub patched_contents : (ℕ → ℕ → ℕ → ℕ) → List (List ℕ) → List (List ℕ)
patched_contents f contents = map (λ m. patched_row f m 0 (slice_index_or contents m [])) (range_with_len 0 (length contents))

-- the new values of these bytes don't depend on the old ones
abbrev pub IsCovered : (ℕ → ℕ → ℕ → ℕ) → ℕ → ℕ → ℕ → Type 0
IsCovered f m at bytes = (k old old' : ℕ) → k < bytes → f m (at + k) old ≡ f m (at + k) old'
