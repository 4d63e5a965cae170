-- Bytes of a namespace that are changed, each by itself: by its number in the namespace and its old value.
use Rattle.std.specs.Prelude.{◌≡◌, ℕ, ◌+◌, ◌<◌, ◌++◌, List, length, map, take, drop, slice_index}
use Rattle.std.specs.List.{range_with_len}

-- bytes of a namespace, of which the first has number `from`, changed
abbrev pub changed_from : (ℕ → ℕ → ℕ) → ℕ → List ℕ → List ℕ
changed_from new from row = map (λ k. new (from + k) (slice_index row k)) (range_with_len 0 (length row))

-- only the first n of them
abbrev pub changed_front : (ℕ → ℕ → ℕ) → ℕ → ℕ → List ℕ → List ℕ
changed_front new from n row = take n (changed_from new from row) ++ drop n row

-- the new values of these bytes don't depend on the old ones
abbrev pub IsFree : (ℕ → ℕ → ℕ) → ℕ → ℕ → Type 0
IsFree new from count = (k old old' : ℕ) → k < count → new (from + k) old ≡ new (from + k) old'
