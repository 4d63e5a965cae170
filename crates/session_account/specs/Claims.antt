-- Claims are the places that sessions have open.
use Rattle.std.specs.Prelude.{◌≡◌, ℕ, ◌+◌, ◌-◌, ◌<◌, Bool, false, List, length, count_by, slice_index_or, slice_set, Option, Some, None}
use Rattle.std.specs.Str.{bytes_eq}
use Rattle.namespace_ops.specs.Claims.{count_of, with_count}

abbrev pub has_open : List ℕ → Option (List ℕ) → Bool
has_open uuid None = false
has_open uuid (Some held) = bytes_eq held uuid

-- each UUID is claimed as often as sessions have it open; these are given by session
abbrev pub AreOpen : List (List ℕ × ℕ) → List (Option (List ℕ)) → Type 0
AreOpen claims opens = (uuid : List ℕ) → count_of claims uuid ≡ count_by (has_open uuid) opens

-- a law: a session that had none open claims one
abbrev pub ClaimOpens : Type 0
ClaimOpens =
    (claims : List (List ℕ × ℕ)) (opens : List (Option (List ℕ))) (q : ℕ) (uuid : List ℕ) → q < length opens → slice_index_or opens q None ≡ None → AreOpen claims opens
    → AreOpen (with_count claims uuid (count_of claims uuid + 1)) (slice_set opens q (Some uuid))

-- a law: it gives that one back
abbrev pub UnclaimCloses : Type 0
UnclaimCloses =
    (claims : List (List ℕ × ℕ)) (opens : List (Option (List ℕ))) (q : ℕ) (uuid : List ℕ) → q < length opens → slice_index_or opens q None ≡ Some uuid → AreOpen claims opens
    → AreOpen (with_count claims uuid (count_of claims uuid - 1)) (slice_set opens q None)

-- a law: what a session has open is claimed
abbrev pub OpenIsClaimed : Type 0
OpenIsClaimed =
    (claims : List (List ℕ × ℕ)) (opens : List (Option (List ℕ))) (q : ℕ) (uuid : List ℕ) → q < length opens → slice_index_or opens q None ≡ Some uuid → AreOpen claims opens
    → 0 < count_of claims uuid
