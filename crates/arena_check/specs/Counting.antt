-- Findings by counts, of which entry b says how often block b was named.
use Rattle.std.specs.Prelude.{ℕ, ◌==◌, nat_lt, List, map, filter, slice_index}
use Rattle.std.specs.List.{range_with_len}
use Rattle.arena_check.specs.declared.finding.Finding.{Finding}
use Rattle.arena_check.specs.declared.finding.Finding.TheVariants as found

-- the Twice findings of the blocks below n
abbrev pub often_in : List ℕ → ℕ → List Finding
often_in counts n = map found.Twice (filter (λ block. nat_lt 1 (slice_index counts block)) (range_with_len 0 n))

-- the Missing findings of the blocks below n
abbrev pub never_in : List ℕ → ℕ → List Finding
never_in counts n = map found.Missing (filter (λ block. slice_index counts block == 0) (range_with_len 0 n))
