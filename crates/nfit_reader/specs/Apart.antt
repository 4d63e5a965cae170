-- DPA ranges without a common byte.
use Rattle.std.specs.Prelude.{◌≡◌, ℕ, ◌+◌, ◌<◌, ◌==◌, nat_lt, nat_le, Bool, true, ◌&&◌, ◌||◌, List, length, slice_index_or}
use Rattle.nfit_reader.specs.declared.alias.DpaRange.{DpaRange}

-- a DPA range is of a module before the other's, or ends before the other starts on the same module
unfoldable pub is_before : DpaRange → DpaRange → Bool
is_before a b = nat_lt a.«module» b.«module» || ((a.«module» == b.«module») && nat_le (a.start + a.size) b.start)

-- each DPA range is before the next one
abbrev pub StandApart : List DpaRange → Type 0
StandApart dpa_ranges = (k : ℕ) (d : DpaRange) → k + 1 < length dpa_ranges → is_before (slice_index_or dpa_ranges k d) (slice_index_or dpa_ranges (k + 1) d) ≡ true
