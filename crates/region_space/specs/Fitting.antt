-- Intermediate results of the searches for overlaps and for room.
use Rattle.std.specs.Prelude.{◌≡◌, ℕ, ◌+◌, ◌%◌, ◌<◌, ◌≤◌, ◌==◌, Bool, true, ◌&&◌, List, find, Option}
use Rattle.std.specs.Option.{option_map}
use Rattle.std.specs.List.{list_any}
use Rattle.region_space.specs.declared.extent.Extent.{Extent}
use Rattle.region_space.specs.declared.extent.SpaceFault.{SpaceFault}
use Rattle.region_space.specs.declared.extent.SpaceFault.TheVariants.{Overlap}
use Rattle.nfit_reader.specs.declared.table.Mapping.{Mapping}
use Rattle.region_space.specs.Space.{clash, ranges_meet}

-- the fault of an extent and the first of a list with which it clashes
abbrev pub partner_of : Extent → List Extent → Option SpaceFault
partner_of e es = option_map (λ f. Overlap e.owner f.owner) (find (clash e) es)

-- an extent overlaps `raw` bytes at an offset of a mapping
abbrev pub is_met : List Extent → ℕ → ℕ → Mapping → Bool
is_met extents raw offset m = list_any (λ e. (e.«module» == m.«module») && ranges_meet (m.start + offset) raw e.start e.length) extents

-- n is the least multiple of a unit from a number on
pub record IsMultipleFrom (bytes unit n : ℕ) : Type 0 where
  pub whole : n % unit ≡ 0
  pub from : bytes ≤ n
  pub near : n < bytes + unit
  pub least : (k : ℕ) → k % unit ≡ 0 → bytes ≤ k → n ≤ k

-- at all offsets from one up to another, extents overlap
pub record LeadsPast (set : List Mapping) (extents : List Extent) (raw offset past : ℕ) : Type 0 where
  pub above : offset < past
  pub met : (k : ℕ) → offset ≤ k → k < past → list_any (is_met extents raw k) set ≡ true
