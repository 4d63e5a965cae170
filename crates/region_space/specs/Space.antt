-- Extents and the space between them; this project's rules.
use Rattle.std.specs.Prelude.{◌≡◌, ℕ, ◌+◌, ◌%◌, ◌<◌, ◌==◌, nat_lt, nat_le, Bool, false, IsTrue, not, ◌&&◌, List, [], ◌∷◌, find, Option, Some, None}
use Rattle.std.specs.Option.{option_map}
use Rattle.std.specs.List.{list_all}
use Rattle.std.specs.Str.{bytes_eq}
use Rattle.nvd_words.specs.Checks.{first_fault}
use Rattle.nfit_reader.specs.declared.table.Mapping.{Mapping}
use Rattle.region_space.specs.declared.extent.Extent.{Extent}
use Rattle.region_space.specs.declared.extent.SpaceFault.{SpaceFault}
use Rattle.region_space.specs.declared.extent.SpaceFault.TheVariants.{Overlap}

-- the ranges from a to a + m and from b to b + n overlap
abbrev pub ranges_meet : ℕ → ℕ → ℕ → ℕ → Bool
ranges_meet a m b n = nat_lt a (b + n) && nat_lt b (a + m)

abbrev pub extents_meet : Extent → Extent → Bool
extents_meet e f = (e.«module» == f.«module») && ranges_meet e.start e.length f.start f.length

abbrev pub clash : Extent → Extent → Bool
clash e f = not (bytes_eq e.owner f.owner) && extents_meet e f

-- the first two extents of different owners that overlap
unfoldable pub overlap_of : List Extent → Option SpaceFault
overlap_of [] = None
overlap_of (e ∷ es) = first_fault (option_map (λ f. Overlap e.owner f.owner) (find (clash e) es) ∷ overlap_of es ∷ [])

-- `raw` bytes at an offset of each module's mapping lie inside it and overlap no extent
abbrev pub is_clear : List Extent → ℕ → ℕ → Mapping → Bool
is_clear extents raw offset m =
    nat_le (offset + raw) m.size
    && list_all (λ e. not ((e.«module» == m.«module») && ranges_meet (m.start + offset) raw e.start e.length)) extents

abbrev pub fits : List Mapping → List Extent → ℕ → ℕ → Bool
fits set extents raw offset = list_all (is_clear extents raw offset) set

-- an offset that fits, and no multiple of the unit below it does
pub record IsFirstFit (set : List Mapping) (extents : List Extent) (unit raw offset : ℕ) : Type 0 where
  pub whole : offset % unit ≡ 0
  pub here : IsTrue (fits set extents raw offset)
  pub first : (k : ℕ) → k < offset → k % unit ≡ 0 → fits set extents raw k ≡ false

-- the result of a search for the first fit
abbrev pub IsFirstFitAnswer : List Mapping → List Extent → ℕ → ℕ → Option ℕ → Type 0
IsFirstFitAnswer set extents unit raw None = (k : ℕ) → k % unit ≡ 0 → fits set extents raw k ≡ false
IsFirstFitAnswer set extents unit raw (Some offset) = IsFirstFit set extents unit raw offset
