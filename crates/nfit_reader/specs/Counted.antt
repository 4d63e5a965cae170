-- Bounds on the counts in a table. They follow from its Length, a 32-bit number.
use Rattle.std.specs.Prelude.{◌≡◌, ◌<◌, ◌≤◌, ◌^◌, length, Some}
use Rattle.std.specs.List.{All}
use Rattle.nfit_reader.specs.declared.table.Nfit.{Nfit}
use Rattle.nfit_reader.specs.declared.table.Region.{Region}
use Rattle.nfit_reader.specs.declared.table.Mapping.{Mapping}
use Rattle.nfit_reader.specs.declared.table.Lines.{Lines}
use Rattle.nfit_reader.specs.declared.structures.Structure.{Structure}
use Rattle.nfit_reader.specs.declared.structures.Interleave.{Interleave}
use Rattle.nfit_reader.specs.Table.{as_interleave}

-- a mapping has fewer than 2^32 lines
abbrev pub HasFewLines : Mapping → Type 0
HasFewLines m = (lines : Lines) → m.lines ≡ Some lines → length lines.offsets < 2 ^ 32

-- a region has mappings, and fewer than 2^32, each with fewer than 2^32 lines
pub record IsCounted (r : Region) : Type 0 where
  pub some : 0 < length r.mappings
  pub few : length r.mappings < 2 ^ 32
  pub lines : All HasFewLines r.mappings

-- each region has these bounds
abbrev pub AreCounted : Nfit → Type 0
AreCounted nfit = All IsCounted nfit.regions

-- there are at most 64 modules, and each mapping is of one of them
pub record NamesItsModules (nfit : Nfit) : Type 0 where
  pub few : length nfit.modules ≤ 64
  pub each : All (λ region. All (λ m. m.«module» < length nfit.modules) region.mappings) nfit.regions

-- an interleave structure has fewer than 2^32 lines
abbrev pub IsShort : Structure → Type 0
IsShort s = (i : Interleave) → as_interleave s ≡ Some i → length i.lines.offsets < 2 ^ 32
