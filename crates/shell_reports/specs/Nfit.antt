-- The lines of the command `nfit`: a firmware table's modules and regions.
use Rattle.std.specs.Prelude.{ℕ, ◌+◌, List, [], ◌∷◌, ◌++◌, Result, Ok, Err, codes}
use Rattle.std.specs.Int.{w64, to_be_bytes}
use Rattle.std.specs.Fmt.{decimal}
use Rattle.hex.specs.Hex.{encode_lower}
use Rattle.nfit_reader.specs.declared.table.Nfit.{Nfit}
use Rattle.nfit_reader.specs.declared.table.Mapping.{Mapping}
use Rattle.nfit_reader.specs.declared.table.Region.{Region}
use Rattle.interleave.specs.declared.set.SetFault.{SetFault}
use Rattle.interleave.specs.declared.set.SetFault.TheVariants.{Ways, Twice, Offsets, Line, Share, Size, Cover, OutOfMemory}
use Rattle.interleave.specs.Places.{cookie_of, unit_of}
use Rattle.interleave.specs.Sets.{set_reading}
use Rattle.image_set.specs.Load.{ImageSet}
use Rattle.shell_reports.specs.Outcome.{Outcome, printed, joined, lf, no_text}

-- module M handle H
abbrev pub module_line : ℕ → ℕ → List ℕ
module_line number handle = joined (codes "module " ∷ decimal number ∷ codes " handle " ∷ decimal handle ∷ lf ∷ [])

-- the lines of modules from a number on
abbrev pub module_lines : ℕ → List ℕ → List ℕ
module_lines number [] = []
module_lines number (handle ∷ handles) = module_line number handle ++ module_lines (number + 1) handles

-- why a region isn't an interleave set
abbrev pub set_fault_text : SetFault → List ℕ
set_fault_text (Ways said had) = codes "Ways " ++ (decimal said ++ (codes " " ++ decimal had))
set_fault_text (Twice «module») = codes "Twice " ++ decimal «module»
set_fault_text (Offsets a b) = codes "Offsets " ++ (decimal a ++ (codes " " ++ decimal b))
set_fault_text (Line «module») = codes "Line " ++ decimal «module»
set_fault_text (Share bytes) = codes "Share " ++ decimal bytes
set_fault_text (Size said had) = codes "Size " ++ (decimal said ++ (codes " " ++ decimal had))
set_fault_text (Cover line) = codes "Cover " ++ decimal line
set_fault_text OutOfMemory = no_text

-- a space and a module's number for each mapping
abbrev pub members_text : List Mapping → List ℕ
members_text [] = []
members_text (m ∷ ms) = (codes " " ++ decimal m.«module») ++ members_text ms

-- base B length L modules
abbrev pub range_text : Region → List ℕ
range_text region = joined (codes " base " ∷ decimal region.base ∷ codes " length " ∷ decimal region.length ∷ codes " modules" ∷ [])

-- cookie C unit U, with sixteen digits
abbrev pub set_text : List Mapping → List ℕ
set_text set = joined (codes " cookie " ∷ encode_lower (to_be_bytes w64 (cookie_of set)) ∷ codes " unit " ∷ decimal (unit_of set) ∷ lf ∷ [])

-- the part of a region's line about its set, or why it isn't one
abbrev pub reading_text : Region → Result (List Mapping) SetFault → List ℕ
reading_text region (Ok set) = range_text region ++ members_text set ++ set_text set
reading_text region (Err fault) = joined (codes " fault " ∷ set_fault_text fault ∷ lf ∷ [])

-- region I index X
abbrev pub region_start : ℕ → ℕ → List ℕ
region_start number index = codes "region " ++ (decimal number ++ (codes " index " ++ decimal index))

-- region I index X base B length L modules M0 M1 .. cookie C unit U, with the modules in order of position; or region I index X
-- fault FAULT
abbrev pub region_line : ℕ → Region → List ℕ
region_line number region = region_start number region.index ++ reading_text region (set_reading region)

-- the lines of regions from a number on
abbrev pub region_lines : ℕ → List Region → List ℕ
region_lines number [] = []
region_lines number (region ∷ regions) = region_line number region ++ region_lines (number + 1) regions

-- the lines of a table
abbrev pub nfit_text : Nfit → List ℕ
nfit_text nfit = module_lines 0 nfit.modules ++ region_lines 0 nfit.regions

-- the outcome of `nfit` on a loaded set
abbrev pub nfit_outcome : ImageSet → Outcome
nfit_outcome loaded = printed (nfit_text loaded.nfit)
