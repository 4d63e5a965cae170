-- The texts for an image set that isn't loaded.
use Rattle.std.specs.Prelude.{ℕ, List, [], ◌∷◌, ◌++◌, codes}
use Rattle.std.specs.Fmt.{decimal}
use Rattle.nvd_media.specs.declared.object.Object.{Object}
use Rattle.nvd_media.specs.declared.object.Object.TheVariants as object
use Rattle.nfit_reader.specs.declared.table.NfitFault.{NfitFault}
use Rattle.nfit_reader.specs.declared.table.NfitFault.TheVariants as nfit
use Rattle.image_set.specs.declared.fault.LoadFault.{LoadFault}
use Rattle.image_set.specs.declared.fault.LoadFault.TheVariants as fault
use Rattle.shell_reports.specs.Outcome.{Outcome, image_fault, lf, no_text}

-- the name of an object
abbrev pub object_text : Object → List ℕ
object_text object.Mark = codes "mark"
object_text object.Nfit = codes "nfit"
object_text (object.Labels m) = codes "labels " ++ decimal m
object_text (object.Contents m) = codes "contents " ++ decimal m
object_text (object.BadRanges m) = codes "badranges " ++ decimal m

-- the fault of a firmware table
abbrev pub nfit_fault_text : NfitFault → List ℕ
nfit_fault_text nfit.Signature = codes "Signature"
nfit_fault_text (nfit.Length said had) = codes "Length " ++ (decimal said ++ (codes " " ++ decimal had))
nfit_fault_text (nfit.Checksum sum) = codes "Checksum " ++ decimal sum
nfit_fault_text (nfit.Structure at) = codes "Structure " ++ decimal at
nfit_fault_text (nfit.TwiceIndex kind index) = codes "TwiceIndex " ++ (decimal kind ++ (codes " " ++ decimal index))
nfit_fault_text (nfit.MissingIndex kind index) = codes "MissingIndex " ++ (decimal kind ++ (codes " " ++ decimal index))
nfit_fault_text (nfit.TooLarge modules) = codes "TooLarge " ++ decimal modules
nfit_fault_text (nfit.Alias «module» a b) = codes "Alias " ++ (decimal «module» ++ (codes " " ++ (decimal a ++ (codes " " ++ decimal b))))
nfit_fault_text nfit.OutOfMemory = no_text

-- why an image set isn't loaded
abbrev pub load_fault_text : LoadFault → List ℕ
load_fault_text (fault.Missing object) = object_text object ++ codes " Missing"
load_fault_text (fault.Size object bytes) = object_text object ++ (codes " Size " ++ decimal bytes)
load_fault_text (fault.Nfit table) = codes "nfit " ++ nfit_fault_text table
load_fault_text fault.ReadFault = no_text
load_fault_text fault.OutOfMemory = no_text

-- the outcome for a set that isn't loaded
abbrev pub load_outcome : LoadFault → Outcome
load_outcome fault = image_fault (load_fault_text fault ∷ lf ∷ [])
