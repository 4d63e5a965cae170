-- The command `list`: the namespaces in the labels of all modules.
use Rattle.std.specs.Prelude.{ℕ, true, false, List, [], ◌∷◌, ◌++◌, map, sum_by, Option, Some, None, Result, Ok, Err, codes}
use Rattle.std.specs.Option.{option_map}
use Rattle.std.specs.Result.{result_ok}
use Rattle.std.specs.Fmt.{decimal}
use Rattle.nvd_words.specs.Checks.{first_fault, value_unless}
use Rattle.nfit_reader.specs.declared.table.Nfit.{Nfit}
use Rattle.label_codec.specs.declared.label.Label.{Label}
use Rattle.label_area.specs.Area.{slots_in, labels_in}
use Rattle.label_set.specs.declared.placed.Placed.{Placed}
use Rattle.label_set.specs.declared.placed.SetStatus.{SetStatus}
use Rattle.label_set.specs.declared.placed.SetStatus.TheVariants.{Complete, Unfinished, Local, Incomplete}
use Rattle.label_set.specs.declared.placed.Why.{Why}
use Rattle.label_set.specs.declared.placed.Why.TheVariants as why
use Rattle.label_set.specs.declared.placed.Field.{Field}
use Rattle.label_set.specs.declared.placed.Field.TheVariants as field
use Rattle.region_space.specs.declared.extent.Extent.{Extent}
use Rattle.namespace_map.specs.declared.listed.Namespace.{Namespace}
use Rattle.namespace_map.specs.Namespaces.{placed_of, entries_of, namespace_of}
use Rattle.namespace_ops.specs.declared.registry.OpenFault.{OpenFault}
use Rattle.namespace_ops.specs.declared.registry.OpenFault.TheVariants as fault
use Rattle.namespace_ops.specs.Opening.{set_fault_from, sets_of, overlap_fault}
use Rattle.image_set.specs.Load.{ImageSet}
use Rattle.shell_reports.specs.Outcome.{Outcome, image_fault, printed, joined, lf, no_text}
use Rattle.shell_reports.specs.Texts.{name_text, uuid_text, mode_text}
use Rattle.shell_reports.specs.Nfit.{set_fault_text}

-- ---- the namespaces to list

-- the labels of a module's area, by slot; None if there is no area, or it isn't valid
abbrev pub shown_by : Option (List ℕ) → Option (List (Option Label))
shown_by None = None
shown_by (Some area) = option_map labels_in (result_ok (slots_in area))

-- the labels of all modules, ordered by module and slot
abbrev pub labels_in_set : ImageSet → List Placed
labels_in_set loaded = placed_of (map shown_by loaded.labels)

-- the namespaces of labels under a table, or the first fault: a region that isn't an interleave set; overlapping extents of two
-- UUIDs
abbrev pub listed_by : Nfit → List Placed → Result (List Namespace) OpenFault
listed_by nfit labels =
    value_unless (map (λ e. namespace_of e 0) (entries_of (sets_of nfit) labels)) (first_fault (set_fault_from 0 nfit.regions ∷ overlap_fault labels ∷ []))

abbrev pub listed_of : ImageSet → Result (List Namespace) OpenFault
listed_of loaded = listed_by loaded.nfit (labels_in_set loaded)

-- ---- texts

abbrev pub field_text : Field → List ℕ
field_text field.Count = codes "Count"
field_text field.Dpa = codes "Dpa"
field_text field.RawSize = codes "RawSize"
field_text field.LbaSize = codes "LbaSize"
field_text field.Guids = codes "Guids"
field_text field.Names = codes "Names"

abbrev pub why_text : Why → List ℕ
why_text (why.Twice m) = codes "Twice " ++ decimal m
why_text (why.Outside m) = codes "Outside " ++ decimal m
why_text (why.Cookie m found) = codes "Cookie " ++ (decimal m ++ (codes " " ++ decimal found))
why_text (why.Position m found) = codes "Position " ++ (decimal m ++ (codes " " ++ decimal found))
why_text (why.Differs f) = codes "Differs " ++ field_text f
why_text (why.Unaligned m) = codes "Unaligned " ++ decimal m
why_text (why.Missing m) = codes "Missing " ++ decimal m

abbrev pub status_text : SetStatus → List ℕ
status_text (Complete name false) = codes "complete"
status_text (Complete name true) = codes "complete pending"
status_text Unfinished = codes "unfinished"
status_text Local = codes "local"
status_text (Incomplete w) = codes "incomplete " ++ why_text w

-- the number of a region, or -
abbrev pub region_text : Option ℕ → List ℕ
region_text None = codes "-"
region_text (Some number) = decimal number

-- the size of all extents together
abbrev pub size_in : List Extent → ℕ
size_in extents = sum_by (λ e. e.length) extents

-- region R mode MODE lba L size B STATUS
abbrev pub facts_text : Namespace → List ℕ
facts_text ns = joined (codes " region " ∷ region_text ns.region ∷ codes " mode " ∷ mode_text ns.mode ∷ codes " lba " ∷ decimal ns.lba
    ∷ codes " size " ∷ decimal (size_in ns.extents) ∷ codes " " ∷ status_text ns.status ∷ lf ∷ [])

-- ns UUID NAME region R mode MODE lba L size B STATUS
abbrev pub namespace_line : Namespace → List ℕ
namespace_line ns = joined (joined (codes "ns " ∷ uuid_text ns.uuid ∷ codes " " ∷ []) ∷ name_text ns.name ∷ facts_text ns ∷ [])

-- extent M START LENGTH
abbrev pub extent_line : Extent → List ℕ
extent_line e = joined (codes "extent " ∷ decimal e.«module» ∷ codes " " ∷ decimal e.start ∷ codes " " ∷ decimal e.length ∷ lf ∷ [])

abbrev pub extent_lines : List Extent → List ℕ
extent_lines [] = []
extent_lines (e ∷ es) = extent_line e ++ extent_lines es

-- the lines of a namespace
abbrev pub namespace_lines : Namespace → List ℕ
namespace_lines ns = namespace_line ns ++ extent_lines ns.extents

abbrev pub list_text : List Namespace → List ℕ
list_text [] = []
list_text (ns ∷ namespaces) = namespace_lines ns ++ list_text namespaces

-- ---- the outcome of the command

-- why nothing is listed
abbrev pub open_fault_text : OpenFault → List ℕ
open_fault_text (fault.Set region f) = codes "region " ++ (decimal region ++ (codes " " ++ set_fault_text f))
open_fault_text (fault.Overlap a b) = codes "labels Overlap " ++ (uuid_text a ++ (codes " " ++ uuid_text b))
open_fault_text fault.OutOfMemory = no_text

abbrev pub open_outcome : OpenFault → Outcome
open_outcome f = image_fault (open_fault_text f ∷ lf ∷ [])

abbrev pub listed_outcome : Result (List Namespace) OpenFault → Outcome
listed_outcome (Ok namespaces) = printed (list_text namespaces)
listed_outcome (Err f) = open_outcome f

-- the outcome of `list` on a loaded set
abbrev pub list_outcome : ImageSet → Outcome
list_outcome loaded = listed_outcome (listed_of loaded)
