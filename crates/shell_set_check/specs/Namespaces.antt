-- The lines of `check` on namespaces: every rule that the labels of a UUID break. This project's rules over UEFI 2.10, section 13.19.
use Rattle.std.specs.Prelude.{ℕ, true, false, if◌then◌else◌, List, [], ◌∷◌, ◌++◌, map, slice_get, Option, Some, None, codes}
use Rattle.std.specs.List.{list_any}
use Rattle.nfit_reader.specs.declared.table.Mapping.{Mapping}
use Rattle.nfit_reader.specs.declared.table.Nfit.{Nfit}
use Rattle.label_set.specs.declared.placed.Placed.{Placed}
use Rattle.label_set.specs.declared.placed.SetStatus.{SetStatus}
use Rattle.label_set.specs.declared.placed.SetStatus.TheVariants.{Complete, Unfinished, Local, Incomplete}
use Rattle.label_set.specs.declared.placed.Why.TheVariants.{Outside}
use Rattle.label_set.specs.Rules.{is_local}
use Rattle.label_set.specs.Status.{findings, present, status_of}
use Rattle.namespace_map.specs.Namespaces.{NamespaceEntry, entries_of, labels_with, placed_of, region_of}
use Rattle.namespace_ops.specs.declared.registry.OpenFault.{OpenFault}
use Rattle.namespace_ops.specs.Opening.{overlap_fault, set_fault_from, sets_of}
use Rattle.shell_reports.specs.List.{open_fault_text, shown_by, why_text}
use Rattle.shell_reports.specs.Outcome.{joined}
use Rattle.shell_reports.specs.Texts.{uuid_text}
use Rattle.shell_set_check.specs.Text.{fault_line, notice_line}

-- ---- one UUID

-- what the rules find, or what the labels make if they find nothing
abbrev pub found_or : SetStatus → List SetStatus → List SetStatus
found_or status [] = status ∷ []
found_or status found = found

-- all that is found of labels in the set of their region; a local label isn't judged by a set
abbrev pub statuses_in : Option (ℕ × List Mapping) → List Placed → Placed → List SetStatus
statuses_in None labels first = (if list_any is_local labels then Local else Incomplete (Outside first.«module»)) ∷ []
statuses_in (Some region) labels first =
    if list_any is_local labels then Local ∷ [] else found_or (status_of region.1 labels) (present (findings region.1 labels))

-- namespace UUID WHAT
abbrev pub namespace_text : List ℕ → List ℕ → List ℕ
namespace_text uuid what = joined (codes "namespace " ∷ uuid_text uuid ∷ codes " " ∷ what ∷ [])

-- the line of a status; a complete namespace without a pending change has none
abbrev pub status_part : List ℕ → SetStatus → List ℕ
status_part uuid (Complete name false) = []
status_part uuid (Complete name true) = notice_line (namespace_text uuid (codes "pending"))
status_part uuid Unfinished = notice_line (namespace_text uuid (codes "unfinished"))
status_part uuid Local = notice_line (namespace_text uuid (codes "local"))
status_part uuid (Incomplete why) = fault_line (namespace_text uuid (why_text why))

abbrev pub status_lines : List ℕ → List SetStatus → List ℕ
status_lines uuid [] = []
status_lines uuid (status ∷ statuses) = status_part uuid status ++ status_lines uuid statuses

-- the lines of labels of one UUID, of which the first is given
abbrev pub group_part : List (List Mapping) → List Placed → Placed → List ℕ
group_part sets labels first = status_lines first.label.uuid (statuses_in (region_of sets first) labels first)

abbrev pub group_lines : List (List Mapping) → List Placed → Option Placed → List ℕ
group_lines sets labels None = []
group_lines sets labels (Some first) = group_part sets labels first

abbrev pub entry_part : List (List Mapping) → List Placed → NamespaceEntry → List ℕ
entry_part sets labels e = group_lines sets (labels_with e.uuid labels) (slice_get (labels_with e.uuid labels) 0)

-- ---- all UUIDs, in ascending order

abbrev pub entry_lines : List (List Mapping) → List Placed → List NamespaceEntry → List ℕ
entry_lines sets labels [] = []
entry_lines sets labels (e ∷ entries) = entry_part sets labels e ++ entry_lines sets labels entries

-- the first two UUIDs with extents that meet
abbrev pub overlap_part : Option OpenFault → List ℕ
overlap_part None = []
overlap_part (Some fault) = fault_line (open_fault_text fault)

abbrev pub label_lines : List (List Mapping) → List Placed → List ℕ
label_lines sets labels = overlap_part (overlap_fault labels) ++ entry_lines sets labels (entries_of sets labels)

-- without the interleave sets the labels can't be judged
abbrev pub labels_by : Option OpenFault → List (List Mapping) → List Placed → List ℕ
labels_by (Some fault) sets labels = notice_line (codes "namespaces Unchecked")
labels_by None sets labels = label_lines sets labels

-- by a table and label areas
abbrev pub namespace_lines : Nfit → List (Option (List ℕ)) → List ℕ
namespace_lines nfit areas = labels_by (set_fault_from 0 nfit.regions) (sets_of nfit) (placed_of (map shown_by areas))
