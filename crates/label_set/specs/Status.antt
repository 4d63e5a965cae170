-- The status of the labels of one UUID: this project's list of rules over UEFI 2.10, section 13.19.
use Rattle.std.specs.Prelude.{ℕ, true, false, if◌then◌else◌, List, [], ◌∷◌, filter, Option, Some, None, unwrap_or}
use Rattle.std.specs.Option.{option_map, option_to_list}
use Rattle.std.specs.List.{list_any, list_all, flat_map}
use Rattle.nvd_words.specs.Checks.{first_fault, fault_if}
use Rattle.nfit_reader.specs.declared.table.Mapping.{Mapping}
use Rattle.label_set.specs.declared.placed.Placed.{Placed}
use Rattle.label_set.specs.declared.placed.SetStatus.{SetStatus}
use Rattle.label_set.specs.declared.placed.SetStatus.TheVariants.{Complete, Unfinished, Local, Incomplete}
use Rattle.label_set.specs.declared.placed.Why.TheVariants.{Twice, Differs, Missing}
use Rattle.label_set.specs.declared.placed.Field.{Field}
use Rattle.label_set.specs.declared.placed.Field.TheVariants.{Count, Dpa, RawSize, LbaSize, Guids, Names}
use Rattle.label_set.specs.declared.rules.Rule.{Rule}
use Rattle.label_set.specs.declared.rules.Rule.TheVariants as rule
use Rattle.label_set.specs.Rules.{least_where, module_of, least_twice, least_missing, is_local, is_updating, is_marked, breaks_of, why_of, differ_in, agreed_name}

-- ---- the finding of each rule

abbrev pub local_finding : List Placed → Option SetStatus
local_finding labels = fault_if (list_any is_local labels) Local

abbrev pub twice_finding : List Placed → Option SetStatus
twice_finding labels = option_map (λ number. Incomplete (Twice number)) (least_twice labels)

abbrev pub broken_finding : Rule → List Mapping → List Placed → Option SetStatus
broken_finding r set labels = option_map (λ p. Incomplete (why_of r p)) (least_where module_of (breaks_of r set) labels)

abbrev pub differing_finding : Field → List Mapping → List Placed → Option SetStatus
differing_finding field set labels = fault_if (differ_in field set labels) (Incomplete (Differs field))

-- some labels are missing: Unfinished if all existing ones have UPDATING, else Missing
abbrev pub short_of : List Placed → ℕ → SetStatus
short_of labels number = if list_all is_updating labels then Unfinished else Incomplete (Missing number)

abbrev pub missing_finding : List Mapping → List Placed → Option SetStatus
missing_finding set labels = option_map (short_of labels) (least_missing labels set)

-- the rules in their order
abbrev pub findings : List Mapping → List Placed → List (Option SetStatus)
findings set labels =
    local_finding labels
    ∷ twice_finding labels
    ∷ broken_finding rule.Inside set labels
    ∷ broken_finding rule.Cookie set labels
    ∷ differing_finding Count set labels
    ∷ broken_finding rule.Position set labels
    ∷ differing_finding Dpa set labels
    ∷ differing_finding RawSize set labels
    ∷ differing_finding LbaSize set labels
    ∷ differing_finding Guids set labels
    ∷ broken_finding rule.Aligned set labels
    ∷ missing_finding set labels
    ∷ []

-- those findings that there are
abbrev pub present : List (Option SetStatus) → List SetStatus
present found = flat_map option_to_list found

-- ---- labels without a finding

-- names that differ: those without UPDATING have one, and those with it another
abbrev pub half_named : Option (List ℕ) → Option (List ℕ) → SetStatus
half_named (Some old) (Some new) = Complete old true
half_named (Some old) None = Incomplete (Differs Names)
half_named None new = Incomplete (Differs Names)

abbrev pub named_by : List Placed → Option (List ℕ) → SetStatus
named_by labels (Some name) = Complete name (list_any is_updating labels)
named_by labels None = half_named (agreed_name (filter (is_marked false) labels)) (agreed_name (filter (is_marked true) labels))

abbrev pub naming_of : List Placed → SetStatus
naming_of labels = named_by labels (agreed_name labels)

-- ---- the first rule that applies

unfoldable pub status_of : List Mapping → List Placed → SetStatus
status_of set labels = unwrap_or (first_fault (findings set labels)) (naming_of labels)
