-- What `check` prints of a whole set, and how it ends: this project's rules.
use Rattle.std.specs.Prelude.{ℕ, ◌==◌, if◌then◌else◌, List, ◌++◌, length, map, Option, Some, None, Result, Ok, Err, codes}
use Rattle.std.specs.List.{range_with_len}
use Rattle.nvd_media.specs.Images.{Images}
use Rattle.nfit_reader.specs.declared.table.Nfit.{Nfit}
use Rattle.image_set.specs.declared.fault.LoadFault.{LoadFault}
use Rattle.image_set.specs.Load.{ImageSet, loading}
use Rattle.namespace_ops.specs.declared.registry.OpenFault.{OpenFault}
use Rattle.set_objects.specs.Objects.{bad_there, labels_there, object_faults, table_reading}
use Rattle.shell_reports.specs.declared.status.Ending.{Ending}
use Rattle.shell_reports.specs.declared.status.Ending.TheVariants as ending
use Rattle.shell_reports.specs.Causes.{fault_in}
use Rattle.shell_reports.specs.LoadFaults.{load_fault_text}
use Rattle.shell_reports.specs.Outcome.{Outcome}
use Rattle.shell_check.specs.All.{arenas_text}
use Rattle.shell_check.specs.Text.{last_line}
use Rattle.shell_set_check.specs.Text.{area_lines, bad_lines, fault_line, faults_in, notice_line, object_lines, region_lines}
use Rattle.shell_set_check.specs.Namespaces.{namespace_lines}

-- ---- arenas

-- the arenas of a set whose table and labels have this fault, or none
abbrev pub arenas_by : ImageSet → Option OpenFault → List ℕ
arenas_by loaded (Some fault) = notice_line (codes "arenas Unchecked")
arenas_by loaded None = arenas_text loaded

-- those of a set that is loaded; a set with a fault of an object isn't
abbrev pub arenas_part : Result ImageSet LoadFault → List ℕ
arenas_part (Err fault) = notice_line (codes "arenas Unchecked")
arenas_part (Ok loaded) = arenas_by loaded (fault_in loaded)

-- ---- the whole

-- by a table, faults of objects, label areas and lists of bad ranges
abbrev pub outline_lines : Nfit → List LoadFault → List (Option (List ℕ)) → List (Option (List ℕ)) → List ℕ
outline_lines nfit faults areas bad =
    object_lines faults ++ (region_lines 0 nfit.regions ++ (area_lines 0 areas ++ (namespace_lines nfit areas ++ bad_lines 0 bad)))

-- one for each module
abbrev pub each_module : {X : Type 0} → Nfit → (ℕ → X) → List X
each_module nfit f = map f (range_with_len 0 (length nfit.modules))

-- of a set whose table is read
abbrev pub set_lines : Images → Nfit → List ℕ
set_lines set nfit =
    outline_lines nfit (object_faults set nfit) (each_module nfit (labels_there set)) (each_module nfit (bad_there set)) ++ arenas_part (loading set)

-- by the table, or why it isn't read
abbrev pub lines_by : Images → Result Nfit LoadFault → List ℕ
lines_by set (Err fault) = fault_line (load_fault_text fault)
lines_by set (Ok nfit) = set_lines set nfit

abbrev pub lines_of : Images → List ℕ
lines_of set = lines_by set (table_reading set)

-- a set with a fault ends as images that are refused do
abbrev pub ending_after : ℕ → Ending
ending_after faults = if faults == 0 then ending.Done else ending.Image

abbrev pub text_after : List ℕ → Outcome
text_after lines = record { ending = ending_after (faults_in lines); text = lines ++ last_line (faults_in lines); saved = None }

abbrev pub set_check_outcome : Images → Outcome
set_check_outcome set = text_after (lines_of set)
