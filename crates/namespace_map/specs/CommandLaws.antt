-- Laws about changes, for any labels.
use Rattle.std.specs.Prelude.{◌≡◌, ◌≢◌, ◌≤◌, ℕ, Bool, List, Option, Some}
use Rattle.std.specs.List.{AllByRecursion}
use Rattle.nfit_reader.specs.declared.table.Mapping.{Mapping}
use Rattle.label_codec.specs.declared.label.Label.{Label}
use Rattle.namespace_map.specs.Namespaces.{lookup}
use Rattle.namespace_map.specs.Areas.{Area, Change, all_changed, steps_of_all, after_steps}
use Rattle.namespace_map.specs.Changes.{namespaces_of}

-- a change of one UUID: its label is removed, and the label that is put has that UUID
pub record IsOf (uuid : List ℕ) (c : Change) : Type 0 where
  pub of_uuid : c.uuid ≡ uuid
  pub label_of_uuid : (l : Label) → c.label ≡ Some l → l.uuid ≡ uuid

-- after a crash during changes of one UUID, every other entry is as before
abbrev pub CutLeavesOthers : Type 0
CutLeavesOthers =
    (sets : List (List Mapping)) (areas : List (Option Area)) (uuid : List ℕ) (cs : List Change) → AllByRecursion (IsOf uuid) cs
    → (steps : ℕ) (stays : Bool) (other : List ℕ) → other ≢ uuid
    → lookup other (namespaces_of sets (after_steps areas cs steps stays)).entries ≡ lookup other (namespaces_of sets areas).entries

-- with as many steps as all changes take, all are made, whatever the chooser says
abbrev pub AllStepsMakeAll : Type 0
AllStepsMakeAll = (cs : List Change) (areas : List (Option Area)) (steps : ℕ) (stays : Bool) → steps_of_all areas cs ≤ steps → after_steps areas cs steps stays ≡ all_changed areas cs
