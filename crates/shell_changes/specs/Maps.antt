-- The namespaces of an image set, and what `create`, `delete` and `rename` make of them: UEFI 2.10, section 13.19, with this project's rules.
use Rattle.std.specs.Prelude.{◌≡◌, ◌≢◌, ⊤, ◌⊎◌, ℕ, ◌+◌, ◌-◌, ◌<◌, ◌≤◌, Bool, true, false, List, length, Option, Some, None, Ok}
use Rattle.nvd_media.specs.Images.{Images}
use Rattle.cut_words.specs.Words.{Words}
use Rattle.nfit_reader.specs.declared.table.Mapping.{Mapping}
use Rattle.nfit_reader.specs.Table.{nfit_reading}
use Rattle.nfit_reader.specs.Counted.{AreCounted}
use Rattle.label_set.specs.declared.placed.SetStatus.TheVariants.{Complete}
use Rattle.namespace_map.specs.Namespaces.{NamespaceEntry, Namespaces, lookup}
use Rattle.namespace_map.specs.declared.commands.Command.{Command}
use Rattle.namespace_map.specs.declared.commands.Command.TheVariants.{Claim, Create, Delete, Rename, Unclaim}
use Rattle.namespace_map.specs.Areas.{Area, after_steps, steps_of_all}
use Rattle.namespace_map.specs.Commands.{done, name_in, new_entry, after_recovery, set_of}
use Rattle.namespace_map.specs.Changes.{changes_of, namespaces_of, placed_in_all, recovered_areas, recovery_changes}
use Rattle.namespace_laws.specs.Apart.{EntriesApart}
use Rattle.namespace_laws.specs.Laws.{CutOfCreate, CutOfCreateAlone, CutOfDelete, CutOfDeleteAlone, CutOfRename, CutOfRenameAlone}
use Rattle.image_set.specs.Load.{ImageSet}
use Rattle.shell_reports.specs.declared.status.Ending.TheVariants as ending
use Rattle.shell_reports.specs.declared.power.Power.{Power}
use Rattle.shell_reports.specs.List.{labels_in_set}
use Rattle.shell_reports.specs.Outcome.{Outcome}
use Rattle.shell_changes.specs.Areas.{HasAreas, areas_in}
use Rattle.shell_changes.specs.Namespaces.{ChangeComes, refusal_in, sets_in}
use Rattle.namespace_ops.specs.Counted.{makes_sectors}
use Rattle.shell_changes.specs.Work.{arena_of, count_of}

-- ---- the map of an image set

-- the namespaces that the labels of all its areas make, over the interleave sets of its regions; none of them is claimed
abbrev pub map_of : List (List Mapping) → ImageSet → Namespaces
map_of sets loaded = namespaces_of sets (areas_in loaded.labels)

-- an image set with other contents
abbrev pub with_bytes : ImageSet → List (List ℕ) → ImageSet
with_bytes set contents = record { nfit = set.nfit; nfit_bytes = set.nfit_bytes; labels = set.labels; contents = contents; bad = set.bad }

-- A set is saved that has these namespaces, and is the one that was loaded but for its label areas, and for its contents if an arena
-- was formatted in them: what these then are the relation says (`AreFormatted`).
pub record SavesMap (sets : List (List Mapping)) (loaded : ImageSet) (formats : Bool) (ns : Namespaces) (outcome : Outcome) : Type 0 where
  pub set : Images
  pub saved : outcome.saved ≡ Some set
  pub contents : List (List ℕ)
  pub kept : formats ≡ false → contents ≡ loaded.contents
  pub areas : List (Option Area)
  pub has : HasAreas (with_bytes loaded contents) areas set
  pub map : namespaces_of sets areas ≡ ns

-- ---- laws

-- a law: the labels that `list`, `info` and `read` look at are those of the map
abbrev pub ReportsShowTheMap : Type 0
ReportsShowTheMap = (loaded : ImageSet) → labels_in_set loaded ≡ placed_in_all (areas_in loaded.labels)

-- the firmware's table is the one that its bytes spell, with the counts that `read_nfit` promises
pub record HasTable (loaded : ImageSet) : Type 0 where
  pub read : nfit_reading loaded.nfit_bytes ≡ Ok loaded.nfit
  pub counted : AreCounted loaded.nfit

-- a command that changes labels: claims stand in no label
abbrev pub ChangesLabels : Command → Type 0
ChangesLabels (Claim uuid) = ⊥
ChangesLabels (Unclaim uuid) = ⊥
ChangesLabels c = ⊤

-- a law: of images that are accepted no two namespaces have extents that meet
abbrev pub AcceptedIsApart : Type 0
AcceptedIsApart = (loaded : ImageSet) (sets : List (List Mapping)) → sets_in loaded ≡ Ok sets → EntriesApart (map_of sets loaded)

-- what recovery makes of a set, and then a command that isn't refused: each to its end, or as far as a crash lets it
pub record StaysApart (sets : List (List Mapping)) (loaded : ImageSet) (c : Command) : Type 0 where
  pub recovery : EntriesApart (after_recovery (map_of sets loaded))
  -- within recovery, after any number of its steps
  pub in_recovery : (n : ℕ) (stays : Bool) → EntriesApart (namespaces_of sets (after_steps (areas_in loaded.labels) (recovery_changes sets (areas_in loaded.labels)) n stays))
  pub after_command : refusal_in sets (areas_in loaded.labels) c ≡ None → EntriesApart (done (after_recovery (map_of sets loaded)) c)
  pub after_crash : refusal_in sets (areas_in loaded.labels) c ≡ None → (n : ℕ) (stays : Bool) → let areas = recovered_areas sets (areas_in loaded.labels) in
      EntriesApart (namespaces_of sets (after_steps areas (changes_of (namespaces_of sets areas) areas c) n stays))

-- a law: they keep the namespaces of accepted images apart
abbrev pub ChangesKeepApart : Type 0
ChangesKeepApart = (c : Command) (loaded : ImageSet) (sets : List (List Mapping)) → ChangesLabels c → HasTable loaded → sets_in loaded ≡ Ok sets → StaysApart sets loaded c

-- a law: after a command that was carried out the namespaces are the command applied to those after recovery
abbrev pub DoneIsTheCommand : (ℕ → List (Option Words) → List (Option (List ℕ)) → Type 0) → Type 0
DoneIsTheCommand leaves = (c : Command) (power : Power) (loaded : ImageSet) (sets : List (List Mapping)) (outcome : Outcome) → ChangesLabels c → HasTable loaded → sets_in loaded ≡ Ok sets
    → ChangeComes leaves c power loaded outcome → outcome.ending ≡ ending.Done → SavesMap sets loaded (makes_sectors c) (done (after_recovery (map_of sets loaded)) c) outcome

-- ---- after a crash

-- after n steps in recovery; the last of a label's steps counts as made if the chooser says so
abbrev pub CutInRecovery : List (List Mapping) → ImageSet → ℕ → Outcome → Type 0
CutInRecovery sets loaded n outcome =
    let areas = areas_in loaded.labels in
    (stays : Bool) × SavesMap sets loaded false (namespaces_of sets (after_steps areas (recovery_changes sets areas) n stays)) outcome

-- in the format of an arena: the namespaces are those that recovery has made
abbrev pub CutInFormat : List (List Mapping) → ImageSet → Outcome → Type 0
CutInFormat sets loaded outcome = SavesMap sets loaded true (namespaces_of sets (recovered_areas sets (areas_in loaded.labels))) outcome

-- after n label steps of a command that isn't refused, on the areas that recovery has made
abbrev pub CutInCommand : List (List Mapping) → ImageSet → Command → ℕ → Outcome → Type 0
CutInCommand sets loaded c n outcome =
    let areas = recovered_areas sets (areas_in loaded.labels) in
    (stays : Bool) × SavesMap sets loaded (makes_sectors c) (namespaces_of sets (after_steps areas (changes_of (namespaces_of sets areas) areas c) n stays)) outcome

-- the steps of recovery, and those of a format
abbrev pub recovery_steps : List (List Mapping) → ImageSet → ℕ
recovery_steps sets loaded = steps_of_all (areas_in loaded.labels) (recovery_changes sets (areas_in loaded.labels))

abbrev pub format_steps_of : List (List Mapping) → ImageSet → Command → ℕ
format_steps_of sets loaded c = count_of (arena_of (namespaces_of sets (recovered_areas sets (areas_in loaded.labels))) c)

-- what a crash after n steps falls into: in recovery; or, with recovery made, in the format of an arena; or in the command's label changes
-- behind both
abbrev pub IsCutIn : List (List Mapping) → ImageSet → Command → ℕ → Outcome → Type 0
IsCutIn sets loaded c n outcome =
    let first = recovery_steps sets loaded in let format = format_steps_of sets loaded c in let allowed = refusal_in sets (areas_in loaded.labels) c ≡ None in
    ((n < first) × CutInRecovery sets loaded n outcome)
    ⊎ ((first ≤ n) × (n < first + format) × allowed × CutInFormat sets loaded outcome)
    ⊎ ((first + format ≤ n) × allowed × CutInCommand sets loaded c (n - first - format) outcome)

-- a law: it comes in one of them
abbrev pub CrashIsInEither : (ℕ → List (Option Words) → List (Option (List ℕ)) → Type 0) → Type 0
CrashIsInEither leaves = (c : Command) (power : Power) (loaded : ImageSet) (sets : List (List Mapping)) (outcome : Outcome) (n : ℕ) → power.steps ≡ Some n → sets_in loaded ≡ Ok sets
    → ChangeComes leaves c power loaded outcome → outcome.ending ≡ ending.PowerCut → IsCutIn sets loaded c n outcome

-- a law: the state after a crash in a command recovers to the recovery of what was loaded, or to that of the command applied to it
abbrev pub CrashRecovers : (ℕ → List (Option Words) → List (Option (List ℕ)) → Type 0) → Type 0
CrashRecovers leaves = (c : Command) (power : Power) (loaded : ImageSet) (sets : List (List Mapping)) (outcome : Outcome) → ChangesLabels c → HasTable loaded → sets_in loaded ≡ Ok sets
    → ChangeComes leaves c power loaded outcome → outcome.ending ≡ ending.PowerCut
    → let before = after_recovery (map_of sets loaded) in
    (ns : Namespaces) × SavesMap sets loaded (makes_sectors c) ns outcome × ((after_recovery ns ≡ before) ⊎ (after_recovery ns ≡ after_recovery (done before c)))

-- the UUID of the namespace that a command is about
abbrev pub uuid_of : Command → List ℕ
uuid_of (Create spec) = spec.uuid
uuid_of (Delete uuid) = uuid
uuid_of (Rename uuid name) = uuid
uuid_of (Claim uuid) = uuid
uuid_of (Unclaim uuid) = uuid

-- A namespace after a crash in its delete. One that is still pending once recovery is made has a label on a module without a free slot. So it has
-- one label, else its delete is refused; and it is as it was, or gone.
pub record DeleteIsLeft (e : NamespaceEntry) (left : Option NamespaceEntry) : Type 0 where
  pub between : CutOfDelete e left
  pub alone : length e.parts ≡ 1 → CutOfDeleteAlone e left
  pub pending : e.status ≡ Complete e.name true → length e.parts ≡ 1

-- of its rename, which is refused if it is still pending then
pub record RenameIsLeft (e : NamespaceEntry) (name : List ℕ) (left : Option NamespaceEntry) : Type 0 where
  pub settled : e.status ≡ Complete e.name false
  pub between : CutOfRename e name left
  pub alone : length e.parts ≡ 1 → CutOfRenameAlone e name left

-- a command's own namespace after a crash in it, by the tables of `namespace_laws`
abbrev pub OwnIsLeft : Namespaces → Command → Option NamespaceEntry → Type 0
OwnIsLeft before (Create spec) left = CutOfCreate (new_entry before spec) left × (length (set_of before spec.region) ≡ 1 → CutOfCreateAlone (new_entry before spec) left)
OwnIsLeft before (Delete uuid) left = (e : NamespaceEntry) × (lookup uuid before.entries ≡ Some e) × DeleteIsLeft e left
OwnIsLeft before (Rename uuid name) left = (e : NamespaceEntry) × (lookup uuid before.entries ≡ Some e) × RenameIsLeft e (name_in name) left
OwnIsLeft before (Claim uuid) left = ⊥
OwnIsLeft before (Unclaim uuid) left = ⊥

-- the namespaces that recovery made, after a crash in a command
pub record IsLeftOf (before ns : Namespaces) (c : Command) : Type 0 where
  -- every other namespace is as it was, and no two have extents that meet
  pub others : (other : List ℕ) → other ≢ uuid_of c → lookup other ns.entries ≡ lookup other before.entries
  pub apart : EntriesApart ns
  pub own : OwnIsLeft before c (lookup (uuid_of c) ns.entries)

-- a law: if power lasts for recovery, a crash leaves the other namespaces that recovery made, and the command's own by its table
abbrev pub CrashLeavesOthers : (ℕ → List (Option Words) → List (Option (List ℕ)) → Type 0) → Type 0
CrashLeavesOthers leaves = (c : Command) (power : Power) (loaded : ImageSet) (sets : List (List Mapping)) (outcome : Outcome) (n : ℕ) → power.steps ≡ Some n → ChangesLabels c → HasTable loaded → sets_in loaded ≡ Ok sets
    → ChangeComes leaves c power loaded outcome → outcome.ending ≡ ending.PowerCut → recovery_steps sets loaded ≤ n
    → (ns : Namespaces) × SavesMap sets loaded (makes_sectors c) ns outcome × IsLeftOf (after_recovery (map_of sets loaded)) ns c
