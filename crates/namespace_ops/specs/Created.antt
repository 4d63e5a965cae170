-- A namespace is created: the arena of a sector namespace is formatted, and only then are its labels put. That the labels come last, and that
-- one fuse counts the steps of both, is this project's rule; the labels are those of UEFI 2.10, section 13.19.
use Rattle.std.specs.Prelude.{◌≡◌, ℕ, true, false, List, map, Option, Some, None, Result, Err, is_ok}
use Rattle.std.specs.List.{enumerate_from}
use Rattle.cut_words.specs.Fuses.{burnt, lasts}
use Rattle.nfit_reader.specs.declared.table.Mapping.{Mapping}
use Rattle.arena_open.specs.Format.{format_count}
use Rattle.sector_namespaces.specs.Creation.{has_sectors, layout_for}
use Rattle.namespace_map.specs.declared.commands.Command.TheVariants.{Create}
use Rattle.namespace_map.specs.declared.commands.CreateSpec.{CreateSpec}
use Rattle.namespace_map.specs.declared.refused.OpRefused.{OpRefused}
use Rattle.namespace_map.specs.declared.refused.OpRefused.TheVariants.{PowerCut}
use Rattle.namespace_map.specs.Areas.{Change}
use Rattle.namespace_map.specs.Changes.{changes_of, in_two, new_label}
use Rattle.namespace_map.specs.Commands.{refusal_of}
use Rattle.namespace_areas.specs.declared.area.Area.{Area}
use Rattle.namespace_areas.specs.Refusals.{offset_for, shown}
use Rattle.namespace_areas.specs.Seen.{areas_seen}
use Rattle.namespace_areas.specs.Went.{Went}
use Rattle.namespace_ops.specs.declared.creating.NewNamespace.{NewNamespace}
use Rattle.namespace_ops.specs.declared.creating.NewLabels.{NewLabels}
use Rattle.namespace_ops.specs.declared.turns.Round.TheVariants.{Mark, Settle}
use Rattle.namespace_ops.specs.Carried.{IsGoodName, becomes}
use Rattle.namespace_ops.specs.Held.{Held}

-- the labels of a new namespace in a set are put with UPDATING, by position, and then without it
abbrev pub new_changes : List Mapping → NewLabels → List Change
new_changes set new = in_two (becomes Mark) (becomes Settle) (map (new_label new.uuid new.name new.make set new.offset new.raw) (enumerate_from 0 set))

-- what is planned of a create that nothing refuses: its place, and its label changes
pub record IsNew (sets : List (List Mapping)) (areas : List Area) (spec : CreateSpec) (new : NewNamespace) : Type 0 where
  pub allowed : refusal_of (shown sets areas) (Create spec) ≡ None
  pub offset : new.offset ≡ offset_for (shown sets areas) spec
  pub changes : new.changes.items ≡ changes_of (shown sets areas) (areas_seen areas) (Create spec)

-- ---- with sectors

-- the first reason for which a create is refused, on sets and the areas of all modules
abbrev pub refusal_for : List (List Mapping) → List Area → CreateSpec → Option OpRefused
refusal_for sets areas spec = refusal_of (shown sets areas) (Create spec)

-- what a create of a sector namespace asks of the label areas and of what is to be created
pub record CanCreateSectors (held : Held) (spec : CreateSpec) : Type 0 where
  -- power wasn't cut in a command
  pub running : held.stopped ≡ false
  -- the name has no zero byte
  pub name : IsGoodName spec.name
  pub sectors : has_sectors spec.make ≡ true

-- What became of label areas and of a fuse by a create that nothing refuses. Its arena was formatted as far as the fuse lasts.
pub record IsMade (sets : List (List Mapping)) (old now : List Area) (fuse left : Option ℕ) (spec : CreateSpec) (result : Result (Unit {0}) OpRefused) : Type 0 where
  -- if power was cut within the format no label area was touched
  pub within : lasts fuse (format_count (layout_for spec)) ≡ false → (result ≡ Err PowerCut) × (now ≡ old) × (left ≡ burnt fuse (format_count (layout_for spec)))
  -- if the arena is whole, the label changes of the command were made, as far as what is left of the fuse lasts
  pub labels : lasts fuse (format_count (layout_for spec)) ≡ true → Went old now (burnt fuse (format_count (layout_for spec))) left (changes_of (shown sets old) (areas_seen old) (Create spec)) (is_ok result)
  -- the one error is that power was cut
  pub cut : (f : OpRefused) → result ≡ Err f → f ≡ PowerCut

-- What became of them by any create.
pub record Creates (sets : List (List Mapping)) (old now : List Area) (fuse left : Option ℕ) (spec : CreateSpec) (result : Result (Unit {0}) OpRefused) : Type 0 where
  -- if it is refused, the refusal is answered, and nothing has changed
  pub refused : (f : OpRefused) → refusal_for sets old spec ≡ Some f → (result ≡ Err f) × (now ≡ old) × (left ≡ fuse)
  pub made : refusal_for sets old spec ≡ None → IsMade sets old now fuse left spec result
