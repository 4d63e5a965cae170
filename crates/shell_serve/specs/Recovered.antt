-- An outline whose labels are recovered, so that sessions can begin.
use Rattle.std.specs.Prelude.{◌≡◌, ℕ, true, List, length, map, Option, None, Ok, Err}
use Rattle.std.specs.Option.{option_map}
use Rattle.cut_words.specs.Words.{Words}
use Rattle.nfit_reader.specs.declared.table.Mapping.{Mapping}
use Rattle.image_set.specs.declared.outline.Outline.{Outline}
use Rattle.image_set.specs.Load.{ImageSet, bytes_kept}
use Rattle.image_set.specs.Outline.{image_set_with}
use Rattle.namespace_areas.specs.declared.area.Area.{Area}
use Rattle.namespace_areas.specs.Opening.{AreWhole, opened_as}
use Rattle.namespace_areas.specs.Seen.{AreHeld, areas_seen}
use Rattle.namespace_areas.specs.Steps.{Rows, all_rows, rows_of as label_rows}
use Rattle.namespace_areas.specs.Went.{Went, size_of, unready}
use Rattle.namespace_laws.specs.Apart.{EntriesApart}
use Rattle.namespace_map.specs.Changes.{namespaces_of, recovered_areas, recovery_changes}
use Rattle.namespace_map.specs.Left.{LabelsAreRead, AreRegions}
use Rattle.namespace_ops.specs.declared.registry.OpenFault.{OpenFault}
use Rattle.namespace_ops.specs.Registered.{Registered}
use Rattle.shell_changes.specs.Areas.{areas_in, rows_in}
use Rattle.shell_changes.specs.Namespaces.{sets_in}
use Rattle.shell_changes.specs.Reading.{IsFresh}
use Rattle.shell_reports.specs.List.{open_outcome}
use Rattle.shell_reports.specs.Saved.{outcome_of}
use Rattle.shell_sectors.specs.Opening.{IsOpenOutline}
use Rattle.shell_serve.specs.declared.recovered.RecoveredSet.{RecoveredSet}
use Rattle.shell_serve.specs.declared.recovered.SetRecovered.{SetRecovered}
use Rattle.shell_serve.specs.declared.recovered.SetRecovered.TheVariants as recovered

-- ---- recovery

-- What recovery with power that stays on makes of a registry, whose journal is empty.
pub record IsRecovery (old new : Registered) : Type 0 where
  pub left : Option ℕ
  pub went : Went old.areas new.areas None left (recovery_changes old.sets (areas_seen old.areas)) true
  pub sets : new.sets ≡ old.sets
  pub opening : new.opening ≡ new.areas
  pub running : IsFresh old → IsFresh new

-- the words of the label areas then, as recovery's stores and flushes make them of those that were loaded
abbrev pub recovered_words : List (List Mapping) → ImageSet → Rows
recovered_words sets loaded = all_rows (rows_in loaded) (recovery_changes sets (areas_in loaded.labels))

-- ---- label areas after commands

-- Label areas that were loaded as these bytes: one that wasn't read is as it was, and each has its size.
pub record KeepsLabels (labels : List (Option (List ℕ))) (areas : List Area) : Type 0 where
  pub words : List (Option Words)
  pub are : labels ≡ map (option_map bytes_kept) words
  pub whole : AreWhole words
  pub beside : map unready areas ≡ map unready (map opened_as words)
  pub sizes : map size_of areas ≡ map size_of (map opened_as words)

-- ---- a set that is ready for sessions

-- Its registry, and what else is in it, as those of a set that is loaded.
pub record IsRecoveredIn (loaded : ImageSet) (set : RecoveredSet) : Type 0 where
  pub sets : sets_in loaded ≡ Ok set.registry.sets
  pub areas : areas_seen set.registry.areas ≡ recovered_areas set.registry.sets (areas_in loaded.labels)
  pub words : label_rows set.registry.areas ≡ recovered_words set.registry.sets loaded
  -- labels are those of regions that are interleave sets, and no two namespaces have extents that meet
  pub regions : AreRegions set.registry.sets
  pub read : LabelsAreRead (areas_seen set.registry.areas)
  pub apart : EntriesApart (namespaces_of set.registry.sets (areas_seen set.registry.areas))
  -- none of them stands in the middle of a change
  pub held : AreHeld set.registry.areas
  pub fresh : IsFresh set.registry
  pub opening : set.registry.opening ≡ set.registry.areas
  pub labels : KeepsLabels loaded.labels set.registry.areas
  pub nfit : loaded.nfit_bytes ≡ set.rest.nfit_bytes
  pub bad : loaded.bad ≡ set.rest.bad

-- It is that of an outline, whatever the contents are.
pub record IsRecovered (outline : Outline) (set : RecoveredSet) : Type 0 where
  -- as its labels were read
  pub before : Registered
  pub opened : IsOpenOutline outline before set.rest
  pub sets : set.registry.sets ≡ before.sets
  pub fresh : IsFresh set.registry
  pub count : length set.registry.areas ≡ length set.rest.sizes
  pub is : (contents : List (List ℕ)) → IsRecoveredIn (image_set_with outline contents) set

-- labels are recovered, or the table or the labels have a fault, whatever the contents are
abbrev pub RecoversIn : Outline → SetRecovered → Type 0
RecoversIn outline (recovered.Done set) = IsRecovered outline set
RecoversIn outline (recovered.Not report) = (fault : OpenFault) × ((contents : List (List ℕ)) → sets_in (image_set_with outline contents) ≡ Err fault) × (outcome_of report ≡ open_outcome fault)
