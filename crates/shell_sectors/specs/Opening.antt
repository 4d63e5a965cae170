-- An outline whose labels are read, and commands that print what its contents hold: this project's rules.
use Rattle.std.specs.Prelude.{◌≡◌, ℕ, ◌*◌, ◌%◌, ◌<◌, ◌≤◌, false, List, length, map, Option, None, Some, Ok, Err}
use Rattle.std.specs.Option.{ForSome}
use Rattle.nvd_media.specs.Images.{Images}
use Rattle.interleave.specs.Places.{unit_of}
use Rattle.interleave.specs.Sound.{span_of}
use Rattle.power_cut.specs.Namespace.{ReachEnds}
use Rattle.image_set.specs.Limits.{most_contents}
use Rattle.image_set.specs.Load.{ImageSet}
use Rattle.image_set.specs.declared.changing.OutlineRest.{OutlineRest}
use Rattle.image_set.specs.declared.outline.Outline.{Outline}
use Rattle.image_set.specs.Outline.{IsOutlineRest, contents_in, image_set_with}
use Rattle.namespace_areas.specs.Finding.{set_at}
use Rattle.namespace_areas.specs.Opening.{AreWhole, opened_as}
use Rattle.namespace_areas.specs.Seen.{AreHeld, words_of}
use Rattle.namespace_map.specs.Namespaces.{entry_at, lookup}
use Rattle.namespace_ops.specs.declared.registry.OpenFault.{OpenFault}
use Rattle.namespace_ops.specs.Counted.{namespaces_in}
use Rattle.namespace_ops.specs.Opening.{registry_opening, sets_of}
use Rattle.namespace_ops.specs.Registered.{Registered, state_of}
use Rattle.sector_namespaces.specs.View.{rows_of}
use Rattle.shell_reports.specs.declared.outcome.Report.{Report}
use Rattle.shell_reports.specs.Causes.{fault_in}
use Rattle.shell_reports.specs.List.{labels_in_set, open_outcome}
use Rattle.shell_reports.specs.Outcome.{Outcome}
use Rattle.shell_reports.specs.Saved.{outcome_of}
use Rattle.shell_changes.specs.Saved.{AreWholeSizes}
use Rattle.shell_sectors.specs.declared.opening.OutlineOpened.{OutlineOpened}
use Rattle.shell_sectors.specs.declared.opening.OutlineOpened.TheVariants as opened

-- ---- contents that aren't in memory

-- contents have these sizes
abbrev pub HaveSizes : List ℕ → List (List ℕ) → Type 0
HaveSizes sizes contents = map (λ row. length row) contents ≡ sizes

-- an outline besides its decoded table and its label areas
abbrev pub rest_of : Outline → OutlineRest
rest_of outline = record { nfit_bytes = outline.nfit_bytes; sizes = outline.sizes; bad = outline.bad }

-- All parts of an outline whose labels are read. None of it depends on the contents.
pub record IsOpenOutline (outline : Outline) (registry : Registered) (rest : OutlineRest) : Type 0 where
  pub is : Ok registry ≡ registry_opening outline.nfit (map opened_as outline.labels)
  pub none : (contents : List (List ℕ)) → fault_in (image_set_with outline contents) ≡ None
  pub running : registry.stopped ≡ false
  pub held : AreHeld registry.areas
  pub sets : registry.sets ≡ sets_of outline.nfit
  pub entry : (uuid : List ℕ) (contents : List (List ℕ)) → lookup uuid (namespaces_in (state_of registry)).entries ≡ entry_at (sets_of outline.nfit) (labels_in_set (image_set_with outline contents)) uuid
  -- no word of a label area is pending
  pub labels : map words_of registry.areas ≡ outline.labels
  pub settled : AreWhole outline.labels
  pub rest_is : rest ≡ rest_of outline
  pub is_rest : IsOutlineRest rest
  pub count : length registry.areas ≡ length rest.sizes
  pub sizes : AreWholeSizes rest.sizes
  -- the unit of each set is whole pages
  pub pages : (region : ℕ) → region < length registry.sets → unit_of (set_at registry.sets region) % 4096 ≡ 0
  -- no set is larger than all contents together may be
  pub spans : (region : ℕ) → region < length registry.sets → length (set_at registry.sets region) * span_of (set_at registry.sets region) ≤ most_contents
  -- contents of these sizes hold the mappings of all sets
  pub reach : (contents : List (List ℕ)) → HaveSizes outline.sizes contents → (region : ℕ) → region < length registry.sets → ReachEnds (set_at registry.sets region) (rows_of contents)

-- ---- reading the labels

-- the table or the labels have this fault, whatever the contents are
abbrev pub IsFaulty : Outline → Report → Type 0
IsFaulty outline report =
    (fault : OpenFault) × ((contents : List (List ℕ)) → fault_in (image_set_with outline contents) ≡ Some fault) × (outcome_of report ≡ open_outcome fault)
    × (Err fault ≡ registry_opening outline.nfit (map opened_as outline.labels))

abbrev pub OpensOutline : Outline → OutlineOpened → Type 0
OpensOutline outline (opened.Done registry rest) = IsOpenOutline outline registry rest
OpensOutline outline (opened.Not report) = IsFaulty outline report

-- ---- commands

-- the outcome of a report is the one that is due with the contents that the source has, as far as it reveals them
abbrev pub PrintsFrom : (ImageSet → Outcome) → Option Images → Outline → Report → Type 0
PrintsFrom due held outline report = ForSome held (λ source. outcome_of report ≡ due (image_set_with outline (contents_in source (length outline.sizes))))
