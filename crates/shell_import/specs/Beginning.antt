-- How `import` begins, on a set that was loaded without its contents: this project's rules.
use Rattle.std.specs.Prelude.{◌≡◌, ℕ, ◌*◌, true, List, [], ◌∷◌, length, map, MatchOption, Option, None, Ok}
use Rattle.std.specs.Option.{ForSome}
use Rattle.image_set.specs.declared.changing.OutlineRest.{OutlineRest}
use Rattle.image_set.specs.declared.outline.Outline.{Outline}
use Rattle.image_set.specs.Outline.{contents_in, image_set_with}
use Rattle.nvd_media.specs.Images.{Images}
use Rattle.arena_open.specs.Chain.{Link}
use Rattle.namespace_bytes.specs.Putting.{AreAll}
use Rattle.namespace_bytes.specs.SectorBytes.{HaveMapsOfBytes}
use Rattle.namespace_areas.specs.declared.found.Found.{Found}
use Rattle.namespace_areas.specs.Finding.{LiesInSet, set_at}
use Rattle.namespace_areas.specs.Seen.{words_of}
use Rattle.namespace_bytes.specs.declared.new_bytes.NewBytes.TheVariants.{Raw}
use Rattle.namespace_bytes.specs.Patching.{bytes_by_place}
use Rattle.namespace_map.specs.Commands.{is_sector}
use Rattle.namespace_map.specs.Namespaces.{lookup}
use Rattle.namespace_ops.specs.Counted.{namespaces_in}
use Rattle.namespace_ops.specs.Registered.{Registered, state_of}
use Rattle.power_cut.specs.Namespace.{over}
use Rattle.power_cut.specs.Namespace.{words_of as namespace_words}
use Rattle.sector_namespaces.specs.View.{rows_of}
use Rattle.shell_changes.specs.declared.answer.Answer.{Answer}
use Rattle.shell_changes.specs.Answers.{HasSizes, outcome_with}
use Rattle.shell_export.specs.Export.{place_of}
use Rattle.shell_reports.specs.Faults.{refused_outcome}
use Rattle.shell_sectors.specs.Opening.{HaveSizes, IsOpenOutline}
use Rattle.shell_sectors.specs.Patched.{Patches, SavesPatched, patch_of}
use Rattle.shell_sectors.specs.Write.{length_refusal}
use Rattle.shell_import.specs.declared.beginning.Begun.{Begun}
use Rattle.shell_import.specs.declared.beginning.Begun.TheVariants as begun
use Rattle.shell_import.specs.declared.sectors.SectorImport.{SectorImport}
use Rattle.shell_import.specs.Import.{ImportComes}

-- ---- the namespace

-- A complete namespace that was found by these labels.
pub record IsPlacedOn (outline : Outline) (uuid : List ℕ) (found : Found) (registry : Registered) (rest : OutlineRest) : Type 0 where
  pub parts : IsOpenOutline outline registry rest
  pub place : place_of registry.sets (lookup uuid (namespaces_in (state_of registry)).entries) ≡ Ok found
  pub lies : LiesInSet registry.sets found

-- ---- bytes for a namespace

-- bytes are put into a raw namespace; or they are refused, since it has another number of them
abbrev pub PutsRaw : Registered → Found → OutlineRest → List ℕ → Answer → Type 0
PutsRaw registry found rest bytes answer =
    MatchOption (length_refusal (length bytes) (length (set_at registry.sets found.region) * found.raw))
    (SavesPatched (patch_of registry.sets found (Raw bytes) ∷ []) rest (map words_of registry.areas) answer × Patches registry.sets found (patch_of registry.sets found (Raw bytes)))
    (λ refusal. (answer.saved ≡ None) × ((contents : List (List ℕ)) → outcome_with answer contents ≡ refused_outcome refusal))

-- ---- the command

-- an answer is what `import` comes to, whatever contents of these sizes the set has
pub record Imports (uuid bytes : List ℕ) (outline : Outline) (answer : Answer) : Type 0 where
  pub comes : (contents : List (List ℕ)) → HaveSizes outline.sizes contents → ImportComes uuid bytes (image_set_with outline contents) (outcome_with answer contents)
  pub sizes : HasSizes outline.sizes answer

-- A namespace of sectors was found on an outline, and bytes are given for it.
pub record IsSectorImport (uuid bytes : List ℕ) (outline : Outline) (s : SectorImport) : Type 0 where
  pub registry : Registered
  pub placed : IsPlacedOn outline uuid s.found registry s.rest
  pub sector : is_sector s.found.mode ≡ true
  pub set : s.set ≡ set_at registry.sets s.found.region
  pub areas : s.areas.items ≡ registry.areas
  pub given : s.bytes.items ≡ bytes

-- An answer is what `import` comes to, if the namespace has these arenas.
pub record Fills (uuid bytes : List ℕ) (outline : Outline) (s : SectorImport) (links : List Link) (answer : Answer) : Type 0 where
  pub comes : (contents : List (List ℕ)) → HaveSizes outline.sizes contents → AreAll (namespace_words (over s.set s.found.offset s.found.raw (rows_of contents))).kept uuid links
      → HaveMapsOfBytes (bytes_by_place s.set s.found.offset s.found.raw contents) links → ImportComes uuid bytes (image_set_with outline contents) (outcome_with answer contents)
  pub sizes : HasSizes outline.sizes answer

-- it is answered; or the arenas are needed
abbrev pub Begins : List ℕ → List ℕ → Outline → Begun → Type 0
Begins uuid bytes outline (begun.Done answer) = Imports uuid bytes outline answer
Begins uuid bytes outline (begun.Sectors s) = IsSectorImport uuid bytes outline s

-- An answer is what `import` comes to with the contents that the source has, as far as it reveals them.
pub record ImportsFrom (held : Option Images) (uuid bytes : List ℕ) (outline : Outline) (answer : Answer) : Type 0 where
  pub comes : ForSome held (λ source. ImportComes uuid bytes (image_set_with outline (contents_in source (length outline.sizes))) (outcome_with answer (contents_in source (length outline.sizes))))
  pub sizes : HasSizes outline.sizes answer
