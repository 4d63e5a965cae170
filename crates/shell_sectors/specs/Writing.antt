-- The command `write` on a set that was loaded without its contents: this project's rules.
use Rattle.std.specs.Prelude.{◌≡◌, ℕ, List, [], ◌∷◌, length, map, Option, Ok}
use Rattle.std.specs.Option.{ForSome}
use Rattle.nvd_media.specs.Images.{Images}
use Rattle.arena_open.specs.Chain.{Link}
use Rattle.image_set.specs.declared.outline.Outline.{Outline}
use Rattle.image_set.specs.Outline.{contents_in, image_set_with}
use Rattle.namespace_areas.specs.Finding.{LiesInSet, found_of, set_at}
use Rattle.namespace_areas.specs.Seen.{words_of}
use Rattle.namespace_bytes.specs.declared.new_bytes.NewBytes.TheVariants.{Runs}
use Rattle.namespace_bytes.specs.declared.runs.Run.{Run}
use Rattle.namespace_bytes.specs.Patching.{bytes_by_place}
use Rattle.namespace_bytes.specs.Putting.{AreAll}
use Rattle.namespace_bytes.specs.SectorBytes.{HaveMapsOfBytes}
use Rattle.namespace_map.specs.Namespaces.{lookup}
use Rattle.namespace_ops.specs.Counted.{namespaces_in}
use Rattle.namespace_ops.specs.Registered.{Registered, state_of}
use Rattle.power_cut.specs.Namespace.{over}
use Rattle.power_cut.specs.Namespace.{words_of as namespace_words}
use Rattle.sector_namespaces.specs.View.{rows_of}
use Rattle.session_script.specs.declared.payload.Payload.{Payload}
use Rattle.shell_changes.specs.declared.answer.Answer.{Answer}
use Rattle.shell_changes.specs.Answers.{HasSizes, outcome_with}
use Rattle.shell_sectors.specs.declared.write.SectorPlace.{SectorPlace}
use Rattle.shell_sectors.specs.Opening.{HaveSizes, IsOpenOutline}
use Rattle.shell_sectors.specs.Patched.{Patches, PrintsPatched, patch_of}
use Rattle.shell_sectors.specs.Write.{WriteComes}

-- A sector namespace was found on an outline.
pub record IsSectorPlace (uuid : List ℕ) (outline : Outline) (s : SectorPlace) : Type 0 where
  pub registry : Registered
  pub parts : IsOpenOutline outline registry s.rest
  pub place : found_of registry.sets (lookup uuid (namespaces_in (state_of registry)).entries) ≡ Ok s.found
  pub lies : LiesInSet registry.sets s.found
  pub set : s.set ≡ set_at registry.sets s.found.region
  pub areas : s.areas.items ≡ registry.areas

-- this text is printed, and the set is saved with these runs in the namespace
abbrev pub SavesRuns : List ℕ → Registered → SectorPlace → List Run → Answer → Type 0
SavesRuns text registry s runs answer =
    PrintsPatched text (patch_of registry.sets s.found (Runs runs) ∷ []) s.rest (map words_of registry.areas) answer × Patches registry.sets s.found (patch_of registry.sets s.found (Runs runs))

-- An answer is what `write` comes to, if the namespace has these arenas.
pub record WritesWith (uuid : List ℕ) (sector : ℕ) (value : Payload) (outline : Outline) (s : SectorPlace) (links : List Link) (answer : Answer) : Type 0 where
  pub comes : (contents : List (List ℕ)) → HaveSizes outline.sizes contents → AreAll (namespace_words (over s.set s.found.offset s.found.raw (rows_of contents))).kept uuid links
      → HaveMapsOfBytes (bytes_by_place s.set s.found.offset s.found.raw contents) links → WriteComes uuid sector value (image_set_with outline contents) (outcome_with answer contents)
  pub sizes : HasSizes outline.sizes answer

-- An answer is what `write` comes to with the contents that the source has, as far as it reveals them.
pub record WritesFrom (held : Option Images) (uuid : List ℕ) (sector : ℕ) (value : Payload) (outline : Outline) (answer : Answer) : Type 0 where
  pub comes : ForSome held (λ source. WriteComes uuid sector value (image_set_with outline (contents_in source (length outline.sizes))) (outcome_with answer (contents_in source (length outline.sizes))))
  pub sizes : HasSizes outline.sizes answer
