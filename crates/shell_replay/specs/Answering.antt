-- From an outline to the answer of `replay`.
use Rattle.std.specs.Prelude.{◌≡◌, ℕ, nat_lt, false, List, [], ◌∷◌, length, map, Option}
use Rattle.std.specs.Option.{ForSome}
use Rattle.cut_words.specs.Words.{Words}
use Rattle.nvd_media.specs.Images.{Images}
use Rattle.arena_open.specs.declared.state.ArenaState.{ArenaState}
use Rattle.arena_open.specs.Chain.{Link, state_at}
use Rattle.image_set.specs.declared.outline.Outline.{Outline}
use Rattle.image_set.specs.Outline.{contents_in, image_set_with}
use Rattle.namespace_bytes.specs.Patching.{bytes_by_place}
use Rattle.namespace_bytes.specs.Putting.{AreAll}
use Rattle.namespace_bytes.specs.SectorBytes.{HaveMapsOfBytes}
use Rattle.namespace_words.specs.Source.{Reveals}
use Rattle.power_cut.specs.Namespace.{over, words_of}
use Rattle.sector_namespaces.specs.View.{rows_of}
use Rattle.shell_changes.specs.declared.answer.Answer.{Answer}
use Rattle.shell_changes.specs.Answers.{HasSizes, outcome_with}
use Rattle.shell_reports.specs.Faults.{most_held}
use Rattle.shell_sectors.specs.declared.write.SectorPlace.{SectorPlace}
use Rattle.shell_sectors.specs.Opening.{HaveSizes}
use Rattle.shell_replay.specs.declared.schedule.Schedule.{Schedule}
use Rattle.shell_replay.specs.Replay.{ReplayComes}

-- the words of a namespace that was found, with these contents
abbrev pub words_at : SectorPlace → List (List ℕ) → List ℕ
words_at s contents = (words_of (over s.set s.found.offset s.found.raw (rows_of contents))).kept

-- These are its arenas then.
pub record HasArenas (uuid : List ℕ) (s : SectorPlace) (contents : List (List ℕ)) (links : List Link) : Type 0 where
  pub all : AreAll (words_at s contents) uuid links
  pub maps : HaveMapsOfBytes (bytes_by_place s.set s.found.offset s.found.raw contents) links

-- One arena isn't too large to be opened in memory.
abbrev pub AreSmall : List Link → Type 0
AreSmall links = (link : Link) → links ≡ link ∷ [] → nat_lt most_held link.opened.info.layout.size ≡ false

-- An answer is what `replay` comes to, if the namespace's arenas open as these.
pub record ReplaysWith (leaves : ℕ → List (Option Words) → List (Option (List ℕ)) → Type 0) (uuid : List ℕ) (schedule : Schedule) (outline : Outline) (s : SectorPlace) (states : List ArenaState) (answer : Answer) : Type 0 where
  pub comes : (contents : List (List ℕ)) (links : List Link) → HaveSizes outline.sizes contents → HasArenas uuid s contents links → states ≡ map (state_at (words_at s contents)) links → AreSmall links
      → ReplayComes leaves uuid schedule (image_set_with outline contents) (outcome_with answer contents)
  pub sizes : HasSizes outline.sizes answer

-- An answer is what `replay` comes to with the contents that the source reveals, if the namespace has these arenas.
pub record ReplaysOn (leaves : ℕ → List (Option Words) → List (Option (List ℕ)) → Type 0) (held : Option Images) (uuid : List ℕ) (schedule : Schedule) (outline : Outline) (s : SectorPlace) (links : List Link) (answer : Answer) : Type 0 where
  pub comes : (contents : List (List ℕ)) → Reveals held s.set contents → HaveSizes outline.sizes contents → HasArenas uuid s contents links
      → ReplayComes leaves uuid schedule (image_set_with outline contents) (outcome_with answer contents)
  pub sizes : HasSizes outline.sizes answer

-- An answer is what `replay` comes to with the contents that the source has, as far as it reveals them.
pub record ReplaysFrom (leaves : ℕ → List (Option Words) → List (Option (List ℕ)) → Type 0) (held : Option Images) (uuid : List ℕ) (schedule : Schedule) (outline : Outline) (answer : Answer) : Type 0 where
  pub comes : ForSome held (λ source. ReplayComes leaves uuid schedule (image_set_with outline (contents_in source (length outline.sizes))) (outcome_with answer (contents_in source (length outline.sizes))))
  pub sizes : HasSizes outline.sizes answer
