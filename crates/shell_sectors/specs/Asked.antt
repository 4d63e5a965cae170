-- The question of a command about the arenas of a namespace, whose contents are in a source.
use Rattle.std.specs.Prelude.{◌≡◌, ℕ, List, map, Option}
use Rattle.nvd_media.specs.Images.{Images}
use Rattle.arena_open.specs.declared.state.ArenaState.{ArenaState}
use Rattle.arena_open.specs.Chain.{Link, state_at}
use Rattle.power_cut.specs.Namespace.{Namespace}
use Rattle.namespace_bytes.specs.Putting.{AreAll}
use Rattle.namespace_words.specs.Source.{Reveals, words_by}
use Rattle.shell_reports.specs.declared.outcome.Report.{Report}
use Rattle.shell_reports.specs.Outcome.{Outcome, printed}
use Rattle.shell_reports.specs.Saved.{outcome_of}
use Rattle.shell_reports.specs.Sectors.{arena_lines, sector_outcome}
use Rattle.shell_sectors.specs.declared.asking.Ask.{Ask}
use Rattle.shell_sectors.specs.declared.asking.Ask.TheVariants as ask

abbrev pub asked : Ask → List ArenaState → Outcome
asked ask.Arenas states = printed (arena_lines 0 states)
asked (ask.Sector sector) states = sector_outcome sector states

-- the outcome of a report is the one that is due for these arenas, if they are all of the namespace with the contents that the source has, as
-- far as it reveals them
abbrev pub AnswersOn : (List ArenaState → Outcome) → Option Images → Namespace → List Link → Report → Type 0
AnswersOn due held e links report =
    (contents : List (List ℕ)) → Reveals held e.set contents → (uuid : List ℕ) → AreAll (words_by e contents) uuid links → outcome_of report ≡ due (map (state_at (words_by e contents)) links)
