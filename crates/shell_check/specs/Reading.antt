-- What was read of an arena whose contents stay in an image source.
use Rattle.std.specs.Prelude.{◌≡◌, ◌≢◌, ⊤, ℕ, ◌+◌, ◌*◌, ◌≤◌, Bool, List, [], ◌∷◌, ◌++◌, length, take, drop, Option, Some, None, Ok, Err, IfSome, MatchBool}
use Rattle.std.specs.Option.{option_map}
use Rattle.std.specs.List.{flat_map}
use Rattle.std.specs.Int.{w32, to_le_bytes}
use Rattle.nvd_words.specs.Bytes.{AreBytes}
use Rattle.cut_words.specs.WordBytes.{words_in}
use Rattle.arena_check.specs.declared.finding.Finding.{Finding}
use Rattle.arena_check.specs.Check.{findings_with, flog_findings, in_arena, info_used, next_of, report_of, source_of}
use Rattle.arena_repair.specs.declared.page.PageCopy.{PageCopy}
use Rattle.arena_repair.specs.Repair.{map_repair, page_repair}
use Rattle.arena_layout.specs.declared.info.Info.{Info}
use Rattle.arena_layout.specs.declared.layout.Layout.{Layout}
use Rattle.arena_layout.specs.Info.{IsArenaOf}
use Rattle.arena_layout.specs.Layout.{IsLayout}
use Rattle.arena_open.specs.declared.refused.OpenRefused.{OpenRefused}
use Rattle.arena_open.specs.Halves.{AreInRange}
use Rattle.arena_open.specs.Reading.{groups_in}
use Rattle.namespace_bytes.specs.declared.runs.Run.{Run}
use Rattle.namespace_bytes.specs.Changed.{changed_from}
use Rattle.namespace_bytes.specs.Runs.{runs_byte}
use Rattle.arena_repair.specs.Chain.{repaired_all}
use Rattle.arena_check.specs.declared.finding.Report.{Report}
use Rattle.shell_check.specs.declared.chain.Checked.{Checked}
use Rattle.shell_check.specs.Text.{findings_in, report_lines}
use Rattle.shell_check.specs.declared.arena.ArenaChecked.{ArenaChecked}
use Rattle.shell_check.specs.declared.arena.MapPut.{MapPut}
use Rattle.shell_check.specs.declared.log.LogRead.{LogRead}
use Rattle.shell_check.specs.declared.log.LogRead.TheVariants.{Sound, Refused}

-- the groups of all lanes; or some are refused, and these are the findings
abbrev pub IsLogRead : Layout → List ℕ → LogRead → Type 0
IsLogRead l words (Sound groups) = groups_in l words ≡ Ok groups
IsLogRead l words (Refused findings) = (refused : OpenRefused) × (groups_in l words ≡ Err refused) × (findings ≡ flog_findings l words)

-- the moves of the groups are within an arena of so many sectors
abbrev pub HasRange : ℕ → LogRead → Type 0
HasRange external (Sound groups) = AreInRange external groups
HasRange external (Refused findings) = ⊤

-- what is found by the info block that can be used, if there is one
abbrev pub findings_by : ℕ → (ℕ → Bool) → List ℕ → Option Info → List Finding
findings_by at bad words None = []
findings_by at bad words (Some info) = findings_with at bad words info.layout

-- the map that a repair writes, if it writes one
abbrev pub put_of : Layout → List ℕ → MapPut
put_of l entries = record { layout = l; entries = entries }

abbrev pub map_by : ℕ → (ℕ → Bool) → List ℕ → Option Info → Option MapPut
map_by at bad words None = None
map_by at bad words (Some info) = option_map (put_of info.layout) (map_repair info.layout (in_arena at bad) words (groups_in info.layout words))

-- The findings of a check of the arena that begins with these words, where the next one is, and what a repair writes.
pub record IsChecked (at : ℕ) (bad : ℕ → Bool) (words parent : List ℕ) (arena : ArenaChecked) : Type 0 where
  pub report : arena.report ≡ report_of at bad words parent
  pub next : arena.next ≡ next_of (source_of words parent)
  pub page : arena.page ≡ page_repair words parent (source_of words parent)
  pub map : arena.map ≡ map_by at bad words (info_used (source_of words parent))

-- another arena begins so many bytes after the start of one that has `rest` bytes up to the end of its namespace
abbrev pub GoesOn : List ℕ → ℕ → ℕ → Type 0
GoesOn parent rest next = next ≢ 0 → (info : Info) × IsArenaOf parent rest info × (info.next ≡ next)

-- A repair writes inside an arena that has so many bytes up to the end of its namespace.
pub record FitsIn (rest : ℕ) (arena : ArenaChecked) : Type 0 where
  pub page : IfSome arena.page (λ copy. (8 * copy.from + 4096 ≤ rest) × (8 * copy.to + 4096 ≤ rest))
  pub map : IfSome arena.map (λ put. IsLayout put.layout × (put.layout.size ≤ rest))

-- ---- runs of bytes

-- the bytes of a map's entries, for the arena whose first word is `at`
abbrev pub map_run : ℕ → Layout → List ℕ → Run
map_run at l entries = record { first = 8 * at + l.map_off; bytes = flat_map (to_le_bytes w32) entries }

abbrev pub map_runs : ℕ → Option MapPut → List Run
map_runs at None = []
map_runs at (Some put) = map_run at put.layout put.entries ∷ []

-- A page of the arena whose first word is `at`, put over another one; words are those from the arena's first one on.
pub record IsPageRun (at : ℕ) (words : List ℕ) (copy : PageCopy) (run : Run) : Type 0 where
  pub first : run.first ≡ 8 * (at + copy.to)
  pub long : length run.bytes ≡ 4096
  pub small : AreBytes run.bytes
  pub words_are : words_in run.bytes ≡ take 512 (drop copy.from words)

abbrev pub ArePageRuns : ℕ → List ℕ → Option PageCopy → List Run → Type 0
ArePageRuns at words None runs = runs ≡ []
ArePageRuns at words (Some copy) runs = (run : Run) × IsPageRun at words copy run × (runs ≡ run ∷ [])

-- what a repair puts into an arena that begins with these words: a page, and then its map
pub record AreRepairs (at : ℕ) (words : List ℕ) (page : Option PageCopy) (map : Option MapPut) (runs : List Run) : Type 0 where
  pub pages : List Run
  pub are : ArePageRuns at words page pages
  pub all : runs ≡ pages ++ map_runs at map

-- these runs, or none if nothing is repaired
abbrev pub AreRepairsIf : Bool → ℕ → List ℕ → Option PageCopy → Option MapPut → List Run → Type 0
AreRepairsIf repair at words page map runs = MatchBool repair (AreRepairs at words page map runs) (runs ≡ [])

-- with these runs the bytes of a namespace become those after a repair
abbrev pub RepairsAll : (ℕ → Bool) → List ℕ → List ℕ → List Run → Type 0
RepairsAll bad parent row runs = words_in (changed_from (runs_byte runs) 0 row) ≡ repaired_all bad (words_in row) parent

-- ---- lines

-- The lines of these reports, each of which begins with the head, and how many of their findings are open.
pub record IsListed (head : List ℕ) (repair : Bool) (reports : List Report) (checked : Checked) : Type 0 where
  pub text : checked.text.items ≡ report_lines head repair 0 reports
  pub count : checked.count ≡ findings_in repair reports
