-- The reports on the arenas of a namespace, in order, and its words after a repair of each: UEFI 2.10, section 6.2 (NextOff of the BTT Info
-- Block). That a check goes on behind an arena that breaks the format, by the info block that it uses, is this project's rule.
use Rattle.std.specs.Prelude.{◌≡◌, ◌≢◌, ⊤, ℕ, zero, suc, ◌+◌, ◌/◌, ◌<◌, ◌==◌, Bool, if◌then◌else◌, List, [], ◌∷◌, ◌++◌, length, take, drop, map, Some}
use Rattle.arena_check.specs.declared.finding.Report.{Report}
use Rattle.arena_layout.specs.declared.info.Info.{Info}
use Rattle.arena_open.specs.Reading.{groups_in}
use Rattle.arena_check.specs.Check.{in_arena, info_used, next_of, report_by, source_of}
use Rattle.arena_repair.specs.Laws.{SectorAfter}
use Rattle.arena_repair.specs.Repair.{mended, repaired_by}

-- what is behind an arena: the next one begins NextOff bytes after its start, and there is none if NextOff is 0
abbrev pub behind : ℕ → ℕ → (ℕ → List Report) → List Report
behind next at from = if next == 0 then [] else from (at + next / 8)

-- the reports from a word on, at most n of them
unfoldable pub reports_within : ℕ → (ℕ → Bool) → List ℕ → List ℕ → ℕ → List Report
reports_within zero bad words parent at = []
reports_within (suc n) bad words parent at =
    let source = source_of (drop at words) parent in
    report_by at bad (drop at words) parent source ∷ behind (next_of source) at (reports_within n bad words parent)

-- all of them; each arena but the first begins behind the one before, so there are no more than words
abbrev pub reports_of : (ℕ → Bool) → List ℕ → List ℕ → List Report
reports_of bad words parent = reports_within (length words + 1) bad words parent 0

-- ---- repairs

-- an arena's words, and those of the arenas behind it
abbrev pub followed : ℕ → ℕ → List ℕ → (ℕ → List ℕ) → List ℕ
followed next at now from = if next == 0 then now else take (next / 8) now ++ from (at + next / 8)

-- the words from an arena on, once it and at most n - 1 behind it are repaired
unfoldable pub repaired_within : ℕ → (ℕ → Bool) → List ℕ → List ℕ → ℕ → List ℕ
repaired_within zero bad words parent at = drop at words
repaired_within (suc n) bad words parent at =
    let source = source_of (drop at words) parent in
    followed (next_of source) at (repaired_by at bad (drop at words) parent source) (repaired_within n bad words parent)

-- the words of a namespace once all of its arenas are repaired
abbrev pub repaired_all : (ℕ → Bool) → List ℕ → List ℕ → List ℕ
repaired_all bad words parent = repaired_within (length words + 1) bad words parent 0

-- The sectors of the arena at this word have the cells of before, but those with bad words, which are Bad. If a sector's block doesn't exist, it has
-- no cell, and its entry stays.
abbrev pub KeepsCells : (ℕ → Bool) → List ℕ → List ℕ → List ℕ → ℕ → Type 0
KeepsCells bad was now parent at =
    (info : Info) → info_used (source_of (drop at was) parent) ≡ Some info → (sector : ℕ) → sector < info.layout.external
    → SectorAfter info.layout (in_arena at bad) (drop at was) (drop at now) (groups_in info.layout (drop at was)) sector

-- so do those of this arena and of at most n - 1 behind it
unfoldable pub KeepCells : ℕ → (ℕ → Bool) → List ℕ → List ℕ → List ℕ → ℕ → Type 0
KeepCells zero bad was now parent at = ⊤
KeepCells (suc n) bad was now parent at =
    let source = source_of (drop at was) parent in KeepsCells bad was now parent at × (next_of source ≢ 0 → KeepCells n bad was now parent (at + next_of source / 8))

-- The words of a namespace after a repair.
pub record AreRepaired (bad : ℕ → Bool) (parent was now : List ℕ) : Type 0 where
  pub words : now ≡ repaired_all bad was parent
  -- a second check finds what stayed open, and nothing else
  pub again : reports_of bad now parent ≡ map mended (reports_of bad was parent)
  -- all cells are as before, but those of sectors with bad words; a sector whose block doesn't exist keeps its entry
  pub cells : KeepCells (length was + 1) bad was now parent 0

-- A law: so are those that `repaired_all` defines.
abbrev pub RepairMendsAll : Type 0
RepairMendsAll = (bad : ℕ → Bool) (words parent : List ℕ) → AreRepaired bad parent words (repaired_all bad words parent)
