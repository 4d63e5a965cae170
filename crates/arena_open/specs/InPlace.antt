-- Arenas that are read without copying their words.
use Rattle.std.specs.Prelude.{◌≡◌, ℕ, ◌+◌, ◌^◌, ◌<◌, ◌≤◌, List, length, take, drop, sum_by, slice_index_or}
use Rattle.std.specs.List.{All}
use Rattle.cut_words.specs.Words.{Words}
use Rattle.arena_open.specs.Writes.{IsSettled}
use Rattle.arena_open.specs.Moves.{IsOpened}
use Rattle.arena_open.specs.Chain.{Link}

-- an arena begins in these words, which open as this one
pub record IsLink (words : List ℕ) (link : Link) : Type 0 where
  pub inside : link.at ≤ length words
  pub opened : IsOpened (drop link.at words) link.opened

-- arenas that were read in these words, none of which is pending
pub record AreRead (words : Words) (links : List Link) : Type 0 where
  pub settled : IsSettled words
  pub small : length words.kept < 2 ^ 60
  pub each : All (IsLink words.kept) links
  pub few : length links ≤ 2 ^ 32

-- ---- their sectors

abbrev pub external_in : Link → ℕ
external_in link = link.opened.info.layout.external

-- so few that 64 bits hold the number of their sectors
pub record IsFew (links : List Link) : Type 0 where
  pub each : All (λ link. external_in link ≤ 2 ^ 30) links
  pub few : length links ≤ 2 ^ 32

-- a sector of all of them is sector `own` of arena k
pub record LiesInLink (links : List Link) (sector k own : ℕ) : Type 0 where
  pub there : k < length links
  pub is : sector ≡ sum_by external_in (take k links) + own
  pub inside : (d : Link) → own < external_in (slice_index_or links k d)
