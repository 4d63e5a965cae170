-- The arenas of a sector namespace, opened so that they can be changed: UEFI 2.10, section 6.3 (BTT theory of operation).
use Rattle.std.specs.Prelude.{◌≡◌, ◌≢◌, ℕ, ◌+◌, ◌/◌, ◌%◌, ◌^◌, ◌<◌, ◌≤◌, List, length, map, take, drop, sum_by, slice_index_or, slice_set, Ok}
use Rattle.nfit_reader.specs.declared.table.Mapping.{Mapping}
use Rattle.interleave.specs.Places.{unit_of}
use Rattle.interleave.specs.Sound.{span_of}
use Rattle.arena_open.specs.declared.opened.Opened.{Opened}
use Rattle.arena_open.specs.declared.state.ArenaState.{ArenaState}
use Rattle.arena_open.specs.declared.refused.OpenRefused.TheVariants as refused
use Rattle.arena_open.specs.declared.chain_refused.ChainRefused.{ChainRefused}
use Rattle.arena_open.specs.Chain.{found_again}
use Rattle.arena_open.specs.ChainCells.{AreOpen}
use Rattle.arena_open.specs.Moves.{state_of}
use Rattle.arena_open.specs.Reading.{opening}
use Rattle.arena_open.specs.Writes.{IsSettled}
use Rattle.power_cut.specs.Namespace.{Namespace, words_of}
use Rattle.power_cut.specs.Placed.{IsBesideSame}
use Rattle.namespace_areas.specs.declared.found.Found.{Found}
use Rattle.sector_namespaces.specs.View.{opened_view}

-- a namespace lies in an interleave set, in whole units
pub record IsWithin (set : List Mapping) (found : Found) : Type 0 where
  pub from : found.offset % unit_of set ≡ 0
  pub to : found.raw % unit_of set ≡ 0
  pub inside : found.offset + found.raw ≤ span_of set

-- why arenas aren't opened, if it isn't that memory ran out
abbrev pub IsFinding : ChainRefused → Type 0
IsFinding fault = fault.fault ≢ refused.OutOfMemory

-- ---- the place of an arena

-- how many words arenas take up to the next one
abbrev pub start_of : List ArenaState → ℕ
start_of states = sum_by (λ state. state.info.next / 8) states

-- ---- one arena is changed

-- words that differ from others in `count` words from `at` on, at most
pub record DifferIn (at count : ℕ) (words now : List ℕ) : Type 0 where
  pub size : length now ≡ length words
  pub before : take at now ≡ take at words
  pub behind : drop (at + count) now ≡ drop (at + count) words

-- the words from an arena's first one on open as this one
pub record IsFoundAs (words parent : List ℕ) (state : ArenaState) : Type 0 where
  pub opened : Opened
  pub opens : opening words parent ≡ Ok opened
  pub is : state_of words opened ≡ state

-- a law: if only the words of one arena of a namespace change, and they open as an arena with the same info, then only this
-- arena changes
abbrev pub OneArenaChanges : Type 0
OneArenaChanges =
    (words now uuid : List ℕ) (states : List ArenaState) (k : ℕ) (state new : ArenaState)
    → opened_view words uuid ≡ Ok states → k < length states → state ≡ slice_index_or states k state → new.info ≡ state.info
    → DifferIn (start_of (take k states)) (state.info.layout.size / 8) words now
    → IsFoundAs (drop (start_of (take k states)) now) uuid new → opened_view now uuid ≡ Ok (slice_set states k new)
