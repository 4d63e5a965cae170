-- What an arena leaves, by what its sessions know of it.
use Rattle.std.specs.Prelude.{◌≡◌, ◌⊎◌, ℕ, ◌<◌, ◌≤◌, List, [], length, Any}
use Rattle.std.specs.List.{AllByRecursion}
use Rattle.arena_open.specs.declared.cell.Cell.{Cell}
use Rattle.arena_open.specs.declared.state.ArenaState.{ArenaState}
use Rattle.lane_core.specs.declared.arena_words.ArenaWords.{ArenaWords}
use Rattle.lane_core.specs.declared.history.Entry.{Entry}
use Rattle.lane_core.specs.declared.in_call.InCall.{InCall}
use Rattle.lane_core.specs.History.{Cells, IsLegal, end_of}
use Rattle.lane_core.specs.Reopening.{IsEither, Reopens, first_cells}
use Rattle.lane_core.specs.Sessions.{IsFlying}
use Rattle.session_parts.specs.declared.parts.CorePart.{CorePart}
use Rattle.session_parts.specs.Parts.{own_stands, part_by}

-- a cell that a sector may have after a power cut: the one at the history's end, or that of a write in flight
abbrev pub MayBeLeft : Cells → List Entry → List InCall → ℕ → Cell → Type 0
MayBeLeft first history calls sector cell = (cell ≡ end_of first history sector) ⊎ Any (IsFlying sector cell) calls

-- The words of an arena that was opened in this state, when each of n sessions knows its part of it.
pub record IsArenaLeft (n : ℕ) (state : ArenaState) (known : ℕ → CorePart) (words : ArenaWords) : Type 0 where
  -- the calls that stand, in one legal order
  pub history : List Entry
  pub legal : IsLegal (first_cells state) history
  -- the writes that are in flight
  pub calls : List InCall
  -- each session's entries are those that it knows, in order, each once; so are its writes in flight
  pub own : (q : ℕ) → q < n → part_by history calls q ≡ known q
  -- and nothing is of another session
  pub none : (q : ℕ) → n ≤ q → own_stands q history ≡ []
  pub flying : AllByRecursion (λ c. c.tag.session < n) calls
  -- as many words are seen as are kept
  pub same : length words.seen.items ≡ length words.kept.items
  -- after a power cut, in which each word is the kept one or the seen one, they open again
  pub reopens : (left : List ℕ) → IsEither words.kept.items words.seen.items left → Reopens state (MayBeLeft (first_cells state) history calls) left
