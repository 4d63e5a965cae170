-- The words of an arena when its sessions have ended: this project's model of a power cut.
use Rattle.std.specs.Prelude.{◌≡◌, ◌≢◌, ℕ, ◌==◌, if◌then◌else◌, List, [], ◌∷◌, All, length, map, Option, Some, None, slice_index, slice_index_or}
use Rattle.cut_words.specs.Words.{IsLeft, Words}
use Rattle.arena_open.specs.declared.state.ArenaState.{ArenaState}
use Rattle.lane_core.specs.declared.arena_words.ArenaWords.{ArenaWords}
use Rattle.lane_core.specs.declared.history.Entry.{Entry as HistoryEntry}
use Rattle.lane_core.specs.Reopening.{Reopens, first_cells}
use Rattle.session_account.specs.Survival.{Flight, MayRemain}

-- ---- words with two values

-- the value that a load returns of each word, if it isn't the kept one
abbrev pub differing : List ℕ → List ℕ → List (Option ℕ)
differing [] seen = []
differing (kept ∷ others) [] = []
differing (kept ∷ others) (seen ∷ more) = (if kept == seen then None else Some seen) ∷ differing others more

-- words that are kept as these, and of which a load returns these
abbrev pub two_valued : List ℕ → List ℕ → Words
two_valued kept seen = record { kept = kept; stored = differing kept seen }

-- the words that arenas leave
abbrev pub words_of : List ArenaWords → List Words
words_of arenas = map (λ w. two_valued w.kept.items w.seen.items) arenas

-- each word of theirs has both values
abbrev pub HaveBoth : List ArenaWords → Type 0
HaveBoth arenas = All (λ w. length w.seen.items ≡ length w.kept.items) arenas

-- a word is pending only if its two values differ
abbrev pub PendingDiffer : Words → Type 0
PendingDiffer words = (i value : ℕ) → slice_index_or words.stored i None ≡ Some value → value ≢ slice_index words.kept i

-- ---- an arena

-- An arena's words when power is cut, by the account of its calls. Whatever a power cut leaves of them opens in the place of the arena's
-- words. Each sector then has its cell at the end of the history, or what one call that was cut may leave.
pub record IsAtCut (state : ArenaState) (history : List HistoryEntry) (flights : List Flight) (words : Words) : Type 0 where
  pub differ : PendingDiffer words
  pub due : (left : List ℕ) → IsLeft words left → Reopens state (MayRemain (first_cells state) history flights) left
