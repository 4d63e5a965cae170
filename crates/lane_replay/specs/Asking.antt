-- What a schedule asks of the lanes, one call or step after another, and that it stands.
use Rattle.std.specs.Prelude.{◌≡◌, ℕ, zero, suc, ◌+◌, nat_lt, if◌then◌else◌, List, [], ◌∷◌, ◌++◌, length, Option, Some, None}
use Rattle.arena_open.specs.declared.state.ArenaState.{ArenaState}
use Rattle.arena_open.specs.Moves.{IsOpenState}
use Rattle.cut_words.specs.WordBytes.{words_in}
use Rattle.lane_core.specs.Held.{Held}
use Rattle.lane_core.specs.Schedules.{Asked, Read as AskRead, Write as AskWrite, Step as AskStep, Stands, opened_held, scheduled}
use Rattle.session_script.specs.declared.schedule.ReplayLine.{ReplayLine}
use Rattle.session_script.specs.declared.schedule.ReplayLine.TheVariants.{Read, Write, Step}
use Rattle.lane_replay.specs.declared.refused.Refused.{Refused}
use Rattle.lane_replay.specs.Calls.{bytes_said, line_tag, read_refusal, sector_bytes, write_refusal}
use Rattle.lane_replay.specs.Playing.{played, replayed}

-- a call that is refused isn't asked
abbrev pub asked_unless : Asked → Option Refused → List Asked
asked_unless asked None = asked ∷ []
asked_unless asked (Some why) = []

abbrev pub asked_steps : ℕ → ℕ → List Asked
asked_steps zero lane = []
asked_steps (suc n) lane = AskStep lane ∷ asked_steps n lane

abbrev pub asked_by : Held → ℕ → ReplayLine → List Asked
asked_by held number (Read lane sector) = asked_unless (AskRead lane (line_tag lane number) sector) (read_refusal held lane sector)
asked_by held number (Write lane sector value) =
    asked_unless (AskWrite lane (line_tag lane number) sector (words_in (bytes_said (sector_bytes held.shape) value)))
    (write_refusal held lane sector (length (bytes_said (sector_bytes held.shape) value)))
asked_by held number (Step lane count) = if nat_lt lane held.shape.lanes then asked_steps count lane else []

unfoldable pub asked_all : ℕ → Held → List ReplayLine → List Asked
asked_all number held [] = []
asked_all number held (line ∷ lines) = asked_by held number line ++ asked_all (number + 1) (played held number line).held lines

-- a schedule of an opened arena: the core holds what its calls and steps lead to, and these stand
pub record ReplayStands (state : ArenaState) (lines : List ReplayLine) : Type 0 where
  pub held : (replayed (opened_held state) lines).held ≡ (scheduled state (asked_all 1 (opened_held state) lines)).held
  pub stands : Stands state (scheduled state (asked_all 1 (opened_held state) lines))

abbrev pub ReplaysStand : Type 0
ReplaysStand = (state : ArenaState) (lines : List ReplayLine) → IsOpenState state → ReplayStands state lines
