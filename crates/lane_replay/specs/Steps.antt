-- Any number of steps of one lane: what the core holds then, and what is printed.
use Rattle.std.specs.Prelude.{◌≡◌, ℕ, zero, suc, Bool, true, if◌then◌else◌, List, [], ◌++◌}
use Rattle.lane_core.specs.declared.stepped.Stepped.{Stepped}
use Rattle.lane_core.specs.declared.stepped.Stepped.TheVariants as told
use Rattle.lane_core.specs.Held.{Held}
use Rattle.lane_replay.specs.Lanes.{answered, stepped}
use Rattle.lane_replay.specs.Texts.{answer_text, idle_text, lane_line}

-- what the core holds after a part of a schedule, and what the part prints
pub record Played : Type 0 where
  pub held : Held
  pub text : List ℕ

-- with a text before it
abbrev pub and_text : List ℕ → Played → Played
and_text text played = record { held = played.held; text = text ++ played.text }

-- what a step prints; `said` tells whether the line has already said that the lane is idle
abbrev pub step_text : ℕ → Bool → Stepped → List ℕ
step_text lane said told.Nothing = if said then [] else lane_line lane idle_text
step_text lane said (told.Went step) = []
step_text lane said (told.Done tag answer) = lane_line lane (answer_text answer)

abbrev pub was_said : Bool → Stepped → Bool
was_said said told.Nothing = true
was_said said (told.Went step) = said
was_said said (told.Done tag answer) = said

-- step by step
unfoldable pub steps : ℕ → ℕ → Bool → Held → Played
steps zero lane said held = record { held = held; text = [] }
steps (suc n) lane said held = and_text (step_text lane said (answered held lane)) (steps n lane (was_said said (answered held lane)) (stepped held lane))

-- a part was played: the core holds what the part leads to, and the text has grown by what the part
-- prints
pub record Plays (played : Played) (new : Held) (before after : List ℕ) : Type 0 where
  pub held : new ≡ played.held
  pub text : after ≡ before ++ played.text
