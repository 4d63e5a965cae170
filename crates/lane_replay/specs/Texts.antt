-- The lines that are printed of lanes, in this project's own format. Phases have lane_core's names.
use Rattle.std.specs.Prelude.{ℕ, List, [], ◌∷◌, ◌++◌, Option, Some, None, codes}
use Rattle.std.specs.Fmt.{decimal}
use Rattle.lane_core.specs.declared.phase.Phase.{Phase}
use Rattle.lane_core.specs.declared.phase.Phase.TheVariants.{Idle, Scanning, Staging, Staged, Locked, Known, LogAStored, LogA, LogBStored, Logged, Switched, Kept, Called, Looking, Published, Moved, Reading}
use Rattle.lane_core.specs.declared.stepped.Answer.{Answer}
use Rattle.lane_core.specs.declared.stepped.Answer.TheVariants as answer
use Rattle.session_script.specs.Texts.{cell_text, joined, lf}
use Rattle.lane_replay.specs.declared.refused.Refused.{Refused}
use Rattle.lane_replay.specs.declared.refused.Refused.TheVariants as refused

abbrev pub counted : List ℕ → ℕ → List ℕ
counted name k = joined (name ∷ codes " " ∷ decimal k ∷ [])

-- a phase, with its counter if it has one
abbrev pub phase_text : Phase → List ℕ
phase_text Idle = codes "Idle"
phase_text (Scanning j) = counted (codes "Scanning") j
phase_text (Staging k) = counted (codes "Staging") k
phase_text Staged = codes "Staged"
phase_text Locked = codes "Locked"
phase_text Known = codes "Known"
phase_text LogAStored = codes "LogAStored"
phase_text LogA = codes "LogA"
phase_text LogBStored = codes "LogBStored"
phase_text Logged = codes "Logged"
phase_text Switched = codes "Switched"
phase_text Kept = codes "Kept"
phase_text Called = codes "Called"
phase_text Looking = codes "Looking"
phase_text Published = codes "Published"
phase_text Moved = codes "Moved"
phase_text (Reading k) = counted (codes "Reading") k

-- ---- what is printed behind the number of a lane

abbrev pub refused_text : Refused → List ℕ
refused_text (refused.Lane count) = joined (codes "refused Lane " ∷ decimal count ∷ lf ∷ [])
refused_text (refused.Range count) = joined (codes "refused Range " ∷ decimal count ∷ lf ∷ [])
refused_text (refused.Length said had) = joined (codes "refused Length " ∷ decimal said ∷ codes " " ∷ decimal had ∷ lf ∷ [])
refused_text (refused.LaneBusy phase) = joined (codes "refused LaneBusy " ∷ phase_text phase ∷ lf ∷ [])

abbrev pub answer_text : Answer → List ℕ
answer_text answer.Wrote = codes "ok" ++ lf
answer_text (answer.Got cell) = cell_text cell

abbrev pub idle_text : List ℕ
idle_text = codes "idle" ++ lf

abbrev pub cut_text : List ℕ
cut_text = codes "cut" ++ lf

-- ---- a line of a lane

abbrev pub lane_line : ℕ → List ℕ → List ℕ
lane_line lane what = joined (codes "lane " ∷ decimal lane ∷ codes " " ∷ what ∷ [])

-- a refusal, if there is one
abbrev pub refused_line : ℕ → Option Refused → List ℕ
refused_line lane None = []
refused_line lane (Some why) = lane_line lane (refused_text why)
