-- A core that was just made, and its words after a crash.
use Rattle.std.proofs.Common.{◌≡◌, ℕ, Bool, List, [], ◌∷◌, Some, refl, subst}
use Rattle.cut_words.specs.Leaving.{LeavesFrom}
use Rattle.arena_open.specs.declared.state.ArenaState.{ArenaState}
use Rattle.lane_core.specs.declared.machine.Core.{Core}
use Rattle.lane_core.specs.Held.{Held, held_by}
use Rattle.lane_core.specs.Machines.{IsFresh}
use Rattle.lane_core.specs.Rows.{words_in}
use Rattle.lane_core.specs.Schedules.{opened_held}
use Rattle.shell_changes.specs.Remains.{LeavesBy}

-- it holds what an arena holds that was just opened
pub fresh_held : (state : ArenaState) (core : Core) → IsFresh state core → held_by core ≡ opened_held state
fresh_held state core fresh = λ i. record { shape = fresh.shape i; row = fresh.row i; lanes = fresh.lanes i; entries = fresh.history i }

-- a row of words alone, after a cut by a chooser that was begun
pub left_alone : {C : Type 0} (begins : C → ℕ → C → Type 0) (picks : C → ℕ → Bool → C → Type 0) (choose begun after : C) (seed : ℕ) (held end : Held) (left : List ℕ) → held ≡ end → begins choose seed begun
    → LeavesFrom picks 0 (words_in held.row).kept (words_in held.row).stored left begun after → LeavesBy begins picks choose seed (Some (words_in end.row) ∷ []) (Some left ∷ [])
left_alone begins picks choose begun after seed held end left is so asked =
    subst (λ (h : Held). LeavesBy begins picks choose seed (Some (words_in h.row) ∷ []) (Some left ∷ [])) is
    (begun, after, so, (Some left, [], after, refl, (left, refl, asked), (refl, refl)))
