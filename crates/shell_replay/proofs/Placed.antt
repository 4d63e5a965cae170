-- The words of a namespace after a schedule of its one arena.
use Rattle.std.proofs.Common.{◌≡◌, ℕ, ◌+◌, ◌/◌, ◌<◌, ◌≤◌, List, [], ◌∷◌, ◌++◌, length, drop, map, Option, Some, Ok, refl, sym, ap, ◌∙◌, arith}
use Rattle.cut_words.specs.Words.{Words}
use Rattle.cut_words.specs.WordBytes.{put_at}
use Rattle.arena_open.specs.declared.opened.Opened.{Opened}
use Rattle.arena_open.specs.declared.state.ArenaState.{ArenaState}
use Rattle.arena_open.specs.Chain.{found_again}
use Rattle.arena_open.specs.Moves.{IsOpenState, state_of}
use Rattle.arena_open.specs.Reading.{opening}
use Rattle.lane_core.specs.Reopening.{IsFoundAgain, MaySurvive, Reopens, first_cells}
use Rattle.lane_core.specs.Rows.{words_in}
use Rattle.lane_replay.specs.Asking.{ReplaysStand}
use Rattle.sector_namespaces.specs.Changing.{OneArenaChanges}
use Rattle.sector_namespaces.specs.View.{opened_view}
use Rattle.shell_sectors.proofs.Changes.{behind_of, fits, opened_there, opens_now}
use Rattle.shell_replay.specs.declared.schedule.Schedule.{Schedule}
use Rattle.shell_replay.specs.Replay.{HasReplayed, held_at_end}

-- `made` are the words with the arena's pending moves made
module _ (uuid was made : List ℕ) (state : ArenaState) (is_open : IsOpenState state) (found : opened_view made uuid ≡ Ok (map found_again (state ∷ [])))
    (kept : drop (state.info.layout.size / 8) made ≡ drop (state.info.layout.size / 8) was) (left : List ℕ) (size : length left ≡ length state.words) where
  there : 0 < length (state ∷ [])
  there = omega arith

  pub left_fits : 0 + length left ≤ length made
  left_fits = fits made (state ∷ []) 0 state (λ d. refl) there is_open left size uuid found

  module _ (leaves : ℕ → List (Option Words) → List (Option (List ℕ)) → Type 0) (schedule : Schedule) (r : Reopens state (MaySurvive (first_cells state) (held_at_end state schedule.lines)) left) where
    abbrev behind : List ℕ
    behind = behind_of made (state ∷ []) 0 state (λ d. refl) there is_open left size uuid found

    old : (o : Opened) × (opening (state.words ++ behind) uuid ≡ Ok o)
    old = opened_there made (state ∷ []) 0 state (λ d. refl) there is_open left size uuid found

    f : IsFoundAgain state (MaySurvive (first_cells state) (held_at_end state schedule.lines)) (left ++ behind) uuid
    f = r.opens behind uuid old.0 old.1

    abbrev new : ArenaState
    new = state_of (left ++ behind) f.arena

    opens : OneArenaChanges → opened_view (put_at made 0 left) uuid ≡ Ok (new ∷ [])
    opens law = opens_now made (state ∷ []) 0 state (λ d. refl) there is_open left size uuid found f.arena f.opens f.info law

    sectors : (sector : ℕ) → sector < state.info.layout.external → MaySurvive (first_cells state) (held_at_end state schedule.lines) sector (first_cells new sector)
    sectors sector lt = f.contents sector lt

    -- the words behind the arena are as they were
    left_long : 0 + length left ≡ state.info.layout.size / 8
    left_long = omega (arith, size, is_open.count)

    put_is : put_at made 0 left ≡ put_at was 0 left
    put_is =
        ap (λ (i : ℕ). left ++ drop i made) left_long
        ∙ ap (λ (ws : List ℕ). left ++ ws) kept
        ∙ ap (λ (i : ℕ). left ++ drop i was) (sym left_long)

    pub has_replayed : OneArenaChanges → ReplaysStand → leaves schedule.seed (Some (words_in (held_at_end state schedule.lines).row) ∷ []) (Some left ∷ []) → (now : List ℕ) → now ≡ put_at was 0 left
        → HasReplayed leaves uuid schedule state was now
    has_replayed law stand cut now is = record {
      left = left;
      cut = cut;
      words = is;
      stands = stand state schedule.lines is_open;
      reopens = record { new = new; opens = ap (λ (ws : List ℕ). opened_view ws uuid) (is ∙ sym put_is) ∙ opens law; info = f.info; sectors = sectors };
    }
