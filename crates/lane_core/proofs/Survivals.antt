-- The words of a core after a power cut.
use Rattle.std.proofs.Common.{◌≡◌, ℕ, ◌+◌, ◌*◌, ◌<◌, ◌≤◌, ◌⊎◌, inl, inr, Bool, true, false, cond, List, length, get_or, Some, None, sym, ap, ◌∙◌, subst, arith}
use Rattle.std.specs.Prelude.{unwrap_or}
use Rattle.cut_words.specs.Words.{IsLeft}
use Rattle.cut_words.specs.Leaving.{LeavesFrom}
use Rattle.cut_words.proofs.ByWord.{is_left}
use Rattle.lane_core.specs.declared.machine.Core.{Core}
use Rattle.lane_core.specs.declared.now.LaneNow.{LaneNow}
use Rattle.lane_core.specs.declared.history.Entry.{Entry}
use Rattle.lane_core.specs.declared.shape.Shape.{Shape}
use Rattle.lane_core.specs.Machine.{State}
use Rattle.lane_core.specs.Cut.{AreLeft}
use Rattle.lane_core.specs.Places.{IsShape, SeenData, KeptData, SeenMap, KeptMap, SeenA, KeptA, SeenB, KeptB, word_of, geometry}
use Rattle.lane_core.specs.Rows.{RowWords, words_in}
use Rattle.lane_core.specs.Showing.{Shown}
use Rattle.lane_core.specs.Arenas.{areas_of}
use Rattle.lane_core.specs.Machines.{IsSomeCore, CutSurvives}
use Rattle.lane_core.proofs.Leaves.{kept_length, stored_length, kept_at, stored_at}
use Rattle.lane_core.proofs.Places.{seen_data_low, seen_map_low, seen_a_low, seen_b_low}
use Rattle.lane_core.proofs.Cutting.{some_side}
use Rattle.lane_core.proofs.Recovering.{recovers}

module _ (x : Shape) (row : RowWords) (lanes : List LaneNow) (entries : List Entry) (s : State) (left : List ℕ) (hs : IsShape x) (h : Shown x row lanes entries s) (hl : IsLeft (words_in row) left) where
  size : 2 * length row.pending ≤ length row.words
  size = let a = h.row_is.size in let b = h.row_is.arena in omega arith

  -- a word of the arena is the kept one or the seen one
  pub left_word : (i : ℕ) → i < x.total → (get_or left i 0 ≡ get_or row.words (x.total + i) 0) ⊎ (get_or left i 0 ≡ get_or row.words i 0)
  left_word i lt = elim (hl.each i) [
    | inl e ↦ inl (e ∙ kept)
    | inr e ↦ by (get_or row.pending i false) (e ∙ ap (λ o. unwrap_or o (get_or (words_in row).kept i 0)) (stored_at row size i inside))
  ]
    where
      inside : i < length row.pending
      inside = subst (λ n. i < n) (sym h.row_is.arena) lt

      kept : get_or (words_in row).kept i 0 ≡ get_or row.words (x.total + i) 0
      kept = kept_at row size i inside ∙ ap (λ n. get_or row.words (n + i) 0) h.row_is.arena

      by : (b : Bool) → get_or left i 0 ≡ unwrap_or (cond b (Some (get_or row.words i 0)) None) (get_or (words_in row).kept i 0) → (get_or left i 0 ≡ get_or row.words (x.total + i) 0) ⊎ (get_or left i 0 ≡ get_or row.words i 0)
      by true e = inr e
      by false e = inl (e ∙ kept)

  place_left : (i v w : ℕ) → i < x.total → get_or row.words (x.total + i) 0 ≡ v → get_or row.words i 0 ≡ w → (get_or left i 0 ≡ v) ⊎ (get_or left i 0 ≡ w)
  place_left i v w lt ev ew = elim (left_word i lt) [
    | inl e ↦ inl (e ∙ ev)
    | inr e ↦ inr (e ∙ ew)
  ]

  pub are_left : AreLeft (geometry x) s.seen s.kept (areas_of x left)
  are_left = record {
    data_left = λ b k lb lk. place_left (word_of x (SeenData b k)) (s.kept.data_at b k) (s.seen.data_at b k) (seen_data_low x hs b k (lb, lk)) (h.words (KeptData b k) (lb, lk)) (h.words (SeenData b k) (lb, lk));
    map_left = λ m lm. place_left (word_of x (SeenMap m)) (s.kept.map_at m) (s.seen.map_at m) (seen_map_low x hs m lm) (h.words (KeptMap m) lm) (h.words (SeenMap m) lm);
    a_left = λ l side ll ls. place_left (word_of x (SeenA l side)) (s.kept.log_a l side) (s.seen.log_a l side) (seen_a_low x hs l side (ll, ls)) (h.words (KeptA l side) (ll, ls)) (h.words (SeenA l side) (ll, ls));
    b_left = λ l side ll ls. place_left (word_of x (SeenB l side)) (s.kept.log_b l side) (s.seen.log_b l side) (seen_b_low x hs l side (ll, ls)) (h.words (KeptB l side) (ll, ls)) (h.words (SeenB l side) (ll, ls));
  }

pub row_enough : (core : Core) → IsSomeCore core → 2 * length core.row.pending ≤ length core.row.words
row_enough core c = let a = c.1.1.shown.row_is.size in let b = c.1.1.shown.row_is.arena in omega arith

pub cut_survives : {C : Type 0} (picks : C → ℕ → Bool → C → Type 0) (core : Core) (left : List ℕ) (first last : C) → IsSomeCore core
    → LeavesFrom picks 0 (words_in core.row).kept (words_in core.row).stored left first last → CutSurvives core left
cut_survives picks core left first last c asked =
    let enough = row_enough core c in
    let h = c.1.1 in
    let hl : IsLeft (words_in core.row) left = is_left picks (words_in core.row) left first last (stored_length core.row enough ∙ sym (kept_length core.row enough)) asked in
    record {
      size = hl.same_length ∙ kept_length core.row enough ∙ h.shown.row_is.arena;
      words = λ s shown. are_left core.shape core.row core.lanes.items core.history.entries s left h.shape shown hl;
      current = λ l ll. let side = some_side (geometry core.shape) c.0 c.1.0 h.sound (areas_of core.shape left) (are_left core.shape core.row core.lanes.items core.history.entries c.1.0 left h.shape h.shown hl) l ll in (side.0, side.1);
      recovers = λ o s k sides hs. recovers (geometry core.shape) o s k.sound (areas_of core.shape left) (are_left core.shape core.row core.lanes.items core.history.entries s left k.shape k.shown hl) sides hs;
    }
