-- What a lane of a core that is ready has for the line of its phase.
use Rattle.std.proofs.Common.{◌≡◌, ℕ, ◌-◌, ◌/◌, ◌<◌, sym, ap, subst, arith, mod-lt}
use Rattle.lane_core.specs.declared.now.LaneNow.{LaneNow}
use Rattle.lane_core.specs.declared.phase.Phase.TheVariants.{Staging}
use Rattle.lane_core.specs.declared.shape.Shape.{Shape}
use Rattle.lane_core.specs.Machine.{lock_of}
use Rattle.lane_core.specs.Places.{IsShape, Place, SeenData, Lock, IsIn, word_of, geometry}
use Rattle.lane_core.specs.Rows.{RowWords, IsRow}
use Rattle.lane_core.specs.Lines.{HasWord, HasArenaWord}
use Rattle.lane_core.specs.After.{uses_words}
use Rattle.lane_core.specs.Ready.{IsReady, StagesWord}
use Rattle.lane_core.proofs.Places.{in_table, seen_data_low}

pub word_in : (x : Shape) (r : RowWords) → IsShape x → IsRow x r → (p : Place) → IsIn x p → HasWord x r p
word_in x r h k p i = record {
  there = subst (λ n. word_of x p < n) (sym k.size) (in_table x h p i);
  small = let a = in_table x h p i in let b = k.small in omega (arith, a, b);
}

pub arena_in : (x : Shape) (r : RowWords) → IsShape x → IsRow x r → (p : Place) → IsIn x p → word_of x p < x.total → HasArenaWord x r p
arena_in x r h k p i low = record {
  there = subst (λ n. word_of x p < n) (sym k.arena) low;
  words = (word_in x r h k p i).there;
  small = (word_in x r h k p i).small;
}

module _ (x : Shape) (r : RowWords) (l : ℕ) (p : LaneNow) (left : ℕ) (h : IsReady x r l p left) where
  some_lane : 0 < x.lanes
  some_lane = let a = h.lane in omega arith

  lock_lt : (t : ℕ) → lock_of (geometry x) t < x.lanes
  unfolding lock_of
  lock_lt t = mod-lt (t / 2) some_lane

  pub lock_in : (t : ℕ) → HasWord x r (Lock (lock_of (geometry x) t))
  lock_in t = word_in x r h.shape h.row (Lock (lock_of (geometry x) t)) (lock_lt t)

  data_in : (k : ℕ) → k < x.width → HasArenaWord x r (SeenData p.block k)
  data_in k lt = arena_in x r h.shape h.row (SeenData p.block k) (h.block, lt) (seen_data_low x h.shape p.block k (h.block, lt))

  pub stages_word : (k : ℕ) → p.phase ≡ Staging k → StagesWord x r p k
  stages_word k e = record {
    store = λ lt. data_in k lt;
    keep = λ le. data_in (k - x.width) (let a = h.stages k e in omega arith);
    words = h.filled.words (ap uses_words e);
    few = let a = h.stages k e in let b = h.shape.short in omega arith;
    short = h.shape.short;
  }
