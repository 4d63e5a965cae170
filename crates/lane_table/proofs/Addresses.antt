-- The words of a table at the places of its shape.
use Rattle.std.proofs.Common.{◌≡◌, ℕ, ◌+◌, ◌-◌, ◌/◌, ◌^◌, ◌<◌, ◌≤◌, sym, ap, ◌∙◌, subst, arith}
use Rattle.atomic_table.specs.Seated.{TableId}
use Rattle.lane_core.specs.declared.shape.Shape.{Shape}
use Rattle.lane_core.specs.Machine.{lock_of}
use Rattle.lane_core.specs.Places.{IsShape, Place, SeenData, KeptData, SeenA, KeptA, SeenB, KeptB, SeenMap, KeptMap, Lock, IsIn, word_of, row_size, geometry}
use Rattle.lane_core.proofs.Places.{in_table}
use Rattle.lane_table.specs.declared.committing.CommitWords.{CommitWords}
use Rattle.lane_table.specs.Committed.{AreCommitWords}
use Rattle.lane_table.specs.Conditions.{IsWord}
use Rattle.lane_table.specs.Told.{blocks}
use Rattle.lane_table.proofs.WriteLines.{lock_in, map_word_in}

pub is_word : (x : Shape) → IsShape x → (id : TableId) → id.words ≡ row_size x → (p : Place) → IsIn x p → (at : ℕ) → at ≡ word_of x p → IsWord id x at p
is_word x h id size p i at e = (subst (λ n. at < n) (sym size) (subst (λ m. m < row_size x) (sym e) (in_table x h p i)), e)

pub fits : (x : Shape) → IsShape x → (p : Place) → IsIn x p → word_of x p < 2 ^ 60
fits x h p i = let a = in_table x h p i in omega (arith, h.small, h.few)

pub lock_fits : (x : Shape) → IsShape x → (sector : ℕ) → 0 < x.lanes → word_of x (Lock (lock_of (geometry x) sector)) < 2 ^ 60
lock_fits x h sector some = fits x h (Lock (lock_of (geometry x) sector)) (lock_in (geometry x) sector some)

module _ (x : Shape) (h : IsShape x) (number side sector : ℕ) (ln : number < x.lanes) (two : side < 2) (ls : sector < x.sectors) where
  pub spots_are : (w : CommitWords) → w.lock ≡ word_of x (Lock (lock_of (geometry x) sector)) → w.map ≡ word_of x (SeenMap (sector / 2)) → w.kept_map ≡ x.total + w.map
      → w.log_a ≡ word_of x (SeenA number (1 - side)) → w.kept_log_a ≡ x.total + w.log_a → w.log_b ≡ w.log_a + 1 → w.kept_log_b ≡ x.total + (w.log_a + 1)
      → (id : TableId) → id.words ≡ row_size x → AreCommitWords id x number side sector w
  spots_are w lock map kept_map log_a kept_log_a log_b kept_log_b id size =
      let some : 0 < x.lanes = omega (arith, ln) in
      let o : 1 - side < 2 = omega arith in
      record {
        lock = is_word x h id size (Lock (lock_of (geometry x) sector)) (lock_in (geometry x) sector some) _ lock;
        map = is_word x h id size (SeenMap (sector / 2)) (map_word_in x.sectors sector ls) _ map;
        kept_map = is_word x h id size (KeptMap (sector / 2)) (map_word_in x.sectors sector ls) _ (kept_map ∙ ap (λ n. x.total + n) map);
        log_a = is_word x h id size (SeenA number (1 - side)) (ln, o) _ log_a;
        kept_log_a = is_word x h id size (KeptA number (1 - side)) (ln, o) _ (kept_log_a ∙ ap (λ n. x.total + n) log_a);
        log_b = is_word x h id size (SeenB number (1 - side)) (ln, o) _ (log_b ∙ ap (λ n. n + 1) log_a);
        kept_log_b = is_word x h id size (KeptB number (1 - side)) (ln, o) _ (kept_log_b ∙ ap (λ n. x.total + (n + 1)) log_a);
      }

-- the kept words of a block
module _ (x : Shape) (h : IsShape x) (id : TableId) (size : id.words ≡ row_size x) (b : ℕ) (lb : b < blocks x) (some : 0 < x.width) where
  pub kept_row : (at kept : ℕ) → at ≡ word_of x (SeenData b 0) → kept ≡ x.total + at → (kept ≡ word_of x (KeptData b 0)) × (kept + x.width ≤ id.words) × (id.words < 2 ^ 60)
  kept_row at kept e f =
      let last : x.width - 1 < x.width = omega arith in
      let end = in_table x h (KeptData b (x.width - 1)) (lb, last) in
      (f ∙ ap (λ n. x.total + n) e, omega (arith, size, e, f, end), omega (arith, size, h.small, h.few))
