-- What a try to commit does to its seat and to its fuse.
use Rattle.std.specs.Prelude.{◌≡◌, ℕ, ◌/◌, ◌<◌, zero, suc}
use Rattle.atomic_table.specs.Seated.{TableId}
use Rattle.atomic_table.specs.Table.{Me}
use Rattle.map_table.specs.Entry.{with_entry}
use Rattle.lane_core.specs.declared.lane.Lane.{Lane}
use Rattle.lane_core.specs.declared.shape.Shape.{Shape}
use Rattle.lane_core.specs.Areas.{word_a, word_b, next_seq, normal}
use Rattle.lane_core.specs.Machine.{looked, other, lock_of}
use Rattle.lane_core.specs.Places.{geometry, SeenA, KeptA, SeenB, KeptB, SeenMap, KeptMap, Lock}
use Rattle.lane_table.specs.declared.committing.CommitWords.{CommitWords}
use Rattle.lane_table.specs.declared.committing.Fate.{Fate}
use Rattle.lane_table.specs.declared.committing.Fate.TheVariants.{Done, Busy, Cut}
use Rattle.lane_table.specs.declared.fuse.Fuse.{Fuse}
use Rattle.lane_table.specs.declared.table.Call.{Call}
use Rattle.lane_table.specs.declared.table.View.{View}
use Rattle.lane_table.specs.Conditions.{IsWord}
use Rattle.lane_table.specs.Fuse.{Fell, Burnt}
use Rattle.lane_table.specs.Told.{path, locked, known, missed, blocks}

-- the words of a commit of lane `number`, whose current half is at `side`, to a sector
pub record AreCommitWords (table : TableId) (x : Shape) (number side sector : ℕ) (w : CommitWords) : Type 0 where
  pub lock : IsWord table x w.lock (Lock (lock_of (geometry x) sector))
  pub map : IsWord table x w.map (SeenMap (sector / 2))
  pub kept_map : IsWord table x w.kept_map (KeptMap (sector / 2))
  pub log_a : IsWord table x w.log_a (SeenA number (other side))
  pub kept_log_a : IsWord table x w.kept_log_a (KeptA number (other side))
  pub log_b : IsWord table x w.log_b (SeenB number (other side))
  pub kept_log_b : IsWord table x w.kept_log_b (KeptB number (other side))

-- the values of a commit's words: A and B of the half that isn't current, and the map word with the new entry
pub record AreCommitValues (s : Lane) (word_of_a word_of_b map_word : ℕ) : Type 0 where
  pub a : word_of_a ≡ word_a s.sector (looked s)
  pub b : word_of_b ≡ word_b s.block (next_seq s.half.seq)
  pub map : map_word ≡ with_entry s.loaded s.sector (normal s.block)

-- the seat after k of the nine steps, which found the map word w
abbrev pub way : {S : Type 0} → Call → ℕ → ℕ → Me S View → Me S View
way t w zero me = me
way t w (suc zero) me = locked t me
way t w (suc (suc k)) me = path k (known w (locked t me))

-- Done: all nine steps were made. Busy: one, which found the lock's holder. Cut: as many steps as
-- the fuse had, and it was spent when the next was due
abbrev pub Ended : {S : Type 0} → Call → Me S View → Me S View → Fuse → Fuse → Fate → Type 0
Ended t me me' a b (Done block) = (w : ℕ) × (me' ≡ way t w 9 me) × (block ≡ me'.0.lane.block) × (block < blocks me.0.shape) × Fell 9 a b
Ended t me me' a b (Busy holder) = (me' ≡ missed (suc holder) me) × (holder < me.0.shape.lanes) × Fell 1 a b
Ended t me me' a b (Cut k) = (w : ℕ) × (k < 9) × (me' ≡ way t w k me) × Burnt k a b
