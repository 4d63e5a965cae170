-- Every event keeps the invariant, and so does every list of them.
use Rattle.std.proofs.Common.{◌≡◌, ℕ, ◌<◌, ◌≤◌, ◌≢◌, ◌==◌, zero, suc, Bool, true, false, refl, sym, ap, ◌∙◌, arith, if◌then◌else◌, List, [], ◌∷◌}
use Rattle.map_table.specs.Entry.{entry_in}
use Rattle.lane_core.specs.Areas.{Geometry, entry_at, kind_in, has_bytes}
use Rattle.lane_core.specs.Machine.{Phase, Idle, Scanning, Staging, Staged, Locked, Known, LogAStored, LogA, LogBStored, Logged, Switched, Kept, Called, Looking, Published, Moved, Reading, State, lock_of}
use Rattle.lane_core.specs.Invariant.{IsSound}
use Rattle.lane_core.specs.History.{Cell, Tag}
use Rattle.lane_core.specs.Machine.{other_lane}
use Rattle.lane_core.specs.Runs.{Event, Write, Store, Take, Read, Give_up, Step, Fits, happens, run, AllFit, written, came, took, called, given_up, stepped, found}
use Rattle.std.proofs.Common.{nat_lt}
use Rattle.lane_core.proofs.Own.{free_scanning, free_staging, free_called}
use Rattle.lane_core.proofs.Staging.{data_store_sound, data_keep_sound}
use Rattle.lane_core.proofs.Turns.{lock_take_sound, begin_write_sound, scan_again_sound, scan_on_sound, give_up_sound, begin_read_sound, look_sound, map_load_sound, lock_free_sound, rtt_set_sound, check_moved_sound, clear_moved_sound, data_load_sound, clear_done_sound}
use Rattle.lane_core.proofs.Logging.{log_a_store_sound, log_a_keep_sound, log_b_store_sound, log_b_keep_sound}
use Rattle.lane_core.proofs.Switching.{map_store_sound, map_keep_sound}
use Rattle.lane_core.proofs.Answering.{look_cell_sound, check_same_sound}
use Rattle.map_table.specs.declared.kinds.Kind.{Kind}
use Rattle.map_table.specs.declared.kinds.Kind.TheVariants as kind
use Rattle.lane_core.proofs.Past.{cell_in-zero, cell_in-bad}

equal_true : (a b : ℕ) → (a == b) ≡ true → a ≡ b
equal_true a b q = grind arith

equal_false : (a b : ℕ) → (a == b) ≡ false → a ≢ b
equal_false a b q = grind arith

below_true : (a b : ℕ) → nat_lt a b ≡ true → a < b
below_true a b q = grind arith

below_false : (a b : ℕ) → nat_lt a b ≡ false → b ≤ a
below_false a b q = grind arith

-- a choice by a test
chosen : {A : Type 0} (P : A → Type 0) (b : Bool) (x y : A) → (b ≡ true → P x) → (b ≡ false → P y) → P (if b then x else y)
chosen P true x y t f = t refl
chosen P false x y t f = f refl

module _ (g : Geometry) (o : ℕ → Cell) (s : State) (l : ℕ) (h : IsSound g o s) (ll : l < g.lanes) where
  written_sound : (ph : Phase) → (s.lanes l).phase ≡ ph → IsSound g o (written g s l ph)
  written_sound Idle e = begin_write_sound g o s l h ll e
  written_sound _ e = h

  pub came_sound : (w : ℕ) (ph : Phase) → (s.lanes l).phase ≡ ph → IsSound g o (came g s l w ph)
  came_sound w (Staging k) e = chosen (IsSound g o) (nat_lt k g.width) _ _ (λ q. data_store_sound g o s l k w h ll e (below_true k g.width q)) (λ q. h)
  came_sound w _ e = h

  pub took_sound : (tag : Tag) (sector : ℕ) → sector < g.sectors → (ph : Phase) → (s.lanes l).phase ≡ ph → IsSound g o (took g s l tag sector ph)
  took_sound tag sector ls Staged e = chosen (IsSound g o) (s.locks (lock_of g sector) == 0) _ _ (λ q. lock_take_sound g o s l h ll tag sector e ls (equal_true (s.locks (lock_of g sector)) 0 q)) (λ q. h)
  took_sound tag sector ls _ e = h

  called_sound : (tag : Tag) (sector : ℕ) → sector < g.sectors → (ph : Phase) → (s.lanes l).phase ≡ ph → IsSound g o (called g s l tag sector ph)
  called_sound tag sector ls Idle e = begin_read_sound g o s l h ll tag sector e ls
  called_sound tag sector ls _ e = h

  given_up_sound : (ph : Phase) → (s.lanes l).phase ≡ ph → IsSound g o (given_up g s l ph)
  given_up_sound (Scanning zero) e = give_up_sound g o s l h ll (Scanning 0) (free_scanning 0) e refl
  given_up_sound (Staging zero) e = give_up_sound g o s l h ll (Staging 0) (free_staging 0) e (omega arith)
  given_up_sound Called e = give_up_sound g o s l h ll Called free_called e refl
  given_up_sound _ e = h

  found_sound : (k : Kind) → (s.lanes l).phase ≡ Called → kind_in (entry_at s.seen.map_at (s.lanes l).sector) ≡ k → IsSound g o (found g s l k)
  found_sound kind.Zero e q = look_cell_sound g o s l h ll _ e (sym (cell_in-zero g.width s.seen.data_at (entry_at s.seen.map_at (s.lanes l).sector) (s.lanes l).sector q))
  found_sound kind.Bad e q = look_cell_sound g o s l h ll _ e (sym (cell_in-bad g.width s.seen.data_at (entry_at s.seen.map_at (s.lanes l).sector) (s.lanes l).sector q))
  found_sound kind.Initial e q = look_sound g o s l h ll e (ap has_bytes q)
  found_sound kind.Normal e q = look_sound g o s l h ll e (ap has_bytes q)

  pub stepped_sound : (ph : Phase) → (s.lanes l).phase ≡ ph → IsSound g o (stepped g s l ph)
  stepped_sound Idle e = h
  stepped_sound (Scanning j) e = chosen (IsSound g o) (s.readers (other_lane l j) == suc (s.lanes l).block) _ _ (λ q. scan_again_sound g o s l h ll j e) (λ q. scan_on_sound g o s l h ll j e (equal_false _ _ q))
  stepped_sound (Staging k) e = chosen (IsSound g o) (nat_lt k g.width) _ _ (λ q. h) (λ q. data_keep_sound g o s l k h ll e (below_false k g.width q))
  stepped_sound Staged e = h
  stepped_sound Locked e = map_load_sound g o s l h ll e
  stepped_sound Known e = log_a_store_sound g o s l h ll e
  stepped_sound LogAStored e = log_a_keep_sound g o s l h ll e
  stepped_sound LogA e = log_b_store_sound g o s l h ll e
  stepped_sound LogBStored e = log_b_keep_sound g o s l h ll e
  stepped_sound Logged e = map_store_sound g o s l h ll e
  stepped_sound Switched e = map_keep_sound g o s l h ll e
  stepped_sound Kept e = lock_free_sound g o s l h ll e
  stepped_sound Called e = found_sound (kind_in (entry_at s.seen.map_at (s.lanes l).sector)) e refl
  stepped_sound Looking e = rtt_set_sound g o s l h ll e
  stepped_sound Published e = chosen (IsSound g o) (entry_at s.seen.map_at (s.lanes l).sector == entry_in (s.lanes l).loaded (s.lanes l).sector) _ _ (λ q. check_same_sound g o s l h ll e (equal_true _ _ q)) (λ q. check_moved_sound g o s l h ll e)
  stepped_sound Moved e = clear_moved_sound g o s l h ll e
  stepped_sound (Reading k) e = chosen (IsSound g o) (nat_lt k g.width) _ _ (λ q. data_load_sound g o s l h ll k e (below_true k g.width q))
      (λ q. clear_done_sound g o s l h ll (e ∙ ap Reading (let at_most = ((h.each l ll).tells.loaded k e).0 in let at_least = below_false k g.width q in omega arith)))

pub happens_sound : (g : Geometry) (o : ℕ → Cell) (s : State) → IsSound g o s → (e : Event) → Fits g e → IsSound g o (happens g s e)
happens_sound g o s h (Write l) f = written_sound g o s l h f (s.lanes l).phase refl
happens_sound g o s h (Store l w) f = came_sound g o s l h f w (s.lanes l).phase refl
happens_sound g o s h (Take l tag sector) f = took_sound g o s l h f.0 tag sector f.1 (s.lanes l).phase refl
happens_sound g o s h (Read l tag sector) f = called_sound g o s l h f.0 tag sector f.1 (s.lanes l).phase refl
happens_sound g o s h (Give_up l) f = given_up_sound g o s l h f (s.lanes l).phase refl
happens_sound g o s h (Step l) f = stepped_sound g o s l h f (s.lanes l).phase refl

pub run_sound : (g : Geometry) (o : ℕ → Cell) (s : State) (es : List Event) → IsSound g o s → AllFit g es → IsSound g o (run g s es)
unfolding run AllFit
run_sound g o s [] h f = h
run_sound g o s (e ∷ es) h f = run_sound g o (happens g s e) es (happens_sound g o s h e f.0) f.1
