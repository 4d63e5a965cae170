-- Tries one after another: what a loop's last try adds to the tries before it.
use Rattle.std.proofs.Common.{◌≡◌, ℕ, suc, ◌+◌, ◌≤◌, List, length, Some, None, sym, ap, ◌∙◌, subst, arith}
use Rattle.atomic_table.specs.Seated.{TableId}
use Rattle.arena_open.specs.declared.cell.CellKind.{CellKind}
use Rattle.lane_core.specs.declared.shape.Shape.{Shape}
use Rattle.turn_lock.specs.declared.parted.Parted.{Ghosts}
use Rattle.turn_lock.specs.declared.pass.TurnPass.{TurnPass}
use Rattle.turn_lock.specs.Passes.{PartBecomes, IsSamePass, out_of, part_of}
use Rattle.lane_table.specs.declared.lanes.Lane.{Lane}
use Rattle.lane_table.specs.declared.lanes.Staged.{Staged}
use Rattle.lane_table.specs.declared.lanes.Stopped.{Stopped}
use Rattle.lane_table.specs.declared.outcome.CommitOutcome.TheVariants as commit
use Rattle.lane_table.specs.declared.outcome.ReadOutcome.TheVariants as reads
use Rattle.lane_table.specs.declared.outcome.StageOutcome.TheVariants as stage
use Rattle.lane_table.specs.declared.table.Call.{Call}
use Rattle.lane_table.specs.Kits.{spare_in}
use Rattle.lane_table.specs.Outcomes.{CommitNotes, Commits, ReadNotes, Reads, Stages}
use Rattle.lane_table.specs.Reads.{cell_of_kind}
use Rattle.lane_table.specs.Stages.{stage_steps}
use Rattle.lane_pool.specs.declared.pool.PoolPart.{PoolPart}
use Rattle.lane_pool.specs.declared.sets.PowerOff.{PowerOff}
use Rattle.lane_pool.specs.Parts.{Asks, PartGoes, told_of}
use Rattle.lane_pool.specs.Pools.{Now}
use Rattle.lane_calls.specs.Lanes.{Adds, IsBurnt, IsCutIn, MayAsk, Pays, Stays, read_entry, words_in, write_entry}
use Rattle.lane_calls.proofs.Lanes.{adds_more, burnt_more, busy, commit_cut, cut_more, done, got, moved, pays_more, read_cut, stage_cut, staged, stays_more, tracked}

-- ---- the power was asked for

module _ {g : Ghosts Now PoolPart} (lock : TableId) (p p' : TurnPass Now PoolPart g) where
  pub asked_on : MayAsk lock p → IsSamePass p p' → out_of p' ≡ None → PartGoes (Asks None) p p' → MayAsk lock p' × (part_of p' ≡ part_of p)
  asked_on may same out own =
      let o = own may.1.0 may.1.1 in
      let is : part_of p' ≡ Some may.1.0 = o.1 ∙ ap (λ (m : PoolPart). Some m) o.2.0 in
      (((same.0 ∙ may.0.0, out), (may.1.0, is, may.1.2)), is ∙ sym may.1.1)

  pub asked_off : (p0 : TurnPass Now PoolPart g) → part_of p ≡ part_of p0 → (off : PowerOff) → PartGoes (Asks (Some off)) p p' → PartBecomes (told_of off) p0 p'
  asked_off p0 part off own = λ d e. (let o = own d (part ∙ e) in o.1 ∙ ap (λ (m : PoolPart). Some m) o.2)

-- ---- staging

module _ (l0 l1 : Lane) (words : List ℕ) (same : Stays l0.kit l1.kit) (spare : spare_in l1.kit ≡ spare_in l0.kit) (paid : Pays 0 l0.kit l1.kit) where
  pub staged_all : (x : Shape) → l0.kit.seat.me.0.shape ≡ x → (z : Staged) → Stages words l1 (stage.Staged z)
      → Stays l0.kit z.kit × (words_in z.kit ≡ words) × (spare_in l0.kit ≡ suc (spare_in z.kit)) × Pays (stage_steps x) l0.kit z.kit
  staged_all x shape z h =
      let r = staged words l1 z h in
      let is : l1.kit.seat.me.0.shape ≡ x = same.0.2 ∙ shape in (
        stays_more l0.kit l1.kit z.kit same r.0,
        r.1,
        sym spare ∙ r.2,
        pays_more 0 (stage_steps l1.kit.seat.me.0.shape) (stage_steps x) l0.kit l1.kit z.kit (subst (λ (y : Shape). stage_steps y ≤ 0 + stage_steps l1.kit.seat.me.0.shape) is (omega arith)) paid r.3,
      )

  pub tracked_all : (z : Lane) (r b : ℕ) → Stages words l1 (stage.Tracked z r b) → Stays l0.kit z.kit × (spare_in z.kit ≡ spare_in l0.kit) × Pays 0 l0.kit z.kit
  tracked_all z r b h =
      let t = tracked words l1 z r b h in
      (stays_more l0.kit l1.kit z.kit same t.0, t.1 ∙ spare, pays_more 0 0 0 l0.kit l1.kit z.kit (omega arith) paid t.2)

  pub stage_cut_all : (z : Stopped) → Stages words l1 (stage.Cut z) → Stays l0.kit z.kit × Pays 0 l0.kit z.kit × IsBurnt l0.kit z.kit
  stage_cut_all z h =
      let t = stage_cut words l1 z h in
      (stays_more l0.kit l1.kit z.kit same t.0, pays_more 0 0 0 l0.kit l1.kit z.kit (omega arith) paid t.1, burnt_more 0 l0.kit l1.kit z.kit paid t.2)

-- ---- a read

module _ (t : Call) (old new : List ℕ) (l0 l1 : Lane) (same : Stays l0.kit l1.kit) (spare : spare_in l1.kit ≡ spare_in l0.kit) (paid : Pays 0 l0.kit l1.kit) where
  pub got_all : (z : Lane) (kind : CellKind) → Reads t old new l1 (reads.Got z kind) → ReadNotes t new l1 (reads.Got z kind)
      → Adds (read_entry l0.kit.number t (cell_of_kind kind new)) l0.kit z.kit × (spare_in l0.kit ≡ suc (spare_in z.kit)) × Pays 1 l0.kit z.kit
  got_all z kind h n =
      let r = got t old new l1 z kind h n in (
        adds_more l0.kit l1.kit z.kit same (read_entry l1.kit.number t (cell_of_kind kind new)) (read_entry l0.kit.number t (cell_of_kind kind new)) (ap (λ (m : ℕ). read_entry m t (cell_of_kind kind new)) same.0.1) r.0,
        sym spare ∙ r.1,
        pays_more 0 1 1 l0.kit l1.kit z.kit (omega arith) paid r.2,
      )

  pub moved_all : (z : Lane) (e f : ℕ) → Reads t old new l1 (reads.Moved z e f) → ReadNotes t new l1 (reads.Moved z e f)
      → Stays l0.kit z.kit × (spare_in z.kit ≡ spare_in l0.kit) × (length new ≡ length old) × Pays 0 l0.kit z.kit
  moved_all z e f h n =
      let r = moved t old new l1 z e f h n in
      (stays_more l0.kit l1.kit z.kit same r.0, r.1 ∙ spare, r.2, pays_more 0 0 0 l0.kit l1.kit z.kit (omega arith) paid r.3)

  pub read_cut_all : (z : Stopped) → Reads t old new l1 (reads.Cut z) → ReadNotes t new l1 (reads.Cut z) → Stays l0.kit z.kit × Pays 0 l0.kit z.kit × IsBurnt l0.kit z.kit
  read_cut_all z h n =
      let r = read_cut t old new l1 z h n in
      (stays_more l0.kit l1.kit z.kit same r.0, pays_more 0 0 0 l0.kit l1.kit z.kit (omega arith) paid r.1, burnt_more 0 l0.kit l1.kit z.kit paid r.2)

-- ---- a commit

module _ (t : Call) (s0 s1 : Staged) (same : Stays s0.kit s1.kit) (words : words_in s1.kit ≡ words_in s0.kit) (paid : Pays 0 s0.kit s1.kit) where
  pub done_all : (z : Lane) → spare_in s1.kit ≡ spare_in s0.kit → Commits t s1 (commit.Done z) → CommitNotes t s1 (commit.Done z)
      → Adds (write_entry s0.kit.number t (words_in s0.kit)) s0.kit z.kit × (spare_in z.kit ≡ spare_in s0.kit) × Pays 9 s0.kit z.kit
  done_all z spare h n =
      let r = done t s1 z h n in (
        adds_more s0.kit s1.kit z.kit same (write_entry s1.kit.number t (words_in s1.kit)) (write_entry s0.kit.number t (words_in s0.kit)) (λ i. write_entry (same.0.1 i) t (words i)) r.0,
        r.1 ∙ spare,
        pays_more 0 9 9 s0.kit s1.kit z.kit (omega arith) paid r.2,
      )

  pub busy_all : (z : Staged) (holder : ℕ) → Commits t s1 (commit.MapBusy z holder) → CommitNotes t s1 (commit.MapBusy z holder) → Stays s0.kit z.kit × (words_in z.kit ≡ words_in s0.kit) × (spare_in z.kit ≡ spare_in s1.kit) × Pays 0 s0.kit z.kit
  busy_all z holder h n =
      let r = busy t s1 z holder h n in
      (stays_more s0.kit s1.kit z.kit same r.0, r.1 ∙ words, r.2, pays_more 0 0 0 s0.kit s1.kit z.kit (omega arith) paid r.3)

  pub commit_cut_all : (z : Stopped) → Commits t s1 (commit.Cut z) → IsCutIn 0 t (words_in s0.kit) s0.kit z.kit × Pays 0 s0.kit z.kit × IsBurnt s0.kit z.kit
  commit_cut_all z h =
      let r = commit_cut t s1 z h in (
        cut_more s0.kit s1.kit z.kit same 0 0 0 (omega arith) paid t (words_in s0.kit) same.0.1 (subst (λ (ws : List ℕ). IsCutIn 0 t ws s1.kit z.kit) words r.0),
        pays_more 0 0 0 s0.kit s1.kit z.kit (omega arith) paid r.1,
        burnt_more 0 s0.kit s1.kit z.kit paid r.2,
      )
