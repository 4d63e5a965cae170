-- What a try on a lane does to the lane of a session's call, and what several tries do.
use Rattle.std.proofs.Common.{◌≡◌, inl, inr, ℕ, zero, suc, ◌+◌, ◌<◌, ◌≤◌, Bool, true, false, List, length, map, Option, Some, None, refl, sym, ap, ◌∙◌, arith}
use Rattle.atomic_table.specs.Table.{Me}
use Rattle.map_table.specs.declared.kinds.Kind.{Kind}
use Rattle.map_table.specs.declared.kinds.Kind.TheVariants as kind
use Rattle.map_table.specs.Entry.{entry_in}
use Rattle.arena_open.specs.declared.cell.CellKind.{CellKind}
use Rattle.lane_core.specs.declared.history.Act.TheVariants as act
use Rattle.lane_core.specs.declared.history.Entry.{Entry}
use Rattle.lane_core.specs.Areas.{kind_in}
use Rattle.lane_core.specs.Cut.{is_open}
use Rattle.lane_table.specs.declared.fuse.Fuse.{Fuse}
use Rattle.lane_table.specs.declared.log.LaneLog.{LaneLog}
use Rattle.lane_table.specs.declared.lanes.Kit.{Kit}
use Rattle.lane_table.specs.declared.lanes.Lane.{Lane}
use Rattle.lane_table.specs.declared.lanes.Staged.{Staged}
use Rattle.lane_table.specs.declared.lanes.Stopped.{Stopped}
use Rattle.lane_table.specs.declared.outcome.CommitOutcome.TheVariants as commit
use Rattle.lane_table.specs.declared.outcome.ReadOutcome.TheVariants as reads
use Rattle.lane_table.specs.declared.outcome.StageOutcome.TheVariants as stage
use Rattle.lane_table.specs.declared.table.Call.{Call}
use Rattle.lane_table.specs.declared.table.View.{View}
use Rattle.lane_table.specs.Committed.{way}
use Rattle.lane_table.specs.Fuse.{Burnt, Fell, left_by, of_left}
use Rattle.lane_table.specs.Kits.{IsSame, held_in, spare_in}
use Rattle.lane_table.specs.Law.{noted}
use Rattle.lane_table.specs.Outcomes.{CommitNotes, Commits, ReadNotes, Reads, Stages}
use Rattle.lane_table.specs.Reads.{Gets, cell_of_kind}
use Rattle.lane_table.specs.Stages.{stage_steps}
use Rattle.lane_calls.specs.Lanes.{Adds, Fewer, IsBurnt, IsCutIn, Pays, Stays, is_in_flight, read_entry, steps_in, words_in, write_entry}

in_some : {A : Type 0} {x y : A} → Some x ≡ Some y → x ≡ y
in_some e = cc

some_none : {A : Type 0} {x : A} → Some x ≡ None → ⊥
some_none e = cc

-- ---- steps

fewer_fell : (n : ℕ) (a b : Fuse) → Fell n a b → Fewer n (of_left a) (of_left b)
fewer_fell n a b f = record { fewer = λ l e. fewer l a.set refl e; whole = λ e. whole a.set refl e }
  where
    fewer : (l : ℕ) (s : Bool) → a.set ≡ s → left_by s a.left ≡ Some l → (l' : ℕ) × (of_left b ≡ Some l') × (n + l' ≡ l)
    fewer l true is e = (b.left, ap (λ (s : Bool). left_by s b.left) (f.0 ∙ is), (let same : a.left ≡ l = in_some e in let x = f.1 is in omega (arith, same, x)))
    fewer l false is e = absurd (some_none (sym e))

    whole : (s : Bool) → a.set ≡ s → left_by s a.left ≡ None → of_left b ≡ None
    whole true is e = absurd (some_none e)
    whole false is e = ap (λ (s : Bool). left_by s b.left) (f.0 ∙ is)

fewer_burnt : (n : ℕ) (a b : Fuse) → Burnt n a b → Fewer n (of_left a) (of_left b)
fewer_burnt n a b h = fewer_fell n a b (h.1 ∙ sym h.0, λ is. let x = h.2 in let y = h.3 in omega (arith, x, y))

module _ (n : ℕ) (k k' : Kit) (steps : steps_in k' ≡ steps_in k + n) where
  pays_fell : (m : ℕ) → m ≤ n → Fell n k.fuse k'.fuse → Pays m k k'
  pays_fell m le f = record { made = n; least = le; counted = steps; paid = fewer_fell n k.fuse k'.fuse f }

  pays_spent : (m : ℕ) → m ≤ n → Burnt n k.fuse k'.fuse → Pays m k k'
  pays_spent m le h = record { made = n; least = le; counted = steps; paid = fewer_burnt n k.fuse k'.fuse h }

  pays_burnt : Burnt n k.fuse k'.fuse → Pays 0 k k' × IsBurnt k k'
  pays_burnt h = (
    pays_spent 0 (omega arith) h,
    ((λ e. some_none (sym (ap (λ (s : Bool). left_by s k.fuse.left) h.0) ∙ e), ap (λ (s : Bool). left_by s k'.fuse.left) h.1 ∙ ap (λ (m : ℕ). Some m) h.3)),
  )

fewer_more : (m n : ℕ) (a b c : Option ℕ) → Fewer m a b → Fewer n b c → Fewer (m + n) a c
fewer_more m n a b c f g = record {
  fewer = λ l e. (let x = f.fewer l e in let y = g.fewer x.0 x.1 in (y.0, y.1, let p = x.2 in let q = y.2 in omega (arith, p, q)));
  whole = λ e. g.whole (f.whole e);
}

pub pays_more : (m n r : ℕ) (k k' k'' : Kit) → r ≤ m + n → Pays m k k' → Pays n k' k'' → Pays r k k''
pays_more m n r k k' k'' le a b = record {
  made = a.made + b.made;
  least = (let x = a.least in let y = b.least in omega (arith, le, x, y));
  counted = (let x = a.counted in let y = b.counted in omega (arith, x, y));
  paid = fewer_more a.made b.made (of_left k.fuse) (of_left k'.fuse) (of_left k''.fuse) a.paid b.paid;
}

pub burnt_more : (m : ℕ) (k k' k'' : Kit) → Pays m k k' → IsBurnt k' k'' → IsBurnt k k''
burnt_more m k k' k'' a b = ((λ e. b.0 (a.paid.whole e)), b.1)

-- ---- the same lane, try after try

pub same_more : (k k' k'' : Kit) → IsSame k k' → IsSame k' k'' → IsSame k k''
same_more k k' k'' a b = (b.0 ∙ a.0, b.1 ∙ a.1, b.2 ∙ a.2, b.3 ∙ a.3)

module _ (k k' k'' : Kit) (a : Stays k k') where
  pub stays_more : Stays k' k'' → Stays k k''
  stays_more b = (same_more k k' k'' a.0 b.0, b.1 ∙ a.1, b.2)

  pub adds_more : (e e' : Entry) → e ≡ e' → Adds e k' k'' → Adds e' k k''
  adds_more e e' is b = (same_more k k' k'' a.0 b.0, b.1 ∙ (λ i. map (noted (is i)) (a.1 i)), b.2)

  -- m steps were made before
  module _ (m n r : ℕ) (le : r ≤ m + n) (paid : Pays m k k') where
    pub cut_more : (t : Call) (words : List ℕ) → k'.number ≡ k.number → IsCutIn n t words k' k'' → IsCutIn r t words k k''
    cut_more t words number (inl b) = inl (stays_more b)
    cut_more t words number (inr (inl b)) =
        let f = b.0 in
        inr (inl ((same_more k k' k'' a.0 f.0, f.1 ∙ a.1, f.2, f.3, f.4, f.5), pays_more m (n + 5) (r + 5) k k' k'' (omega (arith, le)) paid b.1))
    cut_more t words number (inr (inr b)) =
        inr (inr (adds_more (write_entry k'.number t words) (write_entry k.number t words) (ap (λ (n : ℕ). write_entry n t words) number) b.0, pays_more m (n + 7) (r + 7) k k' k'' (omega (arith, le)) paid b.1))

-- a lane that is idle, and one that is staged, has no write in flight
pub idle_rests : (l : Lane) → is_in_flight l.kit ≡ false
idle_rests l = ap is_open l.idle

pub staged_rests : (s : Staged) → is_in_flight s.kit ≡ false
staged_rests s = ap is_open s.staged

-- ---- staging

module _ (words : List ℕ) (l : Lane) where
  pub staged : (s : Staged) → Stages words l (stage.Staged s) → Stays l.kit s.kit × (words_in s.kit ≡ words) × (spare_in l.kit ≡ suc (spare_in s.kit)) × Pays (stage_steps l.kit.seat.me.0.shape) l.kit s.kit
  staged s h = (
    (h.2, ap (λ (m : Me Call View). m.0.held) h.0.0, staged_rests s),
    ap (λ (m : Me Call View). m.0.lane.words) h.0.0,
    h.1,
    pays_fell (stage_steps l.kit.seat.me.0.shape) l.kit s.kit h.0.1 (stage_steps l.kit.seat.me.0.shape) (omega arith) h.3,
  )

  pub tracked : (k : Lane) (r b : ℕ) → Stages words l (stage.Tracked k r b) → Stays l.kit k.kit × (spare_in k.kit ≡ spare_in l.kit) × Pays 0 l.kit k.kit
  tracked k r b h = (
    (h.7, ap (λ (m : Me Call View). m.0.held) h.4.0, idle_rests k),
    ap (λ (x : LaneLog). x.spare) h.6,
    pays_fell (h.0 + 1) l.kit k.kit h.4.1 0 (omega arith) h.8,
  )

  pub stage_cut : (k : Stopped) → Stages words l (stage.Cut k) → Stays l.kit k.kit × Pays 0 l.kit k.kit × IsBurnt l.kit k.kit
  stage_cut k h =
      let paid = pays_burnt h.0 l.kit k.kit h.3.1 h.7 in (
        (h.6, ap (λ (m : Me Call View). m.0.held) h.3.0, ap (λ (m : Me Call View). is_open m.0.lane.phase) h.3.0 ∙ h.5),
        paid.0,
        paid.1,
      )

-- ---- a commit

module _ (t : Call) (s : Staged) where
  abbrev words : List ℕ
  words = words_in s.kit

  pub done : (k : Lane) → Commits t s (commit.Done k) → CommitNotes t s (commit.Done k) → Adds (write_entry s.kit.number t words) s.kit k.kit × (spare_in k.kit ≡ spare_in s.kit) × Pays 9 s.kit k.kit
  done k h n = (
    (h.3, n, idle_rests k),
    h.2,
    pays_fell 9 s.kit k.kit (let e = ap (λ (m : Me Call View). m.0.count.steps) h.1 in omega (arith, e)) 9 (omega arith) h.4,
  )

  pub busy : (z : Staged) (holder : ℕ) → Commits t s (commit.MapBusy z holder) → CommitNotes t s (commit.MapBusy z holder) → Stays s.kit z.kit × (words_in z.kit ≡ words) × (spare_in z.kit ≡ spare_in s.kit) × Pays 0 s.kit z.kit
  busy z holder h n = (
    (h.3, n, staged_rests z),
    ap (λ (m : Me Call View). m.0.lane.words) h.0,
    ap (λ (y : LaneLog). y.spare) h.2,
    pays_fell 1 s.kit z.kit (let e = ap (λ (m : Me Call View). m.0.count.steps) h.0 in omega (arith, e)) 0 (omega arith) h.4,
  )

  -- after n of the nine steps
  module _ (w : ℕ) (k : Kit) (same : IsSame s.kit k) where
    open_at : (n : ℕ) → k.seat.me ≡ way t w n s.kit.seat.me → is_in_flight k ≡ is_open (way t w n s.kit.seat.me).0.lane.phase
    open_at n is = ap (λ (m : Me Call View). is_open m.0.lane.phase) is

    held_at : (n : ℕ) → k.seat.me ≡ way t w n s.kit.seat.me → held_in k ≡ (way t w n s.kit.seat.me).0.held
    held_at n is = ap (λ (m : Me Call View). m.0.held) is

    noted_at : (n : ℕ) → map (noted (record { lane = s.kit.seat.me.0.number; tag = t.tag; sector = t.sector; act = act.Write words })) (held_in s.kit) ≡ map (noted (write_entry s.kit.number t words)) (held_in s.kit)
    noted_at n = ap (λ (l : ℕ). map (noted (record { lane = l; tag = t.tag; sector = t.sector; act = act.Write words })) (held_in s.kit)) s.kit.numbered.0

    cut_at : (n : ℕ) → n < 9 → k.seat.me ≡ way t w n s.kit.seat.me → Burnt n s.kit.fuse k.fuse → IsCutIn 0 t words s.kit k × (steps_in k ≡ steps_in s.kit + n)
    cut_at zero lt is burnt = (inl (same, held_at 0 is, open_at 0 is ∙ staged_rests s), (let e = ap (λ (m : Me Call View). m.0.count.steps) is in omega (arith, e)))
    cut_at (suc zero) lt is burnt = (inl (same, held_at 1 is, open_at 1 is), (let e = ap (λ (m : Me Call View). m.0.count.steps) is in omega (arith, e)))
    cut_at (suc (suc zero)) lt is burnt = (inl (same, held_at 2 is, open_at 2 is), (let e = ap (λ (m : Me Call View). m.0.count.steps) is in omega (arith, e)))
    cut_at (suc (suc (suc zero))) lt is burnt = (inl (same, held_at 3 is, open_at 3 is), (let e = ap (λ (m : Me Call View). m.0.count.steps) is in omega (arith, e)))
    cut_at (suc (suc (suc (suc zero)))) lt is burnt = (inl (same, held_at 4 is, open_at 4 is), (let e = ap (λ (m : Me Call View). m.0.count.steps) is in omega (arith, e)))
    cut_at (suc (suc (suc (suc (suc zero))))) lt is burnt =
        let steps : steps_in k ≡ steps_in s.kit + 5 = (let e = ap (λ (m : Me Call View). m.0.count.steps) is in omega (arith, e)) in (
          inr (inl ((same, held_at 5 is, open_at 5 is, ap (λ (m : Me Call View). m.0.lane.tag) is, ap (λ (m : Me Call View). m.0.lane.sector) is, ap (λ (m : Me Call View). m.0.lane.words) is), pays_spent 5 s.kit k steps (0 + 5) (omega arith) burnt)),
          steps,
        )
    cut_at (suc (suc (suc (suc (suc (suc zero)))))) lt is burnt =
        let steps : steps_in k ≡ steps_in s.kit + 6 = (let e = ap (λ (m : Me Call View). m.0.count.steps) is in omega (arith, e)) in (
          inr (inl ((same, held_at 6 is, open_at 6 is, ap (λ (m : Me Call View). m.0.lane.tag) is, ap (λ (m : Me Call View). m.0.lane.sector) is, ap (λ (m : Me Call View). m.0.lane.words) is), pays_spent 6 s.kit k steps (0 + 5) (omega arith) burnt)),
          steps,
        )
    cut_at (suc (suc (suc (suc (suc (suc (suc zero))))))) lt is burnt =
        let steps : steps_in k ≡ steps_in s.kit + 7 = (let e = ap (λ (m : Me Call View). m.0.count.steps) is in omega (arith, e)) in
        (inr (inr ((same, held_at 7 is ∙ noted_at 7, open_at 7 is), pays_spent 7 s.kit k steps (0 + 7) (omega arith) burnt)), steps)
    cut_at (suc (suc (suc (suc (suc (suc (suc (suc zero)))))))) lt is burnt =
        let steps : steps_in k ≡ steps_in s.kit + 8 = (let e = ap (λ (m : Me Call View). m.0.count.steps) is in omega (arith, e)) in
        (inr (inr ((same, held_at 8 is ∙ noted_at 8, open_at 8 is), pays_spent 8 s.kit k steps (0 + 7) (omega arith) burnt)), steps)
    cut_at (suc (suc (suc (suc (suc (suc (suc (suc (suc n))))))))) lt is burnt = absurd (omega (arith, lt))

  pub commit_cut : (k : Stopped) → Commits t s (commit.Cut k) → IsCutIn 0 t words s.kit k.kit × Pays 0 s.kit k.kit × IsBurnt s.kit k.kit
  commit_cut k h =
      let c = cut_at h.0 k.kit h.4 h.1 h.2 h.3 h.5 in
      let paid = pays_burnt h.1 s.kit k.kit c.1 h.5 in
      (c.0, paid.0, paid.1)

-- ---- a read

module _ (t : Call) (old new : List ℕ) (l : Lane) where
  gets : (k : Lane) (w : ℕ) (found : Kind) (cell : CellKind) → Gets l.kit.seat.me k.kit.seat.me l.kit.fuse k.kit.fuse old new t w found cell → Pays 1 l.kit k.kit
  gets k w kind.Zero cell h = pays_fell 1 l.kit k.kit (let e = ap (λ (m : Me Call View). m.0.count.steps) h.2 in omega (arith, e)) 1 (omega arith) h.3
  gets k w kind.Bad cell h = pays_fell 1 l.kit k.kit (let e = ap (λ (m : Me Call View). m.0.count.steps) h.2 in omega (arith, e)) 1 (omega arith) h.3
  gets k w kind.Initial cell h = pays_fell (l.kit.seat.me.0.shape.width + 4) l.kit k.kit h.1.1 1 (omega arith) h.2
  gets k w kind.Normal cell h = pays_fell (l.kit.seat.me.0.shape.width + 4) l.kit k.kit h.1.1 1 (omega arith) h.2

  pub got : (k : Lane) (cell : CellKind) → Reads t old new l (reads.Got k cell) → ReadNotes t new l (reads.Got k cell)
      → Adds (read_entry l.kit.number t (cell_of_kind cell new)) l.kit k.kit × (spare_in l.kit ≡ suc (spare_in k.kit)) × Pays 1 l.kit k.kit
  got k cell h n = ((h.2, n, idle_rests k), h.3, gets k h.0 (kind_in (entry_in h.0 t.sector)) cell h.1)

  pub moved : (k : Lane) (e f : ℕ) → Reads t old new l (reads.Moved k e f) → ReadNotes t new l (reads.Moved k e f)
      → Stays l.kit k.kit × (spare_in k.kit ≡ spare_in l.kit) × (length new ≡ length old) × Pays 0 l.kit k.kit
  moved k e f h n = (
    (h.6, n, idle_rests k),
    ap (λ (x : LaneLog). x.spare) h.5,
    ap (λ (xs : List ℕ). length xs) h.4,
    pays_fell 4 l.kit k.kit h.3.1 0 (omega arith) h.7,
  )

  pub read_cut : (k : Stopped) → Reads t old new l (reads.Cut k) → ReadNotes t new l (reads.Cut k) → Stays l.kit k.kit × Pays 0 l.kit k.kit × IsBurnt l.kit k.kit
  read_cut k h n =
      let paid = pays_burnt h.0.0 l.kit k.kit h.0.3.1 h.0.7 in (
        (h.1, n, ap (λ (m : Me Call View). is_open m.0.lane.phase) h.0.3.0 ∙ h.0.5),
        paid.0,
        paid.1,
      )
