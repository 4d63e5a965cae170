-- What each kind of step does to the seat that makes it: `before` and `after` are the seat's view
-- with the slots that it holds (none here), and n is what the step found.
use Rattle.std.specs.Prelude.{◌≡◌, ◌≢◌, ℕ, ◌+◌, ◌*◌, ◌^◌, ◌<◌, ◌≤◌, ◌==◌, if◌then◌else◌, [], ◌∷◌, ◌++◌, zero, suc, replicate}
use mathlib.Core.Option.{some}
use Rattle.atomic_table.specs.Table.{Me, Step}
use Rattle.map_table.specs.declared.kinds.Kind.{Kind}
use Rattle.map_table.specs.declared.kinds.Kind.TheVariants as kind
use Rattle.map_table.specs.Entry.{entry_in}
use Rattle.arena_open.specs.declared.cell.Cell.{Cell}
use Rattle.arena_open.specs.declared.cell.Cell.TheVariants as cell
use Rattle.lane_core.specs.declared.lane.Lane.{Lane}
use Rattle.lane_core.specs.declared.phase.Phase.{Phase}
use Rattle.lane_core.specs.declared.phase.Phase.TheVariants.{Idle, Scanning, Staging, Staged, Locked, Known, Called, LogAStored, LogA, LogBStored, Logged, Switched, Kept, Looking, Published, Moved, Reading}
use Rattle.lane_core.specs.declared.shape.Shape.{Shape}
use Rattle.lane_core.specs.Areas.{kind_in, next_seq}
use Rattle.lane_core.specs.Machine.{other, looked, wrote, read}
use Rattle.lane_table.specs.declared.table.Call.{Call}
use Rattle.lane_table.specs.declared.table.View.{View}
use Rattle.lane_core.specs.declared.history.Entry.{Entry}
use Rattle.lane_table.specs.Law.{spent, with, with_by, found, uncounted, entered}

-- after k counted steps the lane of a seat is p, and all else is as it was
abbrev pub IsAfter : {S : Type 0} → ℕ → Me S View → Lane → Me S View → Type 0
IsAfter k me p me' = (me' ≡ (record (me.0) { lane = p; count = me'.0.count }, me.1)) × (me'.0.count.steps ≡ me.0.count.steps + k)

-- the same, and its pass has this entry more
abbrev pub IsAfterEntry : {S : Type 0} → ℕ → Me S View → Lane → Entry → Me S View → Type 0
IsAfterEntry k me p e me' = (me' ≡ (entered e (record (me.0) { lane = p; count = me'.0.count }), me.1)) × (me'.0.count.steps ≡ me.0.count.steps + k)

-- blocks of an arena of a shape: each sector has one, and so has each lane
abbrev pub blocks : Shape → ℕ
blocks x = x.sectors + x.lanes

-- the next phase of a write after the keep of word k - width
abbrev pub kept_phase : Shape → ℕ → Phase
kept_phase x k = if k + 1 == 2 * x.width then Staged else Staging (k + 1)

-- the phase of a write after j scans
abbrev pub scan_phase : Shape → ℕ → Phase
scan_phase x j = if j + 1 == x.lanes then Staging 0 else Scanning j

-- its phase after j keeps
abbrev pub keep_phase : Shape → ℕ → Phase
keep_phase x j = if j == x.width then Staged else Staging (x.width + j)

-- the lane l of a read that is answered with a cell
abbrev pub answered : ℕ → Lane → Cell → Lane
answered l p c = record p { phase = Idle; log = p.log ++ read l p c ∷ [] }

module _ {S : Type 0} where
  -- the seat after a store, and after a look that found n
  abbrev pub on : Me S View → Lane → Me S View
  on me p = (with me.0 p, me.1)

  abbrev pub on_found : ℕ → Me S View → Lane → Me S View
  on_found n me p = (found n me.0 p, me.1)

  -- and its pass has an entry more
  abbrev pub on_entered : Entry → Me S View → Me S View
  on_entered e me = (entered e me.0, me.1)

  -- ---- a seat that comes

  abbrev pub comes : Step S → Me S View → ℕ → Me S View → Type 0
  comes step before n after = after ≡ (spent, [])

  -- ---- a write, up to Staged

  -- a write begins: with one lane there is no other to look at
  abbrev pub begun : Me S View → Me S View
  begun me = (with_by uncounted 0 me.0 (record (me.0.lane) { phase = scan_phase me.0.shape 0; words = [] }), me.1)

  abbrev pub write_begin : Step S → Me S View → ℕ → Me S View → Type 0
  write_begin step before n after = after ≡ begun before

  -- after a scan that found the reader of the free block: the call is given up
  abbrev pub tracked : ℕ → Me S View → Me S View
  tracked n me = on_found n me (record (me.0.lane) { phase = Idle })

  -- after a scan of the j-th other lane, which doesn't read the free block
  abbrev pub scanned : ℕ → ℕ → Me S View → Me S View
  scanned j n me = on_found n me (record (me.0.lane) { phase = scan_phase me.0.shape (j + 1); words = [] })

  abbrev pub rtt_scan : Step S → Me S View → ℕ → Me S View → Type 0
  rtt_scan step before n after =
      (j : ℕ) → before.0.lane.phase ≡ Scanning j
      → (n ≡ suc before.0.lane.block → after ≡ tracked n before) × (n ≢ suc before.0.lane.block → after ≡ scanned j n before)

  abbrev pub with_word : Me S View → ℕ → ℕ → Me S View
  with_word me k w = on me (record (me.0.lane) { phase = Staging (k + 1); words = me.0.lane.words ++ w ∷ [] })

  abbrev pub data_store : Step S → Me S View → ℕ → Me S View → Type 0
  data_store step before n after = (k : ℕ) → before.0.lane.phase ≡ Staging k → after ≡ with_word before k n

  abbrev pub with_keep : Me S View → ℕ → Me S View
  with_keep me k = on me (record (me.0.lane) { phase = kept_phase me.0.shape k })

  abbrev pub data_keep : Step S → Me S View → ℕ → Me S View → Type 0
  data_keep step before n after = (k : ℕ) → before.0.lane.phase ≡ Staging k → after ≡ with_keep before k

  -- ---- a commit: the lock and the map word

  abbrev pub locked : Call → Me S View → Me S View
  locked t me = on_found 0 me (record (me.0.lane) { phase = Locked; tag = t.tag; sector = t.sector })

  -- the lock is another's: a counted step that changed nothing
  abbrev pub missed : ℕ → Me S View → Me S View
  missed n me = on_found n me me.0.lane

  abbrev pub known : ℕ → Me S View → Me S View
  known n me = on_found n me (record (me.0.lane) { phase = Known; loaded = n })

  -- the entry's block is one of the arena
  abbrev pub map_load : Step S → Me S View → ℕ → Me S View → Type 0
  map_load step before n after = (after ≡ known n before) × (looked (record (before.0.lane) { loaded = n }) < blocks before.0.shape)

  -- ---- a commit: the seven stores

  abbrev pub a_stored : Me S View → Me S View
  a_stored me = on me (record (me.0.lane) { phase = LogAStored })

  abbrev pub a_kept : Me S View → Me S View
  a_kept me = on me (record (me.0.lane) { phase = LogA })

  abbrev pub b_stored : Me S View → Me S View
  b_stored me = on me (record (me.0.lane) { phase = LogBStored })

  abbrev pub b_kept : Me S View → Me S View
  b_kept me = on me (record (me.0.lane) { phase = Logged; side = other me.0.lane.side; half = record { lba = me.0.lane.sector; old = looked me.0.lane; new = me.0.lane.block; seq = next_seq me.0.lane.half.seq } })

  abbrev pub switched : Me S View → Me S View
  switched me = on_entered (wrote me.0.number me.0.lane) (on me (record (me.0.lane) { phase = Switched; block = looked me.0.lane; words = []; log = me.0.lane.log ++ wrote me.0.number me.0.lane ∷ [] }))

  abbrev pub map_kept : Me S View → Me S View
  map_kept me = on me (record (me.0.lane) { phase = Kept })

  abbrev pub freed : Me S View → Me S View
  freed me = on me (record (me.0.lane) { phase = Idle })

  abbrev pub flog_a_store : Step S → Me S View → ℕ → Me S View → Type 0
  flog_a_store step before n after = after ≡ a_stored before

  abbrev pub flog_a_keep : Step S → Me S View → ℕ → Me S View → Type 0
  flog_a_keep step before n after = after ≡ a_kept before

  abbrev pub flog_b_store : Step S → Me S View → ℕ → Me S View → Type 0
  flog_b_store step before n after = after ≡ b_stored before

  abbrev pub flog_b_keep : Step S → Me S View → ℕ → Me S View → Type 0
  flog_b_keep step before n after = after ≡ b_kept before

  abbrev pub map_store : Step S → Me S View → ℕ → Me S View → Type 0
  map_store step before n after = after ≡ switched before

  abbrev pub map_keep : Step S → Me S View → ℕ → Me S View → Type 0
  map_keep step before n after = after ≡ map_kept before

  abbrev pub lock_free : Step S → Me S View → ℕ → Me S View → Type 0
  lock_free step before n after = after ≡ freed before

  -- the seat after k of these stores
  abbrev pub path : ℕ → Me S View → Me S View
  path zero me = me
  path (suc zero) me = a_stored me
  path (suc (suc zero)) me = a_kept (a_stored me)
  path (suc (suc (suc zero))) me = b_stored (a_kept (a_stored me))
  path (suc (suc (suc (suc zero)))) me = b_kept (b_stored (a_kept (a_stored me)))
  path (suc (suc (suc (suc (suc zero))))) me = switched (b_kept (b_stored (a_kept (a_stored me))))
  path (suc (suc (suc (suc (suc (suc zero)))))) me = map_kept (switched (b_kept (b_stored (a_kept (a_stored me)))))
  path (suc (suc (suc (suc (suc (suc (suc k))))))) me = freed (map_kept (switched (b_kept (b_stored (a_kept (a_stored me))))))

  -- ---- a read

  -- a read begins
  abbrev pub called : Call → Me S View → Me S View
  called t me = (with_by uncounted 0 me.0 (record (me.0.lane) { phase = Called; tag = t.tag; sector = t.sector }), me.1)

  -- the entry says that its block has the bytes
  abbrev pub looking : ℕ → Me S View → Me S View
  looking n me = on_found n me (record (me.0.lane) { phase = Looking; loaded = n })

  -- after a look that found the map word n, in which the sector's entry is of this kind: reads of
  -- zeros and bad sectors are answered
  abbrev pub looked_at : Kind → ℕ → Me S View → Me S View
  looked_at kind.Zero n me = on_entered (read me.0.number me.0.lane (cell.Bytes (replicate me.0.shape.width 0))) (on_found n me (answered me.0.number me.0.lane (cell.Bytes (replicate me.0.shape.width 0))))
  looked_at kind.Bad n me = on_entered (read me.0.number me.0.lane cell.Bad) (on_found n me (answered me.0.number me.0.lane cell.Bad))
  looked_at kind.Initial n me = looking n me
  looked_at kind.Normal n me = looking n me

  -- the entry's block is one of the arena
  abbrev pub map_look : Step S → Me S View → ℕ → Me S View → Type 0
  map_look step before n after =
      (after ≡ looked_at (kind_in (entry_in n before.0.lane.sector)) n before) × (looked (record (before.0.lane) { loaded = n }) < blocks before.0.shape)

  abbrev pub published : Me S View → Me S View
  published me = on me (record (me.0.lane) { phase = Published })

  abbrev pub rtt_set : Step S → Me S View → ℕ → Me S View → Type 0
  rtt_set step before n after = after ≡ published before

  -- after a check that found the map word n: the entry is the one that was loaded, and the read
  -- stands; or it has changed
  abbrev pub reading : ℕ → Me S View → Me S View
  reading n me = on_found n me (record (me.0.lane) { phase = Reading 0; got = [] })

  abbrev pub moved : ℕ → Me S View → Me S View
  moved n me = on_found n me (record (me.0.lane) { phase = Moved })

  abbrev pub map_check : Step S → Me S View → ℕ → Me S View → Type 0
  map_check step before n after =
      (entry_in n before.0.lane.sector ≡ entry_in before.0.lane.loaded before.0.lane.sector → after ≡ reading n before)
      × (entry_in n before.0.lane.sector ≢ entry_in before.0.lane.loaded before.0.lane.sector → after ≡ moved n before)

  abbrev pub with_load : Me S View → ℕ → ℕ → Me S View
  with_load me k n = on_found n me (record (me.0.lane) { phase = Reading (k + 1); got = me.0.lane.got ++ n ∷ [] })

  abbrev pub data_load : Step S → Me S View → ℕ → Me S View → Type 0
  data_load step before n after = (k : ℕ) → before.0.lane.phase ≡ Reading k → after ≡ with_load before k n

  -- after the reader word is cleared: a read whose entry moved is given up, and one that has its
  -- words is answered
  abbrev pub given_up : Me S View → Me S View
  given_up me = on me (record (me.0.lane) { phase = Idle })

  abbrev pub answered_with_words : Me S View → Me S View
  answered_with_words me = on_entered (read me.0.number me.0.lane (cell.Bytes me.0.lane.got)) (on me (record (answered me.0.number me.0.lane (cell.Bytes me.0.lane.got)) { got = [] }))

  abbrev pub rtt_clear : Step S → Me S View → ℕ → Me S View → Type 0
  rtt_clear step before n after =
      (before.0.lane.phase ≡ Moved → after ≡ given_up before)
      × ((k : ℕ) → before.0.lane.phase ≡ Reading k → after ≡ answered_with_words before)

-- ---- the steps that tell a call

abbrev pub lock_take : Step Call → Me Call View → ℕ → Me Call View → Type 0
lock_take step before n after = (t : Call) → step.said ≡ some t → (n ≡ 0 → after ≡ locked t before) × (n ≢ 0 → (after ≡ missed n before) × (n ≤ before.0.shape.lanes) × (n ≤ 2 ^ 30))

abbrev pub read_begin : Step Call → Me Call View → ℕ → Me Call View → Type 0
read_begin step before n after = (t : Call) → step.said ≡ some t → after ≡ called t before
