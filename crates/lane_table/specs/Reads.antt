-- What a read does to its seat, to its fuse, and to the room for the sector's words.
use Rattle.std.specs.Prelude.{◌≡◌, ◌≢◌, ⊤, false, ℕ, ◌+◌, ◌/◌, ◌^◌, ◌<◌, ◌≤◌, List, [], ◌∷◌, ◌++◌, suc, length, take, drop, replicate, vec_len}
use Rattle.atomic_table.specs.Seated.{TableId}
use Rattle.atomic_table.specs.Table.{Me}
use Rattle.map_table.specs.declared.kinds.Kind.{Kind}
use Rattle.map_table.specs.declared.kinds.Kind.TheVariants as kind
use Rattle.map_table.specs.Entry.{entry_in}
use Rattle.arena_open.specs.declared.cell.Cell.{Cell}
use Rattle.arena_open.specs.declared.cell.Cell.TheVariants as cell
use Rattle.arena_open.specs.declared.cell.CellKind.{CellKind}
use Rattle.arena_open.specs.declared.cell.CellKind.TheVariants as cell_kind
use Rattle.lane_core.specs.declared.lane.Lane.{Lane}
use Rattle.lane_core.specs.declared.phase.Phase.{Phase}
use Rattle.lane_core.specs.declared.phase.Phase.TheVariants.{Idle, Called, Reading}
use Rattle.lane_core.specs.declared.shape.Shape.{Shape}
use Rattle.lane_core.specs.Areas.{kind_in}
use Rattle.lane_core.specs.Cut.{is_open}
use Rattle.lane_core.specs.Machine.{read}
use Rattle.lane_core.specs.Places.{word_of, SeenData, SeenMap, Reader}
use Rattle.lane_table.specs.declared.fuse.Fuse.{Fuse}
use Rattle.lane_table.specs.declared.loading.Found.{Found}
use Rattle.lane_table.specs.declared.loading.Found.TheVariants as found
use Rattle.lane_table.specs.declared.loading.ReadFate.{ReadFate}
use Rattle.lane_table.specs.declared.loading.ReadWords.{ReadWords}
use Rattle.lane_table.specs.declared.loading.ReadFate.TheVariants as fate
use Rattle.lane_table.specs.declared.log.LaneLog.{LaneLog}
use Rattle.lane_table.specs.declared.log.LoggedAct.TheVariants as logged
use Rattle.lane_table.specs.declared.log.LoggedCall.{LoggedCall}
use Rattle.lane_table.specs.declared.table.Call.{Call}
use Rattle.lane_table.specs.declared.table.View.{View}
use Rattle.lane_table.specs.Conditions.{IsWord}
use Rattle.lane_table.specs.Fuse.{Fell, Burnt}
use Rattle.lane_table.specs.Told.{IsAfter, IsAfterEntry, answered, called, looked_at}

-- the words of a read of a sector by lane `number`, and of this block
pub record AreReadWords (table : TableId) (x : Shape) (number sector block : ℕ) (w : ReadWords) : Type 0 where
  pub reader : IsWord table x w.reader (Reader number)
  pub map : IsWord table x w.map (SeenMap (sector / 2))
  pub first : w.block ≡ word_of x (SeenData block 0)
  pub last : w.block + x.width ≤ table.words
  pub few : table.words < 2 ^ 60

-- what an entry says: zeros, bad, or the block that has the bytes
abbrev pub found_by : Kind → ℕ → Found
found_by kind.Zero block = found.Zeros
found_by kind.Bad block = found.Bad
found_by kind.Initial block = found.Block block
found_by kind.Normal block = found.Block block

-- the cell of this kind with these words
abbrev pub cell_of_kind : CellKind → List ℕ → Cell
cell_of_kind cell_kind.Bytes words = cell.Bytes words
cell_of_kind cell_kind.Bad words = cell.Bad

-- the lane that reads k words of its block into `into`, and the lane that is answered with them
abbrev pub after_loads : List ℕ → ℕ → Lane → Lane
after_loads into k p = record p { phase = Reading k; got = take k into }

abbrev pub after_read : ℕ → Lane → List ℕ → Lane
after_read l p words = record (answered l p (cell.Bytes words)) { got = [] }

-- what a read that stops in this phase leaves in the room: the words that it loaded, and behind
-- them what was there
abbrev pub room_left : Phase → List ℕ → List ℕ → List ℕ
room_left (Reading k) got old = got ++ drop k old
room_left _ got old = old

-- the lane's call, as a read begins
abbrev pub calling : Call → Lane → Lane
calling t p = record p { phase = Called; tag = t.tag; sector = t.sector }

module _ {S : Type 0} (me me' : Me S View) (old new : List ℕ) where
  -- the first n words were loaded
  abbrev pub LoadedFirst : ℕ → Type 0
  LoadedFirst n = (n ≤ length old) × (length new ≡ length old) × IsAfter n me (after_loads new n me.0.lane) me' × (drop n new ≡ drop n old)

module _ {S : Type 0} (me me' : Me S View) (a b : Fuse) (old new : List ℕ) where
  -- how many words were loaded: all, or as many as the fuse had steps
  abbrev pub Loaded : ℕ → Type 0
  Loaded n = (n ≤ length old) × IsAfter n me (after_loads new n me.0.lane) me' × (new ≡ take n new ++ drop n old) × (n ≡ length old → Fell n a b) × (n < length old → Burnt n a b)

  -- the fuse had n steps: the lane stopped before it was answered, and no log entry of it is stored
  abbrev pub Stops : ℕ → Type 0
  Stops most = (n : ℕ) × (p : Lane) × (n < most) × IsAfter n me p me' × (p.log ≡ me.0.lane.log) × (is_open p.phase ≡ false) × (new ≡ room_left p.phase p.got old) × Burnt n a b

  -- From Looking on. Got: the words of the block. Moved: the last two map words that were found
  -- have different entries for the sector, and the reader word is clear again
  abbrev pub BlockEnds : ReadFate → Type 0
  BlockEnds (fate.Got k) = (k ≡ cell_kind.Bytes) × IsAfterEntry (me.0.shape.width + 3) me (after_read me.0.number me.0.lane new) (read me.0.number me.0.lane (cell.Bytes new)) me' × Fell (me.0.shape.width + 3) a b
  BlockEnds (fate.Moved e f) =
      (e ≡ entry_in me.0.lane.loaded me.0.lane.sector) × (f ≡ entry_in me'.0.count.last me.0.lane.sector) × (e ≢ f)
      × IsAfter 3 me (record (me.0.lane) { phase = Idle }) me' × (me'.0.count.before ≡ me.0.count.last) × (new ≡ old) × Fell 3 a b
  BlockEnds fate.Cut = Stops (me.0.shape.width + 3)

  -- a read that found an entry of this kind in the map word w
  abbrev pub Gets : Call → ℕ → Kind → CellKind → Type 0
  Gets t w kind.Zero k = (k ≡ cell_kind.Bytes) × (new ≡ replicate me.0.shape.width 0) × (me' ≡ looked_at kind.Zero w (called t me)) × Fell 1 a b
  Gets t w kind.Bad k = (k ≡ cell_kind.Bad) × (new ≡ old) × (me' ≡ looked_at kind.Bad w (called t me)) × Fell 1 a b
  Gets t w kind.Initial k = (k ≡ cell_kind.Bytes) × IsAfterEntry (me.0.shape.width + 4) me (after_read me.0.number (record (calling t me.0.lane) { loaded = w }) new) (read me.0.number (calling t me.0.lane) (cell.Bytes new)) me' × Fell (me.0.shape.width + 4) a b
  Gets t w kind.Normal k = (k ≡ cell_kind.Bytes) × IsAfterEntry (me.0.shape.width + 4) me (after_read me.0.number (record (calling t me.0.lane) { loaded = w }) new) (read me.0.number (calling t me.0.lane) (cell.Bytes new)) me' × Fell (me.0.shape.width + 4) a b

  -- Got: one step if the entry says zeros or bad, else four and one for each word. Moved: four
  -- steps, and the two map words that were found have different entries for the sector. Cut: as
  -- many steps as the fuse had
  abbrev pub ReadEnds : Call → ReadFate → Type 0
  ReadEnds t (fate.Got k) = (w : ℕ) × Gets t w (kind_in (entry_in w t.sector)) k
  ReadEnds t (fate.Moved e f) =
      (e ≡ entry_in me'.0.count.before t.sector) × (f ≡ entry_in me'.0.count.last t.sector) × (e ≢ f)
      × IsAfter 4 me (record (calling t me.0.lane) { phase = Idle; loaded = me'.0.count.before }) me' × (new ≡ old) × Fell 4 a b
  ReadEnds t fate.Cut = Stops (me.0.shape.width + 4)

module _ {S : Type 0} (me me' : Me S View) (new : List ℕ) where
  -- a read that got a cell of this kind was answered with it
  abbrev pub Answers : Call → ReadFate → Type 0
  Answers t (fate.Got k) = (n m : ℕ) × (g : List ℕ) × IsAfterEntry n me (record (answered me.0.number (calling t me.0.lane) (cell_of_kind k new)) { loaded = m; got = g }) (read me.0.number (calling t me.0.lane) (cell_of_kind k new)) me'
  Answers t (fate.Moved e f) = ⊤
  Answers t fate.Cut = ⊤

-- a read that found a cell of this kind, as it stands in its lane's log
abbrev pub read_logged : Call → CellKind → LoggedCall
read_logged t k = record { tag = t.tag; sector = t.sector; act = logged.Read k }

-- What a read leaves in its lane's log. Got: one call more. Moved: what was there. Cut: what was there
-- stands first
abbrev pub LogEnds : Call → LaneLog → LaneLog → ReadFate → Type 0
LogEnds t a b (fate.Got k) = (b.calls.items ≡ a.calls.items ++ read_logged t k ∷ []) × (suc b.spare ≡ a.spare)
LogEnds t a b (fate.Moved e f) = b ≡ a
LogEnds t a b fate.Cut = take (vec_len a.calls) b.calls.items ≡ a.calls.items
