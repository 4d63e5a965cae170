-- The places of a state's words: a row of the arena's words as they are seen, the same words as
-- they are kept, the reader table and the map locks. A table that lanes share has the same row.
use Rattle.std.specs.Prelude.{◌≡◌, ℕ, ◌+◌, ◌*◌, ◌/◌, ◌%◌, ◌^◌, ◌<◌, ◌≤◌, List, slice_index}
use Rattle.arena_layout.specs.declared.layout.Layout.{Layout}
use Rattle.lane_core.specs.declared.shape.Shape.{Shape}
use Rattle.lane_core.specs.Areas.{Geometry}
use Rattle.lane_core.specs.Machine.{State}

abbrev pub geometry : Shape → Geometry
geometry x = record { width = x.width; sectors = x.sectors; lanes = x.lanes }

-- the shape of a layout
abbrev pub shape_of : Layout → Shape
shape_of l = record {
  width = l.sector / 8;
  sectors = l.external;
  lanes = l.lanes;
  inner = l.inner / 8;
  data_at = l.data_off / 8;
  map_at = l.map_off / 8;
  log_at = l.flog_off / 8;
  total = l.size / 8;
}

-- the areas lie in the arena, one behind another
pub record IsShape (x : Shape) : Type 0 where
  pub wide : x.width ≤ x.inner
  pub blocks : x.data_at + (x.sectors + x.lanes) * x.inner ≤ x.map_at
  pub map : 2 * x.map_at + x.sectors ≤ 2 * x.log_at
  pub log : x.log_at + 8 * x.lanes ≤ x.total
  pub few : x.sectors + x.lanes ≤ 2 ^ 30
  pub short : x.width < 2 ^ 20
  pub small : x.total ≤ 2 ^ 36

-- word k of block b, a map word, words A and B of the half at a side of a lane's group, each seen
-- or kept; a reader word; a lock
pub data Place : Type 0 where
  SeenData : (b k : ℕ) → Place
  KeptData : (b k : ℕ) → Place
  SeenMap : (m : ℕ) → Place
  KeptMap : (m : ℕ) → Place
  SeenA : (l side : ℕ) → Place
  KeptA : (l side : ℕ) → Place
  SeenB : (l side : ℕ) → Place
  KeptB : (l side : ℕ) → Place
  Reader : (l : ℕ) → Place
  Lock : (k : ℕ) → Place

-- the places that a shape has
abbrev pub IsIn : Shape → Place → Type 0
IsIn x (SeenData b k) = (b < x.sectors + x.lanes) × (k < x.width)
IsIn x (KeptData b k) = (b < x.sectors + x.lanes) × (k < x.width)
IsIn x (SeenMap m) = 2 * m < x.sectors
IsIn x (KeptMap m) = 2 * m < x.sectors
IsIn x (SeenA l side) = (l < x.lanes) × (side < 2)
IsIn x (KeptA l side) = (l < x.lanes) × (side < 2)
IsIn x (SeenB l side) = (l < x.lanes) × (side < 2)
IsIn x (KeptB l side) = (l < x.lanes) × (side < 2)
IsIn x (Reader l) = l < x.lanes
IsIn x (Lock k) = k < x.lanes

-- how many words the reader table of this many lanes has: 256 for each group of up to 256 lanes, and
-- a gap of 512 words behind them, so that the locks stand in another page of 4 KiB
abbrev pub reader_words : ℕ → ℕ
reader_words lanes = 256 * ((lanes + 255) / 256) + 512

-- which word of the reader table is a lane's. A line of cache has 8 words, and lanes that run at
-- once have neighbouring numbers: any 32 of these have their words in 32 lines
abbrev pub reader_place : ℕ → ℕ
reader_place l = 256 * (l / 256) + 8 * (l % 32) + l % 256 / 32

-- the word of the row at a place. Half `side` of a group of eight words stands at 2 * side
abbrev pub word_of : Shape → Place → ℕ
word_of x (SeenData b k) = x.data_at + b * x.inner + k
word_of x (KeptData b k) = x.total + (x.data_at + b * x.inner + k)
word_of x (SeenMap m) = x.map_at + m
word_of x (KeptMap m) = x.total + (x.map_at + m)
word_of x (SeenA l side) = x.log_at + 8 * l + 2 * side
word_of x (KeptA l side) = x.total + (x.log_at + 8 * l + 2 * side)
word_of x (SeenB l side) = x.log_at + 8 * l + 2 * side + 1
word_of x (KeptB l side) = x.total + (x.log_at + 8 * l + 2 * side + 1)
word_of x (Reader l) = 2 * x.total + reader_place l
word_of x (Lock k) = 2 * x.total + reader_words x.lanes + k

-- how many words the row has
abbrev pub row_size : Shape → ℕ
row_size x = 2 * x.total + reader_words x.lanes + x.lanes

abbrev pub value_of : State → Place → ℕ
value_of s (SeenData b k) = s.seen.data_at b k
value_of s (KeptData b k) = s.kept.data_at b k
value_of s (SeenMap m) = s.seen.map_at m
value_of s (KeptMap m) = s.kept.map_at m
value_of s (SeenA l side) = s.seen.log_a l side
value_of s (KeptA l side) = s.kept.log_a l side
value_of s (SeenB l side) = s.seen.log_b l side
value_of s (KeptB l side) = s.kept.log_b l side
value_of s (Reader l) = s.readers l
value_of s (Lock k) = s.locks k

-- a row has the words of a state
abbrev pub Shows : Shape → List ℕ → State → Type 0
Shows x words s = (p : Place) → IsIn x p → slice_index words (word_of x p) ≡ value_of s p

-- a law: each place has its own word in the row
pub record PlacesApart (x : Shape) : Type 0 where
  pub apart : (p q : Place) → IsIn x p → IsIn x q → word_of x p ≡ word_of x q → p ≡ q
  pub inside : (p : Place) → IsIn x p → word_of x p < row_size x

abbrev pub PlacesAreApart : Type 0
PlacesAreApart = (x : Shape) → IsShape x → PlacesApart x
