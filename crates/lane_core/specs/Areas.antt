-- The words of an arena that lanes load and store, by what they mean: UEFI 2.10, section 6.2 (BTT
-- data structures).
use Rattle.std.specs.Prelude.{◌≡◌, ℕ, ◌+◌, ◌*◌, ◌/◌, ◌%◌, ◌^◌, ◌<◌, ◌≤◌, ◌==◌, Bool, true, false, if◌then◌else◌, ◌⊎◌}
pub use Rattle.flog.specs.declared.half.Half.{Half}
use Rattle.map_table.specs.declared.kinds.Kind.{Kind}
use Rattle.map_table.specs.declared.kinds.Kind.TheVariants as kind
use Rattle.map_table.specs.Entry.{entry_of, entry_in, normal_of}
use Rattle.nvd_words.specs.Ring.{successor_of}

-- the sizes of an arena
pub record Geometry : Type 0 where
  pub width : ℕ  -- words of a sector
  pub sectors : ℕ
  pub lanes : ℕ

-- each sector has a block, and so has each lane
abbrev pub blocks_of : Geometry → ℕ
blocks_of g = g.sectors + g.lanes

pub record IsGeometry (g : Geometry) : Type 0 where
  pub width : 0 < g.width
  pub lanes : 0 < g.lanes
  pub fits : g.sectors + g.lanes ≤ 2 ^ 30

-- ---- one set of words: those seen, those kept, or those after a power cut

pub record Areas : Type 0 where
  pub data_at : ℕ → ℕ → ℕ  -- word k of block b
  pub map_at : ℕ → ℕ  -- the map word of the entries 2m and 2m + 1
  pub log_a : ℕ → ℕ → ℕ  -- of a lane and a side: word A of the half, Lba and OldMap
  pub log_b : ℕ → ℕ → ℕ  -- word B, NewMap and Seq

-- f, but v at i
unfoldable pub put : {A : Type 0} → (ℕ → A) → ℕ → A → ℕ → A
put f i v k = if k == i then v else f k

abbrev pub store_data : Areas → ℕ → ℕ → ℕ → Areas
store_data i b k v = record i { data_at = put i.data_at b (put (i.data_at b) k v) }

abbrev pub store_map : Areas → ℕ → ℕ → Areas
store_map i m v = record i { map_at = put i.map_at m v }

abbrev pub store_a : Areas → ℕ → ℕ → ℕ → Areas
store_a i l side v = record i { log_a = put i.log_a l (put (i.log_a l) side v) }

abbrev pub store_b : Areas → ℕ → ℕ → ℕ → Areas
store_b i l side v = record i { log_b = put i.log_b l (put (i.log_b l) side v) }

-- ---- the map

-- what an entry says: zeros, bad, or the bytes of its block
unfoldable pub kind_in : ℕ → Kind
kind_in e = (entry_of e 0).kind

-- the block that an entry names for its sector, whatever its kind
unfoldable pub block_in : ℕ → ℕ → ℕ
block_in e s = (entry_of e s).block

-- the sector has its block's bytes
abbrev pub has_bytes : Kind → Bool
has_bytes kind.Initial = true
has_bytes kind.Normal = true
has_bytes kind.Zero = false
has_bytes kind.Bad = false

-- the normal entry of a block
unfoldable pub normal : ℕ → ℕ
normal b = normal_of b

abbrev pub entry_at : (ℕ → ℕ) → ℕ → ℕ
entry_at map s = entry_in (map (s / 2)) s

abbrev pub mapped : (ℕ → ℕ) → ℕ → ℕ
mapped map s = block_in (entry_at map s) s

-- ---- the log: a lane's group has two halves of two words

unfoldable pub word_a : ℕ → ℕ → ℕ
word_a lba old = lba + 2 ^ 32 * old

unfoldable pub word_b : ℕ → ℕ → ℕ
word_b new seq = new + 2 ^ 32 * seq

unfoldable pub lba_in : ℕ → ℕ
lba_in a = a % 2 ^ 32

unfoldable pub old_in : ℕ → ℕ
old_in a = a / 2 ^ 32 % 2 ^ 30

unfoldable pub new_in : ℕ → ℕ
new_in b = b % 2 ^ 30

unfoldable pub seq_in : ℕ → ℕ
seq_in b = b / 2 ^ 32

-- the half of two words, field by field as flog's half_of
abbrev pub half_in : ℕ → ℕ → Half
half_in a b = record { lba = lba_in a; old = old_in a; new = new_in b; seq = seq_in b }

unfoldable pub next_seq : ℕ → ℕ
next_seq q = successor_of q

-- b is newer than a, on the ring of 1, 2 and 3; 0 was never written
abbrev pub IsNewer : ℕ → ℕ → Type 0
IsNewer b a = (0 < b) × (b ≤ 3) × ((a ≡ 0) ⊎ ((0 < a) × (a ≤ 3) × (b ≡ next_seq a)))
