-- The words of an arena: UEFI 2.10, section 6.2 (BTT data structures). Words are counted from the arena's first one.
use Rattle.std.specs.Prelude.{◌≡◌, ℕ, ◌+◌, ◌*◌, ◌/◌, ◌<◌, List, map, slice_index}
use Rattle.std.specs.List.{range_with_len}
use Rattle.arena_layout.specs.declared.layout.Layout.{Layout}
use Rattle.arena_layout.specs.Layout.{IsLayout}

-- a word of the info block, word k of block b, the map word of entries 2w and 2w + 1, word k of a lane's log group, a word of the
-- backup of the info block
pub data Place : Type 0 where
  info_word : ℕ → Place
  block_word : ℕ → ℕ → Place
  map_word : ℕ → Place
  log_word : ℕ → ℕ → Place
  backup_word : ℕ → Place

-- the places in an arena of this layout
abbrev pub IsPlace : Layout → Place → Type 0
IsPlace l (info_word k) = k < 512
IsPlace l (block_word b k) = (b < l.internal) × (k < l.inner / 8)
IsPlace l (map_word w) = 2 * w < l.external
IsPlace l (log_word lane k) = (lane < l.lanes) × (k < 8)
IsPlace l (backup_word k) = k < 512

-- the word at a place
abbrev pub word_of : Layout → Place → ℕ
word_of l (info_word k) = k
word_of l (block_word b k) = l.data_off / 8 + (b * (l.inner / 8) + k)
word_of l (map_word w) = l.map_off / 8 + w
word_of l (log_word lane k) = l.flog_off / 8 + (8 * lane + k)
word_of l (backup_word k) = l.info_off / 8 + k

-- word i of an arena is at this place
pub record IsAt (l : Layout) (place : Place) (i : ℕ) : Type 0 where
  pub there : IsPlace l place
  pub is : word_of l place ≡ i

-- a law: no two places share a word
abbrev pub PlacesApart : Type 0
PlacesApart = (l : Layout) → IsLayout l → (p q : Place) (i : ℕ) → IsAt l p i → IsAt l q i → p ≡ q

-- a law: all places lie inside the arena
abbrev pub PlacesInside : Type 0
PlacesInside = (l : Layout) → IsLayout l → (p : Place) (i : ℕ) → IsAt l p i → i < l.size / 8

-- ---- the words at the places

abbrev pub value_at : Layout → List ℕ → Place → ℕ
value_at l words place = slice_index words (word_of l place)

-- the first `count` words of a block
abbrev pub block_words : Layout → List ℕ → ℕ → ℕ → List ℕ
block_words l words b count = map (λ k. value_at l words (block_word b k)) (range_with_len 0 count)

-- the eight words of a lane's group
abbrev pub group_words : Layout → List ℕ → ℕ → List ℕ
group_words l words lane = map (λ k. value_at l words (log_word lane k)) (range_with_len 0 8)
