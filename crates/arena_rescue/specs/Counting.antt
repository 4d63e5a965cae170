-- What a rescue asks before it looks at single sectors: whether a word of an area is bad, and which blocks were counted more than once.
use Rattle.std.specs.Prelude.{◌≡◌, ℕ, ◌+◌, ◌*◌, ◌/◌, ◌<◌, nat_lt, min, length, Bool, not, ◌&&◌, List, map, slice_index, Option}
use Rattle.std.specs.List.{filter_map, list_any, range_with_len}
use Rattle.arena_layout.specs.declared.layout.Layout.{Layout}
use Rattle.map_table.specs.Entry.{entry_of}
use Rattle.map_table.specs.Blocks.{count_of}
use Rattle.arena_rescue.specs.declared.loss.Loss.{Loss}
use Rattle.arena_rescue.specs.Rescue.{loss_by, rescued_entry}

-- no word of the data area and of the map area is bad; `at` is the arena's first word in the namespace, of whose words `bad` speaks
unfoldable pub are_sound : Layout → (ℕ → Bool) → ℕ → Bool
are_sound l bad at =
    not (list_any bad (range_with_len (at + l.data_off / 8) (l.internal * (l.inner / 8))))
    && not (list_any bad (range_with_len (at + l.map_off / 8) ((l.external + 1) / 2)))

-- entry b of the counts says how often block b was named
abbrev pub counted_twice : List ℕ → ℕ → Bool
counted_twice counts block = nat_lt 1 (slice_index counts block)

-- the counts of the blocks below n, of which 2 stands for every number above 1, are those of these names
abbrev pub IsCountOf : ℕ → List ℕ → List ℕ → Type 0
IsCountOf n counts named = (block : ℕ) → block < n → min 2 (slice_index counts block) ≡ min 2 (count_of block named)

-- why a sector is lost, by which blocks are named twice
abbrev pub lost_by : Layout → (ℕ → Bool) → (ℕ → Bool) → List ℕ → ℕ → Option Loss
lost_by l bad twice entries sector = loss_by l bad twice sector (entry_of (slice_index entries sector) sector)

-- the lost ones among the first n sectors
abbrev pub losses_to : Layout → (ℕ → Bool) → (ℕ → Bool) → List ℕ → ℕ → List Loss
losses_to l bad twice entries n = filter_map (lost_by l bad twice entries) (range_with_len 0 n)

-- all entries, with those of lost sectors replaced
abbrev pub rescued_to : Layout → (ℕ → Bool) → (ℕ → Bool) → List ℕ → List ℕ
rescued_to l bad twice entries = map (λ sector. rescued_entry (lost_by l bad twice entries sector) (slice_index entries sector)) (range_with_len 0 (length entries))
