-- The layout of a new arena: this project's rule, which is Linux's (alloc_arena in drivers/nvdimm/btt.c).
use Rattle.std.specs.Prelude.{ℕ, ◌+◌, ◌-◌, ◌*◌, ◌/◌, nat_lt, nat_le, Bool, not, ◌&&◌, List, [], ◌∷◌, Result}
use Rattle.nvd_words.specs.Checks.{checked}
use Rattle.arena_layout.specs.declared.layout.Layout.{Layout}
use Rattle.arena_layout.specs.declared.layout.LayoutFault.{LayoutFault}
use Rattle.arena_layout.specs.declared.layout.LayoutFault.TheVariants.{Sector, Free, TooSmall, TooLarge}
use Rattle.arena_layout.specs.Layout.{is_sector, least_size, greatest_size}

abbrev pub round_up : ℕ → ℕ → ℕ
round_up unit n = (n + (unit - 1)) / unit * unit

-- the arena's size in whole pages
unfoldable pub whole_size : ℕ → ℕ
whole_size size = size / 4096 * 4096

-- the bytes of the log
unfoldable pub log_size : ℕ → ℕ
log_size lanes = round_up 4096 (64 * lanes)

-- the bytes left for the blocks and the map, besides the two info blocks and the log
unfoldable pub available_of : ℕ → ℕ → ℕ
available_of size lanes = whole_size size - 8192 - log_size lanes

-- the bytes of a block
unfoldable pub inner_of : ℕ → ℕ
inner_of sector = round_up 64 sector

-- the number of blocks: each takes its bytes and a map entry, and one page is reserved for rounding up the map
unfoldable pub internal_of : ℕ → ℕ → ℕ
internal_of available sector = (available - 4096) / (inner_of sector + 4)

-- the bytes of the map
unfoldable pub map_size : ℕ → ℕ
map_size external = round_up 4096 (4 * external)

-- the blocks follow the first info block; the map, the log and the other info block are at the end
unfoldable pub plan_of : ℕ → ℕ → ℕ → Layout
plan_of size sector lanes =
    let available = available_of size lanes in
    let internal = internal_of available sector in
    let external = internal - lanes in
    let map_off = 4096 + available - map_size external in
    let flog_off = map_off + map_size external in
    record {
      size = flog_off + log_size lanes + 4096;
      sector = sector;
      inner = inner_of sector;
      external = external;
      internal = internal;
      lanes = lanes;
      data_off = 4096;
      map_off = map_off;
      flog_off = flog_off;
      info_off = flog_off + log_size lanes;
    }

unfoldable pub is_lane_count : ℕ → Bool
is_lane_count lanes = nat_le 1 lanes && nat_le lanes 256

-- the planned layout, or the first check that fails
abbrev pub plan_checks : ℕ → ℕ → ℕ → List (LayoutFault × Bool)
plan_checks size sector lanes =
    (Sector sector, not (is_sector sector))
    ∷ (Free lanes, not (is_lane_count lanes))
    ∷ (TooSmall size, nat_lt size least_size)
    ∷ (TooLarge size, nat_lt greatest_size size)
    ∷ []

abbrev pub planned : ℕ → ℕ → ℕ → Result Layout LayoutFault
planned size sector lanes = checked (plan_of size sector lanes) (plan_checks size sector lanes)
