-- The layout of an arena: UEFI 2.10, section 6.2, BTT Info Block. Sums and products are whole numbers.
use Rattle.std.specs.Prelude.{◌≡◌, ℕ, ◌+◌, ◌*◌, ◌%◌, ◌^◌, ◌≤◌, ◌==◌, nat_lt, nat_le, Bool, ◌&&◌, ◌||◌, IsTrue}
use Rattle.arena_layout.specs.declared.layout.Layout.{Layout}

-- the sector sizes: 512 and 4,096 bytes, plus 0, 8, 64 or 128 bytes (Linux's btt_lbasize_supported)
unfoldable pub is_sector : ℕ → Bool
is_sector bytes = (bytes == 512) || (bytes == 520) || (bytes == 528) || (bytes == 4096) || (bytes == 4104) || (bytes == 4160) || (bytes == 4224)

-- the least and the greatest size of an arena: 16 MiB and 512 GiB
abbrev pub least_size : ℕ
least_size = 16777216

abbrev pub greatest_size : ℕ
greatest_size = 549755813888

-- ---- the layout relation

-- the four areas are inside the arena, in order, disjoint and large enough
pub record IsLayout (l : Layout) : Type 0 where
  pub sector : IsTrue (is_sector l.sector)
  pub inner_whole : l.inner % 64 ≡ 0
  pub inner_enough : l.sector ≤ l.inner
  pub lanes_some : 1 ≤ l.lanes
  pub lanes_few : l.lanes ≤ 256
  pub external_some : 1 ≤ l.external
  pub internal_is : l.internal ≡ l.external + l.lanes
  pub internal_few : l.internal ≤ 2 ^ 30
  pub data_whole : l.data_off % 4096 ≡ 0
  pub map_whole : l.map_off % 4096 ≡ 0
  pub flog_whole : l.flog_off % 4096 ≡ 0
  pub info_whole : l.info_off % 4096 ≡ 0
  pub after_info : 4096 ≤ l.data_off
  pub after_data : l.data_off + l.internal * l.inner ≤ l.map_off
  pub after_map : l.map_off + 4 * l.external ≤ l.flog_off
  pub after_flog : l.flog_off + 64 * l.lanes ≤ l.info_off
  pub size_is : l.size ≡ l.info_off + 4096
  pub size_low : least_size ≤ l.size
  pub size_high : l.size ≤ greatest_size

-- ---- the same as tests, one for each field that a fault can name

unfoldable pub has_sector : Layout → Bool
has_sector l = is_sector l.sector

unfoldable pub has_inner : Layout → Bool
has_inner l = (l.inner % 64 == 0) && nat_le l.sector l.inner

unfoldable pub has_lanes : Layout → Bool
has_lanes l = nat_le 1 l.lanes && nat_le l.lanes 256

unfoldable pub has_blocks : Layout → Bool
has_blocks l = nat_le 1 l.external && (l.internal == l.external + l.lanes) && nat_le l.internal (2 ^ 30)

-- the offsets are multiples of a page
unfoldable pub has_pages : Layout → Bool
has_pages l = (l.data_off % 4096 == 0) && (l.map_off % 4096 == 0) && (l.flog_off % 4096 == 0) && (l.info_off % 4096 == 0)

-- each area ends before the next
unfoldable pub has_order : Layout → Bool
has_order l =
    nat_le 4096 l.data_off && nat_le (l.data_off + l.internal * l.inner) l.map_off
    && nat_le (l.map_off + 4 * l.external) l.flog_off && nat_le (l.flog_off + 64 * l.lanes) l.info_off

-- the size, with `rest` bytes up to the namespace's end
unfoldable pub has_size : Layout → ℕ → Bool
has_size l rest = nat_le least_size l.size && nat_le l.size greatest_size && nat_le l.size rest

-- the offset of the next arena: none, or the end of this one
unfoldable pub has_next : Layout → ℕ → ℕ → Bool
has_next l next rest = (next == 0) || ((next == l.size) && nat_lt next rest)
