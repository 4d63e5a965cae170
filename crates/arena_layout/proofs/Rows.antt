-- Worked examples, computed on the definitions.
use Rattle.std.proofs.Common.{◌≡◌, Result, Ok, Err, true, false, refl}
use Rattle.nvd_words.specs.Checks.{checked}
use Rattle.arena_layout.specs.declared.layout.Layout.{Layout}
use Rattle.arena_layout.specs.declared.layout.LayoutFault.{LayoutFault}
use Rattle.arena_layout.specs.declared.layout.LayoutFault.TheVariants.{Sector, Free, TooSmall}
use Rattle.arena_layout.specs.Layout.{is_sector, has_order, has_size, has_next}
use Rattle.arena_layout.specs.Info.{is_version}
use Rattle.arena_layout.specs.Plan.{whole_size, log_size, available_of, inner_of, internal_of, map_size, plan_of, is_lane_count, planned}

-- Linux's layout of 32 MiB with sectors of 512 bytes
abbrev thirty_two : Layout
thirty_two = record {
  size = 33554432;
  sector = 512;
  inner = 512;
  external = 64716;
  internal = 64972;
  lanes = 256;
  data_off = 4096;
  map_off = 33271808;
  flog_off = 33533952;
  info_off = 33550336;
}

-- Linux's layout of 16 MiB
abbrev sixteen : Layout
sixteen = record {
  size = 16777216;
  sector = 512;
  inner = 512;
  external = 32202;
  internal = 32458;
  lanes = 256;
  data_off = 4096;
  map_off = 16625664;
  flog_off = 16756736;
  info_off = 16773120;
}

-- Linux's layout of 17 MiB with sectors of 4,224 bytes
abbrev seventeen : Layout
seventeen = record {
  size = 17825792;
  sector = 4224;
  inner = 4224;
  external = 3953;
  internal = 4209;
  lanes = 256;
  data_off = 4096;
  map_off = 17788928;
  flog_off = 17805312;
  info_off = 17821696;
}

abbrev laid : Layout → Result Layout LayoutFault
laid l = Ok l

abbrev refused : LayoutFault → Result Layout LayoutFault
refused f = Err f

pub plan_thirty_two : planned 33554432 512 256 ≡ laid thirty_two
unfolding checked is_sector is_lane_count plan_of available_of whole_size log_size inner_of internal_of map_size
plan_thirty_two = refl

pub plan_sixteen : planned 16777216 512 256 ≡ laid sixteen
unfolding checked is_sector is_lane_count plan_of available_of whole_size log_size inner_of internal_of map_size
plan_sixteen = refl

pub plan_seventeen : planned 17825792 4224 256 ≡ laid seventeen
unfolding checked is_sector is_lane_count plan_of available_of whole_size log_size inner_of internal_of map_size
plan_seventeen = refl

pub plan_small : planned 16777215 512 256 ≡ refused (TooSmall 16777215)
unfolding checked is_sector is_lane_count
plan_small = refl

pub plan_odd : planned 16777215 513 0 ≡ refused (Sector 513)
unfolding checked is_sector is_lane_count
plan_odd = refl

pub plan_no_lane : planned 16777215 512 0 ≡ refused (Free 0)
unfolding checked is_sector is_lane_count
plan_no_lane = refl

-- an offset near 2^64 is refused: sums don't wrap
pub far_map : has_order (record thirty_two { map_off = 18446744073709547520 }) ≡ false
unfolding has_order
far_map = refl

pub far_end : has_size (record thirty_two { size = 18446744073709551616; info_off = 18446744073709547520 }) 33554432 ≡ false
unfolding has_size
far_end = refl

-- a next arena needs a byte
pub next_at_end : has_next thirty_two 33554432 33554432 ≡ false
unfolding has_next
next_at_end = refl

pub next_inside : has_next thirty_two 33554432 33554433 ≡ true
unfolding has_next
next_inside = refl

-- two versions, and no mixture of them
pub versions : (is_version 2 0 ≡ true) × (is_version 1 1 ≡ true)
unfolding is_version
versions = (refl, refl)

pub no_versions : (is_version 1 0 ≡ false) × (is_version 2 1 ≡ false) × (is_version 0 0 ≡ false) × (is_version 3 0 ≡ false)
unfolding is_version
no_versions = (refl, refl, refl, refl)
