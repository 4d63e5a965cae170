-- Worked rows, computed: how many steps a format takes.
use Rattle.std.proofs.Common.{◌≡◌, ℕ, [], refl}
use Rattle.arena_layout.specs.Plan.{plan_of, available_of, whole_size, log_size, inner_of, internal_of, map_size}
use Rattle.arena_open.specs.Format.{format_count}
use Rattle.namespace_map.specs.declared.commands.Named.TheVariants as named
use Rattle.namespace_map.specs.declared.commands.Make.TheVariants.{Sector}
use Rattle.namespace_map.specs.declared.commands.CreateSpec.{CreateSpec}
use Rattle.sector_namespaces.specs.Creation.{layout_for}

abbrev asked : ℕ → ℕ → ℕ → CreateSpec
asked size sector lanes = record { uuid = []; name = named.Good []; region = 0; size = size; make = Sector sector lanes }

pub small : format_count (layout_for (asked 16777216 512 256)) ≡ 38912
unfolding plan_of available_of whole_size log_size inner_of internal_of map_size
small = refl

pub greater : format_count (layout_for (asked 33554432 512 256)) ≡ 71680
unfolding plan_of available_of whole_size log_size inner_of internal_of map_size
greater = refl

-- sectors of 4,096 bytes have a shorter map, and one lane a log of one page
pub long_sectors : format_count (layout_for (asked 16777216 4096 1)) ≡ 7168
unfolding plan_of available_of whole_size log_size inner_of internal_of map_size
long_sectors = refl
