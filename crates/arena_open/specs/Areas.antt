-- The words of a new arena's areas: UEFI 2.10, section 6.2, with this project's values for a new arena.
use Rattle.std.specs.Prelude.{ℕ, ◌+◌, ◌*◌, ◌/◌, ◌%◌, ◌^◌, ◌==◌, nat_lt, if◌then◌else◌, List, map}
use Rattle.std.specs.List.{range_with_len}
use Rattle.arena_layout.specs.declared.layout.Layout.{Layout}
use Rattle.arena_layout.specs.declared.info.Info.{Info}
use Rattle.flog.specs.declared.half.Half.{Half}
use Rattle.flog.specs.declared.group.Group.{Group}
use Rattle.map_table.specs.Entry.{zero_of}

-- a sector reads as zeros and has the block of its own number; after the last sector's entry the map area is zero
abbrev pub new_entry : ℕ → ℕ → ℕ
new_entry external sector = if nat_lt sector external then zero_of sector else 0

-- the word of the entries 2w and 2w + 1
abbrev pub new_map_word : ℕ → ℕ → ℕ
new_map_word external w = new_entry external (2 * w) + 2 ^ 32 * new_entry external (2 * w + 1)

-- `count` words of the map area
abbrev pub new_map : ℕ → ℕ → List ℕ
new_map external count = map (new_map_word external) (range_with_len 0 count)

-- a lane's free block is the one of its own number after the sectors' blocks; its half makes no move
abbrev pub new_half : ℕ → ℕ → Half
new_half external lane = record { lba = lane; old = external + lane; new = external + lane; seq = 1 }

-- the half of side 0 is current
abbrev pub new_group : ℕ → ℕ → Group
new_group external lane = record { side = 0; half = new_half external lane }

-- word k of a lane's group: half 0 is words 0 and 1
abbrev pub new_group_word : ℕ → ℕ → ℕ → ℕ
new_group_word external lane k =
    if k == 0 then lane + 2 ^ 32 * (external + lane) else if k == 1 then external + lane + 2 ^ 32 * 1 else 0

-- word j of the log area; after the last lane's group it is zero
abbrev pub new_log_word : ℕ → ℕ → ℕ → ℕ
new_log_word external lanes j = if nat_lt (j / 8) lanes then new_group_word external (j / 8) (j % 8) else 0

-- `count` words of the log area
abbrev pub new_log : ℕ → ℕ → ℕ → List ℕ
new_log external lanes count = map (new_log_word external lanes) (range_with_len 0 count)

-- the info of a new arena, the only one of its namespace: version 2.0
abbrev pub new_info : Layout → List ℕ → List ℕ → Info
new_info l uuid parent = record { uuid = uuid; parent = parent; flags = 0; major = 2; minor = 0; next = 0; layout = l }
