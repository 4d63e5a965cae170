-- The sizes that an object of an image set may have: this project's limits. label_index defines those of a label area.
use Rattle.std.specs.Prelude.{ℕ, ◌+◌, ◌%◌, ◌^◌, ◌==◌, nat_le, Bool, ◌&&◌}

-- the firmware's table: at most 1 MiB
abbrev pub is_nfit_size : ℕ → Bool
is_nfit_size bytes = nat_le bytes 1048576

-- the contents of all modules together: at most 16 TiB
abbrev pub most_contents : ℕ
most_contents = 2 ^ 44

-- the contents of one module, after `before` bytes of the modules before it: a positive multiple of 4,096, and at most `most_contents`
-- in all
abbrev pub is_contents_size : ℕ → ℕ → Bool
is_contents_size before bytes = nat_le 1 bytes && (bytes % 4096 == 0) && nat_le (before + bytes) most_contents

-- a list of bad ranges: a multiple of 16, at most 64 KiB
abbrev pub is_bad_size : ℕ → Bool
is_bad_size bytes = (bytes % 16 == 0) && nat_le bytes 65536
