-- Flags in the bits of words.
use Rattle.std.specs.Prelude.{ℕ, ◌/◌, ◌%◌, ◌==◌, Bool, List, map, slice_index}
use Rattle.std.specs.List.{range_with_len}
use Rattle.std.specs.Int.{bit_at}

-- flag i is bit i mod 64 of word i / 64
abbrev pub flag_at : List ℕ → ℕ → Bool
flag_at words i = bit_at (slice_index words (i / 64)) (i % 64) == 1

abbrev pub flags_of : List ℕ → ℕ → List Bool
flags_of words count = map (flag_at words) (range_with_len 0 count)
