-- byteorder and std read the same number.
use Rattle.std.proofs.Common.{◌≡◌, ℕ, List, take, arith}
use Rattle.std.specs.Int.{w16, w32, w64, from_le_bytes}
use Rattle.std.proofs.lemmas.List.{get_or-take}
use Rattle.byteorder.specs.Endian.{little_number}

pub little_two : (xs : List ℕ) → little_number 2 xs ≡ from_le_bytes w16 (take 2 xs)
little_two xs =
    omega (arith, get_or-take 2 xs 0 0 (omega arith), get_or-take 2 xs 1 0 (omega arith))

pub little_four : (xs : List ℕ) → little_number 4 xs ≡ from_le_bytes w32 (take 4 xs)
little_four xs =
    omega (arith, get_or-take 4 xs 0 0 (omega arith), get_or-take 4 xs 1 0 (omega arith), get_or-take 4 xs 2 0 (omega arith), get_or-take 4 xs 3 0 (omega arith))

pub little_eight : (xs : List ℕ) → little_number 8 xs ≡ from_le_bytes w64 (take 8 xs)
little_eight xs =
    omega (
      arith,
      get_or-take 8 xs 0 0 (omega arith),
      get_or-take 8 xs 1 0 (omega arith),
      get_or-take 8 xs 2 0 (omega arith),
      get_or-take 8 xs 3 0 (omega arith),
      get_or-take 8 xs 4 0 (omega arith),
      get_or-take 8 xs 5 0 (omega arith),
      get_or-take 8 xs 6 0 (omega arith),
      get_or-take 8 xs 7 0 (omega arith),
    )
