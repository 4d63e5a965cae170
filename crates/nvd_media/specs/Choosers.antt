-- How choosers answer: this project's rules.
use Rattle.std.specs.Prelude.{ℕ, ◌+◌, ◌*◌, ◌%◌, ◌^◌, nat_le, Bool, false, List, slice_index_or}

-- the generator's next state: x * 6364136223846793005 + 1442695040888963407 modulo 2^64
abbrev pub next_of : ℕ → ℕ
next_of x = (x * 6364136223846793005 + 1442695040888963407) % 2 ^ 64

-- whether bit 63 is 1
abbrev pub high_bit : ℕ → Bool
high_bit x = nat_le (2 ^ 63) x

-- the answer at a place of the list, false past its end
abbrev pub list_answer : List Bool → ℕ → Bool
list_answer answers place = slice_index_or answers place false
