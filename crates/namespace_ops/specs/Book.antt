-- A journal with its room.
use Rattle.std.specs.Prelude.{ℕ, ◌+◌, ◌≤◌, ◌<◌, ◌^◌, List, length, sum}
use Rattle.namespace_ops.specs.Entries.{JournalEntry}

-- the entries in their order, and for how many more each session has room
pub record Book : Type 0 where
  pub entries : List JournalEntry
  pub room : List ℕ

-- memory for so many entries is enough for all that may come, and they are fewer than 2^32
pub record IsRoomy (entries : List JournalEntry) (room : List ℕ) (memory : ℕ) : Type 0 where
  pub enough : length entries + sum room ≤ memory
  pub few : length entries + sum room < 2 ^ 32
