-- For how many more entries of the journal each session has room.
use Rattle.std.specs.Prelude.{ℕ, ◌+◌, ◌-◌, max, List, map, length, slice_index_or, slice_set}
use Rattle.std.specs.List.{range_with_len}

-- the room of a session; none has one that isn't in the list
abbrev pub room_of : List ℕ → ℕ → ℕ
room_of room session = slice_index_or room session 0

-- so many more for each session
abbrev pub with_room : List ℕ → List ℕ → List ℕ
with_room room calls = map (λ session. room_of room session + room_of calls session) (range_with_len 0 (max (length room) (length calls)))

-- one less for a session
abbrev pub taken : List ℕ → ℕ → List ℕ
taken room session = slice_set room session (room_of room session - 1)
