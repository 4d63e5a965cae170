-- A caller's part of the register.
use Rattle.std.specs.Prelude.{ℕ, ◌-◌, List, [], ◌∷◌, ◌++◌, slice_index}
use Rattle.turn_callers.specs.declared.register.RegisterEntry.{RegisterEntry}
use Rattle.turn_callers.specs.declared.register.Share.{Share}
use Rattle.turn_callers.specs.Replay.{entries_by}

abbrev pub share : List RegisterEntry → ℕ → Share
share es room = record { entries = es; room = room }

-- the caller's entries, and the room that is left for more of them
abbrev pub share_at : List RegisterEntry → List ℕ → ℕ → Share
share_at journal rooms q = share (entries_by q journal) (slice_index rooms q)

-- one entry more, and room for one less
abbrev pub with_entry : Share → RegisterEntry → Share
with_entry s e = share (s.entries ++ e ∷ []) (s.room - 1)
