use Rattle.std.proofs.Common.{◌≡◌, ◌/◌, ℕ, List}
use Rattle.arena_open.specs.Reading.{groups_in}
use Rattle.arena_open.proofs.Groups.{with_front, from_lane}
use Rattle.namespace_words.specs.Source.{AreBytesOf}
use Rattle.namespace_words.proofs.arenas.groups_of.Given as goal

-- the groups so far, with the rest still to be read, decide as the whole does
abbrev pub invariant-loop-lane : goal.invariant-loop-lane
invariant-loop-lane l =
    (words : List ℕ) → AreBytesOf words (l.layout.flog_off / 8) l.log → groups_in l.layout words ≡ with_front l.groups (from_lane l.layout words l.lane l.layout.lanes)
