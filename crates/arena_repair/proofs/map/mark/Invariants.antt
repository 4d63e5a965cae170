use Rattle.std.proofs.Common.{◌≡◌, ℕ, ltb, cond, length, get_or}
use Rattle.arena_check.specs.Check.{in_arena}
use Rattle.arena_repair.specs.Repair.{marked_entry}
use Rattle.arena_repair.proofs.map.mark.Given as goal

-- the entries of the sectors before this one are marked
abbrev pub invariant-loop-sector : goal.invariant-loop-sector
invariant-loop-sector g l =
    (length l.entries ≡ length l.initial.entries)
    × ((i : ℕ) → get_or l.entries i 0
    ≡ cond (ltb i l.sector) (marked_entry l.layout (in_arena l.at (g.B.BadWords.bad l.bad)) i (get_or l.initial.entries i 0)) (get_or l.initial.entries i 0))
