-- Which reply fits which operation, which operation fits an arena, and what an operation with its reply is in the arena's history.
use Rattle.std.specs.Prelude.{ℕ, Bool, true, false, ◌&&◌, ◌==◌, length, nat_lt}
use Rattle.arena_open.specs.declared.cell.Cell.TheVariants as cell
use Rattle.lane_core.specs.declared.history.Act.{Act}
use Rattle.lane_core.specs.declared.history.Act.TheVariants as act
use Rattle.bio_queue.specs.declared.op.Op.{Op}
use Rattle.bio_queue.specs.declared.op.OpKind.{OpKind}
use Rattle.bio_queue.specs.declared.op.OpReply.{OpReply}
use Rattle.bio_queue.specs.declared.op.Op.TheVariants as op
use Rattle.bio_queue.specs.declared.op.OpKind.TheVariants as kind
use Rattle.bio_queue.specs.declared.op.OpReply.TheVariants as reply

abbrev pub kind_of : Op → OpKind
kind_of (op.Read sector) = kind.Read
kind_of (op.Write sector words) = kind.Write

-- a read is replied to by a cell, and a write by none
abbrev pub fits : OpKind → OpReply → Bool
fits kind.Read (reply.Got c) = true
fits kind.Read reply.Wrote = false
fits kind.Write (reply.Got c) = false
fits kind.Write reply.Wrote = true

-- it fits an arena with so many sectors of so many words
abbrev pub fits_in : ℕ → ℕ → Op → Bool
fits_in sectors width (op.Read sector) = nat_lt sector sectors
fits_in sectors width (op.Write sector words) = nat_lt sector sectors && (length words == width)

abbrev pub sector_of : Op → ℕ
sector_of (op.Read sector) = sector
sector_of (op.Write sector words) = sector

-- What it did to its sector: it was read as the cell of its reply, or its words were written. A read that no cell replied to doesn't come.
abbrev pub act_of : Op → OpReply → Act
act_of (op.Read sector) (reply.Got c) = act.Read c
act_of (op.Read sector) reply.Wrote = act.Read cell.Bad
act_of (op.Write sector words) r = act.Write words
