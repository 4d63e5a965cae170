use Rattle.std.proofs.Common.{take}
use Rattle.std.specs.Int.{w32, to_le_bytes}
use Rattle.arena_layout.proofs.Writing.{six}
use Rattle.arena_layout.proofs.write.put_counts.Goals as goal

pub returns-clause-front : goal.returns-clause-front
returns-clause-front c =
    six (take 56 c.args.into.now)
    (to_le_bytes w32 c.args.layout.now.sector) (to_le_bytes w32 c.args.layout.now.external) (to_le_bytes w32 c.args.layout.now.inner)
    (to_le_bytes w32 c.args.layout.now.internal) (to_le_bytes w32 c.args.layout.now.lanes) (to_le_bytes w32 4096)
    (take 60 c.put_u32.new.into) (take 64 c.put_u32-2.new.into) (take 68 c.put_u32-3.new.into) (take 72 c.put_u32-4.new.into) (take 76 c.put_u32-5.new.into) (take 80 c.put_u32-6.new.into)
    c.put_u32.ensures.front c.put_u32-2.ensures.front c.put_u32-3.ensures.front c.put_u32-4.ensures.front c.put_u32-5.ensures.front c.put_u32-6.ensures.front
