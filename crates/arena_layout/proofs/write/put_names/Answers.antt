use Rattle.std.proofs.Common.{take}
use Rattle.std.specs.Int.{w16, w32, to_le_bytes}
use Rattle.arena_layout.specs.Info.{signature}
use Rattle.arena_layout.proofs.Writing.{six}
use Rattle.arena_layout.proofs.write.put_names.Goals as goal

pub returns-clause-front : goal.returns-clause-front
returns-clause-front c =
    six (take 0 c.args.into.now)
    signature c.args.info.now.uuid c.args.info.now.parent
    (to_le_bytes w32 c.args.info.now.flags) (to_le_bytes w16 c.args.info.now.major) (to_le_bytes w16 c.args.info.now.minor)
    (take 16 c.put.new.into) (take 32 c.put_uuid.new.into) (take 48 c.put_uuid-2.new.into) (take 52 c.put_u32.new.into) (take 54 c.put_u16.new.into) (take 56 c.put_u16-2.new.into)
    c.put.ensures.front c.put_uuid.ensures.front c.put_uuid-2.ensures.front c.put_u32.ensures.front c.put_u16.ensures.front c.put_u16-2.ensures.front
