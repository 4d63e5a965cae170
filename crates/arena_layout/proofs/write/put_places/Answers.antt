use Rattle.std.proofs.Common.{take}
use Rattle.std.specs.Int.{w64, to_le_bytes}
use Rattle.arena_layout.proofs.Writing.{five}
use Rattle.arena_layout.proofs.write.put_places.Goals as goal

pub returns-clause-front : goal.returns-clause-front
returns-clause-front c =
    five (take 80 c.args.into.now)
    (to_le_bytes w64 c.args.next) (to_le_bytes w64 c.args.layout.now.data_off) (to_le_bytes w64 c.args.layout.now.map_off)
    (to_le_bytes w64 c.args.layout.now.flog_off) (to_le_bytes w64 c.args.layout.now.info_off)
    (take 88 c.put_u64.new.into) (take 96 c.put_u64-2.new.into) (take 104 c.put_u64-3.new.into) (take 112 c.put_u64-4.new.into) (take 120 c.put_u64-5.new.into)
    c.put_u64.ensures.front c.put_u64-2.ensures.front c.put_u64-3.ensures.front c.put_u64-4.ensures.front c.put_u64-5.ensures.front
