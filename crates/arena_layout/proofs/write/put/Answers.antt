use Rattle.std.proofs.Common.{◌+◌, ◌-◌, length, arith, ap}
use Rattle.std.proofs.lemmas.Slice.{drop-put_mid}
use Rattle.arena_layout.proofs.write.put.Goals as goal

pub returns-clause-back : goal.returns-clause-back
returns-clause-back c = λ n le.
    drop-put_mid c.args.at (c.args.at + length c.args.bytes.now - c.args.at) c.args.into.now c.copy_from_slice.new.self n
    (omega arith) (omega arith) (omega (arith, ap length c.copy_from_slice.ensures.after))
