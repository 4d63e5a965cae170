use Rattle.std.proofs.Common.{◌*◌, length, take, drop, arith}
use Rattle.std.proofs.lemmas.List.FromFn.{fill_by_all}
use Rattle.label_index.specs.Spelling.{number_of_bits}
use Rattle.label_index.proofs.free.FreeList.write.Goals as goal

pub returns : goal.returns
returns c =
    fill_by_all (λ k. number_of_bits (take 8 (drop (8 * k) c.args.self.now))) c.loop-at.into (length c.args.into.now) 0 c.loop-at.auto.into
    (λ k lt. c.loop-at.invariant k (omega (arith, lt, c.loop-at-test.false)))
