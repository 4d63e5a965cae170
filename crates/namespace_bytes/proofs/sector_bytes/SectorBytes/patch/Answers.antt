use Rattle.std.proofs.Common.{◌-◌, length, take, drop, refl, arith}
use Rattle.namespace_bytes.specs.SectorBytes.{sector_byte}
use Rattle.namespace_bytes.proofs.Patched.{all_put, patch_more}
use Rattle.namespace_bytes.proofs.sector_bytes.SectorBytes.patch.Goals as goal

pub loop-done-preserved : goal.loop-done-preserved
loop-done-preserved c =
    let more = patch_more (λ _ i old. sector_byte c.args.self.now.links c.args.self.now.bytes i old) 0 c.args.from c.loop-done.done c.put_run-done.result c.args.piece.now c.loop-done.piece
    (take (length c.loop-done.piece - c.loop-done.done) (drop c.loop-done.done c.loop-done.piece)) c.put_run-done.new.piece
    c.loop-done.invariant.below c.loop-done.invariant.put refl c.put_run-done.ensures.fits c.put_run-done.ensures.put in
    record { below = more.0; put = more.1 }

pub returns : goal.returns
returns c = record {
  put = all_put (λ _ i old. sector_byte c.args.self.now.links c.args.self.now.bytes i old) 0 c.args.from c.loop-done.done c.args.piece.now c.loop-done.piece c.loop-done.invariant.below c.loop-done.invariant.put
      (omega (arith, c.loop-done-test.false, c.loop-done.auto.piece));
}
