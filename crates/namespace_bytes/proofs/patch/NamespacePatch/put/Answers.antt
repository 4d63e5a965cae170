use Rattle.std.proofs.Common.{◌-◌, length, take, drop, refl, sym, ◌∙◌, arith}
use Rattle.namespace_bytes.specs.Patching.{byte_patched, patch_on}
use Rattle.namespace_bytes.proofs.Patched.{all_kept, all_put, patch_more}
use Rattle.namespace_bytes.proofs.patch.NamespacePatch.put.Goals as goal

pub loop-done-preserved : goal.loop-done-preserved
loop-done-preserved c =
    let more = patch_more (byte_patched (patch_on c.args.set.now c.args.self.now)) c.args.module c.args.at c.loop-done.done c.put_line-done.result c.args.piece.now c.loop-done.piece
    (take (length c.loop-done.piece - c.loop-done.done) (drop c.loop-done.done c.loop-done.piece)) c.put_line-done.new.piece
    c.loop-done.invariant.below c.loop-done.invariant.put refl c.put_line-done.ensures.fits c.put_line-done.ensures.put in
    record { below = more.0; put = more.1 }

pub returns-after-loop-done : goal.returns-after-loop-done
returns-after-loop-done c =
    all_put (byte_patched (patch_on c.args.set.now c.args.self.now)) c.args.module c.args.at c.loop-done.done c.args.piece.now c.loop-done.piece c.loop-done.invariant.below c.loop-done.invariant.put (omega (arith, c.loop-done-test.false, c.loop-done.auto.piece))

pub returns-in_default : goal.returns-in_default
returns-in_default c = all_kept (patch_on c.args.set.now c.args.self.now) c.args.module c.args.at c.args.piece.now (sym c.start.ensures ∙ c.in_default.is)
