use Rattle.std.proofs.Common.{◌≡◌, ℕ, ◌+◌, ◌-◌, inl, inr, subst, arith}
use Rattle.std.proofs.lemmas.Bool.{cases_lt}
use Rattle.image_set.specs.Patches.{IsCovered}
use Rattle.namespace_bytes.specs.Changed.{IsFree}
use Rattle.namespace_bytes.specs.Patching.{byte_patched, new_of, patch_on}
use Rattle.namespace_bytes.proofs.Patched.{line_free}
use Rattle.namespace_bytes.proofs.patch.NamespacePatch.covers_lines.Goals as goal

-- more bytes behind those that are covered
more : (f : ℕ → ℕ → ℕ → ℕ) (m at done size : ℕ) → IsCovered f m at done → IsCovered f m (at + done) size → IsCovered f m at (done + size)
more f m at done size first next k old old' lt = elim (cases_lt k done) [
  | inl before ↦ first k old old' before
  | inr after ↦
      let same : at + done + (k - done) ≡ at + k = omega (arith, after) in
      subst (λ (a : ℕ). f m a old ≡ f m a old') same (next (k - done) old old' (omega (arith, after, lt)))
]

pub loop-done-preserved : goal.loop-done-preserved
loop-done-preserved c =
    let free : IsFree (new_of c.args.self.now.bytes) c.line-from.result.0 c.line-from.result.1 = c.covers.ensures c.if-not-covers.false in (
      omega (arith, c.line-from.ensures.few, c.loop-done.invariant.0),
      more (byte_patched (patch_on c.args.set.now c.args.self.now)) c.args.module c.args.at c.loop-done.done c.line-from.result.1 c.loop-done.invariant.1
          (line_free (patch_on c.args.set.now c.args.self.now) c.requires.laid c.args.module (c.args.at + c.loop-done.done) c.line-from.result.0 c.line-from.result.1 c.line-from.ensures.inside c.line-from.ensures.there free),
    )
