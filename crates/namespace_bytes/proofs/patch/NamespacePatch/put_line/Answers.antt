use Rattle.std.proofs.Common.{ℕ, ◌+◌, ◌++◌, List, length, drop, inl, inr, ap, ◌∙◌, arith}
use Rattle.namespace_bytes.specs.Patching.{byte_patched, patch_on}
use Rattle.namespace_bytes.proofs.Patched.{byte_kept, line_put, row_kept}
use Rattle.namespace_bytes.proofs.patch.NamespacePatch.put_line.Goals as goal

pub returns-then-address-start-clause-put : goal.returns-then-address-start-clause-put
returns-then-address-start-clause-put c =
    row_kept (byte_patched (patch_on c.args.set.now c.args.self.now)) c.args.module c.args.at c.args.piece.now c.min.result (omega (arith, c.min.ensures))
    (λ k lt. byte_kept (patch_on c.args.set.now c.args.self.now) c.args.module c.args.start (c.args.at + k) _ c.requires.there (inl (omega (arith, lt, c.min.ensures, c.from-address.ensures, c.if-address-start.true))))

pub returns-then-start-from-clause-put : goal.returns-then-start-from-clause-put
returns-then-start-from-clause-put c =
    row_kept (byte_patched (patch_on c.args.set.now c.args.self.now)) c.args.module c.args.at c.args.piece.now (length c.args.piece.now) (omega arith)
    (λ k lt. byte_kept (patch_on c.args.set.now c.args.self.now) c.args.module c.args.start (c.args.at + k) _ c.requires.there
    (inr (omega (arith, c.from.ensures, c.from-address.ensures, c.if-start-from.true))))

pub returns-clause-put : goal.returns-clause-put
returns-clause-put c =
    let put = line_put (patch_on c.args.set.now c.args.self.now) c.requires.laid c.args.module c.args.at c.line-from.result.0 c.line-from.result.1 c.line-from.ensures.inside c.line-from.ensures.there c.args.piece.now c.line-from.ensures.few in
    ap (λ (bytes : List ℕ). bytes ++ drop c.line-from.result.1 c.args.piece.now) (c.put.ensures ∙ put)
