use Rattle.std.proofs.Common.{ℕ, ◌+◌, Some, sym, ap, ◌∙◌}
use Rattle.std.specs.Prelude.{get_or}
use Rattle.nfit_reader.specs.declared.table.Mapping.{Mapping}
use Rattle.namespace_bytes.specs.Patching.{patch_on}
use Rattle.namespace_bytes.proofs.Patched.{start_at, start_none}
use Rattle.namespace_bytes.proofs.patch.NamespacePatch.start.Goals as goal

pub returns : goal.returns
returns c =
    ap (λ (n : ℕ). Some (c.from-2.result + n)) c.from-3.ensures
    ∙ start_at (patch_on c.args.set.now c.args.self.now) c.args.module c.in_ok-position.position c.from-2.result
    (sym c.in_ok-position.ensures)
    (λ (blank : Mapping). c.from-2.ensures ∙ c.start-start.ensures blank ∙ ap (λ (k : ℕ). (get_or c.args.set.now k blank).start) c.from.ensures)

pub returns-in_err-position : goal.returns-in_err-position
returns-in_err-position c =
    c.from_residual.ensures ∙ start_none (patch_on c.args.set.now c.args.self.now) c.args.module (sym c.in_err-position.ensures)
