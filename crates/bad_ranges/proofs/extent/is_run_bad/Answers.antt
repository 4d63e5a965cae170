use Rattle.std.proofs.Common.{◌≡◌, ◌+◌, ◌*◌, ℕ, [], get_or, ap, ◌∙◌, arith}
use Rattle.std.specs.List.{list_any}
use Rattle.bad_ranges.specs.Table.{reaches}
use Rattle.bad_ranges.proofs.Runs.{run_is}
use Rattle.bad_ranges.proofs.extent.is_run_bad.Goals as goal

pub returns : goal.returns
returns c objects tables =
    let which : ℕ = c.locate-module.result.0 in
    let k : ℕ = c.locate-module.result.1 in
    let from : c.from.result * c.from-2.result ≡ 8 * k = ap (λ (n : ℕ). n * c.from-2.result) c.from.ensures ∙ ap (λ (n : ℕ). 8 * n) c.from-2.ensures in
    let size : c.from-3.result * c.from-4.result ≡ 8 * c.args.count = ap (λ (n : ℕ). n * c.from-4.result) c.from-3.ensures ∙ ap (λ (n : ℕ). 8 * n) c.from-4.ensures in
    c.module_has_bytes.ensures
    ∙ ap (λ (n : ℕ). list_any (reaches n (n + c.from-3.result * c.from-4.result)) (get_or c.args.tables.now which [])) from
    ∙ ap (λ (n : ℕ). list_any (reaches (8 * k) (8 * k + n)) (get_or c.args.tables.now which [])) size
    ∙ tables which (8 * k) (8 * k + 8 * c.args.count) (omega (arith, c.requires.some))
    ∙ run_is c.args.extent.now objects c.args.i which k c.args.count c.requires.laid c.requires.inside (c.requires.run which k c.locate-module.ensures)
