use Rattle.std.proofs.Common.{◌≡◌, ℕ, ◌+◌, ◌-◌, ◌*◌, ◌++◌, List, take, drop, ap, ◌∙◌, arith}
use Rattle.namespace_bytes.proofs.SectorPuts.{sector_put}
use Rattle.namespace_bytes.proofs.block_owners.put_sector.Goals as goal

pub returns-clause-put : goal.returns-clause-put
returns-clause-put c =
    let first : ℕ = c.args.own * c.args.layout.now.sector + c.args.from in
    ap (λ (bytes : List ℕ). bytes ++ drop c.min-size.result c.args.piece.now)
    (c.copy_from_slice.ensures.after
    ∙ ap (λ (n : ℕ). take n (drop (c.args.own * c.args.layout.now.sector + c.args.from) c.args.bytes.now))
    (let e : c.args.own * c.args.layout.now.sector + c.args.from + c.min-size.result - (c.args.own * c.args.layout.now.sector + c.args.from) ≡ c.min-size.result = omega arith in e))
    ∙ sector_put c.args.layout.now c.args.own c.args.from c.min-size.result c.args.bytes.now c.args.piece.now c.requires.own c.requires.long
    (omega (arith, c.min-size.ensures, c.from.ensures, c.requires.from)) (omega (arith, c.min-size.ensures))
