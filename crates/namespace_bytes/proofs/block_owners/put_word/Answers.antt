use Rattle.std.proofs.Common.{◌≡◌, ℕ, ◌+◌, ◌-◌, ◌++◌, List, take, drop, ap, ◌∙◌, arith}
use Rattle.namespace_bytes.proofs.SectorPuts.{word_put}
use Rattle.namespace_bytes.proofs.block_owners.put_word.Goals as goal

pub returns-clause-put : goal.returns-clause-put
returns-clause-put c =
    ap (λ (bytes : List ℕ). bytes ++ drop c.min-size.result c.args.piece.now)
    (c.copy_from_slice.ensures.after
    ∙ ap (λ (n : ℕ). take n (drop c.args.from c.args.word.now)) (let e : c.args.from + c.min-size.result - c.args.from ≡ c.min-size.result = omega arith in e))
    ∙ word_put c.args.word.now c.args.piece.now c.args.from c.min-size.result (omega (arith, c.min-size.ensures, c.requires.from)) (omega (arith, c.min-size.ensures))
