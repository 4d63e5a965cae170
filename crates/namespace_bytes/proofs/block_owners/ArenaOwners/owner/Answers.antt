use Rattle.std.proofs.Common.{ℕ, List, length, get_or, sym, ap, ◌∙◌, arith}
use Rattle.namespace_bytes.proofs.SectorPuts.{no_owner, past_owner}
use Rattle.namespace_bytes.proofs.block_owners.ArenaOwners.owner.Goals as goal

pub returns-then-block-owners : goal.returns-then-block-owners
returns-then-block-owners c =
    past_owner c.args.self.now c.requires c.args.block (omega (arith, c.if-block-owners.true, ap length c.as_slice-owners.ensures, c.requires.long))

pub returns-then-own : goal.returns-then-own
returns-then-own c =
    no_owner c.args.self.now c.requires c.args.block (omega (arith, c.if-block-owners.false, ap length c.as_slice-owners.ensures, c.requires.long))
    (ap (λ (xs : List ℕ). get_or xs c.args.block 0) (sym c.as_slice-owners.ensures) ∙ c.if-own.true)
