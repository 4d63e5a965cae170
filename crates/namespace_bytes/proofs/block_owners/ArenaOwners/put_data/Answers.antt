use Rattle.std.proofs.Common.{ℕ, ◌/◌, ◌%◌, ◌<◌, Some, None, ap, ◌∙◌, arith}
use Rattle.namespace_bytes.specs.SectorBytes.{block_byte}
use Rattle.namespace_bytes.specs.Changed.{changed_front}
use Rattle.namespace_bytes.proofs.SectorPuts.{block_end, data_kept, data_put, inner_some, owner_at, owner_below}
use Rattle.namespace_bytes.proofs.block_owners.ArenaOwners.put_data.Goals as goal

pub nonzero_rem-from : goal.nonzero_rem-from
nonzero_rem-from c = omega (arith, inner_some c.args.self.now.opened.info.layout c.requires.owned.blocks.layout, c.from-inner.ensures)

pub nonzero_div-at : goal.nonzero_div-at
nonzero_div-at c = omega (arith, inner_some c.args.self.now.opened.info.layout c.requires.owned.blocks.layout, c.from-inner.ensures)

pub put_block-requires-clause-own : goal.put_block-requires-clause-own
put_block-requires-clause-own c = (owner_below c.args.self.now c.requires.owned (c.args.at / c.args.self.now.opened.info.layout.inner) c.in-Some.own (owner_at c.args.self.now.opened c.args.at c.from-inner.result c.owner.result (Some c.in-Some.own) c.from-inner.ensures c.owner.ensures c.in-Some.is)).0

pub put_block-requires-clause-from : goal.put_block-requires-clause-from
put_block-requires-clause-from c =
    let some : 0 < c.from-inner.result = omega (arith, inner_some c.args.self.now.opened.info.layout c.requires.owned.blocks.layout, c.from-inner.ensures) in
    omega (arith, some, c.from-inner.ensures)

pub overflow_sub-inner : goal.overflow_sub-inner
overflow_sub-inner c =
    let some : 0 < c.from-inner.result = omega (arith, inner_some c.args.self.now.opened.info.layout c.requires.owned.blocks.layout, c.from-inner.ensures) in
    omega (arith, some)

pub returns-in-Some-clause-inside : goal.returns-in-Some-clause-inside
returns-in-Some-clause-inside c =
    block_end c.args.self.now c.requires.owned c.args.at c.put_block.result (owner_below c.args.self.now c.requires.owned (c.args.at / c.args.self.now.opened.info.layout.inner) c.in-Some.own (owner_at c.args.self.now.opened c.args.at c.from-inner.result c.owner.result (Some c.in-Some.own) c.from-inner.ensures c.owner.ensures c.in-Some.is)).1
    (omega (arith, ap (λ (n : ℕ). c.args.at % n) c.from-inner.ensures, c.put_block.ensures.inside))

pub returns-in-Some-clause-put : goal.returns-in-Some-clause-put
returns-in-Some-clause-put c =
    c.put_block.ensures.put
    ∙ ap (λ (n : ℕ). changed_front (block_byte c.args.self.now.opened.info.layout c.args.bytes.now (Some c.in-Some.own)) (c.args.at % n) c.put_block.result c.args.piece.now) c.from-inner.ensures
    ∙ data_put c.args.self.now.opened c.args.bytes.now c.args.at c.in-Some.own c.put_block.result c.args.piece.now (owner_at c.args.self.now.opened c.args.at c.from-inner.result c.owner.result (Some c.in-Some.own) c.from-inner.ensures c.owner.ensures c.in-Some.is)
    (omega (arith, ap (λ (n : ℕ). c.args.at % n) c.from-inner.ensures, c.put_block.ensures.inside)) c.put_block.ensures.fits

pub returns-in-None-clause-some : goal.returns-in-None-clause-some
returns-in-None-clause-some c =
    let some : 0 < c.from-inner.result = omega (arith, inner_some c.args.self.now.opened.info.layout c.requires.owned.blocks.layout, c.from-inner.ensures) in
    omega (arith, some, c.min.ensures, c.min-in-None.ensures, c.requires.inside, c.requires.some)

pub returns-in-None-clause-put : goal.returns-in-None-clause-put
returns-in-None-clause-put c =
    let some : 0 < c.from-inner.result = omega (arith, inner_some c.args.self.now.opened.info.layout c.requires.owned.blocks.layout, c.from-inner.ensures) in
    data_kept c.args.self.now.opened c.args.bytes.now c.args.at c.min-in-None.result c.args.piece.now
    (owner_at c.args.self.now.opened c.args.at c.from-inner.result c.owner.result None c.from-inner.ensures c.owner.ensures c.in-None.is)
    (omega (arith, some, ap (λ (n : ℕ). c.args.at % n) c.from-inner.ensures, c.from-inner.ensures, c.min.ensures, c.min-in-None.ensures))
    (omega (arith, c.min-in-None.ensures))
