use Rattle.std.proofs.Common.{◌≡◌, ◌≢◌, ◌∙◌, ℕ, ◌+◌, ◌-◌, ◌/◌, ◌%◌, ◌<◌, Bool, true, false, not, Option, None, refl, sym, ap, subst, arith}
use Rattle.std.specs.Prelude.{is_some}
use Rattle.namespace_bytes.specs.SectorBytes.{owner_of}
use Rattle.namespace_bytes.proofs.SectorPuts.{inner_some, owner_at, owned_more}
use Rattle.namespace_bytes.proofs.block_owners.ArenaOwners.are_owned.Goals as goal

some_there : (r : Option ℕ) (b : Bool) → is_some r ≡ not b → b ≡ false → r ≢ None
some_there r b is isn none = let h : false ≡ true = sym (ap is_some none) ∙ is ∙ ap not isn in cc

pub nonzero_div-at : goal.nonzero_div-at
nonzero_div-at c = omega (arith, inner_some c.args.self.now.opened.info.layout c.requires.owned.blocks.layout, c.from-inner.ensures)

pub nonzero_rem-done : goal.nonzero_rem-done
nonzero_rem-done c = omega (arith, inner_some c.args.self.now.opened.info.layout c.requires.owned.blocks.layout, c.from-inner.ensures)

pub overflow_sub-done : goal.overflow_sub-done
overflow_sub-done c =
    let some : 0 < c.from-inner.result = omega (arith, inner_some c.args.self.now.opened.info.layout c.requires.owned.blocks.layout, c.from-inner.ensures) in
    omega (arith, some)

pub loop-done-smaller : goal.loop-done-smaller
loop-done-smaller c =
    let some : 0 < c.from-inner.result = omega (arith, inner_some c.args.self.now.opened.info.layout c.requires.owned.blocks.layout, c.from-inner.ensures) in
    omega (arith, some, c.loop-done-test.true)

pub loop-done-preserved : goal.loop-done-preserved
loop-done-preserved c =
    let here : owner_of c.args.self.now.opened ((c.args.from + c.loop-done.done) / c.args.self.now.opened.info.layout.inner) ≢ None =
    subst (λ (owner : Option ℕ). owner ≢ None)
    (sym (owner_at c.args.self.now.opened (c.args.from + c.loop-done.done) c.from-inner.result c.owner.result c.owner.result c.from-inner.ensures c.owner.ensures refl))
    (some_there c.owner.result c.is_none.result c.is_none.ensures c.if-is_none.false) in
    λ k lt. owned_more c.args.self.now.opened c.args.from c.loop-done.done c.requires.owned.blocks.layout c.loop-done.invariant here k
    (subst (λ (n : ℕ). k < c.loop-done.done + (n - (c.args.from + c.loop-done.done) % n)) c.from-inner.ensures lt)
