use Rattle.std.proofs.Common.{◌≡◌, ◌∙◌, ℕ, ◌+◌, ◌-◌, ◌^◌, ◌<◌, List, length, drop, get_or, ap, sym, subst, arith}
use Rattle.std.proofs.Math.ListN.{set}
use Rattle.std.proofs.lemmas.List.{length-replicate, length-set}
use Rattle.map_table.specs.declared.kinds.MapEntry.{MapEntry}
use Rattle.map_table.specs.Entry.{entry_of}
use Rattle.namespace_bytes.specs.Putting.{block_at}
use Rattle.namespace_bytes.specs.SectorBytes.{owner_from}
use Rattle.namespace_bytes.specs.SectorPut.{owner_number}
use Rattle.namespace_bytes.proofs.SectorPuts.{owners_more, owners_none}
use Rattle.namespace_bytes.proofs.block_owners.put_owners.Goals as goal

pub loop-own-init : goal.loop-own-init
loop-own-init c =
    let layout = c.args.opened.now.info.layout in
    let long : length c.args.owners.now ≡ c.args.opened.now.info.layout.internal = ap length c.requires.none ∙ length-replicate c.args.opened.now.info.layout.internal (2 ^ 32 - 1) in
    record {
      down = omega arith;
      long = long;
      each = λ block lt. ap (λ (xs : List ℕ). get_or xs block 0) c.requires.none
          ∙ owners_none c.args.opened.now.entries c.args.opened.now.info.layout.external c.args.opened.now.info.layout.internal block (omega (arith, c.requires.blocks.1.entries)) (omega (arith, lt, long));
    }

pub bounds-entries-own : goal.bounds-entries-own
bounds-entries-own c = omega (arith, ap length c.as_slice-entries.ensures, c.requires.blocks.1.entries, c.loop-own.invariant.down, c.loop-own-test.true)

block_is : (c : goal.After-entry-block) → c.entry-block.result.block ≡ block_at c.args.opened.now.entries (c.loop-own.own - 1)
block_is c =
    ap (λ (e : MapEntry). e.block) c.entry-block.ensures
    ∙ ap (λ (es : List ℕ). (entry_of (get_or es (c.loop-own.own - 1) 0) (c.loop-own.own - 1)).block) c.as_slice-entries.ensures

pub bounds-owners-block : goal.bounds-owners-block
bounds-owners-block c =
    omega (arith, block_is c, c.requires.blocks.1.below (c.loop-own.own - 1) (omega (arith, c.loop-own.invariant.down, c.loop-own-test.true)), c.loop-own.invariant.long)

pub loop-own-preserved : goal.loop-own-preserved
loop-own-preserved c =
    let up : c.loop-own.own - 1 + 1 ≡ c.loop-own.own = omega (arith, c.loop-own-test.true) in
    let before = subst (λ (own : ℕ). (block : ℕ) → block < length c.loop-own.owners → get_or c.loop-own.owners block 0 ≡ owner_number (owner_from own (drop own c.args.opened.now.entries) block)) (sym up)
    c.loop-own.invariant.each in
    let long : length (set c.loop-own.owners c.entry-block.result.block (c.loop-own.own - 1)) ≡ length c.loop-own.owners = length-set c.loop-own.owners c.entry-block.result.block (c.loop-own.own - 1) in
    record {
      down = omega (arith, c.loop-own.invariant.down);
      long = long ∙ c.loop-own.invariant.long;
      each = λ block lt.
          ap (λ (b : ℕ). get_or (set c.loop-own.owners b (c.loop-own.own - 1)) block 0) (block_is c)
          ∙ owners_more c.args.opened.now.entries c.loop-own.owners (c.loop-own.own - 1) (omega (arith, c.requires.blocks.1.entries, c.loop-own.invariant.down, c.loop-own-test.true))
          before block (omega (arith, lt, long));
    }

pub returns : goal.returns
returns c = λ block lt.
    let none : c.loop-own.own ≡ 0 = omega (arith, c.loop-own-test.false) in
    c.loop-own.invariant.each block (omega (arith, lt, c.loop-own.invariant.long))
    ∙ ap (λ (own : ℕ). owner_number (owner_from own (drop own c.args.opened.now.entries) block)) none
