use Rattle.std.proofs.Common.{◌≡◌, ◌∙◌, ℕ, ◌+◌, ◌-◌, List, ◌∷◌, length, take, drop, get_or, ap, subst, arith}
use Rattle.namespace_bytes.specs.declared.block_owners.ArenaOwners.{ArenaOwners}
use Rattle.namespace_bytes.specs.Changed.{IsFree}
use Rattle.namespace_bytes.specs.Putting.{link_bytes}
use Rattle.namespace_bytes.specs.SectorBytes.{arena_byte}
use Rattle.namespace_bytes.specs.SectorPut.{SectorPut, link_of}
use Rattle.namespace_bytes.proofs.SectorRuns.{arena_covered, links_more, next_same}
use Rattle.namespace_bytes.proofs.sector_bytes.SectorBytes.covers.Goals as goal

pub returns-then-start-from : goal.returns-then-start-from
returns-then-start-from c = λ is.
    let more : drop c.loop-arena.arena-index c.args.self.now.links ≡ link_of c.arena-item.result ∷ drop (c.loop-arena.arena-index + 1) c.args.self.now.links =
    links_more c.self.inside.arenas c.args.self.now.links c.loop-arena.arena-index c.arena-item.result (ap (λ (p : SectorPut). p.links) c.self.view_is)
    (c.arena-item.is ∙ ap (λ (items : List ArenaOwners). get_or items c.loop-arena.arena-index c.arena-item.result) c.as_slice-arena-items.ensures)
    (omega (arith, c.loop-arena-test.true, ap length c.as_slice-arena-items.ensures)) in
    arena_covered c.args.self.now.links (drop (c.loop-arena.arena-index + 1) c.args.self.now.links) c.args.self.now.bytes c.loop-arena.invariant.0 c.args.from c.loop-arena.arena-index
    (link_of c.arena-item.result) more c.loop-arena.invariant.1 c.args.count
    (omega (arith, c.start-start.ensures, c.if-start-from.true)) (omega (arith, c.covers.ensures.inside is, c.start-start.ensures))
    (subst (λ (n : ℕ). IsFree (arena_byte c.arena-item.result.opened (take (link_bytes (link_of c.arena-item.result)) c.loop-arena.invariant.0)) (c.args.from - n) c.args.count) c.start-start.ensures
    (c.covers.ensures.covered is (take (link_bytes (link_of c.arena-item.result)) c.loop-arena.invariant.0)))

pub loop-arena-preserved : goal.loop-arena-preserved
loop-arena-preserved c =
    let more : drop c.loop-arena.arena-index c.args.self.now.links ≡ link_of c.arena-item.result ∷ drop (c.loop-arena.arena-index + 1) c.args.self.now.links =
    links_more c.self.inside.arenas c.args.self.now.links c.loop-arena.arena-index c.arena-item.result (ap (λ (p : SectorPut). p.links) c.self.view_is)
    (c.arena-item.is ∙ ap (λ (items : List ArenaOwners). get_or items c.loop-arena.arena-index c.arena-item.result) c.as_slice-arena-items.ensures)
    (omega (arith, c.loop-arena-test.true, ap length c.as_slice-arena-items.ensures)) in (
      drop (link_bytes (link_of c.arena-item.result)) c.loop-arena.invariant.0,
      next_same c.args.self.now.links (drop (c.loop-arena.arena-index + 1) c.args.self.now.links) c.args.self.now.bytes c.loop-arena.invariant.0 c.args.from c.loop-arena.arena-index
          (link_of c.arena-item.result) more c.loop-arena.invariant.1 (omega (arith, c.start-start.ensures, c.size.ensures, c.if-from-start.false)),
    )
