use Rattle.std.proofs.Common.{◌≡◌, ◌∙◌, ℕ, ◌+◌, ◌-◌, ◌≤◌, List, ◌∷◌, length, take, drop, get_or, sym, ap, arith}
use Rattle.std.proofs.lemmas.List.{drop-drop}
use Rattle.namespace_bytes.specs.declared.block_owners.ArenaOwners.{ArenaOwners}
use Rattle.namespace_bytes.specs.Changed.{changed_front}
use Rattle.namespace_bytes.specs.Putting.{link_bytes}
use Rattle.namespace_bytes.specs.SectorBytes.{arena_byte, sector_byte}
use Rattle.namespace_bytes.specs.SectorPut.{SectorPut, link_of}
use Rattle.namespace_bytes.proofs.SectorRuns.{arena_run, end_kept, gap_kept, links_end, links_more, next_left, next_same, room}
use Rattle.namespace_bytes.proofs.sector_bytes.SectorBytes.put_run.Goals as goal

pub returns-then-from-start-clause-put : goal.returns-then-from-start-clause-put
returns-then-from-start-clause-put c =
    let more : drop c.loop-arena.arena-index c.args.self.now.links ≡ link_of c.arena-item.result ∷ drop (c.loop-arena.arena-index + 1) c.args.self.now.links =
    links_more c.self.inside.arenas c.args.self.now.links c.loop-arena.arena-index c.arena-item.result (ap (λ (p : SectorPut). p.links) c.self.view_is)
    (c.arena-item.is ∙ ap (λ (items : List ArenaOwners). get_or items c.loop-arena.arena-index c.arena-item.result) c.as_slice-arena-items.ensures)
    (omega (arith, c.loop-arena-test.true, ap length c.as_slice-arena-items.ensures)) in
    c.loop-arena.invariant.same
    ∙ gap_kept c.args.self.now.links (drop (c.loop-arena.arena-index + 1) c.args.self.now.links) c.args.self.now.bytes (drop c.loop-arena.first c.args.self.now.bytes) c.args.from c.loop-arena.arena-index (link_of c.arena-item.result) more c.loop-arena.invariant.rest
    c.min.result c.args.piece.now (omega (arith, c.min.ensures, c.start-start.ensures, c.if-from-start.true)) (omega (arith, c.min.ensures, ap length c.loop-arena.invariant.same))

pub slice_bounds-put-end : goal.slice_bounds-put-end
slice_bounds-put-end c =
    let more : drop c.loop-arena.arena-index c.args.self.now.links ≡ link_of c.arena-item.result ∷ drop (c.loop-arena.arena-index + 1) c.args.self.now.links =
    links_more c.self.inside.arenas c.args.self.now.links c.loop-arena.arena-index c.arena-item.result (ap (λ (p : SectorPut). p.links) c.self.view_is)
    (c.arena-item.is ∙ ap (λ (items : List ArenaOwners). get_or items c.loop-arena.arena-index c.arena-item.result) c.as_slice-arena-items.ensures)
    (omega (arith, c.loop-arena-test.true, ap length c.as_slice-arena-items.ensures)) in
    let fits : c.loop-arena.first + c.bytes.result ≤ length c.deref.result.now =
    omega (
      arith,
      room c.args.self.now.links (drop (c.loop-arena.arena-index + 1) c.args.self.now.links) c.args.self.now.bytes c.loop-arena.first c.loop-arena.arena-index (link_of c.arena-item.result) more c.loop-arena.invariant.left,
      c.bytes.ensures,
      ap length c.deref.ensures.value,
      ap (λ (p : SectorPut). length p.bytes) c.self.view_is,
    ) in
    fits

pub returns-then-from-start-2-clause-put : goal.returns-then-from-start-2-clause-put
returns-then-from-start-2-clause-put c =
    let more : drop c.loop-arena.arena-index c.args.self.now.links ≡ link_of c.arena-item.result ∷ drop (c.loop-arena.arena-index + 1) c.args.self.now.links =
    links_more c.self.inside.arenas c.args.self.now.links c.loop-arena.arena-index c.arena-item.result (ap (λ (p : SectorPut). p.links) c.self.view_is)
    (c.arena-item.is ∙ ap (λ (items : List ArenaOwners). get_or items c.loop-arena.arena-index c.arena-item.result) c.as_slice-arena-items.ensures)
    (omega (arith, c.loop-arena-test.true, ap length c.as_slice-arena-items.ensures)) in
    let size : c.loop-arena.first + c.bytes.result - c.loop-arena.first ≡ link_bytes (link_of c.arena-item.result) = omega (arith, c.bytes.ensures) in
    let part : take (c.loop-arena.first + c.bytes.result - c.loop-arena.first) (drop c.loop-arena.first c.deref.result.now)
    ≡ take (link_bytes (link_of c.arena-item.result)) (drop c.loop-arena.first c.args.self.now.bytes) =
    ap (λ (n : ℕ). take n (drop c.loop-arena.first c.deref.result.now)) size
    ∙ ap (λ (bytes : List ℕ). take (link_bytes (link_of c.arena-item.result)) (drop c.loop-arena.first bytes)) (c.deref.ensures.value ∙ ap (λ (p : SectorPut). p.bytes) c.self.view_is) in
    c.put.ensures.put
    ∙ (λ i. changed_front (arena_byte c.arena-item.result.opened (part i)) (c.args.from - c.start-start.ensures i) c.put.result (c.loop-arena.invariant.same i))
    ∙ arena_run c.args.self.now.links (drop (c.loop-arena.arena-index + 1) c.args.self.now.links) c.args.self.now.bytes (drop c.loop-arena.first c.args.self.now.bytes) c.args.from c.loop-arena.arena-index (link_of c.arena-item.result) more c.loop-arena.invariant.rest
    c.put.result c.args.piece.now (omega (arith, c.start-start.ensures, c.if-from-start.false)) (omega (arith, c.put.ensures.inside, c.start-start.ensures))
    (omega (arith, c.put.ensures.fits, ap length c.loop-arena.invariant.same))

pub loop-arena-preserved : goal.loop-arena-preserved
loop-arena-preserved c =
    let more : drop c.loop-arena.arena-index c.args.self.now.links ≡ link_of c.arena-item.result ∷ drop (c.loop-arena.arena-index + 1) c.args.self.now.links =
    links_more c.self.inside.arenas c.args.self.now.links c.loop-arena.arena-index c.arena-item.result (ap (λ (p : SectorPut). p.links) c.self.view_is)
    (c.arena-item.is ∙ ap (λ (items : List ArenaOwners). get_or items c.loop-arena.arena-index c.arena-item.result) c.as_slice-arena-items.ensures)
    (omega (arith, c.loop-arena-test.true, ap length c.as_slice-arena-items.ensures)) in
    record {
      same = c.loop-arena.invariant.same;
      left = omega (arith, c.bytes.ensures, next_left c.args.self.now.links (drop (c.loop-arena.arena-index + 1) c.args.self.now.links) c.args.self.now.bytes c.loop-arena.first c.loop-arena.arena-index (link_of c.arena-item.result) more c.loop-arena.invariant.left);
      rest = λ i old le.
          ap (λ (n : ℕ). sector_byte (drop (c.loop-arena.arena-index + 1) c.args.self.now.links) (drop (c.loop-arena.first + n) c.args.self.now.bytes) i old) c.bytes.ensures
          ∙ ap (λ (bytes : List ℕ). sector_byte (drop (c.loop-arena.arena-index + 1) c.args.self.now.links) bytes i old)
          (sym (drop-drop (link_bytes (link_of c.arena-item.result)) c.loop-arena.first c.args.self.now.bytes))
          ∙ next_same c.args.self.now.links (drop (c.loop-arena.arena-index + 1) c.args.self.now.links) c.args.self.now.bytes (drop c.loop-arena.first c.args.self.now.bytes) c.args.from c.loop-arena.arena-index (link_of c.arena-item.result) more c.loop-arena.invariant.rest
          (omega (arith, c.start-start.ensures, c.size.ensures, c.if-from-start-2.false)) i old le;
    }

pub returns-clause-put : goal.returns-clause-put
returns-clause-put c =
    c.loop-arena.invariant.same
    ∙ end_kept c.args.self.now.links c.args.self.now.bytes (drop c.loop-arena.first c.args.self.now.bytes) c.args.from c.loop-arena.arena-index (length c.loop-arena.piece) c.args.piece.now
    (links_end c.self.inside.arenas c.args.self.now.links c.loop-arena.arena-index (ap (λ (p : SectorPut). p.links) c.self.view_is)
    (omega (arith, c.loop-arena-test.false, ap length c.as_slice-arena-items.ensures)))
    c.loop-arena.invariant.rest (omega (arith, ap length c.loop-arena.invariant.same))
