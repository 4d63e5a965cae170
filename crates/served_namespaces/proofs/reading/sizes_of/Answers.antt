use Rattle.std.proofs.Common.{ap, arith}
use Rattle.std.proofs.lemmas.List.{drop_all}
use Rattle.namespace_words.specs.Source.{sizes_of}
use Rattle.served_namespaces.proofs.ReadInTurn.{sizes_more}
use Rattle.served_namespaces.proofs.reading.sizes_of.Goals as goal

pub overflow_add-bytes : goal.overflow_add-bytes
overflow_add-bytes c =
    let more = sizes_more c.args.arenas.now c.loop-arena.arena-index c.arena-item.result c.loop-arena-test.true c.arena-item.is in
    let size = ap (λ (o : _). o.info.layout.size) c.parts.ensures in
    omega (arith, c.loop-arena.invariant, more, size, c.requires)

pub loop-arena-preserved : goal.loop-arena-preserved
loop-arena-preserved c =
    let more = sizes_more c.args.arenas.now c.loop-arena.arena-index c.arena-item.result c.loop-arena-test.true c.arena-item.is in
    let size = ap (λ (o : _). o.info.layout.size) c.parts.ensures in
    omega (arith, c.loop-arena.invariant, more, size)

pub returns : goal.returns
returns c =
    let none = ap sizes_of (drop_all c.loop-arena.arena-index c.args.arenas.now (omega (arith, c.loop-arena-test.false))) in
    omega (arith, c.loop-arena.invariant, none)
