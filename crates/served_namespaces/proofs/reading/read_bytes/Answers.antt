use Rattle.std.proofs.Common.{◌≡◌, ◌∙◌, ◌^◌, ◌≤◌, sym, ap, subst, arith}
use Rattle.std.proofs.lemmas.List.{drop_all}
use Rattle.namespace_words.specs.Source.{sizes_of}
use Rattle.served_namespaces.specs.Reading.{IsSoundRead, read_bytes}
use Rattle.served_namespaces.proofs.ReadInTurn.{bytes_more, opened_same}
use Rattle.served_namespaces.proofs.reading.read_bytes.Goals as goal

pub sizes_of-bytes-requires : goal.sizes_of-bytes-requires
sizes_of-bytes-requires c =
    let sound = subst (IsSoundRead c.requires.0) (sym c.namespace-item.is) (c.requires.1 c.loop-namespace.namespace-index c.namespace-item.result c.loop-namespace-test.true) in
    omega (arith, sound.total, ap sizes_of c.as_slice.ensures)

pub overflow_add-bytes : goal.overflow_add-bytes
overflow_add-bytes c =
    let sound = subst (IsSoundRead c.requires.0) (sym c.namespace-item.is) (c.requires.1 c.loop-namespace.namespace-index c.namespace-item.result c.loop-namespace-test.true) in
    let own : c.sizes_of-bytes.result ≤ 2 ^ 55 = omega (arith, sound.total, ap sizes_of c.as_slice.ensures, c.sizes_of-bytes.ensures) in
    omega (arith, own, c.loop-namespace.invariant.few)

pub loop-namespace-preserved : goal.loop-namespace-preserved
loop-namespace-preserved c =
    let sound = subst (IsSoundRead c.requires.0) (sym c.namespace-item.is) (c.requires.1 c.loop-namespace.namespace-index c.namespace-item.result c.loop-namespace-test.true) in
    let own : c.sizes_of-bytes.result ≡ sizes_of c.namespace-item.result.arenas = c.sizes_of-bytes.ensures ∙ ap sizes_of c.as_slice.ensures in
    let more = bytes_more c.args.read.now c.loop-namespace.namespace-index c.namespace-item.result c.loop-namespace-test.true c.namespace-item.is in
    record {
      count = omega (arith, c.loop-namespace.invariant.count, more, own);
      few = omega (arith, c.loop-namespace.invariant.few, sound.total, own);
    }

pub returns : goal.returns
returns c =
    let none = ap read_bytes (drop_all c.loop-namespace.namespace-index c.args.read.now c.loop-namespace-test.false) in
    let all : c.loop-namespace.bytes ≡ read_bytes c.args.read.now = omega (arith, c.loop-namespace.invariant.count, none) in
    record {
      bytes = all;
      opened = λ sets contents. opened_same sets contents c.args.read.now ∙ sym all;
    }
