use Rattle.std.proofs.Common.{◌≡◌, ◌+◌, drop}
use Rattle.namespace_words.specs.Source.{sizes_of}
use Rattle.served_namespaces.proofs.reading.sizes_of.Given as goal

abbrev pub invariant-loop-arena : goal.invariant-loop-arena
invariant-loop-arena l = l.bytes + sizes_of (drop l.arena-index l.arenas) ≡ sizes_of l.arenas
