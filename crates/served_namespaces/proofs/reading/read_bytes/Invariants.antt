use Rattle.std.proofs.Common.{◌≡◌, ◌+◌, ◌*◌, ◌^◌, ◌≤◌, drop}
use Rattle.served_namespaces.specs.Reading.{read_bytes}
use Rattle.served_namespaces.proofs.reading.read_bytes.Given as goal

abbrev pub invariant-loop-namespace : goal.invariant-loop-namespace
invariant-loop-namespace l = record {
  count : l.bytes + read_bytes (drop l.namespace-index l.read) ≡ read_bytes l.read;
  few : l.bytes ≤ l.namespace-index * 2 ^ 55;
}
