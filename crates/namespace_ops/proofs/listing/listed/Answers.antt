use Rattle.std.proofs.Common.{◌≤◌, length, ap, arith}
use Rattle.namespace_map.specs.Namespaces.{NamespaceEntry, namespace_of}
use Rattle.namespace_ops.specs.Claims.{count_of}
use Rattle.namespace_ops.proofs.Shown.{listed_all}
use Rattle.namespace_ops.proofs.listing.listed.Goals as goal

pub returns : goal.returns
returns c =
    let sorted = c.args.groups.now.sorted in
    let past : length sorted ≤ c.loop-at.at = omega (arith, ap length c.labels.ensures.labels) in
    listed_all c.args.regions.now sorted c.loop-at.at (λ (e : NamespaceEntry). namespace_of e (count_of c.args.claims.now.counts e.uuid)) c.loop-at.listed _ past c.loop-at.invariant.items
