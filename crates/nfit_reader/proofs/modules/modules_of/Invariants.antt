use Rattle.std.proofs.Common.{map, drop, nat_cmp}
use Rattle.std.specs.BTreeSet as bag
use Rattle.nfit_reader.proofs.Numbers.{IsListed}
use Rattle.nfit_reader.proofs.modules.modules_of.Given as goal

abbrev pub invariant-loop-link : goal.invariant-loop-link
invariant-loop-link l = IsListed (bag.contains nat_cmp l.seen) l.modules (map (λ m. m.handle) (drop l.link-index l.links)) (map (λ m. m.handle) l.links)
