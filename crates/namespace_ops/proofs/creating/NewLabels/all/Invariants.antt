use Rattle.std.proofs.Common.{◌≡◌, ◌++◌, drop, map}
use Rattle.std.specs.List.{enumerate_from}
use Rattle.namespace_map.specs.Changes.{new_label}
use Rattle.namespace_ops.specs.Plans.{pairs_of}
use Rattle.namespace_ops.proofs.creating.NewLabels.all.Given as goal

abbrev pub invariant-loop-position : goal.invariant-loop-position
invariant-loop-position l =
    pairs_of l.own.items ++ map (new_label l.self.uuid l.self.name l.self.make l.set l.self.offset l.self.raw) (enumerate_from l.position (drop l.position l.set))
    ≡ map (new_label l.self.uuid l.self.name l.self.make l.set l.self.offset l.self.raw) (enumerate_from 0 l.set)
