use Rattle.std.proofs.Common.{subst}
use Rattle.std.specs.List.Sorted.{IsPermutation}
use Rattle.nfit_reader.specs.Apart.{StandApart}
use Rattle.nfit_reader.proofs.Apart.{apart_none}
use Rattle.nfit_reader.proofs.alias.is_apart.Goals as goal

pub returns : goal.returns
returns c = λ apart.
    apart_none c.args.dpa_ranges.now c.sort.new.self.items
    (subst (λ xs. IsPermutation xs c.sort.new.self.items) c.in_ok-sorted.ensures.items c.sort.ensures.permutation)
    (subst StandApart c.deref.ensures.value (c.stand_apart.ensures apart))
