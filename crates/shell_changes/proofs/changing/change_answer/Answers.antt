use Rattle.std.proofs.Common.{arith}
use Rattle.shell_changes.proofs.changing.change_answer.Goals as goal

pub parted_answer-requires-clause-parted : goal.parted_answer-requires-clause-parted
parted_answer-requires-clause-parted g c =
    let is = c.requires.read in
    let count = is.labels in
    let most = is.few in
    record {
      table = is.table;
      counted = is.counted;
      regions = is.regions;
      areas = is.areas;
      count = is.labels;
      few = omega (arith, count, most);
      rest_is = record { bad = is.bad; few = is.few };
      sized = c.requires.loadable.sized;
      total = c.requires.loadable.total;
      mapped = c.requires.loadable.mapped;
    }

pub returns-clause-comes : goal.returns-clause-comes
returns-clause-comes g c = c.parted_answer.ensures.comes

pub returns-clause-sizes : goal.returns-clause-sizes
returns-clause-sizes g c = c.parted_answer.ensures.sizes
