use Rattle.label_set.proofs.Firsts.{differ_by}
use Rattle.label_set.proofs.agreeing.differ_in.Goals as goal

pub returns-in-Some : goal.returns-in-Some
returns-in-Some c = differ_by c.args.field c.args.set.now c.args.labels.now c.in-Some.first.now c.some_differs.result c.in-Some.ensures.value c.some_differs.ensures
