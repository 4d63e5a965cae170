use Rattle.label_area.proofs.Opened.{area_size}
use Rattle.label_repair.proofs.Found.{fault_told}
use Rattle.label_repair.proofs.repair.repair_of.Goals as goal

pub read_side-requires : goal.read_side-requires
read_side-requires c = rw (c.deref.ensures.value, c.in_ok-bytes.ensures) (area_size c.args.words.now.kept c.requires.size)

pub read_side-requires-2 : goal.read_side-requires-2
read_side-requires-2 c = rw (c.deref-2.ensures.value, c.in_ok-bytes.ensures) (area_size c.args.words.now.kept c.requires.size)

pub returns-clause-finding : goal.returns-clause-finding
returns-clause-finding c =
    fault_told c.in_ok-a.a c.in_ok-b.b c.repair_by.result c.in_ok-a.ensures.finding c.in_ok-b.ensures.finding c.repair_by.ensures
