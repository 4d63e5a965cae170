use Rattle.std.proofs.Common.{sym, ◌∙◌}
use Rattle.set_objects.proofs.Lengths.{contents_fit, contents_odd}
use Rattle.set_objects.proofs.faults.contents_fault.Goals as goal

pub returns-in-Some : goal.returns-in-Some
returns-in-Some c =
    contents_fit c.args.regions.now c.args.module c.args.before c.in-Some.bytes c.args.found c.mappings_fault.result c.in-Some.is
    (sym c.is_contents_size.ensures ∙ c.if-is_contents_size.true) c.mappings_fault.ensures

pub returns-in-Some-2 : goal.returns-in-Some-2
returns-in-Some-2 c =
    contents_odd c.args.regions.now c.args.module c.args.before c.in-Some.bytes c.in-Some-2.bytes c.args.found c.in-Some.is c.in-Some-2.is (sym c.is_contents_size.ensures ∙ c.if-is_contents_size.false)
