use Rattle.std.proofs.Common.{◌≡◌, ◌∙◌, ◌++◌, sym, subst}
use Rattle.set_objects.specs.declared.objects.ObjectsRead.{ObjectsRead}
use Rattle.set_objects.specs.Read.{Reads}
use Rattle.shell_reports.specs.LoadFaults.{load_fault_text}
use Rattle.shell_set_check.specs.Text.{fault_line}
use Rattle.shell_set_check.proofs.Parts.{fault_said, memory_on, set_said}
use Rattle.shell_set_check.proofs.command.push_set.Goals as goal

pub push_table-requires-clause-there : goal.push_table-requires-clause-there
push_table-requires-clause-there g c = λ x at.
    subst (λ (o : ObjectsRead). Reads o x) c.in-Ok-Table.field-0-is (c.in-Ok-Table.ensures.told x (sym c.read_objects.ensures.same ∙ at))

pub returns-in-Ok-NoTable-clause-told : goal.returns-in-Ok-NoTable-clause-told
returns-in-Ok-NoTable-clause-told g c = λ x at.
    let fault = c.in-Ok-NoTable.fault in
    let old = c.args.text.now.items in
    let now = c.push_object.new.text.items in
    let is = subst (λ (o : ObjectsRead). Reads o x) c.in-Ok-NoTable.field-0-is (c.in-Ok-NoTable.ensures.told x at) in
    fault_said c.in_memory.result x fault old now is
    (memory_on c.in_memory.result c.push_object.result (now ≡ old ++ fault_line (load_fault_text fault)) c.in_memory.ensures.same c.push_object.ensures)

pub returns-in-Ok-Table-clause-told : goal.returns-in-Ok-Table-clause-told
returns-in-Ok-Table-clause-told g c = λ x at.
    let r = subst (λ (o : ObjectsRead). Reads o x) c.in-Ok-Table.field-0-is (c.in-Ok-Table.ensures.told x at) in
    set_said c.push_table.result x c.in-Ok-Table.read c.args.text.now.items c.push_table.new.text.items r (c.push_table.ensures.told x (c.read_objects.ensures.same ∙ at))
