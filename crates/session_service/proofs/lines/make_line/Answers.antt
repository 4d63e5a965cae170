use Rattle.std.proofs.Common.{subst}
use Rattle.session_script.specs.declared.script.Line.{Line}
use Rattle.session_service.specs.Runners.{IsNext}
use Rattle.session_service.proofs.lines.make_line.Goals as goal

pub make_read-requires : goal.make_read-requires
make_read-requires g c = (c.requires.0, c.requires.1, c.requires.2, subst (λ (l : Line). IsNext c.args.service.now c.requires.0 c.requires.1 c.requires.2 l c.args.runner.now) c.in-Read.is c.requires.3)

pub make_write-requires : goal.make_write-requires
make_write-requires g c = (c.type_bounds.sync-G, (c.requires.0, c.requires.1, c.requires.2, subst (λ (l : Line). IsNext c.args.service.now c.requires.0 c.requires.1 c.requires.2 l c.args.runner.now) c.in-Write.is c.requires.3))

pub make_order-requires : goal.make_order-requires
make_order-requires g c = (c.requires.0, c.requires.1, c.requires.2, subst (λ (l : Line). IsNext c.args.service.now c.requires.0 c.requires.1 c.requires.2 l c.args.runner.now) c.in-Order.is c.requires.3)

pub returns-in-Read-clause-goes : goal.returns-in-Read-clause-goes
returns-in-Read-clause-goes g c = λ script q replies next. c.make_read.ensures.goes script q replies (subst (λ (l : Line). IsNext c.args.service.now script q replies l c.args.runner.now) c.in-Read.is next)

pub returns-in-Write-clause-goes : goal.returns-in-Write-clause-goes
returns-in-Write-clause-goes g c = λ script q replies next. c.make_write.ensures.goes script q replies (subst (λ (l : Line). IsNext c.args.service.now script q replies l c.args.runner.now) c.in-Write.is next)

pub returns-in-Order-clause-goes : goal.returns-in-Order-clause-goes
returns-in-Order-clause-goes g c = λ script q replies next. c.make_order.ensures.goes script q replies (subst (λ (l : Line). IsNext c.args.service.now script q replies l c.args.runner.now) c.in-Order.is next)
