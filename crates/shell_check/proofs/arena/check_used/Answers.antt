use Rattle.shell_check.proofs.arena.check_used.Goals as goal

pub returns-in-Some-clause-told : goal.returns-in-Some-clause-told
returns-in-Some-clause-told g c = λ contents reveals words is. rw c.in-Some.is (c.check_parts.ensures.told contents reveals words is)
