use Rattle.bio_queue.proofs.Dealing.{first_dealt, others_dealt}
use Rattle.bio_queue.proofs.opening.make_parts.Goals as goal

pub returns-clause-first : goal.returns-clause-first
returns-clause-first g c = first_dealt c.in_ok-queue.queue c.in_ok-first.first.items c.in_ok-first.ensures.passes c.in_ok-first.ensures.new c.args.submitters c.split_off.new.self.items c.in_ok-others.ensures.items

pub returns-clause-others : goal.returns-clause-others
returns-clause-others g c = others_dealt c.in_ok-queue.queue c.in_ok-first.first.items c.in_ok-first.ensures.passes c.in_ok-first.ensures.new c.args.submitters c.in_ok-others.others.items c.in_ok-others.ensures.tail
