use Rattle.crossbeam_queue.specs.Passes.{IsPassOf}
use Rattle.ticket_tests.proofs.Pairs.{two_of, both, hands}
use Rattle.ticket_tests.proofs.tests.two_passes.Goals as goal

pub returns-clause-first : goal.returns-clause-first
returns-clause-first c =
    let e = c.in_ok-passes.ensures in
    let ps = c.in_ok-passes.passes.items in
    let one = c.in-Some-pop.first in
    let two = c.in-Some.second in
    let is = two_of ps c.pop.new.self.items c.pop-2.new.self.items one two e.count c.in-Some.ensures.items c.in-Some-pop.ensures.items in
    ((both (λ p. IsPassOf c.args.queue.now p) ps one two is e.passes).0, (hands ps one two is e.new).0)

pub returns-clause-second : goal.returns-clause-second
returns-clause-second c =
    let e = c.in_ok-passes.ensures in
    let ps = c.in_ok-passes.passes.items in
    let one = c.in-Some-pop.first in
    let two = c.in-Some.second in
    let is = two_of ps c.pop.new.self.items c.pop-2.new.self.items one two e.count c.in-Some.ensures.items c.in-Some-pop.ensures.items in
    ((both (λ p. IsPassOf c.args.queue.now p) ps one two is e.passes).1, (hands ps one two is e.new).1)
