use Rattle.std.proofs.Common.{◌≡◌, length, refl, subst}
use Rattle.std.specs.Prelude.{All}
use Rattle.bio_queue.specs.Serving.{MayMake}
use Rattle.bio_queue.specs.Standing.{stands_of}
use Rattle.bio_queue.proofs.Standing.{all_front, stands_grow}
use Rattle.bio_queue.proofs.worker.Worker.make.Goals as goal

pub finish-requires-clause-same : goal.finish-requires-clause-same
finish-requires-clause-same g c = (c.in-Done.ensures.fits c.in-Done.reply c.in-Done.told refl).0

pub finish-requires-clause-fits : goal.finish-requires-clause-fits
finish-requires-clause-fits g c = (c.in-Done.ensures.fits c.in-Done.reply c.in-Done.told refl).1

pub invariant_of-self : goal.invariant_of-self
invariant_of-self g c =
    let s = c.args.self.now in
    record { hand = s.hand; puts_none = s.puts_none; wide = all_front (λ r. length r.words.items ≡ s.width) c.pop.new.self.items c.in-Some.room (subst (All (λ r. length r.words.items ≡ s.width)) c.in-Some.ensures.items s.wide) }

pub invariant_of-self-in-Off : goal.invariant_of-self-in-Off
invariant_of-self-in-Off g c =
    let s = c.args.self.now in
    record { hand = s.hand; puts_none = s.puts_none; wide = all_front (λ r. length r.words.items ≡ s.width) c.pop.new.self.items c.in-Some.room (subst (All (λ r. length r.words.items ≡ s.width)) c.in-Some.ensures.items s.wide) }

pub returns-in-Done-clause-may : goal.returns-in-Done-clause-may
returns-in-Done-clause-may g c = λ _ n may.
    let s = c.args.self.now in
    let f = c.finish.ensures in
    subst (λ st. MayMake c.args.sectors.now s.sectors s.width n st c.perform.new.session)
    (stands_grow s.completed.items c.push_reserved.new.self.items c.finish.result s.session.caller.call c.args.bio.op c.in-Done.reply c.push_reserved.ensures.items f.call f.of.op_is f.reply)
    (c.in-Done.ensures.done c.in-Done.reply c.in-Done.told refl s.sectors s.width n (stands_of s.completed.items) may)

pub returns-in-Off-clause-off : goal.returns-in-Off-clause-off
returns-in-Off-clause-off g c = λ _.
    let s = c.args.self.now in
    (refl, refl, c.in-Off.ensures.off refl s.sectors s.width 1 (stands_of s.completed.items) c.requires.may)
