use Rattle.std.proofs.Common.{◌≡◌, true, [], ◌∷◌, length, length-append, sym, ap, ◌∙◌, arith}
use Rattle.crossbeam_queue.specs.Passes.{view}
use Rattle.ticket_queue.specs.Parties.{put_in}
use Rattle.ticket_queue.proofs.Orders.{hand_is, hand_test}
use Rattle.bio_queue.specs.Ops.{fits_in}
use Rattle.bio_queue.proofs.Growing.{ticket_of, numbered_push, fit_push}
use Rattle.bio_queue.proofs.submitter.Submitter.submit.Goals as goal

pub put-requires-clause-party : goal.put-requires-clause-party
put-requires-clause-party g c = hand_is c.args.self.now.party (view c.args.self.now.pass) c.args.self.now.hand

pub invariant_of-self : goal.invariant_of-self
invariant_of-self g c =
    let s = c.args.self.now in
    let v = view s.pass in
    let w = view c.put.new.pass in
    let t = ticket_of s.party c.new.result in
    let o = c.in-Ok.ensures in
    let e = c.new.ensures in
    record {
      hand = hand_test s.party w o.party;
      numbered = numbered_push (put_in v) (put_in w) s.party (λ b. b.submitter) (λ b. b.number) t o.put s.numbered e.by.0 (e.by.1 ∙ sym s.count);
      count = omega (arith, ap length o.put, length-append (put_in v) (t ∷ []), s.count);
      all_fit = fit_push (put_in v) (put_in w) (λ b. fits_in s.sectors s.width b.op ≡ true) t o.put s.all_fit (ap (fits_in s.sectors s.width) e.op ∙ c.requires.fits);
      takes_none = ap length o.taken ∙ s.takes_none;
    }
