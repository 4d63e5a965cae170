use Rattle.std.proofs.Common.{◌≡◌, ◌++◌, ◌∷◌, [], length, length-append, append_assoc, sym, ap, ◌∙◌, arith}
use Rattle.ticket_queue.specs.Law.{none_yet}
use Rattle.bio_queue.proofs.Dealing.{each_push, map_push, next_at}
use Rattle.bio_queue.proofs.opening.seat_submitters.Goals as goal

pub submitter_of-requires : goal.submitter_of-requires
submitter_of-requires g c =
    let i = c.loop-pass.invariant in
    let done = c.loop-pass.yielded in
    let p = c.in-Some.pass in
    let whole = ap (λ r. done ++ r) (sym c.in-Some.ensures.steps.0) ∙ i.rest in
    c.requires.new (length done) p (next_at done p c.next.new.self.rest.items c.args.first.items whole) ∙ ap none_yet (omega (arith, i.count, c.len-party.ensures))

pub loop-pass-preserved : goal.loop-pass-preserved
loop-pass-preserved g c =
    let i = c.loop-pass.invariant in
    let done = c.loop-pass.yielded in
    let p = c.in-Some.pass in
    let xs = c.loop-pass.submitters.items in
    let ys = c.push_reserved.new.self.items in
    let s = c.submitter_of.result in
    let e = c.submitter_of.ensures in
    let o = c.push_reserved.ensures in
    record {
      passes = map_push xs ys s (λ t. t.pass) done p o.items i.passes e.0;
      count = omega (arith, ap length o.items, length-append xs (s ∷ []), length-append done (p ∷ []), i.count);
      each = each_push xs ys s (λ k t. (t.party ≡ k) × (t.sectors ≡ c.args.sectors) × (t.width ≡ c.args.width)) o.items i.each ((let a = e.1 in let b = c.len-party.ensures in omega (arith, a, b)), e.2, e.3);
      room = o.capacity ∙ i.room;
      rest = append_assoc done (p ∷ []) c.next.new.self.rest.items ∙ (ap (λ r. done ++ r) (sym c.in-Some.ensures.steps.0) ∙ i.rest);
    }
