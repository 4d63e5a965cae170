use Rattle.std.proofs.Common.{◌≡◌, ◌+◌, ◌++◌, ◌∷◌, [], None, length, length-append, append_assoc, map, refl, sym, ap, ◌∙◌, arith}
use Rattle.ticket_queue.specs.Law.{none_yet}
use Rattle.bio_queue.proofs.Dealing.{each_push, map_push, next_at}
use Rattle.bio_queue.proofs.opening.seat_workers.Goals as goal

pub worker_of-requires : goal.worker_of-requires
worker_of-requires g c =
    let i = c.loop-ticket.invariant in
    let done = c.loop-ticket.yielded in
    let p = c.in-Some.ticket in
    let whole = ap (λ r. done ++ r) (sym c.in-Some.ensures.steps.0) ∙ i.done in
    c.requires.new (length done) p (next_at done p c.next.new.self.rest.items c.args.others.items whole) ∙ ap none_yet (omega (arith, i.count, c.len.ensures))

pub loop-ticket-preserved : goal.loop-ticket-preserved
loop-ticket-preserved g c =
    let i = c.loop-ticket.invariant in
    let done = c.loop-ticket.yielded in
    let p = c.in-Some.ticket in
    let xs = c.loop-ticket.workers.items in
    let ys = c.push_reserved.new.self.items in
    let w = c.worker_of.result in
    let e = c.worker_of.ensures in
    let o = c.push_reserved.ensures in
    let session = c.in-Some-next.session in
    record {
      passes = map_push xs ys w (λ t. t.ticket) done p o.items i.passes e.same.0;
      count = omega (arith, ap length o.items, length-append xs (w ∷ []), length-append done (p ∷ []), i.count);
      sessions = ap (λ l. l ++ c.next-in-loop-ticket.new.self.rest.items) (map_push xs ys w (λ t. t.session) (map (λ t. t.session) xs) session o.items refl e.same.1)
          ∙ (append_assoc (map (λ t. t.session) xs) (session ∷ []) c.next-in-loop-ticket.new.self.rest.items ∙ (ap (λ r. map (λ t. t.session) xs ++ r) (sym c.in-Some-next.ensures.items) ∙ i.sessions));
      each = each_push xs ys w (λ k t. (t.party ≡ c.args.submitters + k) × (t.sectors ≡ c.args.sectors) × (t.width ≡ c.args.width) × (t.completed.items ≡ []) × (t.cut ≡ None)) o.items i.each
          ((let a = e.same.2 in let b = c.len.ensures in omega (arith, a, b)), e.same.3, e.same.4, e.none.0, e.none.1);
      room = o.capacity ∙ i.room;
      done = append_assoc done (p ∷ []) c.next.new.self.rest.items ∙ (ap (λ r. done ++ r) (sym c.in-Some.ensures.steps.0) ∙ i.done);
    }
