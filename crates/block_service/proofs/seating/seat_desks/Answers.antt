use Rattle.std.proofs.Common.{◌≡◌, ◌++◌, ◌∷◌, [], length, length-append, map, append_assoc, refl, sym, ap, ◌∙◌, arith}
use mathlib.Core.Option.{some}
use lib.ListN.{get_elem?, length-map}
use Rattle.bio_queue.proofs.Dealing.{each_push, map_push, next_at}
use Rattle.block_service.proofs.Counts.{at_same}
use Rattle.block_service.proofs.seating.seat_desks.Goals as goal

pub new-requires : goal.new-requires
new-requires g c =
    let i = c.loop-submitter.invariant in
    let done = c.loop-submitter.yielded in
    let s = c.in-Some.submitter in
    let v = c.in-Some-next-2.own in
    let seats = c.loop-submitter.desks.items in
    let whole = ap (λ r. done ++ r) (sym c.in-Some.ensures.steps.0) ∙ i.done in
    let place = next_at done s c.next.new.self.rest.items c.args.submitters.items whole in
    let rows = ap (λ r. map (λ d. d.jobs) seats ++ r) (sym c.in-Some-next-2.ensures.items) ∙ i.jobs in
    let row = next_at (map (λ d. d.jobs) seats) v c.next-in-loop-submitter-2.new.self.rest.items c.args.jobs.items rows in
    record { fitting = c.requires.fitting (length done) s v place (at_same c.args.jobs.items (length (map (λ d. d.jobs) seats)) (length done) v (length-map seats (λ d. d.jobs) ∙ i.count) row) }

pub loop-submitter-preserved : goal.loop-submitter-preserved
loop-submitter-preserved g c =
    let i = c.loop-submitter.invariant in
    let done = c.loop-submitter.yielded in
    let s = c.in-Some.submitter in
    let xs = c.loop-submitter.desks.items in
    let ys = c.push_reserved.new.self.items in
    let d = c.new.result in
    let e = c.new.ensures.parts in
    let o = c.push_reserved.ensures in
    let worker = c.in-Some-next.worker in
    let own = c.in-Some-next-2.own in
    record {
      submitters = map_push xs ys d (λ x. x.submitter) done s o.items i.submitters e.0;
      count = omega (arith, ap length o.items, length-append xs (d ∷ []), length-append done (s ∷ []), i.count);
      workers = ap (λ l. l ++ c.next-in-loop-submitter.new.self.rest.items) (map_push xs ys d (λ x. x.worker) (map (λ x. x.worker) xs) worker o.items refl e.1)
          ∙ (append_assoc (map (λ x. x.worker) xs) (worker ∷ []) c.next-in-loop-submitter.new.self.rest.items ∙ (ap (λ r. map (λ x. x.worker) xs ++ r) (sym c.in-Some-next.ensures.items) ∙ i.workers));
      jobs = ap (λ l. l ++ c.next-in-loop-submitter-2.new.self.rest.items) (map_push xs ys d (λ x. x.jobs) (map (λ x. x.jobs) xs) own o.items refl e.2)
          ∙ (append_assoc (map (λ x. x.jobs) xs) (own ∷ []) c.next-in-loop-submitter-2.new.self.rest.items ∙ (ap (λ r. map (λ x. x.jobs) xs ++ r) (sym c.in-Some-next-2.ensures.items) ∙ i.jobs));
      limit = each_push xs ys d (λ k x. x.limit ≡ c.args.limit) o.items i.limit e.3;
      room = o.capacity ∙ i.room;
      done = append_assoc done (s ∷ []) c.next.new.self.rest.items ∙ (ap (λ r. done ++ r) (sym c.in-Some.ensures.steps.0) ∙ i.done);
    }
