use Rattle.std.proofs.Common.{map, ◌++◌, subst, sym, ap, ◌∙◌}
use Rattle.std.specs.Prelude.{All}
use Rattle.std.proofs.lemmas.List.Elements.{All-append}
use Rattle.crossbeam_queue.specs.Passes.{view, IsPassOf}
use Rattle.ticket_queue.specs.Parties.{AreHands, IsOrder}
use Rattle.ticket_queue.proofs.Orders.{hand_is}
use Rattle.bio_queue.proofs.Parties.{all_map, seated, two_rows}
use Rattle.bio_queue.proofs.queue.BioQueue.close_into.Goals as goal

pub finish-left-requires-clause-passes : goal.finish-left-requires-clause-passes
finish-left-requires-clause-passes g c =
    let xs = c.args.submitters.items in
    let ys = c.args.workers.items in
    let first = c.take_submitters-passes.ensures.passes ∙ ap (λ l. l ++ map (λ s. s.pass) xs) c.requires.passes.0 in
    let both = c.take_workers-rows.ensures.passes in
    subst (All (λ p. IsPassOf c.args.self.queue p)) (sym (both ∙ ap (λ l. l ++ map (λ w. w.ticket) ys) first))
    (All-append (λ p. IsPassOf c.args.self.queue p) (map (λ s. s.pass) xs) (map (λ w. w.ticket) ys)
    (all_map (λ p. IsPassOf c.args.self.queue p) (λ s. s.pass) xs c.requires.queue.0) (all_map (λ p. IsPassOf c.args.self.queue p) (λ w. w.ticket) ys c.requires.queue.1))

pub finish-left-requires-clause-each : goal.finish-left-requires-clause-each
finish-left-requires-clause-each g c =
    let xs = c.args.submitters.items in
    let ys = c.args.workers.items in
    let first = c.take_submitters-passes.ensures.passes ∙ ap (λ l. l ++ map (λ s. s.pass) xs) c.requires.passes.0 in
    let both = c.take_workers-rows.ensures.passes in
    subst AreHands (sym (two_rows view (λ s. s.pass) (λ w. w.ticket) xs ys c.take_submitters-passes.result.items c.take_workers-rows.result.passes.items first both))
    (seated (λ s. view s.pass) (λ s. s.party) (λ w. view w.ticket) (λ w. w.party) xs ys (λ s. hand_is s.party (view s.pass) s.hand) (λ w. hand_is w.party (view w.ticket) w.hand)
    (λ k s at. (c.requires.submitters k s at).0) (λ k w at. (c.requires.workers k w at).0))

pub returns-clause-order : goal.returns-clause-order
returns-clause-order g c =
    let xs = c.args.submitters.items in
    let ys = c.args.workers.items in
    let first = c.take_submitters-passes.ensures.passes ∙ ap (λ l. l ++ map (λ s. s.pass) xs) c.requires.passes.0 in
    let both = c.take_workers-rows.ensures.passes in
    subst (λ vs. IsOrder vs c.finish-left.result.items) (two_rows view (λ s. s.pass) (λ w. w.ticket) xs ys c.take_submitters-passes.result.items c.take_workers-rows.result.passes.items first both) c.finish-left.ensures
