use Rattle.std.proofs.Common.{◌≡◌, true, map, ◌++◌, sym, ◌∙◌}
use Rattle.crossbeam_queue.specs.Passes.{view}
use Rattle.ticket_queue.proofs.Counting.{account}
use Rattle.bio_queue.specs.Ops.{fits_in}
use Rattle.bio_queue.proofs.Parties.{fits_taken, of_put}
use Rattle.bio_queue.proofs.queue.BioQueue.close.Goals as goal

pub returns-clause-account : goal.returns-clause-account
returns-clause-account g c =
    let xs = c.args.submitters.items in
    let ys = c.args.workers.items in
    account (λ b. b.number) (map (λ s. view s.pass) xs ++ map (λ w. view w.ticket) ys) c.close_into.result.left.items c.close_into.ensures.order
    (of_put (λ s. view s.pass) (λ w. view w.ticket) (λ i t. t.item.number ≡ i) xs ys (λ k s at i t e. (s.numbered i t e).1) (λ w. w.puts_none))

pub returns-clause-done : goal.returns-clause-done
returns-clause-done g c k w at =
    let xs = c.args.submitters.items in
    let ys = c.args.workers.items in
    let q = c.args.self in
    let wide = (c.requires.workers k w at) in
    let fit = fits_taken (λ s. view s.pass) (λ v. view v.ticket) xs ys c.close_into.result.left.items c.close_into.ensures.order (λ b. fits_in q.sectors q.width b.op ≡ true)
    (λ j s here n t e. let own = c.requires.submitters j s here in (λ i. fits_in (sym own.1 i) (sym own.2 i) t.item.op) ∙ s.all_fit n t e) (λ v. v.puts_none) k w at in
    c.requires.done k w at (record { each = λ n t e. (λ i. fits_in (wide.1 i) (wide.2 i) t.item.op) ∙ fit.each n t e })
