use Rattle.std.proofs.Common.{map, length}
use lib.ListN.{length-map}
use Rattle.crossbeam_queue.specs.Passes.{view}
use Rattle.ticket_queue.proofs.Orders.{complete, orders, all_hands}
use Rattle.ticket_queue.proofs.dealing.finish.Goals as goal

pub drain-requires-clause-all : goal.drain-requires-clause-all
drain-requires-clause-all g c =
    let ps = c.args.passes.items in
    complete (view c.gather_all-keeper.result) (map view ps) (all_hands (view c.gather_all-keeper.result) (view c.args.maker) (map view ps) (length ps) c.gather_all-keeper.ensures.knows c.requires.maker (length-map ps view)) c.requires.each

pub returns : goal.returns
returns g c =
    let ps = c.args.passes.items in
    orders (view c.gather_all-keeper.result) (map view ps) c.drain.result.items
    (all_hands (view c.gather_all-keeper.result) (view c.args.maker) (map view ps) (length ps) c.gather_all-keeper.ensures.knows c.requires.maker (length-map ps view)) c.requires.each c.drain.ensures
