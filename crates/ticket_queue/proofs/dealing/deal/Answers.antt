use Rattle.std.proofs.Common.{◌≡◌, ◌∷◌, ◌++◌, [], length, length-append, map, ap, sym, ◌∙◌, subst, arith}
use Rattle.std.specs.Prelude.{All}
use Rattle.std.proofs.lemmas.List.Elements.{All-push}
use mathlib.Core.List.{map-append}
use lib.ListN.{length-map}
use Rattle.crossbeam_queue.specs.Passes.{view, IsPassOf}
use Rattle.ticket_queue.specs.Law.{all_from, none_yet}
use Rattle.ticket_queue.specs.Parties.{AreNew}
use Rattle.ticket_queue.proofs.Orders.{new_push}
use Rattle.ticket_queue.proofs.dealing.deal.Goals as goal

pub loop-preserved : goal.loop-preserved
loop-preserved g c =
    let i = c.loop.invariant in
    let ps = c.loop.passes.items in
    let p = c.next_party.result in
    let q = c.next_party.ensures.queue in
    let next = c.next_party.ensures.next (length ps) i.maker in
    let items = c.push_reserved.ensures.items in
    let more : ps ++ p ∷ [] ≡ c.push_reserved.new.self.items = sym items in
    record {
      same = (q.0.0 ∙ i.same.0, q.0.1 ∙ i.same.1, q.0.2 ∙ i.same.2);
      count = omega (arith, ap length items, length-append ps (p ∷ []), i.count);
      room = omega (arith, i.room, c.push_reserved.ensures);
      maker = next.0 ∙ ap all_from (omega (arith, ap length items, length-append ps (p ∷ [])));
      all = subst (All (λ x. IsPassOf c.args.queue.now x)) more (All-push (λ x. IsPassOf c.args.queue.now x) ps p i.all q.1);
      new = subst AreNew (sym (map-append view ps (p ∷ [])) ∙ ap (map view) more) (new_push (map view ps) (view p) i.new (next.1 ∙ ap none_yet (sym (length-map ps view))));
    }

pub returns-clause-maker : goal.returns-clause-maker
returns-clause-maker g c = let i = c.loop.invariant in i.maker ∙ ap all_from (i.count ∙ omega arith)

pub returns-clause-count : goal.returns-clause-count
returns-clause-count g c = let i = c.loop.invariant in omega (arith, i.count)
