use Rattle.std.proofs.Common.{◌++◌, [], ◌∷◌, append_assoc, ap, ◌∙◌, sym, subst}
use Rattle.std.specs.Prelude.{All}
use Rattle.turn_lock.proofs.Places.{all_at_seam}
use Rattle.arena_open.specs.Moves.{IsOpenState}
use Rattle.session_service.specs.Namespaces.{AreOpened}
use Rattle.session_service.proofs.Making as making
use Rattle.session_service.proofs.laying.lay.Goals as goal

pub loop-namespace-preserved : goal.loop-namespace-preserved
loop-namespace-preserved c =
    let i = c.loop-namespace.invariant in
    let n = c.in-Some.namespace in
    let p = c.in_ok-place.place in
    let o = c.in_ok-place.ensures in
    let done = c.loop-namespace.yielded in
    let behind = ap (λ r. done ++ r) (sym c.in-Some.ensures.steps.0) ∙ i.rest in
    let places = c.loop-namespace.places.items in
    let places' = c.push.new.self.items in
    let states = c.loop-namespace.states.items in
    let states' = c.add_namespace.new.states.items in
    record {
      rest = append_assoc done (n ∷ []) c.next.new.self.rest.items ∙ behind;
      all = making.all_more p n o.place.0 o.layouts places places' c.in_ok-push.ensures.items done states states' o.states i.all;
      firsts = making.placed_more p n o.place.0 o.layouts places places' c.in_ok-push.ensures.items done states states' o.states i.firsts i.count o.place.1;
      count = making.count_more p n o.place.0 o.layouts places places' c.in_ok-push.ensures.items done states states' o.states i.count;
      opened = subst (λ ss. All IsOpenState ss) (sym o.states) (making.all_two IsOpenState states n.arenas.items i.opened (all_at_seam AreOpened c.args.served.items done c.next.new.self.rest.items n behind c.requires));
      states = making.states_all p n o.place.0 o.layouts places places' c.in_ok-push.ensures.items done states states' o.states i.states;
    }
