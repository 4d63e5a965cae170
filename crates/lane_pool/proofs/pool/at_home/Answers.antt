use Rattle.std.proofs.Common.{[], ◌∷◌, ◌++◌, append_assoc, ap, ◌∙◌, sym}
use Rattle.lane_pool.proofs.Homes.{home_more}
use Rattle.lane_pool.proofs.pool.at_home.Goals as goal

pub loop-set-preserved : goal.loop-set-preserved
loop-set-preserved c =
    let i = c.loop-set.invariant in
    let s = c.in-Some.set in
    let done = c.loop-set.yielded in
    record {
      rest = append_assoc done (s ∷ []) c.next.new.self.rest.items ∙ ap (λ r. done ++ r) (sym c.in-Some.ensures.steps.0) ∙ i.rest;
      home = home_more c.loop-set.home.items c.push.new.self.items done s c.in_ok-push.ensures.items i.home;
    }
