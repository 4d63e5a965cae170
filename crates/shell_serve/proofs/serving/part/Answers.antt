use Rattle.std.proofs.Common.{[], ◌∷◌, ◌++◌, sym, ap, ◌∙◌, refl, append_assoc}
use Rattle.shell_serve.proofs.Parting.{mapped_more, same_more}
use Rattle.shell_serve.proofs.serving.part.Goals as goal

pub loop-namespace-preserved : goal.loop-namespace-preserved
loop-namespace-preserved c =
    let i = c.loop-namespace.invariant in
    let o = c.in-Some.namespace in
    record {
      rest = append_assoc c.loop-namespace.yielded (o ∷ []) c.next.new.self.rest.items ∙ ap (λ r. c.loop-namespace.yielded ++ r) (sym c.in-Some.ensures.steps.0) ∙ i.rest;
      places = mapped_more (λ o. o.place) c.loop-namespace.yielded o c.loop-namespace.places.items _ o.place c.in_ok-push-2.ensures.items i.places refl;
      served = same_more c.loop-namespace.yielded o c.loop-namespace.served.items _ _ c.in_ok-push.ensures.items i.served refl c.into_vec.ensures;
    }
