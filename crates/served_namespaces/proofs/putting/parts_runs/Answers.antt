use Rattle.std.proofs.Common.{◌≡◌, ◌∙◌, ◌+◌, ◌++◌, ◌∷◌, [], length, refl, sym, ap, subst, arith, append_assoc}
use Rattle.std.proofs.lemmas.List.Sums.{sum_by-cons}
use Rattle.served_namespaces.specs.Putting.{total_of}
use Rattle.served_namespaces.specs.Steps.{ArePartRuns}
use Rattle.served_namespaces.proofs.PutInTurn.{runs_more, total_more}
use Rattle.served_namespaces.proofs.putting.parts_runs.Goals as goal

pub loop-part-init : goal.loop-part-init
loop-part-init c = record {
  rest = c.into_iter-part-iterator.ensures.into_iter_gives.0 ∙ c.into_vec-part-items.ensures;
  at = refl;
  are = subst (ArePartRuns 0 []) (sym c.new-runs.ensures) tt;
}

pub loop-part-preserved : goal.loop-part-preserved
loop-part-preserved c =
    let i = c.loop-part.invariant in
    let done = c.loop-part.yielded in
    let part = c.in-Some.part in
    let run = c.in_ok-words_run.ensures in
    let words = c.into_vec.ensures in
    let total : total_of (done ++ part ∷ []) ≡ total_of done + length part = total_more done (part ∷ []) ∙ ap (λ n. total_of done + n) (sum_by-cons (λ p. length p) part []) ∙ omega arith in
    record {
      rest = append_assoc done (part ∷ []) c.next.new.self.rest.items ∙ ap (λ r. done ++ r) (sym c.in-Some.ensures.steps.0) ∙ i.rest;
      at = omega (arith, total, i.at, c.len-count.ensures);
      are = subst (ArePartRuns 0 (done ++ part ∷ [])) (sym c.in_ok-push.ensures.ok)
          (runs_more 0 done c.loop-part.runs part c.in_ok-words_run.field-0 i.are (omega (arith, run.first, i.at)) (omega (arith, run.long, ap (λ ws. length ws) words)) (run.words ∙ words));
    }
