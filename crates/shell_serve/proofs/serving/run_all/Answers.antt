use Rattle.std.proofs.Common.{◌≡◌, ◌++◌, List, [], ◌∷◌, refl, length, take, drop, sym, ap, ◌∙◌, subst}
use Rattle.session_service.specs.Runners.{AreEnded}
use Rattle.shell_serve.proofs.serving.run_all.Goals as goal

-- what stands before the rest
take_before : {A : Type 0} (xs ys : List A) → take (length xs) (xs ++ ys) ≡ xs
take_before [] ys = refl
take_before (x ∷ xs) ys = ap (λ r. x ∷ r) (take_before xs ys)

pub close-requires-clause-ended : goal.close-requires-clause-ended
close-requires-clause-ended g c =
    let runners = c.run_sessions.new.runners in
    let rest = drop (length runners) c.in_ok-service.runners.items in
    let counted : length runners ≡ c.in_ok-service.runners.len = c.run_sessions.ensures.count ∙ c.deref_mut.ensures.len in
    subst (λ rs. AreEnded c.in_ok-service.service c.args.script.now rs) (sym (ap (λ n. take n (runners ++ rest)) (sym counted) ∙ take_before runners rest)) c.run_sessions.ensures.ended
