use Rattle.std.proofs.Common.{◌≡◌, ◌∙◌, ℕ, ◌+◌, List, ◌∷◌, ◌++◌, drop, ap, sym}
use Rattle.std.specs.Prelude.{filter}
use Rattle.std.proofs.lemmas.List.{drop_all}
use Rattle.served_namespaces.specs.Opening.{firsts}
use Rattle.served_namespaces.proofs.Firsts.{first_all, first_next, first_none, fresh}
use Rattle.served_namespaces.proofs.Parts.{next_item}
use Rattle.served_namespaces.proofs.finding.set_of.Goals as goal

pub loop-uuid-init : goal.loop-uuid-init
loop-uuid-init c =
    ap (λ (us : List (List ℕ)). us ++ filter (fresh us) (firsts c.args.uuids.now)) c.new-ones.ensures.empty ∙ first_none c.args.uuids.now

pub loop-uuid-preserved : goal.loop-uuid-preserved
loop-uuid-preserved c =
    let next : drop c.loop-uuid.uuid-index c.args.uuids.now ≡ c.uuid-item.result ∷ drop (c.loop-uuid.uuid-index + 1) c.args.uuids.now =
    next_item c.args.uuids.now c.loop-uuid.uuid-index c.uuid-item.result c.loop-uuid-test.true c.uuid-item.is in
    ap (λ (us : List (List ℕ)). us ++ filter (fresh us) (firsts (drop (c.loop-uuid.uuid-index + 1) c.args.uuids.now))) c.in_ok-add.ensures
    ∙ first_next c.loop-uuid.ones.keys c.uuid-item.result (drop (c.loop-uuid.uuid-index + 1) c.args.uuids.now)
    ∙ ap (λ (us : List (List ℕ)). c.loop-uuid.ones.keys ++ filter (fresh c.loop-uuid.ones.keys) (firsts us)) (sym next)
    ∙ c.loop-uuid.invariant

pub returns : goal.returns
returns c =
    sym (first_all c.loop-uuid.ones.keys (drop c.loop-uuid.uuid-index c.args.uuids.now) (drop_all c.loop-uuid.uuid-index c.args.uuids.now c.loop-uuid-test.false)) ∙ c.loop-uuid.invariant
