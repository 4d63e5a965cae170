use Rattle.std.proofs.Common.{rules, ◌≡◌, ℕ, List, ◌∷◌, ap, ◌∙◌, true}
use Rattle.std.specs.Prelude.{not, filter, is_ok}
use Rattle.std.specs.Str.{bytes_eq}
use Rattle.std.proofs.lemmas.Fn.{filter_same}
use Rattle.namespace_ops.specs.Claims.{Counts, with_count}
use Rattle.namespace_ops.proofs.claims.Claims.set.Goals as goal

pub returns-clause-counts : goal.returns-clause-counts
returns-clause-counts c =
    let kept : c.retain.new.self.items ≡ filter (λ (x : List ℕ × ℕ). not (bytes_eq x.0 c.args.uuid.now)) c.self.inside.counts.items =
    filter_same _ (λ (x : List ℕ × ℕ). not (bytes_eq x.0 c.args.uuid.now)) _ (λ x b f k. search rules) _ _ c.retain.ensures.filtered in
    let done : is_ok c.insert-taken.result ≡ true = search rules in
    c.insert-taken.ensures.items ∙ rw done (ap (λ (xs : List (List ℕ × ℕ)). (c.args.uuid.now, c.args.count) ∷ xs) kept) ∙ ap (λ (k : Counts). with_count k.counts c.args.uuid.now c.args.count) c.self.view_is
