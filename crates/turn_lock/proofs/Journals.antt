-- A journal with one more entry, and the entries of one caller in it. `by` says whose an entry is.
use Rattle.std.proofs.Common.{◌≡◌, ◌≢◌, ℕ, List, [], ◌∷◌, ◌++◌, Bool, cond, ap, ◌∙◌, eq-eqb, ne_eqb, append-nil}
use Rattle.std.specs.Prelude.{◌==◌, filter}
use Rattle.std.proofs.lemmas.List.Elements.{filter-append}

module _ {E : Type 0} (by : E → ℕ) where
  -- an entry of the caller comes last
  pub own_push : (q : ℕ) (es : List E) (e : E) → by e ≡ q → filter (λ x. by x == q) (es ++ e ∷ []) ≡ filter (λ x. by x == q) es ++ e ∷ []
  own_push q es e is = filter-append (λ x. by x == q) es (e ∷ []) ∙ ap (λ (b : Bool). filter (λ x. by x == q) es ++ cond b (e ∷ []) []) (eq-eqb (by e) q is)

  -- an entry of another caller is skipped
  pub other_push : (q : ℕ) (es : List E) (e : E) → by e ≢ q → filter (λ x. by x == q) (es ++ e ∷ []) ≡ filter (λ x. by x == q) es
  other_push q es e other = filter-append (λ x. by x == q) es (e ∷ []) ∙ (ap (λ (b : Bool). filter (λ x. by x == q) es ++ cond b (e ∷ []) []) (ne_eqb (by e) q other) ∙ append-nil (filter (λ x. by x == q) es))
