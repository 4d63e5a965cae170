-- The first of several findings.
use Rattle.std.proofs.Common.{◌≡◌, List, [], ◌∷◌, Option, Some, None, refl, ap, ◌∙◌}
use Rattle.std.specs.Option.{option_or}
use Rattle.nvd_words.specs.Checks.{first_fault}

-- the first two findings as one
pub two_as_one : {F : Type 0} (a b : Option F) (rest : List (Option F)) → first_fault (option_or a b ∷ rest) ≡ first_fault (a ∷ b ∷ rest)
unfolding first_fault
two_as_one None b rest = refl
two_as_one (Some f) b rest = refl

-- a single finding
pub one_alone : {F : Type 0} (a : Option F) → a ≡ first_fault (a ∷ [])
unfolding first_fault
one_alone None = refl
one_alone (Some f) = refl

-- a chain of findings with its last link
pub last_link : {F : Type 0} (chain before last found : Option F) (rest : List (Option F)) → chain ≡ option_or before last → last ≡ found
    → first_fault (chain ∷ rest) ≡ first_fault (before ∷ found ∷ rest)
last_link chain before last found rest is last_is =
    ap (λ (o : Option _). first_fault (o ∷ rest)) (is ∙ ap (λ (o : Option _). option_or before o) last_is) ∙ two_as_one before found rest

-- its first link
pub first_link : {F : Type 0} (first found : Option F) (rest : List (Option F)) → first ≡ found → first_fault (first ∷ rest) ≡ first_fault (found ∷ rest)
first_link first found rest is = ap (λ (o : Option _). first_fault (o ∷ rest)) is
