-- The entries of a cookie.
use Rattle.std.proofs.Common.{◌≡◌, ℕ, ◌*◌, List, [], ◌∷◌, ◌++◌, length, refl, ap, ◌∙◌, arith}
use Rattle.std.specs.List.{flat_map}
use Rattle.std.proofs.lemmas.List.{append_assoc}
use Rattle.nfit_reader.specs.declared.table.Mapping.{Mapping}
use Rattle.interleave.specs.Places.{cookie_entry}

-- one more piece before the rest
pub more : (a b x s s' t : List ℕ) → b ≡ a ++ s → s ≡ s' → x ≡ b ++ t → x ≡ a ++ (s' ++ t)
more a b x s s' t e same is = is ∙ ap (λ (l : List ℕ). l ++ t) (e ∙ ap (λ (l : List ℕ). a ++ l) same) ∙ append_assoc a s' t

pub entries_long : (ms : List Mapping) → length (flat_map cookie_entry ms) ≡ 48 * length ms
entries_long [] = refl
entries_long (m ∷ ms) = omega (arith, entries_long ms)
