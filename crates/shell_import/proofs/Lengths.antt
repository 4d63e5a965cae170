-- As many bytes as a namespace has, or others.
use Rattle.std.proofs.Common.{◌≡◌, ◌≢◌, ℕ, Bool, true, false, Some, None, refl, sym, ap, ◌∙◌, arith}
use Rattle.std.specs.Prelude.{◌==◌, if◌then◌else◌}
use Rattle.std.proofs.lemmas.Bool.{eqb-true, ne_eqb}
use Rattle.std.proofs.lemmas.Bool.Decides.{nat_tests}
use Rattle.shell_sectors.specs.Write.{length_refusal, length_text}

-- bytes of another length are refused
pub misfit : (said had had' : ℕ) → had ≡ had' → said ≢ had → length_refusal said had' ≡ Some (length_text said had)
misfit said had had' e ne = rw (ne_eqb said had' (λ x. ne (x ∙ sym e))) (ap (λ (n : ℕ). Some (length_text said n)) (sym e))

-- bytes that aren't refused are as many
pub same_length : (said had : ℕ) → length_refusal said had ≡ None → said ≡ had
same_length said had fit = by (said == had) refl fit
  where
    by : (b : Bool) → (said == had) ≡ b → (if b then None else Some (length_text said had)) ≡ None → said ≡ had
    by true e none = eqb-true said had e
    by false e none = absurd cc

pub no_misfit : (said had : ℕ) → said ≡ had → length_refusal said had ≡ None
no_misfit said had e = rw (same said had e) refl
  where
    same : (a b : ℕ) → a ≡ b → (a == b) ≡ true
    same a b e = grind (arith, nat_tests)
