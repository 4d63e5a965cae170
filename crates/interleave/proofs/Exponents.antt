-- Powers of two: their factors, and their exponents.
use Rattle.std.proofs.Common.{◌≡◌, ℕ, zero, suc, ◌+◌, ◌*◌, ◌/◌, ◌%◌, ◌^◌, ◌<◌, refl, sym, ap, ◌∙◌, arith, inl, inr}
use Rattle.std.specs.Int.{IsPowerOfTwo, w64, trailing_zeros, bit_at}
use Rattle.std.proofs.lemmas.Bool.{cases_eq}
use Rattle.std.proofs.lemmas.Nat.{div-add-mod', mod_below, pow_pos}
use Rattle.std.proofs.lemmas.Nat.Bits.{bit_at-trailing_zeros, bit_at-pow_other}

-- a factor of 1
factor_of_one : (a b : ℕ) → a * b ≡ 1 → a ≡ 1
factor_of_one zero b e = absurd (omega arith)
factor_of_one (suc zero) b e = refl
factor_of_one (suc (suc a)) zero e = absurd (omega arith)
factor_of_one (suc (suc a)) (suc b) e = absurd (omega arith)

-- half of an even factor
half_of : (a b h n : ℕ) → a ≡ h * 2 → a * b ≡ 2 * n → h * b ≡ n
half_of a b h n even e =
    let e' : a * b ≡ h * 2 * b = ap (λ (x : ℕ). x * b) even in
    omega (arith, e, e')

-- an odd factor's partner is even
partner_even : (a b h h' n : ℕ) → a ≡ h * 2 + 1 → b ≡ h' * 2 + 1 → a * b ≡ 2 * n → ⊥
partner_even a b h h' n odd odd' e =
    let e' : a * b ≡ (h * 2 + 1) * b = ap (λ (x : ℕ). x * b) odd in
    let e'' : (h * 2 + 1) * b ≡ (h * 2 + 1) * (h' * 2 + 1) = ap (λ (x : ℕ). (h * 2 + 1) * x) odd' in
    absurd (omega (arith, e, e', e''))

-- each factor of a power of two is a power of two
pub factor_power : (k a b : ℕ) → a * b ≡ 2 ^ k → IsPowerOfTwo a
factor_power zero a b e = (0, factor_of_one a b e)
factor_power (suc k) a b e =
    let halves : a / 2 * 2 + a % 2 ≡ a = div-add-mod' a 2 in
    let halves' : b / 2 * 2 + b % 2 ≡ b = div-add-mod' b 2 in
    let below : a % 2 < 2 = mod_below a 2 (omega arith) in
    let below' : b % 2 < 2 = mod_below b 2 (omega arith) in
    elim (cases_eq (a % 2) 0) [
      | inl even ↦
          let half : IsPowerOfTwo (a / 2) = factor_power k (a / 2) b (half_of a b (a / 2) (2 ^ k) (omega (arith, halves, even)) (e ∙ omega arith)) in
          (suc half.0, omega (arith, halves, even, half.1))
      | inr odd ↦
          elim (cases_eq (b % 2) 0) [
            | inl even' ↦ factor_power k a (b / 2) (omega (arith, half_of b a (b / 2) (2 ^ k) (omega (arith, halves', even')) (omega (arith, e))))
            | inr odd' ↦ absurd (partner_even a b (a / 2) (b / 2) (2 ^ k) (omega (arith, halves, below, odd)) (omega (arith, halves', below', odd')) (e ∙ omega arith))
          ]
    ]

-- the number of trailing zeros of a power of two is its exponent
pub exponent_of : (n : ℕ) → IsPowerOfTwo n → n < 2 ^ 64 → (2 ^ trailing_zeros w64 n ≡ n) × (trailing_zeros w64 n < 64)
exponent_of n power fits =
    let zeros : ℕ = trailing_zeros w64 n in
    let lowest = bit_at-trailing_zeros w64 n (omega (arith, pow_pos power.0, power.1)) fits in
    elim (cases_eq zeros power.0) as (λ _. (2 ^ zeros ≡ n) × (zeros < 64)) [
      | inl same ↦ (ap (λ (k : ℕ). 2 ^ k) same ∙ sym power.1, lowest.0)
      | inr other ↦
          let none : bit_at n zeros ≡ 0 = ap (λ (x : ℕ). bit_at x zeros) power.1 ∙ bit_at-pow_other power.0 zeros other in
          absurd (omega (arith, lowest.1, none))
    ]
