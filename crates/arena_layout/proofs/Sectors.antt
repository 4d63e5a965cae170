-- Facts about each of the seven sector sizes.
use Rattle.std.proofs.Common.{◌≡◌, ℕ, ◌+◌, ◌*◌, ◌%◌, ◌^◌, ◌≤◌, true, eqb, refl, sym, subst, inl, inr, arith}
use Rattle.std.specs.Prelude.{◌||◌}
use Rattle.std.proofs.lemmas.Bool.{eqb-true, or_cases}
use Rattle.arena_layout.specs.Layout.{is_sector, greatest_size}
use Rattle.arena_layout.specs.Plan.{inner_of, internal_of}

pub sector_elim : (P : ℕ → Type 0) → P 512 → P 520 → P 528 → P 4096 → P 4104 → P 4160 → P 4224 → (s : ℕ) → is_sector s ≡ true → P s
unfolding is_sector
sector_elim P a b c d e f g s is =
    elim (or_cases ((eqb s 512) || (eqb s 520) || (eqb s 528) || (eqb s 4096) || (eqb s 4104) || (eqb s 4160)) (eqb s 4224) is) [
      | inr h ↦ subst P (sym (eqb-true s 4224 h)) g
      | inl is ↦ elim (or_cases ((eqb s 512) || (eqb s 520) || (eqb s 528) || (eqb s 4096) || (eqb s 4104)) (eqb s 4160) is) [
        | inr h ↦ subst P (sym (eqb-true s 4160 h)) f
        | inl is ↦ elim (or_cases ((eqb s 512) || (eqb s 520) || (eqb s 528) || (eqb s 4096)) (eqb s 4104) is) [
          | inr h ↦ subst P (sym (eqb-true s 4104 h)) e
          | inl is ↦ elim (or_cases ((eqb s 512) || (eqb s 520) || (eqb s 528)) (eqb s 4096) is) [
            | inr h ↦ subst P (sym (eqb-true s 4096 h)) d
            | inl is ↦ elim (or_cases ((eqb s 512) || (eqb s 520)) (eqb s 528) is) [
              | inr h ↦ subst P (sym (eqb-true s 528 h)) c
              | inl is ↦ elim (or_cases (eqb s 512) (eqb s 520) is) [
                | inr h ↦ subst P (sym (eqb-true s 520 h)) b
                | inl h ↦ subst P (sym (eqb-true s 512 h)) a
              ]
            ]
          ]
        ]
      ]
    ]

-- the blocks of a sector size
pub record Blocks (s : ℕ) : Type 0 where
  pub sector_high : s ≤ 4224
  pub inner_whole : inner_of s % 64 ≡ 0
  pub inner_enough : s ≤ inner_of s
  pub fits : (available : ℕ) → 16752640 ≤ available → internal_of available s * inner_of s + 4 * internal_of available s + 4096 ≤ available
  pub some : (available : ℕ) → 16752640 ≤ available → 257 ≤ internal_of available s
  pub few : (available : ℕ) → available ≤ greatest_size → internal_of available s ≤ 2 ^ 30

pub blocks : (s : ℕ) → is_sector s ≡ true → Blocks s
unfolding inner_of internal_of
blocks s is =
    sector_elim Blocks
    (record { sector_high = omega arith; inner_whole = refl; inner_enough = omega arith; fits = λ a low. omega arith; some = λ a low. omega arith; few = λ a high. omega arith })
    (record { sector_high = omega arith; inner_whole = refl; inner_enough = omega arith; fits = λ a low. omega arith; some = λ a low. omega arith; few = λ a high. omega arith })
    (record { sector_high = omega arith; inner_whole = refl; inner_enough = omega arith; fits = λ a low. omega arith; some = λ a low. omega arith; few = λ a high. omega arith })
    (record { sector_high = omega arith; inner_whole = refl; inner_enough = omega arith; fits = λ a low. omega arith; some = λ a low. omega arith; few = λ a high. omega arith })
    (record { sector_high = omega arith; inner_whole = refl; inner_enough = omega arith; fits = λ a low. omega arith; some = λ a low. omega arith; few = λ a high. omega arith })
    (record { sector_high = omega arith; inner_whole = refl; inner_enough = omega arith; fits = λ a low. omega arith; some = λ a low. omega arith; few = λ a high. omega arith })
    (record { sector_high = omega arith; inner_whole = refl; inner_enough = omega arith; fits = λ a low. omega arith; some = λ a low. omega arith; few = λ a high. omega arith })
    s is
