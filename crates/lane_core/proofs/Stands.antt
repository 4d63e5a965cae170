-- A lane's group stands for its newer half.
use Rattle.std.proofs.Common.{◌≡◌, ℕ, ◌<◌, ◌⊎◌, inl, inr, Bool, true, false, not, List, Some, None, refl, ap, ap₂, ◌∙◌, arith}
use Rattle.std.specs.Prelude.{◌&&◌, ◌==◌, if◌then◌else◌}
use Rattle.std.proofs.lemmas.Bool.{lt-leb, eq-eqb}
use Rattle.nvd_words.specs.Checks.{first_fault}
use Rattle.nvd_words.specs.Ring.{is_newer}
use Rattle.flog.specs.declared.half.Half.{Half}
use Rattle.flog.specs.Group.{half_in, is_padded, are_ordered, out_of_range, current_side, StandsFor}
use Rattle.lane_core.specs.Areas.{IsNewer, next_seq}

-- what a group stands for, from the parts
reads : (words : List ℕ) (external internal side : ℕ) (half : Half) → is_padded words ≡ true → are_ordered (half_in words 0).seq (half_in words 1).seq ≡ true
    → current_side words ≡ side → half_in words side ≡ half → out_of_range external internal half ≡ None
    → StandsFor words external internal (record { side = side; half = half })
unfolding first_fault
reads words external internal side half padded ordered is half_is range =
    let same : (half_in words (current_side words)) ≡ half = ap (half_in words) is ∙ half_is in
    rw (padded, ordered, same, range, is) refl

newer_here : (a b : ℕ) → IsNewer b a → is_newer a b ≡ true
unfolding next_seq
newer_here a b h = grind arith

not_newer : (a b : ℕ) → IsNewer b a → is_newer b a ≡ false
unfolding next_seq
not_newer a b h = grind arith

ordered_up : (a b : ℕ) → IsNewer b a → are_ordered a b ≡ true
unfolding are_ordered next_seq
ordered_up a b h = grind arith

ordered_down : (a b : ℕ) → IsNewer b a → are_ordered b a ≡ true
unfolding are_ordered next_seq
ordered_down a b h = grind arith

side_by : (b : Bool) (words : List ℕ) → is_newer (half_in words 0).seq (half_in words 1).seq ≡ b → current_side words ≡ (if b then 1 else 0)
unfolding current_side
side_by b words e = ap (λ b. if b then 1 else 0) e

module _ (words : List ℕ) (external internal : ℕ) (h0 h1 : Half) (padded : is_padded words ≡ true) (is0 : half_in words 0 ≡ h0) (is1 : half_in words 1 ≡ h1) where
  pub stands_zero : IsNewer h0.seq h1.seq → out_of_range external internal h0 ≡ None → StandsFor words external internal (record { side = 0; half = h0 })
  stands_zero newer range =
      reads words external internal 0 h0 padded (ap₂ (λ (a b : Half). are_ordered a.seq b.seq) is0 is1 ∙ ordered_down h1.seq h0.seq newer)
      (side_by false words (ap₂ (λ (a b : Half). is_newer a.seq b.seq) is0 is1 ∙ not_newer h1.seq h0.seq newer)) is0 range

  pub stands_one : IsNewer h1.seq h0.seq → out_of_range external internal h1 ≡ None → StandsFor words external internal (record { side = 1; half = h1 })
  stands_one newer range =
      reads words external internal 1 h1 padded (ap₂ (λ (a b : Half). are_ordered a.seq b.seq) is0 is1 ∙ ordered_up h0.seq h1.seq newer)
      (side_by true words (ap₂ (λ (a b : Half). is_newer a.seq b.seq) is0 is1 ∙ newer_here h0.seq h1.seq newer)) is1 range

-- a half whose numbers are those of the arena
pub range_none : (external internal : ℕ) (half : Half) → half.old < internal → half.new < internal → (half.old ≡ half.new) ⊎ (half.lba < external) → out_of_range external internal half ≡ None
unfolding out_of_range
range_none external internal half old new (inl same) = rw (lt-leb internal half.old old, lt-leb internal half.new new, eq-eqb half.old half.new same) refl
range_none external internal half old new (inr lt) = rw (lt-leb internal half.old old, lt-leb internal half.new new, lt-leb external half.lba lt) (none (half.old == half.new))
  where
    none : (b : Bool) → (if not b && false then Some half.lba else None) ≡ None
    none true = refl
    none false = refl
