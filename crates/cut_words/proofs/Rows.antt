-- Worked examples, computed on the definitions.
use Rattle.std.proofs.Common.{◌≡◌, ◌≢◌, ℕ, zero, suc, ◌<◌, [], ◌∷◌, get_or, Some, None, refl, arith}
use Rattle.std.proofs.lemmas.List.Elements.{All-nil, All-cons}
use Rattle.cut_words.specs.Words.{Words, store, keep, settled, after, seen_at}
use Rattle.cut_words.specs.Fuses.{allowed}
use Rattle.cut_words.specs.Groups.{guarded, NotIn}
use Rattle.cut_words.specs.Guarded.{IsGuarded}

-- two words, 5 and 6, of which the first is stored and kept, and the second stored
abbrev changed : Words
changed = record { kept = 7 ∷ 6 ∷ []; stored = None ∷ Some 8 ∷ [] }

steps_of_two_words : after (settled (5 ∷ 6 ∷ [])) (store 0 7 ∷ keep 0 ∷ store 1 8 ∷ []) ≡ changed
unfolding after
steps_of_two_words = refl

loads : (seen_at changed 0 ≡ 7) × (seen_at changed 1 ≡ 8)
loads = (refl, refl)

-- a word that is stored with its kept value is pending nevertheless
stored_with_its_own : after (settled (5 ∷ [])) (store 0 5 ∷ []) ≡ record { kept = 5 ∷ []; stored = Some 5 ∷ [] }
unfolding after
stored_with_its_own = refl

-- a fuse of two steps allows two of three
two_of_three : after (settled (5 ∷ 6 ∷ [])) (allowed (Some 2) (store 0 7 ∷ keep 0 ∷ store 1 8 ∷ [])) ≡ settled (7 ∷ 6 ∷ [])
unfolding after
two_of_three = refl

-- ---- a guarded change of the words 5, 6, 7 and 8: the first becomes 1, the last 2, and the third, the guard, 9

change_of_four : guarded (1 ∷ 6 ∷ 9 ∷ 2 ∷ []) (0 ∷ []) 2 0 (3 ∷ []) ≡ store 0 1 ∷ keep 0 ∷ store 2 0 ∷ keep 2 ∷ store 3 2 ∷ keep 3 ∷ store 2 9 ∷ keep 2 ∷ []
change_of_four = refl

-- with the last step missing, a crash leaves the whole change, or the guard closed
after_seven : after (settled (5 ∷ 6 ∷ 7 ∷ 8 ∷ [])) (allowed (Some 7) (guarded (1 ∷ 6 ∷ 9 ∷ 2 ∷ []) (0 ∷ []) 2 0 (3 ∷ [])))
    ≡ record { kept = 1 ∷ 6 ∷ 0 ∷ 2 ∷ []; stored = None ∷ None ∷ Some 9 ∷ None ∷ [] }
unfolding after
after_seven = refl

-- the premises of the laws hold
is_guarded : IsGuarded (5 ∷ 6 ∷ 7 ∷ 8 ∷ []) (1 ∷ 6 ∷ 9 ∷ 2 ∷ []) (0 ∷ []) 2 (3 ∷ [])
is_guarded = record {
  same_length = refl;
  guard_in = omega arith;
  before_in = All-cons (λ (p : ℕ). p < 4) 0 [] (omega arith) (All-nil (λ (p : ℕ). p < 4));
  rest_in = All-cons (λ (p : ℕ). p < 4) 3 [] (omega arith) (All-nil (λ (p : ℕ). p < 4));
  before_apart = All-cons (λ (p : ℕ). p ≢ 2) 0 [] (λ e. absurd (omega arith)) (All-nil (λ (p : ℕ). p ≢ 2));
  rest_apart = All-cons (λ (p : ℕ). p ≢ 2) 3 [] (λ e. absurd (omega arith)) (All-nil (λ (p : ℕ). p ≢ 2));
  outside = same_outside;
}
  where
    same_outside : (i : ℕ) → NotIn (0 ∷ []) i → NotIn (3 ∷ []) i → i ≢ 2 → ◌≡◌ {A = ℕ} (get_or (1 ∷ 6 ∷ 9 ∷ 2 ∷ []) i 0) (get_or (5 ∷ 6 ∷ 7 ∷ 8 ∷ []) i 0)
    same_outside zero before rest other = absurd (before 0 0 (omega arith) refl)
    same_outside (suc zero) before rest other = refl
    same_outside (suc (suc zero)) before rest other = absurd (other refl)
    same_outside (suc (suc (suc zero))) before rest other = absurd (rest 0 0 (omega arith) refl)
    same_outside (suc (suc (suc (suc i)))) before rest other = refl
