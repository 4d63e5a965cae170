-- Reading from the front of what is left.
use Rattle.std.proofs.Common.{◌≡◌, ℕ, ◌+◌, ◌-◌, ◌<◌, ◌≤◌, List, [], ◌++◌, length, take, drop, sym, ap, ◌∙◌, arith, length-drop}
use Rattle.std.specs.Prelude.{min}
use Rattle.std.proofs.lemmas.List.{take_all, take-append-drop, drop-drop}
use Rattle.std.proofs.Math.ListN.{drop_of_length-le}

-- the bytes read are the front of what was left; if none were read into a buffer with room, nothing was left
pub read_front : (xs filled : List ℕ) (at count n : ℕ) → at ≤ length xs → n ≡ length xs
    → take count filled ≡ take count (take (n - at) (drop at xs)) → count ≡ min (length filled) (length (take (n - at) (drop at xs)))
    → (drop at xs ≡ take count filled ++ drop (at + count) xs) × (count ≡ 0 → 0 < length filled → drop (at + count) xs ≡ [])
read_front xs filled at count n inside all same is =
    let rest : take (n - at) (drop at xs) ≡ drop at xs = take_all (n - at) (drop at xs) (omega (arith, length-drop at xs)) in
    let front : take count filled ≡ take count (drop at xs) = rw rest at same in
    let number : count ≡ min (length filled) (length (drop at xs)) = rw rest at is in (
      sym (take-append-drop count (drop at xs)) ∙ ap (λ (t : List ℕ). t ++ drop count (drop at xs)) (sym front)
          ∙ ap (λ (t : List ℕ). take count filled ++ t) (drop-drop count at xs),
      λ none room. drop_of_length-le xs (omega (arith, length-drop at xs)),
    )
