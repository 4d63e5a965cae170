-- Numbers that are 0 until they are set.
use Rattle.std.proofs.Common.{◌≡◌, ℕ, ◌+◌, ◌-◌, ◌<◌, ◌≤◌, List, [], ◌∷◌, ◌++◌, length, replicate, sym, ap, ◌∙◌, append_assoc, arith}
use Rattle.std.proofs.Math.ListN.{set}
use Rattle.std.proofs.lemmas.List.{set-append_left, replicate-append-replicate, length-append, length-replicate}

-- one zero more
pub zero_more : (xs ys zs : List ℕ) (n m : ℕ) → ys ≡ xs ++ replicate n 0 → zs ≡ ys ++ 0 ∷ [] → m ≡ n + 1 → zs ≡ xs ++ replicate m 0
zero_more xs ys zs n m so_far more is =
    more ∙ ap (λ (front : List ℕ). front ++ 0 ∷ []) so_far ∙ append_assoc xs (replicate n 0) (0 ∷ [])
    ∙ ap (λ (back : List ℕ). xs ++ back) (replicate-append-replicate n 1 0 ∙ ap (λ (k : ℕ). replicate k 0) (sym is))

-- padding with zeros up to a place doesn't change the padded list
pub set_reached : (xs ys : List ℕ) (i v count a b : ℕ) → b ≡ length ys → ys ≡ xs ++ replicate (b - a) 0 → a ≤ b → b ≤ count → i < b
    → set ys i v ++ replicate (count - b) 0 ≡ set (xs ++ replicate (count - a) 0) i v
set_reached xs ys i v count a b len front from to inside =
    let same : xs ++ replicate (count - a) 0 ≡ ys ++ replicate (count - b) 0 =
    ap (λ (k : ℕ). xs ++ replicate k 0) (omega arith) ∙ ap (λ (back : List ℕ). xs ++ back) (sym (replicate-append-replicate (b - a) (count - b) 0))
    ∙ sym (append_assoc xs (replicate (b - a) 0) (replicate (count - b) 0)) ∙ ap (λ (all : List ℕ). all ++ replicate (count - b) 0) (sym front) in
    sym (ap (λ (all : List ℕ). set all i v) same ∙ set-append_left ys (replicate (count - b) 0) i v (omega arith))

-- how many numbers there are
pub length_reached : (xs : List ℕ) (a count : ℕ) → a ≡ length xs → a ≤ count → length (xs ++ replicate (count - a) 0) ≡ count
length_reached xs a count len le = length-append xs (replicate (count - a) 0) ∙ (let n : length (replicate {A = ℕ} (count - a) 0) ≡ count - a = length-replicate {A = ℕ} (count - a) 0 in omega arith)
