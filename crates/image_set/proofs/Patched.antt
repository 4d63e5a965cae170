-- Contents whose bytes are changed, each by itself.
use Rattle.std.proofs.Common.{◌≡◌, ℕ, ◌+◌, ◌-◌, ◌<◌, ◌≤◌, List, [], ◌++◌, length, map, get_or, refl, sym, ap, ◌∙◌, arith, inl, inr}
use Rattle.std.specs.Prelude.{nat_lt}
use Rattle.std.specs.List.{range_with_len}
use Rattle.std.proofs.lemmas.Bool.{cases_Bool}
use Rattle.std.proofs.lemmas.Bool.Decides.{nat_tests}
use Rattle.std.proofs.lemmas.Grind.{same_number_lists}
use Rattle.std.proofs.lemmas.List.{ext_get_or, get_or_append_left, get_or-append_right, length-append}
use Rattle.std.proofs.lemmas.List.FromFn.{get_or-map-range_with_len, length-map-range_with_len}
use Rattle.power_cut.proofs.Spread.{range_same}
use Rattle.image_set.specs.Patches.{IsCovered, patched_contents, patched_row}

-- ---- a piece

byte_at : (f : ℕ → ℕ → ℕ → ℕ) (m at : ℕ) (row : List ℕ) (k : ℕ) → k < length row → get_or (patched_row f m at row) k 0 ≡ f m (at + k) (get_or row k 0)
byte_at f m at row k lt = get_or-map-range_with_len (λ i. f m (at + i) (get_or row i 0)) 0 (length row) k k 0 lt (omega arith)

pub row_long : (f : ℕ → ℕ → ℕ → ℕ) (m at : ℕ) (row : List ℕ) → length (patched_row f m at row) ≡ length row
row_long f m at row = length-map-range_with_len (λ i. f m (at + i) (get_or row i 0)) 0 (length row)

-- if the new values don't depend on the old ones, any bytes may stand for them
pub row_covered : (f : ℕ → ℕ → ℕ → ℕ) (m at n : ℕ) (xs ys : List ℕ) → IsCovered f m at n → length xs ≡ n → length ys ≡ n → patched_row f m at xs ≡ patched_row f m at ys
row_covered f m at n xs ys covered one two =
    same_number_lists (patched_row f m at xs) (patched_row f m at ys) (row_long f m at xs ∙ one ∙ sym two ∙ sym (row_long f m at ys)) each
  where
    each : (k : ℕ) → k < length (patched_row f m at xs) → get_or (patched_row f m at xs) k 0 ≡ get_or (patched_row f m at ys) k 0
    each k lt =
        let here : k < length xs = omega (arith, lt, row_long f m at xs) in
        let there : k < length ys = omega (arith, here, one, two) in
        byte_at f m at xs k here ∙ covered k (get_or xs k 0) (get_or ys k 0) (omega (arith, here, one)) ∙ sym (byte_at f m at ys k there)

-- piece by piece
pub row_append : (f : ℕ → ℕ → ℕ → ℕ) (m at : ℕ) (xs ys : List ℕ) → patched_row f m at xs ++ patched_row f m (at + length xs) ys ≡ patched_row f m at (xs ++ ys)
row_append f m at xs ys = same_number_lists both (patched_row f m at (xs ++ ys)) long each
  where
    left : List ℕ
    left = patched_row f m at xs

    right : List ℕ
    right = patched_row f m (at + length xs) ys

    both : List ℕ
    both = left ++ right

    long : length both ≡ length (patched_row f m at (xs ++ ys))
    long = omega (arith, length-append left right, row_long f m at xs, row_long f m (at + length xs) ys, row_long f m at (xs ++ ys), length-append xs ys)

    each : (k : ℕ) → k < length both → get_or both k 0 ≡ get_or (patched_row f m at (xs ++ ys)) k 0
    each k lt =
        let inside : k < length (xs ++ ys) = omega (arith, lt, long, row_long f m at (xs ++ ys)) in
        elim (cases_Bool (nat_lt k (length xs))) [
          | inl below ↦
              let here : k < length xs = grind (arith, nat_tests, below) in
              get_or_append_left left right 0 k (omega (arith, here, row_long f m at xs))
              ∙ byte_at f m at xs k here ∙ ap (λ old. f m (at + k) old) (sym (get_or_append_left xs ys 0 k here)) ∙ sym (byte_at f m at (xs ++ ys) k inside)
          | inr above ↦
              let past : length xs ≤ k = grind (arith, nat_tests, above) in
              let there : k - length xs < length ys = omega (arith, past, inside, length-append xs ys) in
              get_or-append_right left right (length xs) k 0 (row_long f m at xs) past
              ∙ byte_at f m (at + length xs) ys (k - length xs) there
              ∙ ap (λ place. f m place (get_or ys (k - length xs) 0)) (omega (arith, past))
              ∙ ap (λ old. f m (at + k) old) (sym (get_or-append_right xs ys (length xs) k 0 refl past)) ∙ sym (byte_at f m at (xs ++ ys) k inside)
        ]

-- ---- all contents

pub contents_by : (f : ℕ → ℕ → ℕ → ℕ) (g : ℕ → List ℕ) (n : ℕ) → patched_contents f (map g (range_with_len 0 n)) ≡ map (λ m. patched_row f m 0 (g m)) (range_with_len 0 n)
contents_by f g n =
    let rows : List (List ℕ) = map g (range_with_len 0 n) in
    ap (λ count. map (λ m. patched_row f m 0 (get_or rows m [])) (range_with_len 0 count)) (length-map-range_with_len g 0 n)
    ∙ range_same (λ m. patched_row f m 0 (get_or rows m [])) (λ m. patched_row f m 0 (g m)) n []
    (λ m lt. ap (λ row. patched_row f m 0 row) (get_or-map-range_with_len g 0 n m m [] lt (omega arith)))

-- ---- nothing is changed

pub same_row : (m at : ℕ) (row : List ℕ) → patched_row (λ _ _ old. old) m at row ≡ row
same_row m at row =
    same_number_lists (patched_row (λ _ _ old. old) m at row) row (row_long (λ _ _ old. old) m at row)
    (λ k lt. byte_at (λ _ _ old. old) m at row k (omega (arith, lt, row_long (λ _ _ old. old) m at row)))

pub same_contents : (contents : List (List ℕ)) → patched_contents (λ _ _ old. old) contents ≡ contents
same_contents contents = ext_get_or [] (patched_contents (λ _ _ old. old) contents) contents long each
  where
    row : ℕ → List ℕ
    row m = patched_row (λ _ _ old. old) m 0 (get_or contents m [])

    long : length (patched_contents (λ _ _ old. old) contents) ≡ length contents
    long = length-map-range_with_len row 0 (length contents)

    each : (m : ℕ) → m < length (patched_contents (λ _ _ old. old) contents) → get_or (patched_contents (λ _ _ old. old) contents) m [] ≡ get_or contents m []
    each m lt = get_or-map-range_with_len row 0 (length contents) m m [] (omega (arith, lt, long)) (omega arith) ∙ same_row m 0 (get_or contents m [])
