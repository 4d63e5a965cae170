-- Claims are the places that sessions have open.
use Rattle.std.proofs.Common.{◌≡◌, ℕ, ◌+◌, ◌-◌, Bool, true, false, not, cond, List, [], ◌∷◌, get_or, set, filter, find, count_by, Option, Some, None, refl, sym, ap, ◌∙◌, arith}
use Rattle.std.specs.Prelude.{unwrap_or}
use Rattle.std.specs.Option.{option_map}
use Rattle.std.specs.Str.{bytes_eq}
use Rattle.std.proofs.lemmas.Slice.Eq.{bytes_eq-Decides}
use Rattle.std.proofs.lemmas.List.Sums.{sum_by-set}
use Rattle.namespace_ops.specs.Claims.{count_of, with_count}
use Rattle.session_account.specs.Claims.{has_open, ClaimOpens, UnclaimCloses, OpenIsClaimed}

find_kept : (v u : List ℕ) → bytes_eq v u ≡ false → (cs : List (List ℕ × ℕ)) → find (λ c. bytes_eq c.0 u) (filter (λ c. not (bytes_eq c.0 v)) cs) ≡ find (λ c. bytes_eq c.0 u) cs
find_kept v u apart [] = refl
find_kept v u apart (c ∷ cs) = by (bytes_eq c.0 v) refl (find_kept v u apart cs)
  where
    by : (b : Bool) → bytes_eq c.0 v ≡ b → find (λ c. bytes_eq c.0 u) (filter (λ c. not (bytes_eq c.0 v)) cs) ≡ find (λ c. bytes_eq c.0 u) cs
        → find (λ c. bytes_eq c.0 u) (cond (not b) (c ∷ filter (λ c. not (bytes_eq c.0 v)) cs) (filter (λ c. not (bytes_eq c.0 v)) cs)) ≡ cond (bytes_eq c.0 u) (Some c) (find (λ c. bytes_eq c.0 u) cs)
    by true is rest =
        let other : bytes_eq c.0 u ≡ false = ap (λ (x : List ℕ). bytes_eq x u) ((bytes_eq-Decides c.0 v).0 is) ∙ apart in
        rest ∙ sym (ap (λ (b : Bool). cond b (Some c) (find (λ c. bytes_eq c.0 u) cs)) other)
    by false is rest = ap (λ (o : Option (List ℕ × ℕ)). cond (bytes_eq c.0 u) (Some c) o) rest

-- the count of a UUID when one was put
count_put : (claims : List (List ℕ × ℕ)) (v : List ℕ) (n : ℕ) (u : List ℕ) → count_of (with_count claims v n) u ≡ cond (bytes_eq v u) n (count_of claims u)
count_put claims v n u = by (bytes_eq v u) refl
  where
    by : (b : Bool) → bytes_eq v u ≡ b
        → unwrap_or (option_map (λ (c : List ℕ × ℕ). c.1) (cond b (Some (v, n)) (find (λ c. bytes_eq c.0 u) (filter (λ c. not (bytes_eq c.0 v)) claims)))) 0 ≡ cond b n (count_of claims u)
    by true is = refl
    by false is = ap (λ (o : Option (List ℕ × ℕ)). unwrap_or (option_map (λ (c : List ℕ × ℕ). c.1) o) 0) (find_kept v u is claims)

abbrev pub one_if : Bool → ℕ
one_if b = cond b 1 0

pub claim_opens : ClaimOpens
claim_opens claims opens q v inside none are u = count_put claims v (count_of claims v + 1) u ∙ by (bytes_eq v u) refl
  where
    moved : count_by (has_open u) (set opens q (Some v)) + one_if (has_open u (get_or opens q None)) ≡ count_by (has_open u) opens + one_if (bytes_eq v u)
    moved = sum_by-set (λ (o : Option (List ℕ)). one_if (has_open u o)) opens q (Some v) None inside

    nothing : one_if (has_open u (get_or opens q None)) ≡ 0
    nothing = ap (λ (o : Option (List ℕ)). one_if (has_open u o)) none

    by : (b : Bool) → bytes_eq v u ≡ b → cond b (count_of claims v + 1) (count_of claims u) ≡ count_by (has_open u) (set opens q (Some v))
    by true is =
        let same : count_of claims v ≡ count_of claims u = ap (count_of claims) ((bytes_eq-Decides v u).0 is) in
        let one : one_if (bytes_eq v u) ≡ 1 = ap (λ (b : Bool). one_if b) is in
        omega (arith, moved, nothing, same, one, are u)
    by false is =
        let zero_more : one_if (bytes_eq v u) ≡ 0 = ap (λ (b : Bool). one_if b) is in
        omega (arith, moved, nothing, zero_more, are u)

pub unclaim_closes : UnclaimCloses
unclaim_closes claims opens q v inside held are u = count_put claims v (count_of claims v - 1) u ∙ by (bytes_eq v u) refl
  where
    moved : count_by (has_open u) (set opens q None) + one_if (has_open u (get_or opens q None)) ≡ count_by (has_open u) opens + 0
    moved = sum_by-set (λ (o : Option (List ℕ)). one_if (has_open u o)) opens q None None inside

    gone : one_if (has_open u (get_or opens q None)) ≡ one_if (bytes_eq v u)
    gone = ap (λ (o : Option (List ℕ)). one_if (has_open u o)) held

    by : (b : Bool) → bytes_eq v u ≡ b → cond b (count_of claims v - 1) (count_of claims u) ≡ count_by (has_open u) (set opens q None)
    by true is =
        let same : count_of claims v ≡ count_of claims u = ap (count_of claims) ((bytes_eq-Decides v u).0 is) in
        let one : one_if (bytes_eq v u) ≡ 1 = ap (λ (b : Bool). one_if b) is in
        omega (arith, moved, gone, same, one, are u)
    by false is =
        let zero_less : one_if (bytes_eq v u) ≡ 0 = ap (λ (b : Bool). one_if b) is in
        omega (arith, moved, gone, zero_less, are u)

pub open_is_claimed : OpenIsClaimed
open_is_claimed claims opens q v inside held are =
    let moved : count_by (has_open v) (set opens q None) + one_if (has_open v (get_or opens q None)) ≡ count_by (has_open v) opens + 0 = sum_by-set (λ (o : Option (List ℕ)). one_if (has_open v o)) opens q None None inside in
    let one : one_if (has_open v (get_or opens q None)) ≡ 1 = ap (λ (o : Option (List ℕ)). one_if (has_open v o)) held ∙ ap (λ (b : Bool). one_if b) ((bytes_eq-Decides v v).1 refl) in
    omega (arith, moved, one, are v)
