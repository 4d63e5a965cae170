-- How long selections are.
use Rattle.std.proofs.Common.{◌≡◌, ◌+◌, ◌*◌, ◌<◌, ◌≤◌, List, [], ◌∷◌, length, Option, Some, None, arith}
use Rattle.std.specs.List.{filter_map, cons_option}

length-cons_option : {A : Type 0} (o : Option A) (xs : List A) → length (cons_option o xs) ≤ length xs + 1
length-cons_option None xs = omega arith
length-cons_option (Some x) xs = omega arith

pub length-filter_map : {A B : Type 0} (h : A → Option B) (xs : List A) → length (filter_map h xs) ≤ length xs
length-filter_map h [] = omega arith
length-filter_map h (x ∷ xs) = let few = length-filter_map h xs in let one = length-cons_option (h x) (filter_map h xs) in omega arith

pub few_selected : {A B : Type 0} (h : A → Option B) (xs : List A) (ys : List B) → ys ≡ filter_map h xs → 4 * length xs < 4294967296 → length ys < 4294967296
few_selected h xs ys e few = let fewer = length-filter_map h xs in rw e (omega arith)
