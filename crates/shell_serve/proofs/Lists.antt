-- Lists whose elements belong together.
use Rattle.std.proofs.Common.{◌≡◌, ℕ, zero, suc, List, [], ◌∷◌, ◌++◌, map, Some, refl, sym, ap, ◌∙◌, subst}
use Rattle.std.specs.Prelude.{Vec, slice_get, slice_index_or}
use Rattle.std.proofs.lemmas.Option.{none-some, same_Some}
use Rattle.turn_lock.specs.Rows.{items_at}
use Rattle.power_cut.specs.Left.{Each}

-- the element that belongs to one
pub each_back : {X Y : Type 0} (R : X → Y → Type 0) (xs : List X) (ys : List Y) (k : ℕ) (y : Y) → Each R xs ys → slice_get ys k ≡ Some y → (x : X) × (slice_get xs k ≡ Some x) × R x y
each_back {X} {Y} R [] ys k y none at = absurd (none-some y (ap (λ (zs : List Y). slice_get zs k) (sym none) ∙ at))
each_back {X} {Y} R (x ∷ xs) ys zero y (first, rest, is, here, more) at =
    (x, refl, subst (R x) (same_Some first y (ap (λ (zs : List Y). slice_get zs zero) (sym is) ∙ at)) here)
each_back {X} {Y} R (x ∷ xs) ys (suc k) y (first, rest, is, here, more) at = each_back R xs rest k y more (ap (λ (zs : List Y). slice_get zs (suc k)) (sym is) ∙ at)

pub each_there : {X Y : Type 0} (R : X → Y → Type 0) (xs : List X) (ys : List Y) (k : ℕ) (x : X) → Each R xs ys → slice_get xs k ≡ Some x → (y : Y) × (slice_get ys k ≡ Some y) × R x y
each_there R [] ys k x none at = absurd (none-some x at)
each_there {X} {Y} R (x' ∷ xs) ys zero x (first, rest, is, here, more) at =
    (first, ap (λ (zs : List Y). slice_get zs zero) is, subst (λ (z : X). R z first) (same_Some x' x at) here)
each_there {X} {Y} R (x' ∷ xs) ys (suc k) x (first, rest, is, here, more) at =
    let found = each_there R xs rest k x more at in
    (found.0, ap (λ (zs : List Y). slice_get zs (suc k)) is ∙ found.1, found.2)

-- one more
pub each_more : {X Y : Type 0} (R : X → Y → Type 0) (xs : List X) (ys : List Y) (x : X) (y : Y) → Each R xs ys → R x y → Each R (xs ++ x ∷ []) (ys ++ y ∷ [])
each_more {X} {Y} R [] ys x y none here = (y, [], ap (λ (zs : List Y). zs ++ y ∷ []) none, here, refl)
each_more {X} {Y} R (x' ∷ xs) ys x y (first, rest, is, one, more) here = (first, rest ++ y ∷ [], ap (λ (zs : List Y). zs ++ y ∷ []) is, one, each_more R xs rest x y more here)

-- the elements of a row
pub items_there : {X Z : Type 0} (rows : List (Vec X Z)) (k : ℕ) (row : Vec X Z) → slice_get rows k ≡ Some row → items_at rows k ≡ row.items
items_there [] k row at = absurd (none-some row at)
items_there {X} {Z} (r ∷ rows) zero row at = ap (λ (v : Vec X Z). v.items) (same_Some r row at)
items_there (r ∷ rows) (suc k) row at = items_there rows k row at

pub items_mapped : {X Z : Type 0} (rows : List (Vec X Z)) (k : ℕ) (row : Vec X Z) → slice_get rows k ≡ Some row → slice_index_or (map (λ (v : Vec X Z). v.items) rows) k [] ≡ row.items
items_mapped [] k row at = absurd (none-some row at)
items_mapped {X} {Z} (r ∷ rows) zero row at = ap (λ (v : Vec X Z). v.items) (same_Some r row at)
items_mapped (r ∷ rows) (suc k) row at = items_mapped rows k row at

-- rows of the same images have elements with the same image
pub same_at : {X Y W : Type 0} (f : X → W) (g : Y → W) (xs : List X) (ys : List Y) (k : ℕ) (x : X) → map g ys ≡ map f xs → slice_get xs k ≡ Some x → (y : Y) × (slice_get ys k ≡ Some y) × (g y ≡ f x)
same_at f g [] ys k x same at = absurd (none-some x at)
same_at f g (x' ∷ xs) [] k x same at = absurd (let e = same in cc)
same_at {X} {Y} {W} f g (x' ∷ xs) (y ∷ ys) zero x same at = (y, refl, ap (λ (ws : List W). slice_index_or ws 0 (g y)) same ∙ ap f (same_Some x' x at))
same_at f g (x' ∷ xs) (y ∷ ys) (suc k) x same at = same_at f g xs ys k x (let e = same in cc) at
