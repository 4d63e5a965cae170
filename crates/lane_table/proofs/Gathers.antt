-- The lanes as they are handed in, and words as they are copied.
use Rattle.std.proofs.Common.{◌≡◌, ℕ, zero, suc, ◌+◌, ◌<◌, ◌≤◌, List, [], ◌∷◌, ◌++◌, length, map, refl, sym, ap, ◌∙◌, subst, arith, get_or, length-append, take, drop, add-one}
use Rattle.std.proofs.Math.Seq.{get_or-append_seam}
use Rattle.std.specs.Prelude.{All}
use mathlib.Core.Option.{some, some-injective, some-ne-none}
use lib.ListN.{get_elem?}
use Rattle.atomic_table.specs.Table.{Me}
use Rattle.lane_table.specs.declared.lanes.Kit.{Kit}
use Rattle.lane_table.specs.declared.table.Owned.{Owned}
use Rattle.lane_table.specs.declared.table.View.{View}
use Rattle.lane_table.specs.declared.lanes.LaneEnd.{LaneEnd}
use Rattle.lane_table.specs.declared.table.PassPart.{PassPart}
use Rattle.lane_table.specs.Kits.{kit_in, owned_in, loose_in, all_loose}
use Rattle.lane_table.specs.Law.{own, owned, owned_by, keeper, gathered}

pub map_push : {A B : Type 0} (f : A → B) (xs : List A) (x : A) → map f (xs ++ x ∷ []) ≡ map f xs ++ f x ∷ []
map_push f [] x = refl
map_push f (y ∷ xs) x = ap (λ r. f y ∷ r) (map_push f xs x)

pub append_right : {A : Type 0} (xs ys zs : List A) → (xs ++ ys) ++ zs ≡ xs ++ (ys ++ zs)
append_right [] ys zs = refl
append_right (x ∷ xs) ys zs = ap (λ r. x ∷ r) (append_right xs ys zs)

append_nothing : {A : Type 0} (xs : List A) → xs ++ [] ≡ xs
append_nothing [] = refl
append_nothing (x ∷ xs) = ap (λ r. x ∷ r) (append_nothing xs)

pub loose_push : (es : List LaneEnd) (e : LaneEnd) → all_loose (es ++ e ∷ []) ≡ all_loose es ++ loose_in (kit_in e)
loose_push [] e = append_nothing (loose_in (kit_in e))
loose_push (d ∷ es) e = ap (λ r. loose_in (kit_in d) ++ r) (loose_push es e) ∙ sym (append_right (loose_in (kit_in d)) (all_loose es) (loose_in (kit_in e)))

-- what the keeper's view becomes
pub took_in : (v w : View) (os : List Owned) (ps : List PassPart) (k : Kit) → v ≡ keeper os ps → w ≡ k.seat.me.0 → gathered v w ≡ keeper (os ++ owned_in k ∷ []) (ps ++ loose_in k)
took_in v w os ps k is_v is_w =
    let one : owned w ≡ owned_in k ∷ [] =
    ap owned is_w ∙ ap (λ b. owned_by b (own k.seat.me.0) k.seat.me.0.rest) k.live
    ∙ ap (λ (os : List Owned). own k.seat.me.0 ∷ os) k.alone.0
    ∙ ap (λ (n : ℕ). record (own k.seat.me.0) { number = n } ∷ []) k.numbered.0 in
    ap (λ v. gathered v w) is_v ∙ ap (λ more. keeper (os ++ more) (ps ++ w.loose)) one ∙ ap (λ (w : View). keeper (os ++ owned_in k ∷ []) (ps ++ w.loose)) is_w

-- one more end is handed in
pub gathered_on : {S : Type 0} (m m' : Me S View) (w : View) (ys : List LaneEnd) (e : LaneEnd) (k : Kit) → m' ≡ (gathered m.0 w, m.1) → m ≡ (keeper (map (λ e. owned_in (kit_in e)) ys) (all_loose ys), []) → w ≡ k.seat.me.0 → k ≡ kit_in e
    → m' ≡ (keeper (map (λ e. owned_in (kit_in e)) (ys ++ e ∷ [])) (all_loose (ys ++ e ∷ [])), [])
gathered_on m m' w ys e k to is is_w is_k =
    let os = map (λ e. owned_in (kit_in e)) ys in
    let ps = all_loose ys in
    to ∙ ap (λ (m : Me _ View). (gathered m.0 w, m.1)) is ∙ ap (λ (v : View). (v, [])) (took_in (keeper os ps) w os ps k refl is_w)
    ∙ ap (λ (k : Kit). (keeper (os ++ owned_in k ∷ []) (ps ++ loose_in k), [])) is_k
    ∙ ap (λ os. (keeper os (ps ++ loose_in (kit_in e)), [])) (sym (map_push (λ e. owned_in (kit_in e)) ys e)) ∙ ap (λ ps. (keeper (map (λ e. owned_in (kit_in e)) (ys ++ e ∷ [])) ps, [])) (sym (loose_push ys e))

pub all_at_seam : {A : Type 0} (P : A → Type 0) (xs ys zs : List A) (x : A) → ys ++ x ∷ zs ≡ xs → All P xs → P x
all_at_seam P xs ys zs x is all = subst P (ap (λ l. get_or l (length ys) x) (sym is) ∙ get_or-append_seam ys x zs x) (all (length ys) x (omega (arith, ap length is, length-append ys (x ∷ zs))))

-- there's room for one more while not all have been taken
pub some_room : {A : Type 0} (xs ys zs : List A) (x : A) (n : ℕ) → ys ++ x ∷ zs ≡ xs → length xs ≤ n → length ys < n
some_room xs ys zs x n is le = omega (arith, ap length is, length-append ys (x ∷ zs))

pub length-map : {A B : Type 0} (f : A → B) (xs : List A) → length (map f xs) ≡ length xs
length-map f [] = refl
length-map f (x ∷ xs) = ap suc (length-map f xs)

take_suc : {A : Type 0} (l : List A) (n : ℕ) (x : A) → get_elem? l n ≡ some x → take (suc n) l ≡ take n l ++ x ∷ []
take_suc [] n x e = absurd (some-ne-none x (sym e))
take_suc (y ∷ l) zero x e = ap (λ z. z ∷ []) (some-injective y x e)
take_suc (y ∷ l) (suc n) x e = ap (λ r. y ∷ r) (take_suc l n x e)

drop_at : {A : Type 0} (l : List A) (first n : ℕ) → get_elem? (drop first l) n ≡ get_elem? l (first + n)
drop_at l zero n = let same : n ≡ 0 + n = omega arith in ap (get_elem? l) same
drop_at [] (suc f) n = none_at (suc f + n)
  where
    none_at : {A : Type 0} (n : ℕ) → get_elem? {A = A} [] n ≡ get_elem? {A = A} [] (suc n)
    none_at n = refl
drop_at (x ∷ l) (suc f) n = let next : suc (f + n) ≡ suc f + n = omega arith in drop_at l f n ∙ ap (get_elem? (x ∷ l)) next

-- one word more is copied
pub take_on : {A : Type 0} (l : List A) (first n : ℕ) (x : A) → get_elem? l (first + n) ≡ some x → take (n + 1) (drop first l) ≡ take n (drop first l) ++ x ∷ []
take_on l first n x e = ap (λ k. take k (drop first l)) (add-one n) ∙ take_suc (drop first l) n x (drop_at l first n ∙ e)
