-- Properties after every front of a list of changes.
use Rattle.std.proofs.Common.{◌≡◌, ◌≢◌, ℕ, zero, suc, Bool, true, false, cond, List, [], ◌∷◌, ◌++◌, take, Option, refl, sym, ap, ◌∙◌, inl, inr, ◌⊎◌}
use Rattle.std.specs.Prelude.{◌&&◌, map, filter}
use Rattle.std.specs.List.{AllByRecursion}
use Rattle.std.proofs.lemmas.Bool.{cases_Bool, eq-eqb, ne_eqb, and_right}
use Rattle.label_codec.specs.declared.label.Label.{Label}
use Rattle.namespace_map.specs.Areas.{Area, Change, changed_areas, all_changed}
use Rattle.namespace_laws.proofs.Staged.{Apart, names}

abbrev pub AtFronts : (List (Option Area) → Type 0) → List (Option Area) → List Change → Type 0
AtFronts P areas [] = P areas
AtFronts P areas (c ∷ cs) = P areas × AtFronts P (changed_areas areas c) cs

pub fronts_take : (P : List (Option Area) → Type 0) (cs : List Change) (areas : List (Option Area)) → AtFronts P areas cs → (k : ℕ) → P (all_changed areas (take k cs))
unfolding all_changed
fronts_take P [] areas all zero = all
fronts_take P [] areas all (suc k) = all
fronts_take P (c ∷ cs) areas (one, rest) zero = one
fronts_take P (c ∷ cs) areas (one, rest) (suc k) = fronts_take P cs (changed_areas areas c) rest k

pub fronts_by : (P : List (Option Area) → Type 0) (cs : List Change) (areas : List (Option Area)) → ((k : ℕ) → P (all_changed areas (take k cs))) → AtFronts P areas cs
unfolding all_changed
fronts_by P [] areas each = each 0
fronts_by P (c ∷ cs) areas each = (each 0, fronts_by P cs (changed_areas areas c) (λ k. each (suc k)))

pub fronts_append : (P : List (Option Area) → Type 0) (cs ds : List Change) (areas : List (Option Area)) → AtFronts P areas cs → AtFronts P (all_changed areas cs) ds → AtFronts P areas (cs ++ ds)
unfolding all_changed
fronts_append P [] ds areas all more = more
fronts_append P (c ∷ cs) ds areas (one, rest) more = (one, fronts_append P cs ds (changed_areas areas c) rest more)

-- a front of the elements that pass a test is the elements of a front that pass
pub front_passes : (s : ℕ × Label → Bool) (k : ℕ) (xs : List (ℕ × Label)) → Apart xs → take k (filter s xs) ≡ filter (λ p. s p && names (take k (filter s xs)) p.0) xs
front_passes s k [] apart = none k
  where
    none : (k : ℕ) → ◌≡◌ {A = List (ℕ × Label)} (take k []) []
    none zero = refl
    none (suc k) = refl
front_passes s k (x ∷ xs) (ne, apart) = by (cases_Bool (s x)) k (λ j. front_passes s j xs apart)
  where
    -- a module that isn't among the others
    further : (front : List (ℕ × Label)) (ys : List (ℕ × Label)) → AllByRecursion (λ q. x.0 ≢ q.0) ys → filter (λ p. s p && names front p.0) ys ≡ filter (λ p. s p && names (x ∷ front) p.0) ys
    further front [] all = refl
    further front (y ∷ ys) (other, rest) =
        let same : (s y && names front y.0) ≡ (s y && names (x ∷ front) y.0) = rw (ne_eqb x.0 y.0 other) refl in
        ap (λ (b : Bool). cond b (y ∷ filter (λ p. s p && names front p.0) ys) (filter (λ p. s p && names front p.0) ys)) same
        ∙ ap (λ (zs : List (ℕ × Label)). cond (s y && names (x ∷ front) y.0) (y ∷ zs) zs) (further front ys rest)

    nothing : (ys : List (ℕ × Label)) → filter (λ p. s p && false) ys ≡ []
    nothing [] = refl
    nothing (y ∷ ys) = rw (and_right (s y) false refl) (nothing ys)

    -- the first passes, and is in the front
    first : (front : List (ℕ × Label)) → s x ≡ true → x ∷ filter (λ p. s p && names (x ∷ front) p.0) xs ≡ filter (λ p. s p && names (x ∷ front) p.0) (x ∷ xs)
    first front it =
        let here : (s x && names (x ∷ front) x.0) ≡ true = rw (it, eq-eqb x.0 x.0 refl) refl in
        sym (ap (λ (b : Bool). cond b (x ∷ filter (λ p. s p && names (x ∷ front) p.0) xs) (filter (λ p. s p && names (x ∷ front) p.0) xs)) here)

    by : (s x ≡ true) ⊎ (s x ≡ false) → (k : ℕ) → ((j : ℕ) → take j (filter s xs) ≡ filter (λ p. s p && names (take j (filter s xs)) p.0) xs)
        → take k (filter s (x ∷ xs)) ≡ filter (λ p. s p && names (take k (filter s (x ∷ xs))) p.0) (x ∷ xs)
    by (inl it) zero on = sym (nothing (x ∷ xs))
    by (inl it) (suc j) on =
        let whole : filter s (x ∷ xs) ≡ x ∷ filter s xs = ap (λ (b : Bool). cond b (x ∷ filter s xs) (filter s xs)) it in
        ap (take (suc j)) whole
        ∙ ap (λ (zs : List (ℕ × Label)). x ∷ zs) (on j ∙ further (take j (filter s xs)) xs ne)
        ∙ first (take j (filter s xs)) it
        ∙ sym (ap (λ (zs : List (ℕ × Label)). filter (λ p. s p && names (take (suc j) zs) p.0) (x ∷ xs)) whole)
    by (inr not_it) j on =
        let whole : filter s (x ∷ xs) ≡ filter s xs = ap (λ (b : Bool). cond b (x ∷ filter s xs) (filter s xs)) not_it in
        let not_here : (s x && names (take j (filter s xs)) x.0) ≡ false = rw not_it refl in
        ap (take j) whole
        ∙ on j
        ∙ sym (ap (λ (b : Bool). cond b (x ∷ filter (λ p. s p && names (take j (filter s xs)) p.0) xs) (filter (λ p. s p && names (take j (filter s xs)) p.0) xs)) not_here)
        ∙ sym (ap (λ (zs : List (ℕ × Label)). filter (λ p. s p && names (take j zs) p.0) (x ∷ xs)) whole)

pub take_map : {X Y : Type 0} (g : X → Y) (k : ℕ) (xs : List X) → take k (map g xs) ≡ map g (take k xs)
take_map g zero xs = refl
take_map g (suc k) [] = refl
take_map g (suc k) (x ∷ xs) = ap (λ ys. g x ∷ ys) (take_map g k xs)

pub take_all : {X : Type 0} (P : X → Type 0) (k : ℕ) (xs : List X) → AllByRecursion P xs → AllByRecursion P (take k xs)
take_all P zero xs all = tt
take_all P (suc k) [] all = tt
take_all P (suc k) (x ∷ xs) (one, rest) = (one, take_all P k xs rest)
