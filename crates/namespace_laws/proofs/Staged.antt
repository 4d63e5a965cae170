-- Labels that change in two stages, module by module.
use Rattle.std.proofs.Common.{◌≡◌, ◌≢◌, ℕ, zero, suc, ◌+◌, ◌<◌, ◌≤◌, Bool, true, false, List, [], ◌∷◌, ◌++◌, length, take, get_or, Option, Some, refl, sym, ap, ◌∙◌, subst, arith, inl, inr, ◌⊎◌}
use Rattle.std.specs.Prelude.{◌==◌, map}
use Rattle.std.specs.List.{AllByRecursion, list_any}
use Rattle.std.proofs.lemmas.Bool.{cases_Bool, false≢true, eq-eqb, eqb-true, eqb-false, or_right}
use Rattle.label_codec.specs.declared.label.Label.{Label}
use Rattle.namespace_map.specs.Areas.{Area, Change, changed_areas, all_changed}
use Rattle.namespace_map.specs.Changes.{change_to, in_two}
use Rattle.namespace_map.specs.CommandLaws.{IsOf}
use Rattle.namespace_map.proofs.Areas.{HasRoom, Fitting, moved, moved_all, moved_none}
use Rattle.namespace_map.proofs.Rising.{all_pass_to}
use Rattle.namespace_laws.proofs.Whole.{all_from_none}

pub in_two_many : (before after : Label → Option Label) (ps : List (ℕ × Label)) → 2 ≤ length ps → in_two before after ps ≡ map (change_to before) ps ++ map (change_to after) ps
in_two_many before after [] many = absurd (omega arith)
in_two_many before after (p ∷ []) many = absurd (omega arith)
in_two_many before after (p ∷ q ∷ ps) many = refl

take_map : {X Y : Type 0} (g : X → Y) (k : ℕ) (xs : List X) → take k (map g xs) ≡ map g (take k xs)
take_map g zero xs = refl
take_map g (suc k) [] = refl
take_map g (suc k) (x ∷ xs) = ap (λ ys. g x ∷ ys) (take_map g k xs)

-- a front of two stages is a front of the first, or the first and a front of the second
abbrev pub FrontOfTwo : {X Y : Type 0} → (X → Y) → (X → Y) → List X → List X → ℕ → Type 0
FrontOfTwo f g xs ys k =
    ((k ≤ length xs) × (take k (map f xs ++ map g ys) ≡ map f (take k xs)))
    ⊎ ((j : ℕ) × (k ≡ length xs + j) × (take k (map f xs ++ map g ys) ≡ map f xs ++ map g (take j ys)))

pub front_of_two : {X Y : Type 0} (f g : X → Y) (xs ys : List X) (k : ℕ) → FrontOfTwo f g xs ys k
front_of_two f g [] ys k = inr (k, omega arith, take_map g k ys)
front_of_two f g (x ∷ xs) ys zero = inl (omega arith, refl)
front_of_two f g (x ∷ xs) ys (suc k) = on (front_of_two f g xs ys k)
  where
    on : FrontOfTwo f g xs ys k → FrontOfTwo f g (x ∷ xs) ys (suc k)
    on (inl (below, is)) = inl (omega arith, ap (λ zs. f x ∷ zs) is)
    on (inr (j, k_is, is)) = inr (j, omega arith, ap (λ zs. f x ∷ zs) is)

pub moved_all_append : (cs ds : List Change) (lab : ℕ → Option Label) → moved_all lab (cs ++ ds) ≡ moved_all (moved_all lab cs) ds
moved_all_append [] ds lab = refl
moved_all_append (c ∷ cs) ds lab = moved_all_append cs ds (moved lab c)

pub all_changed_append : (cs ds : List Change) (areas : List (Option Area)) → all_changed areas (cs ++ ds) ≡ all_changed (all_changed areas cs) ds
unfolding all_changed
all_changed_append [] ds areas = refl
all_changed_append (c ∷ cs) ds areas = all_changed_append cs ds (changed_areas areas c)

pub all_map : {X Y : Type 0} (P : Y → Type 0) (f : X → Y) (xs : List X) → AllByRecursion (λ x. P (f x)) xs → AllByRecursion P (map f xs)
all_map P f [] all = tt
all_map P f (x ∷ xs) (one, rest) = (one, all_map P f xs rest)

-- the modules of a list, each named once
abbrev pub Apart : List (ℕ × Label) → Type 0
Apart [] = Unit {0}
Apart (p ∷ ps) = AllByRecursion (λ q. p.0 ≢ q.0) ps × Apart ps

abbrev pub names : List (ℕ × Label) → ℕ → Bool
names ps m = list_any (λ p. p.0 == m) ps

pub all_at : {X : Type 0} (P : X → Type 0) (xs : List X) (i : ℕ) (d : X) → i < length xs → AllByRecursion P xs → P (get_or xs i d)
all_at P [] i d below all = absurd (omega arith)
all_at P (x ∷ xs) zero d below (one, rest) = one
all_at P (x ∷ xs) (suc i) d below (one, rest) = all_at P xs i d (omega arith) rest

-- a module isn't among the earlier ones
pub not_before : (ps : List (ℕ × Label)) (i : ℕ) (d : ℕ × Label) → i < length ps → Apart ps → AllByRecursion (λ q. (get_or ps i d).0 ≢ q.0) (take i ps)
not_before [] i d below apart = absurd (omega arith)
not_before (p ∷ ps) zero d below apart = tt
not_before (p ∷ ps) (suc i) d below (one, rest) = ((λ e. all_at (λ q. p.0 ≢ q.0) ps i d (omega arith) one (sym e)), not_before ps i d (omega arith) rest)

-- one of the first k
pub named_in_front : (ps : List (ℕ × Label)) (i k : ℕ) (d : ℕ × Label) → i < k → i < length ps → names (take k ps) (get_or ps i d).0 ≡ true
named_in_front ps i zero d below there = absurd (omega arith)
named_in_front [] i (suc k) d below there = absurd (omega arith)
named_in_front (p ∷ ps) zero (suc k) d below there = rw (eq-eqb p.0 p.0 refl) refl
named_in_front (p ∷ ps) (suc i) (suc k) d below there = or_right (p.0 == (get_or ps i d).0) (names (take k ps) (get_or ps i d).0) (named_in_front ps i k d (omega arith) (omega arith))

-- a property of each new label holds of the label on a changed module
pub moved_hit : (P : ℕ → Option Label → Type 0) (f : Label → Option Label) (ps : List (ℕ × Label)) (lab : ℕ → Option Label) (m : ℕ) → names ps m ≡ true
    → AllByRecursion (λ p. P p.0 (f p.1)) ps → P m (moved_all lab (map (change_to f) ps) m)
moved_hit P f [] lab m named all = absurd (false≢true named)
moved_hit P f (p ∷ ps) lab m named (one, rest) =
    elim (cases_Bool (names ps m)) [
      | inl it ↦ moved_hit P f ps (moved lab (change_to f p)) m it rest
      | inr not_it ↦
          let here : p.0 ≡ m = elim (cases_Bool (p.0 == m)) [ inl it ↦ eqb-true p.0 m it | inr no_more ↦ absurd (false≢true (sym (rw (no_more, not_it) refl) ∙ named)) ] in
          let stays : moved_all (moved lab (change_to f p)) (map (change_to f) ps) m ≡ moved lab (change_to f p) m =
          moved_none (map (change_to f) ps) (moved lab (change_to f p)) m
          (all_map (λ c. m ≢ c.number) (change_to f) ps (all_pass_to (λ q. (q.0 == m) ≡ false) (λ q. m ≢ q.0) (λ q e same. eqb-false q.0 m e (sym same)) ps (all_from_none (λ q. q.0 == m) ps not_it))) in
          rw (stays, eq-eqb m p.0 (sym here)) (subst (λ (k : ℕ). P k (f p.1)) here one)
    ]

pub moved_miss : (f : Label → Option Label) (ps : List (ℕ × Label)) (lab : ℕ → Option Label) (m : ℕ) → AllByRecursion (λ q. m ≢ q.0) ps → moved_all lab (map (change_to f) ps) m ≡ lab m
moved_miss f ps lab m all = moved_none (map (change_to f) ps) lab m (all_map (λ c. m ≢ c.number) (change_to f) ps all)

pub unnamed : (ps : List (ℕ × Label)) (m : ℕ) → names ps m ≡ false → AllByRecursion (λ q. m ≢ q.0) ps
unnamed ps m e = all_pass_to (λ q. (q.0 == m) ≡ false) (λ q. m ≢ q.0) (λ q e same. eqb-false q.0 m e (sym same)) ps (all_from_none (λ q. q.0 == m) ps e)

-- a front of the changes of two stages is possible
abbrev pub IsGiven : List ℕ → (ℕ → Option Label) → List (Option Area) → ℕ × Label → Type 0
IsGiven uuid lab areas p = (p.1.uuid ≡ uuid) × HasRoom lab areas p.0

-- a function that keeps a label's UUID
abbrev pub KeepsUuid : (Label → Option Label) → Type 0
KeepsUuid f = (l l' : Label) → f l ≡ Some l' → l'.uuid ≡ l.uuid

pub stage_fits : (uuid : List ℕ) (lab : ℕ → Option Label) (areas : List (Option Area)) (f : Label → Option Label) → KeepsUuid f → (ps : List (ℕ × Label))
    → AllByRecursion (IsGiven uuid lab areas) ps → Fitting uuid lab areas (map (change_to f) ps)
stage_fits uuid lab areas f keeps ps given =
    all_map (λ c. IsOf uuid c × HasRoom lab areas c.number) (change_to f) ps
    (all_pass_to (IsGiven uuid lab areas) (λ p. IsOf uuid (change_to f p) × HasRoom lab areas p.0)
    (λ p both. (record { of_uuid = both.0; label_of_uuid = λ l is. keeps p.1 l is ∙ both.0 }, both.1)) ps given)
