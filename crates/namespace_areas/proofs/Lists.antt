-- A list of changes, made one after another.
use Rattle.std.proofs.Common.{◌≡◌, ℕ, ◌+◌, ◌<◌, Bool, true, false, List, [], ◌∷◌, ◌++◌, length, take, drop, get_or, Option, refl, sym, ap, ◌∙◌, subst}
use Rattle.std.proofs.lemmas.List.{take_more, drop_more, take-append-drop}
use Rattle.namespace_areas.specs.declared.area.Area.{Area}
use Rattle.namespace_map.specs.Areas.{Area as SeenArea, Change, changed_areas, all_changed}
use Rattle.namespace_areas.specs.Seen.{areas_seen}
use Rattle.namespace_areas.specs.Went.{CanMake, Went}
use Rattle.namespace_areas.proofs.Went.{went_both, went_cut}

-- what holds of the rest of a list, as the next and those behind it
pub rest_is : (P : List Change → Type 0) (cs : List Change) (i : ℕ) (x : Change) → x ≡ get_or cs i x → i < length cs → P (drop i cs) → P (x ∷ drop (i + 1) cs)
rest_is P cs i x at below h = subst P (drop_more cs i x below ∙ ap (λ (y : Change). y ∷ drop (i + 1) cs) (sym at)) h

one_changed : (areas : List (Option SeenArea)) (c : Change) → all_changed areas (c ∷ []) ≡ changed_areas areas c
unfolding all_changed
one_changed areas c = refl

module _ (old now new : List Area) (first fuse left : Option ℕ) (cs : List Change) (i : ℕ) (x : Change) (at : x ≡ get_or cs i x) (below : i < length cs)
    (went : Went old now first fuse (take i cs) true) where
  more : take i cs ++ (x ∷ []) ≡ take (i + 1) cs
  more = ap (λ (y : Change). take i cs ++ (y ∷ [])) at ∙ sym (take_more cs i x below)

  then : (made : Bool) → Went now new fuse left (x ∷ []) made → Went old new first left (take (i + 1) cs) made
  then made one = subst (λ (xs : List Change). Went old new first left xs made) more (went_both old now new first fuse left (take i cs) (x ∷ []) made went one)

  -- the next was made
  pub list_next : Went now new fuse left (x ∷ []) true → Went old new first left (take (i + 1) cs) true
  list_next one = then true one

  -- it was cut
  pub list_cut : Went now new fuse left (x ∷ []) false → Went old new first left cs false
  list_cut one =
      subst (λ (xs : List Change). Went old new first left xs false) (take-append-drop (i + 1) cs)
      (went_cut old new first left (take (i + 1) cs) (drop (i + 1) cs) (then false one))

  -- and those behind it can be made
  pub can_next : CanMake (areas_seen now) (drop i cs) → Went now new fuse left (x ∷ []) true → CanMake (areas_seen new) (drop (i + 1) cs)
  can_next can one =
      let can_all : CanMake (areas_seen now) (x ∷ drop (i + 1) cs) = rest_is (CanMake (areas_seen now)) cs i x at below can in
      subst (λ (areas : List (Option SeenArea)). CanMake areas (drop (i + 1) cs)) (sym (one.done refl ∙ one_changed (areas_seen now) x)) can_all.2
