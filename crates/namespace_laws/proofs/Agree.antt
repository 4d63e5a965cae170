-- The labels of a UUID in all areas, by module.
use Rattle.std.proofs.Common.{◌≡◌, ℕ, suc, ◌+◌, List, [], ◌∷◌, ◌++◌, length, get_or, Option, Some, None, refl, sym, ap, ◌∙◌, subst, arith}
use Rattle.std.specs.Prelude.{map, unwrap_or}
use Rattle.label_codec.specs.declared.label.Label.{Label}
use Rattle.namespace_map.specs.Areas.{Area, slots_of, slot_of}
use Rattle.label_set.specs.declared.placed.Placed.{Placed}
use Rattle.namespace_map.proofs.Areas.{Proper}
use Rattle.namespace_laws.proofs.Whole.{own_of, slot_on}
use Rattle.std.specs.Option.{option_map}
use Rattle.std.specs.List.{filter_map, range_with_len, cons_option}
use Rattle.std.proofs.lemmas.Option.{unwrap_or-slice_get}
use Rattle.label_area.specs.Area.{SlotState}
use Rattle.namespace_map.proofs.Slots.{IsOwn, own_place}
use Rattle.namespace_map.proofs.Labels.{part, placed_at, part_none, part_one, own_from, labels_of_areas}

-- the label of a module, with its place
abbrev pub placed_by : (ℕ → Option Label) → (ℕ → ℕ) → ℕ → Option Placed
placed_by lab slots m = option_map (λ l. placed_at m (slots m) (record l { slot = slots m })) (lab m)

first_part : (uuid : List ℕ) (own : Option Label) (m s : ℕ) (slots : List SlotState) (rest : List Placed) → ((l : Label) → own ≡ Some l → l.uuid ≡ uuid) → IsOwn uuid own slots
    → s ≡ unwrap_or (slot_of slots uuid) 0
    → part uuid m 0 slots ++ rest ≡ cons_option (option_map (λ l. placed_at m s (record l { slot = s })) own) rest
first_part uuid None m s slots rest os is e = rw (part_none slots uuid m 0 is) refl
first_part uuid (Some l) m s slots rest os (t, here, others) e =
    let e' : s ≡ t = e ∙ rw (own_place uuid l slots t (os l refl) here others) refl in
    rw (part_one slots uuid m 0 t (record l { slot = t }) here (os l refl) others, e')
    (ap (λ (n : ℕ). placed_at m n (record l { slot = t }) ∷ rest) (omega arith))

own_from_by : (areas : List (Option Area)) (uuid : List ℕ) (k : ℕ) (lab : ℕ → Option Label) (slots : ℕ → ℕ) → ((m : ℕ) (l : Label) → lab m ≡ Some l → l.uuid ≡ uuid)
    → ((i : ℕ) → IsOwn uuid (lab (k + i)) (slots_of (get_or areas i None))) → ((i : ℕ) → slots (k + i) ≡ unwrap_or (slot_of (slots_of (get_or areas i None)) uuid) 0)
    → own_from uuid k areas ≡ filter_map (placed_by lab slots) (range_with_len k (length areas))
own_from_by [] uuid k lab slots named own at = refl
own_from_by (a ∷ areas) uuid k lab slots named own at =
    let zero_is : k + 0 ≡ k = omega arith in
    first_part uuid (lab k) k (slots k) (slots_of a) (own_from uuid (k + 1) areas) (named k) (subst (λ (n : ℕ). IsOwn uuid (lab n) (slots_of a)) zero_is (own 0)) (ap slots (sym zero_is) ∙ at 0)
    ∙ ap (λ (ps : List Placed). cons_option (placed_by lab slots k) ps)
    (own_from_by areas uuid (k + 1) lab slots named
    (λ i. subst (λ (n : ℕ). IsOwn uuid (lab n) (slots_of (get_or areas i None))) (further k i) (own (suc i)))
    (λ i. ap slots (sym (further k i)) ∙ at (suc i)))
  where
    further : (k i : ℕ) → k + suc i ≡ k + 1 + i
    further k i = omega arith

-- the labels of a UUID in all areas, by module
pub own_by : (uuid : List ℕ) (lab : ℕ → Option Label) (areas : List (Option Area)) → Proper uuid lab areas
    → own_of uuid areas ≡ filter_map (placed_by lab (slot_on uuid areas)) (range_with_len 0 (length areas))
own_by uuid lab areas proper =
    labels_of_areas uuid areas
    ∙ own_from_by areas uuid 0 lab (slot_on uuid areas) proper.named
    (λ i. subst (λ (n : ℕ). IsOwn uuid (lab n) (slots_of (get_or areas i None))) (zero_more i) (subst (λ (a : Option Area). IsOwn uuid (lab i) (slots_of a)) (unwrap_or-slice_get areas i None) (proper.own i)))
    (λ i. ap (slot_on uuid areas) (sym (zero_more i)) ∙ ap (λ (a : Option Area). unwrap_or (slot_of (slots_of a) uuid) 0) (unwrap_or-slice_get areas i None))
  where
    zero_more : (i : ℕ) → i ≡ 0 + i
    zero_more i = omega arith

module _ {X Y Z : Type 0} (h : Y → Z) (f : X → Option Y) (g : X → Option Z) (same : (x : X) → option_map h (f x) ≡ g x) where
  map_cons : (o : Option Y) (ys : List Y) → map h (cons_option o ys) ≡ cons_option (option_map h o) (map h ys)
  map_cons None ys = refl
  map_cons (Some y) ys = refl

  pub map_filter_map : (xs : List X) → map h (filter_map f xs) ≡ filter_map g xs
  map_filter_map [] = refl
  map_filter_map (x ∷ xs) =
      map_cons (f x) (filter_map f xs) ∙ ap (λ (o : Option Z). cons_option o (map h (filter_map f xs))) (same x) ∙ ap (λ (zs : List Z). cons_option (g x) zs) (map_filter_map xs)
