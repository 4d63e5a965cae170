-- Where the labels of areas stand, and that they can be written.
use Rattle.std.proofs.Common.{◌≡◌, ℕ, zero, suc, ◌+◌, List, [], ◌∷◌, ◌++◌, get_or, map, Option, Some, None, refl, ap, ◌∙◌, arith}
use Rattle.std.specs.Prelude.{IsSome, slice_get}
use Rattle.std.specs.List.{AllByRecursion, flat_map, filter_map, enumerate_from}
use Rattle.std.proofs.lemmas.Option.{none-some, unwrap_or-slice_get}
use Rattle.std.proofs.lemmas.Slice.Eq.{bytes_eq-Decides}
use Rattle.label_codec.specs.declared.label.Label.{Label}
use Rattle.label_codec.specs.Writable.{IsSound}
use Rattle.label_area.specs.Area.{SlotState, labels_in}
use Rattle.label_set.specs.declared.placed.Placed.{Placed}
use Rattle.namespace_map.specs.Namespaces.{uuid_of, placed_in, placed_on}
use Rattle.namespace_areas.specs.declared.area.Area.{Area}
use Rattle.namespace_map.specs.Areas.{Area as SeenArea, slots_of, slots_on, area_at, has_uuid}
use Rattle.namespace_map.specs.Changes.{labels_at, placed_in_all}
use Rattle.namespace_map.proofs.Slots.{slot}
use Rattle.namespace_areas.specs.Seen.{areas_seen}
use Rattle.namespace_areas.proofs.Seen.{label_sound}
use Rattle.namespace_areas.proofs.CanMake.{HasLabel}

-- a label stands in its module's slot
abbrev pub IsPlaced : List (Option SeenArea) → Placed → Type 0
IsPlaced areas p = slot (slots_on areas p.«module») p.slot ≡ Some (Some p.label)

abbrev IsOnFrom : ℕ → ℕ → List SlotState → Placed → Type 0
IsOnFrom number k slots p = (p.«module» ≡ number) × ((i : ℕ) × (p.slot ≡ k + i) × (slot slots i ≡ Some (Some p.label)))

weaker : (P Q : Placed → Type 0) → ((p : Placed) → P p → Q p) → (ps : List Placed) → AllByRecursion P ps → AllByRecursion Q ps
weaker P Q step [] all = tt
weaker P Q step (p ∷ ps) (one, rest) = (step p one, weaker P Q step ps rest)

both : (P : Placed → Type 0) (xs ys : List Placed) → AllByRecursion P xs → AllByRecursion P ys → AllByRecursion P (xs ++ ys)
both P [] ys all more = more
both P (x ∷ xs) ys (one, rest) more = (one, both P xs ys rest more)

later : (number k : ℕ) (s : SlotState) (slots : List SlotState) (p : Placed) → IsOnFrom number (k + 1) slots p → IsOnFrom number k (s ∷ slots) p
later number k s slots p (m, (i, at, is)) = (m, (suc i, at ∙ omega arith, is))

on_module : (number k : ℕ) (slots : List SlotState) → AllByRecursion (IsOnFrom number k slots) (filter_map (placed_in number) (enumerate_from k (labels_in slots)))
on_module number k [] = tt
on_module number k (None ∷ slots) = weaker (IsOnFrom number (k + 1) slots) (IsOnFrom number k (None ∷ slots)) (later number k None slots) _ (on_module number (k + 1) slots)
on_module number k (Some None ∷ slots) = weaker (IsOnFrom number (k + 1) slots) (IsOnFrom number k (Some None ∷ slots)) (later number k (Some None) slots) _ (on_module number (k + 1) slots)
on_module number k (Some (Some l) ∷ slots) =
    ((refl, (0, omega arith, refl)), weaker (IsOnFrom number (k + 1) slots) (IsOnFrom number k (Some (Some l) ∷ slots)) (later number k (Some (Some l)) slots) _ (on_module number (k + 1) slots))

abbrev IsIn : ℕ → List (Option SeenArea) → Placed → Type 0
IsIn k areas p = (m : ℕ) × (p.«module» ≡ k + m) × (slot (slots_of (get_or areas m None)) p.slot ≡ Some (Some p.label))

first_in : (k : ℕ) (a : Option SeenArea) (areas : List (Option SeenArea)) → AllByRecursion (IsIn k (a ∷ areas)) (placed_on (k, labels_at a))
first_in k None areas = tt
first_in k (Some a) areas =
    weaker (IsOnFrom k 0 a.slots) (IsIn k (Some a ∷ areas))
    (λ p h. let same : p.slot ≡ h.1.0 = h.1.1 ∙ omega arith in (0, h.0 ∙ omega arith, ap (slot a.slots) same ∙ h.1.2)) _ (on_module k 0 a.slots)

all_in : (k : ℕ) (areas : List (Option SeenArea)) → AllByRecursion (IsIn k areas) (flat_map placed_on (enumerate_from k (map labels_at areas)))
all_in k [] = tt
all_in k (a ∷ areas) =
    both (IsIn k (a ∷ areas)) (placed_on (k, labels_at a)) (flat_map placed_on (enumerate_from (k + 1) (map labels_at areas))) (first_in k a areas)
    (weaker (IsIn (k + 1) areas) (IsIn k (a ∷ areas)) (λ p h. (suc h.0, h.1 ∙ omega arith, h.2)) _ (all_in (k + 1) areas))

-- each label that areas show
pub placed_each : (areas : List (Option SeenArea)) → AllByRecursion (IsPlaced areas) (placed_in_all areas)
placed_each areas =
    weaker (IsIn 0 areas) (IsPlaced areas)
    (λ p h.
    let same : p.«module» ≡ h.0 = h.1 ∙ omega arith in
    let at : area_at areas p.«module» ≡ get_or areas h.0 None = ap (area_at areas) same ∙ unwrap_or-slice_get areas h.0 None in
    ap (λ (o : Option SeenArea). slot (slots_of o) p.slot) at ∙ h.2)
    (placed_in_all areas) (all_in 0 areas)

-- ---- what follows for its module

ready_with : (o : Option SeenArea) (k : ℕ) (l : Label) → slot (slots_of o) k ≡ Some (Some l) → IsSome o
ready_with None k l e = absurd (none-some (Some l) e)
ready_with (Some a) k l e = refl

pub placed_ready : (areas : List (Option SeenArea)) (p : Placed) → IsPlaced areas p → IsSome (area_at areas p.«module»)
placed_ready areas p is = ready_with (area_at areas p.«module») p.slot p.label is

pub placed_label : (areas : List (Option SeenArea)) (p : Placed) → IsPlaced areas p → HasLabel areas p.«module» (uuid_of p)
placed_label areas p is = (p.slot, ap (has_uuid (uuid_of p)) is ∙ (bytes_eq-Decides (uuid_of p) (uuid_of p)).1 refl)

slice_with : (slots : List SlotState) (k : ℕ) (x : Option Label) → slot slots k ≡ Some x → slice_get slots k ≡ Some (Some x)
slice_with [] k x e = absurd (none-some x e)
slice_with (s ∷ slots) zero x e = ap Some e
slice_with (s ∷ slots) (suc k) x e = slice_with slots k x e

-- it can be written
pub placed_sound : (areas : List Area) (p : Placed) → IsPlaced (areas_seen areas) p → IsSound p.label
placed_sound areas p is = label_sound areas p.«module» p.slot p.label (slice_with (slots_on (areas_seen areas) p.«module») p.slot (Some p.label) is)
