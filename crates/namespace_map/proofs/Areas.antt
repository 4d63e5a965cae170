-- The label of one UUID on each module, and the effect of changes of that UUID on it.
use Rattle.std.proofs.Common.{◌≡◌, ◌≢◌, ℕ, zero, suc, ◌+◌, ◌<◌, ◌≤◌, cond, eqb, List, [], ◌∷◌, length, take, Option, Some, None, refl, sym, ap, ◌∙◌, subst, arith, inl, inr}
use Rattle.std.proofs.Math.ListN.{length-set}
use Rattle.std.specs.List.{AllByRecursion}
use Rattle.std.proofs.lemmas.Bool.{cases_eq, eq-eqb, ne_eqb}
use Rattle.std.proofs.lemmas.Option.{unwrap_or-slice_get}
use Rattle.std.proofs.lemmas.List.{get_or-set_same, get_or-set_other}
use Rattle.label_area.specs.Area.{SlotState}
use Rattle.label_codec.specs.declared.label.Label.{Label}
use Rattle.namespace_map.specs.Areas.{Area, Change, slots_of, slots_on, free_in, area_at, changed_areas, changed_area, changed_slots, replaced, slot_of, all_changed}
use Rattle.namespace_map.specs.CommandLaws.{IsOf}
use Rattle.namespace_map.proofs.Slots.{IsOwn, owned, put_own, remove_own, put_count, remove_count}

-- ---- one area among several

pub slots_after : (a : Option Area) (c : Change) → slots_of (changed_area a c) ≡ changed_slots (slots_of a) c
slots_after None c = nothing c.label
  where
    nothing : (label : Option Label) → [] ≡ replaced (slot_of [] c.uuid) label []
    nothing None = refl
    nothing (Some l) = refl
slots_after (Some a) c = refl

pub slots_of_changed : (areas : List (Option Area)) (c : Change) → c.number < length areas → slots_on (changed_areas areas c) c.number ≡ changed_slots (slots_on areas c.number) c
slots_of_changed areas c below =
    ap slots_of (unwrap_or-slice_get (changed_areas areas c) c.number None ∙ get_or-set_same areas c.number _ None below) ∙ slots_after (area_at areas c.number) c

pub area_of_other : (areas : List (Option Area)) (c : Change) (m : ℕ) → m ≢ c.number → area_at (changed_areas areas c) m ≡ area_at areas m
area_of_other areas c m ne = unwrap_or-slice_get (changed_areas areas c) m None ∙ get_or-set_other areas c.number m _ None ne ∙ sym (unwrap_or-slice_get areas m None)

-- ---- the label of a UUID on each module

abbrev pub moved : (ℕ → Option Label) → Change → ℕ → Option Label
moved lab c m = cond (eqb m c.number) c.label (lab m)

abbrev pub moved_all : (ℕ → Option Label) → List Change → ℕ → Option Label
moved_all lab [] = lab
moved_all lab (c ∷ cs) = moved_all (moved lab c) cs

-- areas have at most one label of a UUID on each module, and this is it
pub record Proper (uuid : List ℕ) (lab : ℕ → Option Label) (areas : List (Option Area)) : Type 0 where
  pub own : (m : ℕ) → IsOwn uuid (lab m) (slots_on areas m)
  pub named : (m : ℕ) (l : Label) → lab m ≡ Some l → l.uuid ≡ uuid

-- a module with enough slots for any change of the UUID's label
pub record HasRoom (lab : ℕ → Option Label) (areas : List (Option Area)) (m : ℕ) : Type 0 where
  pub there : m < length areas
  pub room : 2 ≤ free_in (slots_on areas m) + owned (lab m)

owned_le : (o : Option Label) → owned o ≤ 1
owned_le None = omega arith
owned_le (Some l) = omega arith

-- the slots of a change, afterwards
replaced_own : (uuid : List ℕ) (own new : Option Label) (slots : List SlotState) → ((o : Label) → own ≡ Some o → o.uuid ≡ uuid) → ((l : Label) → new ≡ Some l → l.uuid ≡ uuid)
    → 1 ≤ free_in slots → IsOwn uuid own slots → IsOwn uuid new (replaced (slot_of slots uuid) new slots)
replaced_own uuid own None slots os ls room is = remove_own uuid own slots os is
replaced_own uuid own (Some l) slots os ls room is = put_own uuid own l slots os (ls l refl) room is

replaced_room : (uuid : List ℕ) (own new : Option Label) (slots : List SlotState) → ((o : Label) → own ≡ Some o → o.uuid ≡ uuid)
    → 1 ≤ free_in slots → IsOwn uuid own slots → free_in (replaced (slot_of slots uuid) new slots) + owned new ≡ free_in slots + owned own
replaced_room uuid own None slots os room is = omega (arith, remove_count uuid own slots os is)
replaced_room uuid own (Some l) slots os room is = put_count uuid own l slots os room is

module _ (uuid : List ℕ) (lab : ℕ → Option Label) (areas : List (Option Area)) (c : Change) (proper : Proper uuid lab areas) (of : IsOf uuid c) (room : HasRoom lab areas c.number) where
  some_free : 1 ≤ free_in (slots_on areas c.number)
  some_free = let a = room.room in omega (arith, owned_le (lab c.number))

  here : slots_on (changed_areas areas c) c.number ≡ replaced (slot_of (slots_on areas c.number) uuid) c.label (slots_on areas c.number)
  here = subst (λ (u : List ℕ). slots_on (changed_areas areas c) c.number ≡ replaced (slot_of (slots_on areas c.number) u) c.label (slots_on areas c.number)) of.of_uuid (slots_of_changed areas c room.there)

  own_then : (m : ℕ) → IsOwn uuid (moved lab c m) (slots_on (changed_areas areas c) m)
  own_then m =
      elim (cases_eq m c.number) [
        | inl same ↦ rw (eq-eqb m c.number same) (subst (λ (k : ℕ). IsOwn uuid c.label (slots_on (changed_areas areas c) k)) (sym same)
            (subst (λ (slots : List SlotState). IsOwn uuid c.label slots) (sym here)
            (replaced_own uuid (lab c.number) c.label (slots_on areas c.number) (proper.named c.number) of.label_of_uuid some_free (proper.own c.number))))
        | inr apart ↦ rw (ne_eqb m c.number apart) (subst (λ (a : Option Area). IsOwn uuid (lab m) (slots_of a)) (sym (area_of_other areas c m apart)) (proper.own m))
      ]

  named_then : (m : ℕ) (l : Label) → moved lab c m ≡ Some l → l.uuid ≡ uuid
  named_then m l is =
      elim (cases_eq m c.number) [
        | inl same ↦ of.label_of_uuid l (rw (eq-eqb m c.number same) at is)
        | inr apart ↦ proper.named m l (rw (ne_eqb m c.number apart) at is)
      ]

  -- a change keeps the areas proper
  pub proper_then : Proper uuid (moved lab c) (changed_areas areas c)
  proper_then = record { own = own_then; named = named_then }

  pub room_kept : (m : ℕ) → free_in (slots_on (changed_areas areas c) m) + owned (moved lab c m) ≡ free_in (slots_on areas m) + owned (lab m)
  room_kept m =
      elim (cases_eq m c.number) [
        | inl same ↦ rw (eq-eqb m c.number same) (subst (λ (k : ℕ). free_in (slots_on (changed_areas areas c) k) + owned c.label ≡ free_in (slots_on areas k) + owned (lab k)) (sym same)
            (subst (λ (slots : List SlotState). free_in slots + owned c.label ≡ free_in (slots_on areas c.number) + owned (lab c.number)) (sym here)
            (replaced_room uuid (lab c.number) c.label (slots_on areas c.number) (proper.named c.number) some_free (proper.own c.number))))
        | inr apart ↦ rw (ne_eqb m c.number apart, area_of_other areas c m apart) refl
      ]

  -- and the sum of free slots and labels of the UUID
  pub room_then : (m : ℕ) → HasRoom lab areas m → HasRoom (moved lab c) (changed_areas areas c) m
  room_then m has = record {
    there = let a = has.there in omega (arith, length-set areas c.number (changed_area (area_at areas c.number) c));
    room = let a = has.room in omega (arith, room_kept m);
  }

-- ---- a list of changes

abbrev pub Fitting : List ℕ → (ℕ → Option Label) → List (Option Area) → List Change → Type 0
Fitting uuid lab areas cs = AllByRecursion (λ c. IsOf uuid c × HasRoom lab areas c.number) cs

all_weaker : {X : Type 0} (P Q : X → Type 0) → ((x : X) → P x → Q x) → (xs : List X) → AllByRecursion P xs → AllByRecursion Q xs
all_weaker P Q step [] all = all
all_weaker P Q step (x ∷ xs) (one, rest) = (step x one, all_weaker P Q step xs rest)

pub proper_after : (cs : List Change) (uuid : List ℕ) (lab : ℕ → Option Label) (areas : List (Option Area)) → Proper uuid lab areas → Fitting uuid lab areas cs
    → Proper uuid (moved_all lab cs) (all_changed areas cs)
unfolding all_changed
proper_after [] uuid lab areas proper fit = proper
proper_after (c ∷ cs) uuid lab areas proper (one, rest) =
    proper_after cs uuid (moved lab c) (changed_areas areas c) (proper_then uuid lab areas c proper one.0 one.1)
    (all_weaker (λ d. IsOf uuid d × HasRoom lab areas d.number) (λ d. IsOf uuid d × HasRoom (moved lab c) (changed_areas areas c) d.number)
    (λ d both. (both.0, room_then uuid lab areas c proper one.0 one.1 d.number both.1)) cs rest)

-- free slots and labels of the UUID are as many as before, on each module
pub sum_kept : (cs : List Change) (uuid : List ℕ) (lab : ℕ → Option Label) (areas : List (Option Area)) → Proper uuid lab areas → Fitting uuid lab areas cs → (m : ℕ)
    → free_in (slots_on (all_changed areas cs) m) + owned (moved_all lab cs m) ≡ free_in (slots_on areas m) + owned (lab m)
unfolding all_changed
sum_kept [] uuid lab areas proper fit m = refl
sum_kept (c ∷ cs) uuid lab areas proper (one, rest) m =
    sum_kept cs uuid (moved lab c) (changed_areas areas c) (proper_then uuid lab areas c proper one.0 one.1)
    (all_weaker (λ d. IsOf uuid d × HasRoom lab areas d.number) (λ d. IsOf uuid d × HasRoom (moved lab c) (changed_areas areas c) d.number)
    (λ d both. (both.0, room_then uuid lab areas c proper one.0 one.1 d.number both.1)) cs rest) m
    ∙ room_kept uuid lab areas c proper one.0 one.1 m

pub all_of_front : {X : Type 0} (P : X → Type 0) (k : ℕ) (xs : List X) → AllByRecursion P xs → AllByRecursion P (take k xs)
all_of_front P zero xs all = tt
all_of_front P (suc k) [] all = tt
all_of_front P (suc k) (x ∷ xs) (one, rest) = (one, all_of_front P k xs rest)

-- the label on each module after a list of changes
pub moved_none : (cs : List Change) (lab : ℕ → Option Label) (m : ℕ) → AllByRecursion (λ c. m ≢ c.number) cs → moved_all lab cs m ≡ lab m
moved_none [] lab m all = refl
moved_none (c ∷ cs) lab m (ne, rest) = moved_none cs (moved lab c) m rest ∙ rw (ne_eqb m c.number ne) refl

pub moved_keeps : (P : ℕ → Option Label → Type 0) (cs : List Change) (lab : ℕ → Option Label) → ((m : ℕ) → P m (lab m)) → AllByRecursion (λ c. P c.number c.label) cs
    → (m : ℕ) → P m (moved_all lab cs m)
moved_keeps P [] lab before all m = before m
moved_keeps P (c ∷ cs) lab before (one, rest) m =
    moved_keeps P cs (moved lab c) (λ k. elim (cases_eq k c.number) [
      | inl same ↦ rw (eq-eqb k c.number same) (subst (λ (j : ℕ). P j c.label) (sym same) one)
      | inr apart ↦ rw (ne_eqb k c.number apart) (before k)
    ]) rest m
