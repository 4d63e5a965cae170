-- Removals: labels stay valid, and removing a UUID's labels needs no free slot.
use Rattle.std.proofs.Common.{◌≡◌, ◌≢◌, ℕ, zero, suc, ◌+◌, ◌<◌, ◌≤◌, List, [], ◌∷◌, length, Option, Some, None, refl, sym, ap, ◌∙◌, subst, arith, inl, inr, ◌⊎◌}
use Rattle.std.proofs.Math.ListN.{set}
use Rattle.std.specs.Prelude.{map, slice_get}
use Rattle.std.specs.List.{AllByRecursion, position}
use Rattle.std.proofs.lemmas.Bool.{cases_eq, cases_lt, eq-eqb, ne_eqb}
use Rattle.std.proofs.lemmas.Option.{none-some, same_Some}
use Rattle.label_codec.specs.declared.label.Label.{Label}
use Rattle.label_area.specs.Area.{SlotState}
use Rattle.label_area.specs.Change.{without as without_slot}
use Rattle.namespace_map.specs.Areas.{Area, Change, slots_of, slots_on, free_in, is_free, changed_areas, changed_slots, all_changed, refilled, replaced, slot_of}
use Rattle.namespace_map.specs.Changes.{change_to}
use Rattle.namespace_map.proofs.Slots.{owned, remove_count}
use Rattle.namespace_map.proofs.Areas.{Proper, moved, moved_all, slots_of_changed, area_of_other}
use Rattle.namespace_map.specs.Left.{LabelsAreRead}
use Rattle.namespace_laws.proofs.Staged.{Apart}
use Rattle.namespace_laws.proofs.Delete.{to_nothing}
use Rattle.namespace_laws.proofs.One.{proper_gone}
use Rattle.namespace_laws.proofs.Shaped.{lies_there}

-- ---- properties of each label in its slot

abbrev HasEach : (ℕ → Label → Type 0) → List SlotState → Type 0
HasEach P slots = (s : ℕ) (l : Label) → slice_get slots s ≡ Some (Some (Some l)) → P s l

set_has : (P : ℕ → Label → Type 0) (slots : List SlotState) (i : ℕ) (x : SlotState) → HasEach P slots → ((l : Label) → x ≡ Some (Some l) → P i l) → HasEach P (set slots i x)
set_has P [] i x each new s l is = each s l is
set_has P (y ∷ ys) zero x each new zero l is = new l (same_Some x (Some (Some l)) is)
set_has P (y ∷ ys) zero x each new (suc s) l is = each (suc s) l is
set_has P (y ∷ ys) (suc i) x each new zero l is = each zero l is
set_has P (y ∷ ys) (suc i) x each new (suc s) l is = set_has (λ n k. P (suc n) k) ys i x (λ n k e. each (suc n) k e) new s l is

freed_has : (P : ℕ → Label → Type 0) (slots : List SlotState) (out : Option ℕ) → HasEach P slots → HasEach P (without_slot out slots)
freed_has P slots None each = each
freed_has P slots (Some o) each = set_has P slots o None each (λ l e. absurd (none-some _ e))

replaced_has : (P : ℕ → Label → Type 0) (slots : List SlotState) (out : Option ℕ) (new : Option Label) → HasEach P slots → ((l : Label) (k : ℕ) → new ≡ Some l → P k (record l { slot = k })) → HasEach P (replaced out new slots)
replaced_has P slots out None each news = freed_has P slots out each
replaced_has P slots out (Some l) each news = by (position is_free slots)
  where
    by : (o : Option ℕ) → HasEach P (refilled out l o slots)
    by None = each
    by (Some f) = freed_has P (set slots f (Some (Some (record l { slot = f })))) out (set_has P slots f _ each
        (λ k e. subst (P f) (same_Some _ k (same_Some _ (Some k) e)) (news l f refl)))

-- one change leaves slots as they were, or changes them
pub slots_then : (areas : List (Option Area)) (c : Change) (m : ℕ) → (slots_on (changed_areas areas c) m ≡ slots_on areas m) ⊎ (slots_on (changed_areas areas c) m ≡ changed_slots (slots_on areas m) c)
slots_then areas c m = elim (cases_eq m c.number) [
  | inl same ↦ elim (cases_lt c.number (length areas)) [
    | inl below ↦ inr (ap (slots_on (changed_areas areas c)) same ∙ slots_of_changed areas c below ∙ ap (λ (n : ℕ). changed_slots (slots_on areas n) c) (sym same))
    | inr past ↦ inl (ap (λ (xs : List (Option Area)). slots_on xs m) (set_past areas c.number _ past))
  ]
  | inr apart ↦ inl (ap slots_of (area_of_other areas c m apart))
]
  where
    set_past : (xs : List (Option Area)) (i : ℕ) (a : Option Area) → length xs ≤ i → set xs i a ≡ xs
    set_past [] i a past = refl
    set_past (x ∷ xs) zero a past = absurd (omega arith)
    set_past (x ∷ xs) (suc i) a past = ap (λ (ys : List (Option Area)). x ∷ ys) (set_past xs i a (omega arith))

abbrev IsReadAt : ℕ → Label → Type 0
IsReadAt s l = (l.slot ≡ s) × (0 < l.raw)

abbrev pub PutsBytes : Change → Type 0
PutsBytes c = (l : Label) → c.label ≡ Some l → 0 < l.raw

read_one : (areas : List (Option Area)) (c : Change) → LabelsAreRead areas → PutsBytes c → LabelsAreRead (changed_areas areas c)
read_one areas c read bytes = record { number = λ m s l is. (each m s l is).0; bytes = λ m s l is. (each m s l is).1 }
  where
    before : (m : ℕ) → HasEach IsReadAt (slots_on areas m)
    before m s l is = (read.number m s l is, read.bytes m s l is)

    each : (m s : ℕ) (l : Label) → slice_get (slots_on (changed_areas areas c) m) s ≡ Some (Some (Some l)) → IsReadAt s l
    each m s l is = by (slots_then areas c m)
      where
        by : (slots_on (changed_areas areas c) m ≡ slots_on areas m) ⊎ (slots_on (changed_areas areas c) m ≡ changed_slots (slots_on areas m) c) → IsReadAt s l
        by (inl same) = before m s l (sym (ap (λ (xs : List SlotState). slice_get xs s) same) ∙ is)
        by (inr changes) =
            replaced_has IsReadAt (slots_on areas m) (slot_of (slots_on areas m) c.uuid) c.label (before m) (λ k n e. (refl, bytes k e)) s l (sym (ap (λ (xs : List SlotState). slice_get xs s) changes) ∙ is)

-- labels stay as they were read
pub read_all : (cs : List Change) (areas : List (Option Area)) → LabelsAreRead areas → AllByRecursion PutsBytes cs → LabelsAreRead (all_changed areas cs)
unfolding all_changed
read_all [] areas read all = read
read_all (c ∷ cs) areas read (one, rest) = read_all cs (changed_areas areas c) (read_one areas c read one) rest

-- ---- removing a list of labels

one_free : (uuid : List ℕ) (lab : ℕ → Option Label) (areas : List (Option Area)) (p : ℕ × Label) → Proper uuid lab areas → lab p.0 ≡ Some p.1 → (i : ℕ)
    → free_in (slots_on (changed_areas areas (change_to to_nothing p)) i) + owned (moved lab (change_to to_nothing p) i) ≡ free_in (slots_on areas i) + owned (lab i)
one_free uuid lab areas p proper at i = elim (cases_eq i p.0) [
  | inl here ↦ rw (here, eq-eqb p.0 p.0 refl) at_p
  | inr apart ↦ rw (ne_eqb i p.0 apart) (ap (λ (a : Option Area). free_in (slots_of a) + owned (lab i)) (area_of_other areas (change_to to_nothing p) i apart))
]
  where
    slots : slots_on (changed_areas areas (change_to to_nothing p)) p.0 ≡ replaced (slot_of (slots_on areas p.0) uuid) None (slots_on areas p.0)
    slots =
        slots_of_changed areas (change_to to_nothing p) (lies_there uuid lab areas proper p.0 p.1 at)
        ∙ ap (λ (u : List ℕ). replaced (slot_of (slots_on areas p.0) u) None (slots_on areas p.0)) (proper.named p.0 p.1 at)

    at_p : free_in (slots_on (changed_areas areas (change_to to_nothing p)) p.0) + 0 ≡ free_in (slots_on areas p.0) + owned (lab p.0)
    at_p =
        let a = ap (λ (xs : List SlotState). free_in xs) slots in
        let b = remove_count uuid (lab p.0) (slots_on areas p.0) (proper.named p.0) (proper.own p.0) in
        omega (arith, a, b)

pub record Removed (uuid : List ℕ) (lab : ℕ → Option Label) (areas : List (Option Area)) (ps : List (ℕ × Label)) : Type 0 where
  pub proper : Proper uuid (moved_all lab (map (change_to to_nothing) ps)) (all_changed areas (map (change_to to_nothing) ps))
  pub sum : (i : ℕ) → free_in (slots_on (all_changed areas (map (change_to to_nothing) ps)) i) + owned (moved_all lab (map (change_to to_nothing) ps) i) ≡ free_in (slots_on areas i) + owned (lab i)

pub removed : (ps : List (ℕ × Label)) (uuid : List ℕ) (lab : ℕ → Option Label) (areas : List (Option Area)) → Proper uuid lab areas → AllByRecursion (λ p. lab p.0 ≡ Some p.1) ps → Apart ps → Removed uuid lab areas ps
unfolding all_changed
removed [] uuid lab areas proper labels apart = record { proper = proper; sum = λ i. refl }
removed (p ∷ ps) uuid lab areas proper (at, labels) (one, rest) =
    let later = removed ps uuid (moved lab (change_to to_nothing p)) (changed_areas areas (change_to to_nothing p)) (proper_gone uuid areas lab proper p at) (still ps one labels) rest in
    record { proper = later.proper; sum = λ i. later.sum i ∙ one_free uuid lab areas p proper at i }
  where
    still : (qs : List (ℕ × Label)) → AllByRecursion (λ q. p.0 ≢ q.0) qs → AllByRecursion (λ q. lab q.0 ≡ Some q.1) qs → AllByRecursion (λ q. moved lab (change_to to_nothing p) q.0 ≡ Some q.1) qs
    still [] a b = tt
    still (q ∷ qs) (ne, nes) (e, es) = (rw (ne_eqb q.0 p.0 (λ s. ne (sym s))) e, still qs nes es)
