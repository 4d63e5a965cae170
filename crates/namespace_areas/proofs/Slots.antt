-- The slots of an area as its index block lists them, and the labels that stand in them.
use Rattle.std.proofs.Common.{◌≡◌, ℕ, zero, suc, ◌+◌, Bool, true, false, cond, List, [], ◌∷◌, get_or, map, Some, None, Result, Ok, Err, refl, sym, ap, ◌∙◌, subst, arith, inl, inr}
use Rattle.std.specs.Prelude.{count_by, slice_get}
use Rattle.std.specs.List.{position, position_from, enumerate_from}
use Rattle.std.specs.Result.{result_ok}
use Rattle.std.proofs.lemmas.Bool.{cases_Bool, false≢true}
use Rattle.std.proofs.lemmas.Option.{none-some}
use Rattle.std.proofs.lemmas.List.Sums.{sum_by-cons}
use Rattle.std.proofs.lemmas.List.Quantifiers.{position-Some}
use Rattle.std.proofs.lemmas.Iterator.Adapters.{position_from-zero}
use Rattle.label_codec.specs.declared.label.Label.{Label}
use Rattle.label_codec.specs.declared.label.LabelFault.{LabelFault}
use Rattle.label_codec.specs.Label.{label_reading}
use Rattle.label_area.specs.Area.{SlotState, slot_bytes, slot_at, labels_in}
use Rattle.namespace_map.specs.Areas.{is_free, free_in, has_uuid, slot_of}
use Rattle.namespace_areas.specs.Seen.{is_label_of}

-- the slots from a number on
abbrev pub listed : List ℕ → ℕ → ℕ → List Bool → List SlotState
listed bytes size k free = map (slot_at bytes size) (enumerate_from k free)

free_here : (bytes : List ℕ) (size k : ℕ) (f : Bool) → is_free (slot_at bytes size (k, f)) ≡ f
free_here bytes size k true = refl
free_here bytes size k false = refl

-- ---- which are free

free_from : (bytes : List ℕ) (size k : ℕ) (free : List Bool) → position_from is_free k (listed bytes size k free) ≡ position_from (λ f. f) k free
free_from bytes size k [] = refl
free_from bytes size k (true ∷ free) = refl
free_from bytes size k (false ∷ free) = free_from bytes size (k + 1) free

-- the least free slot
pub least_is : (bytes : List ℕ) (size : ℕ) (free : List Bool) → position is_free (listed bytes size 0 free) ≡ position (λ f. f) free
least_is bytes size free = position_from-zero is_free (listed bytes size 0 free) ∙ free_from bytes size 0 free ∙ sym (position_from-zero (λ f. f) free)

-- how many are
pub count_is : (bytes : List ℕ) (size k : ℕ) (free : List Bool) → free_in (listed bytes size k free) ≡ count_by (λ f. f) free
count_is bytes size k [] = refl
count_is bytes size k (f ∷ free) =
    sum_by-cons (λ s. cond (is_free s) 1 0) (slot_at bytes size (k, f)) (listed bytes size (k + 1) free)
    ∙ ap (λ (b : Bool). cond b 1 0 + free_in (listed bytes size (k + 1) free)) (free_here bytes size k f)
    ∙ ap (λ (n : ℕ). cond f 1 0 + n) (count_is bytes size (k + 1) free)
    ∙ sym (sum_by-cons (λ (b : Bool). cond b 1 0) f free)

-- ---- what a used slot has

-- a slot that is free has nothing
free_is_none : (bytes : List ℕ) (size k : ℕ) (free : List Bool) (j : ℕ) → get_or free j true ≡ true → get_or (listed bytes size k free) j None ≡ None
free_is_none bytes size k [] j e = refl
free_is_none bytes size k (true ∷ free) zero e = refl
free_is_none bytes size k (false ∷ free) zero e = absurd (false≢true e)
free_is_none bytes size k (f ∷ free) (suc j) e = free_is_none bytes size (k + 1) free j e

pub has_label_used : (bytes : List ℕ) (size : ℕ) (free : List Bool) (uuid : List ℕ) (j : ℕ) → slot_of (listed bytes size 0 free) uuid ≡ Some j → get_or free j true ≡ false
has_label_used bytes size free uuid j is =
    elim (cases_Bool (get_or free j true)) [
      | inl it ↦
          let has = (position-Some (has_uuid uuid) (listed bytes size 0 free) j None is).1 in
          let none : has_uuid uuid (get_or (listed bytes size 0 free) j None) ≡ false = ap (has_uuid uuid) (free_is_none bytes size 0 free j it) in
          absurd (false≢true (sym none ∙ has))
      | inr not_it ↦ not_it
    ]

-- the first slot with a label of a UUID is that of the list of labels
of_from : (uuid : List ℕ) (k : ℕ) (slots : List SlotState) → position_from (is_label_of uuid) k (labels_in slots) ≡ position_from (has_uuid uuid) k slots
of_from uuid k [] = refl
of_from uuid k (s ∷ slots) =
    elim (cases_Bool (has_uuid uuid s)) [
      | inl it ↦ rw it refl
      | inr not_it ↦ rw not_it (of_from uuid (k + 1) slots)
    ]

pub first_of : (uuid : List ℕ) (slots : List SlotState) → position (is_label_of uuid) (labels_in slots) ≡ slot_of slots uuid
first_of uuid slots = position_from-zero (is_label_of uuid) (labels_in slots) ∙ of_from uuid 0 slots ∙ sym (position_from-zero (has_uuid uuid) slots)

-- ---- a label was read from its slot

read_ok : (r : Result Label LabelFault) (l : Label) → result_ok r ≡ Some l → r ≡ Ok l
read_ok (Ok x) l e = cc
read_ok (Err x) l e = absurd (none-some l e)

read_here : (bytes : List ℕ) (size k : ℕ) (f : Bool) (l : Label) → slot_at bytes size (k, f) ≡ Some (Some l) → label_reading (slot_bytes bytes size k) k ≡ Ok l
read_here bytes size k true l e = absurd (none-some (Some l) e)
read_here bytes size k false l e = read_ok (label_reading (slot_bytes bytes size k) k) l (cc)

pub label_read : (bytes : List ℕ) (size k : ℕ) (free : List Bool) (j : ℕ) (l : Label) → slice_get (listed bytes size k free) j ≡ Some (Some (Some l))
    → label_reading (slot_bytes bytes size (k + j)) (k + j) ≡ Ok l
label_read bytes size k [] j l e = absurd (none-some (Some (Some l)) e)
label_read bytes size k (f ∷ free) zero l e =
    let at : k + 0 ≡ k = omega arith in
    subst (λ (n : ℕ). label_reading (slot_bytes bytes size n) n ≡ Ok l) (sym at) (read_here bytes size k f l (cc))
label_read bytes size k (f ∷ free) (suc j) l e =
    let at : k + 1 + j ≡ k + suc j = omega arith in
    subst (λ (n : ℕ). label_reading (slot_bytes bytes size n) n ≡ Ok l) at (label_read bytes size (k + 1) free j l e)
