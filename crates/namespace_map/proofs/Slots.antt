-- The slots of one area, and the label of one UUID among them.
use Rattle.std.proofs.Common.{◌≡◌, ◌≢◌, ℕ, zero, suc, ◌+◌, ◌<◌, ◌≤◌, Bool, true, false, cond, List, [], ◌∷◌, length, get_or, Option, Some, None, refl, sym, ap, ◌∙◌, arith, inl, inr}
use Rattle.std.proofs.Math.ListN.{set, length-set}
use Rattle.std.specs.Prelude.{count_by}
use Rattle.std.specs.List.{position, position_from}
use Rattle.std.specs.Str.{bytes_eq}
use Rattle.std.proofs.lemmas.Bool.{cases_Bool, false≢true, cases_eq}
use Rattle.std.proofs.lemmas.Option.{none-some}
use Rattle.std.proofs.lemmas.Slice.Eq.{bytes_eq-Decides}
use Rattle.std.proofs.lemmas.List.{get_or-set_same, get_or-set_other}
use Rattle.std.proofs.lemmas.List.Sums.{sum_by-cons, sum_by-set}
use Rattle.std.proofs.lemmas.Iterator.Adapters.{position_from-zero}
use Rattle.label_codec.specs.declared.label.Label.{Label}
use Rattle.label_area.specs.Area.{SlotState}
use Rattle.namespace_map.specs.Areas.{is_free, free_in, has_uuid, slot_of, replaced}

module _ {X : Type 0} (test : X → Bool) (d : X) where
  none_from : (xs : List X) (k : ℕ) → ((j : ℕ) → test (get_or xs j d) ≡ false) → position_from test k xs ≡ None
  none_from [] k h = refl
  none_from (x ∷ xs) k h = rw (h 0) (none_from xs (k + 1) (λ j. h (suc j)))

  at_from : (xs : List X) (k s : ℕ) → s < length xs → test (get_or xs s d) ≡ true → ((j : ℕ) → j ≢ s → test (get_or xs j d) ≡ false)
      → position_from test k xs ≡ Some (k + s)
  at_from [] k s below here others = absurd (omega arith)
  at_from (x ∷ xs) k zero below here others = rw here (ap Some (omega arith))
  at_from (x ∷ xs) k (suc s) below here others =
      rw (others 0 (λ e. omega arith)) (at_from xs (k + 1) s (omega arith) here (λ j ne. others (suc j) (λ e. ne (omega arith))) ∙ ap Some (omega arith))

  -- a place where the test passes, if there is one
  there_from : (xs : List X) (k : ℕ) → 1 ≤ count_by test xs
      → (f : ℕ) × (f < length xs) × (position_from test k xs ≡ Some (k + f)) × (test (get_or xs f d) ≡ true)
  there_from [] k some = absurd (omega arith)
  there_from (x ∷ xs) k some =
      elim (cases_Bool (test x)) [
        | inl it ↦ (0, omega arith, rw it (ap Some (omega arith)), it)
        | inr not_it ↦
            let one : count_by test (x ∷ xs) ≡ cond (test x) 1 0 + count_by test xs = sum_by-cons (λ y. cond (test y) 1 0) x xs in
            let one' : count_by test (x ∷ xs) ≡ count_by test xs = one ∙ rw not_it (omega arith) in
            later x xs k not_it (there_from xs (k + 1) (omega arith))
      ]
    where
      later : (x : X) (xs : List X) (k : ℕ) → test x ≡ false → (f : ℕ) × (f < length xs) × (position_from test (k + 1) xs ≡ Some (k + 1 + f)) × (test (get_or xs f d) ≡ true)
          → (f : ℕ) × (f < length (x ∷ xs)) × (position_from test k (x ∷ xs) ≡ Some (k + f)) × (test (get_or (x ∷ xs) f d) ≡ true)
      later x xs k not_it (f, below, is, passes) = (suc f, omega arith, rw not_it (is ∙ ap Some (omega arith)), passes)

  pub nowhere : (xs : List X) → ((j : ℕ) → test (get_or xs j d) ≡ false) → position test xs ≡ None
  nowhere xs h = position_from-zero test xs ∙ none_from xs 0 h

  pub at_place : (xs : List X) (s : ℕ) → s < length xs → test (get_or xs s d) ≡ true → ((j : ℕ) → j ≢ s → test (get_or xs j d) ≡ false) → position test xs ≡ Some s
  at_place xs s below here others = position_from-zero test xs ∙ at_from xs 0 s below here others ∙ ap Some (omega arith)

  pub somewhere : (xs : List X) → 1 ≤ count_by test xs → (f : ℕ) × (f < length xs) × (position test xs ≡ Some f) × (test (get_or xs f d) ≡ true)
  somewhere xs some = let (f, below, is, passes) = there_from xs 0 some in (f, below, position_from-zero test xs ∙ is ∙ ap Some (omega arith), passes)

-- the free slot and the slots' state, by number
abbrev pub slot : List SlotState → ℕ → SlotState
slot slots j = get_or slots j None

-- the only label of a UUID in slots is this, or there is none
abbrev pub IsOwn : List ℕ → Option Label → List SlotState → Type 0
IsOwn uuid None slots = (j : ℕ) → has_uuid uuid (slot slots j) ≡ false
IsOwn uuid (Some l) slots = (s : ℕ) × (slot slots s ≡ Some (Some (record l { slot = s }))) × ((j : ℕ) → j ≢ s → has_uuid uuid (slot slots j) ≡ false)

is_some_free : (s : SlotState) → is_free s ≡ true → s ≡ None
is_some_free None e = refl
is_some_free (Some x) e = absurd (false≢true e)

same_uuid : (uuid : List ℕ) → bytes_eq uuid uuid ≡ true
same_uuid uuid = (bytes_eq-Decides uuid uuid).1 refl

pub has_it : (uuid : List ℕ) (l : Label) (k : ℕ) → l.uuid ≡ uuid → has_uuid uuid (Some (Some (record l { slot = k }))) ≡ true
has_it uuid l k e = rw e (same_uuid uuid)

below_some : (slots : List SlotState) (j : ℕ) (x : Option Label) → slot slots j ≡ Some x → j < length slots
below_some [] j x e = absurd (cc)
below_some (y ∷ ys) zero x e = omega arith
below_some (y ∷ ys) (suc j) x e = let h = below_some ys j x e in omega arith

pub own_place : (uuid : List ℕ) (l : Label) (slots : List SlotState) (s : ℕ) → l.uuid ≡ uuid → slot slots s ≡ Some (Some (record l { slot = s }))
    → ((j : ℕ) → j ≢ s → has_uuid uuid (slot slots j) ≡ false) → slot_of slots uuid ≡ Some s
own_place uuid l slots s e here others = at_place (has_uuid uuid) None slots s (below_some slots s _ here) (rw here (has_it uuid l s e)) others

-- a free slot, if there is one
abbrev pub IsFirstFree : List SlotState → ℕ → Type 0
IsFirstFree slots f = (f < length slots) × (position is_free slots ≡ Some f) × (slot slots f ≡ None)

pub first_free : (slots : List SlotState) → 1 ≤ free_in slots → (f : ℕ) × IsFirstFree slots f
first_free slots room = let (f, below, is, free) = somewhere is_free None slots room in (f, (below, is, is_some_free (slot slots f) free))

-- a slot is emptied and another one filled
moved_there : (slots : List SlotState) (f s : ℕ) (x : SlotState) → f < length slots → f ≢ s → slot (set (set slots f x) s None) f ≡ x
moved_there slots f s x below apart = get_or-set_other (set slots f x) s f None None apart ∙ get_or-set_same slots f x None below

moved_others : (uuid : List ℕ) (slots : List SlotState) (f s : ℕ) (x : SlotState) → s < length slots → ((j : ℕ) → j ≢ s → has_uuid uuid (slot slots j) ≡ false)
    → (j : ℕ) → j ≢ f → has_uuid uuid (slot (set (set slots f x) s None) j) ≡ false
moved_others uuid slots f s x below others j ne =
    elim (cases_eq j s) [
      | inl same ↦ rw (same, get_or-set_same (set slots f x) s None None (omega (arith, length-set slots f x))) refl
      | inr apart ↦ rw (get_or-set_other (set slots f x) s j None None apart, get_or-set_other slots f j x None ne) (others j apart)
    ]

-- a label is put into a free slot, and the previous one is removed
pub put_own : (uuid : List ℕ) (own : Option Label) (l : Label) (slots : List SlotState) → ((o : Label) → own ≡ Some o → o.uuid ≡ uuid) → l.uuid ≡ uuid → 1 ≤ free_in slots
    → IsOwn uuid own slots → IsOwn uuid (Some l) (replaced (slot_of slots uuid) (Some l) slots)
put_own uuid None l slots os e room own = rw (nowhere (has_uuid uuid) None slots own) (fill (first_free slots room))
  where
    fill : (f : ℕ) × IsFirstFree slots f → IsOwn uuid (Some l) (replaced None (Some l) slots)
    fill (f, (below, is, empty)) =
        rw is (f, get_or-set_same slots f _ None below, λ j ne. rw (get_or-set_other slots f j (Some (Some (record l { slot = f }))) None ne) (own j))
put_own uuid (Some o) l slots os e room (s, here, others) = rw (own_place uuid o slots s (os o refl) here others) (fill (first_free slots room))
  where
    fill : (f : ℕ) × IsFirstFree slots f → IsOwn uuid (Some l) (replaced (Some s) (Some l) slots)
    fill (f, (below, is, empty)) =
        let apart : f ≢ s = λ same. none-some _ (sym empty ∙ ap (slot slots) same ∙ here) in
        rw is (f, moved_there slots f s _ below apart, moved_others uuid slots f s _ (below_some slots s _ here) others)

-- the only label is removed
pub remove_own : (uuid : List ℕ) (own : Option Label) (slots : List SlotState) → ((o : Label) → own ≡ Some o → o.uuid ≡ uuid)
    → IsOwn uuid own slots → IsOwn uuid None (replaced (slot_of slots uuid) None slots)
remove_own uuid None slots os own = rw (nowhere (has_uuid uuid) None slots own) own
remove_own uuid (Some o) slots os (s, here, others) = rw (own_place uuid o slots s (os o refl) here others) emptied
  where
    emptied : (j : ℕ) → has_uuid uuid (slot (set slots s None) j) ≡ false
    emptied j =
        elim (cases_eq j s) [
          | inl same ↦ rw (same, get_or-set_same slots s None None (below_some slots s _ here)) refl
          | inr apart ↦ rw (get_or-set_other slots s j None None apart) (others j apart)
        ]

-- ---- how many slots are free

abbrev one_if : Bool → ℕ
one_if b = cond b 1 0

count_set : (slots : List SlotState) (i : ℕ) (y : SlotState) → i < length slots → free_in (set slots i y) + one_if (is_free (slot slots i)) ≡ free_in slots + one_if (is_free y)
count_set slots i y below = sum_by-set (λ s. one_if (is_free s)) slots i y None below

abbrev pub owned : Option Label → ℕ
owned None = 0
owned (Some l) = 1

pub put_count : (uuid : List ℕ) (own : Option Label) (l : Label) (slots : List SlotState) → ((o : Label) → own ≡ Some o → o.uuid ≡ uuid) → 1 ≤ free_in slots
    → IsOwn uuid own slots → free_in (replaced (slot_of slots uuid) (Some l) slots) + 1 ≡ free_in slots + owned own
put_count uuid None l slots os room own = rw (nowhere (has_uuid uuid) None slots own) (fill (first_free slots room))
  where
    fill : (f : ℕ) × IsFirstFree slots f → free_in (replaced None (Some l) slots) + 1 ≡ free_in slots + 0
    fill (f, (below, is, empty)) = rw is (rw empty at (count_set slots f (Some (Some (record l { slot = f }))) below))
put_count uuid (Some o) l slots os room (s, here, others) = rw (own_place uuid o slots s (os o refl) here others) (fill (first_free slots room))
  where
    fill : (f : ℕ) × IsFirstFree slots f → free_in (replaced (Some s) (Some l) slots) + 1 ≡ free_in slots + 1
    fill (f, (below, is, empty)) =
        let apart : s ≢ f = λ same. none-some _ (sym empty ∙ ap (slot slots) (sym same) ∙ here) in
        let x : SlotState = Some (Some (record l { slot = f })) in
        let e : slot (set slots f x) s ≡ Some (Some (record o { slot = s })) = get_or-set_other slots f s x None apart ∙ here in
        let below_s : s < length (set slots f x) = omega (arith, length-set slots f x, below_some slots s _ here) in
        let a = rw empty at (count_set slots f x below) in
        let b = rw e at (count_set (set slots f x) s None below_s) in
        rw is (omega (arith, a, b))

pub remove_count : (uuid : List ℕ) (own : Option Label) (slots : List SlotState) → ((o : Label) → own ≡ Some o → o.uuid ≡ uuid)
    → IsOwn uuid own slots → free_in (replaced (slot_of slots uuid) None slots) ≡ free_in slots + owned own
remove_count uuid None slots os own = rw (nowhere (has_uuid uuid) None slots own) (omega arith)
remove_count uuid (Some o) slots os (s, here, others) =
    rw (own_place uuid o slots s (os o refl) here others) (omega (arith, rw here at (count_set slots s None (below_some slots s _ here))))
