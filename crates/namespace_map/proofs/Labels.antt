-- The labels of one UUID in all areas, as a list.
use Rattle.std.proofs.Common.{◌≡◌, ◌≢◌, ℕ, zero, suc, ◌+◌, true, false, List, [], ◌∷◌, ◌++◌, get_or, Option, Some, None, refl, sym, ap, ◌∙◌, subst, arith, inl, inr}
use Rattle.std.specs.Prelude.{map}
use Rattle.std.proofs.Math.ListN.{set}
use Rattle.std.specs.List.{position, AllByRecursion, flat_map, filter_map, enumerate_from}
use Rattle.std.specs.Str.{bytes_eq}
use Rattle.std.proofs.lemmas.Bool.{false≢true, cases_eq, false_from_ne_true}
use Rattle.std.proofs.lemmas.Slice.Eq.{bytes_eq-Decides}
use Rattle.std.proofs.lemmas.Option.{none-some, same_Some, unwrap_or-slice_get}
use Rattle.std.proofs.lemmas.List.{get_or-set_other}
use Rattle.std.proofs.lemmas.List.Elements.{filter-append}
use Rattle.std.proofs.lemmas.List.Quantifiers.{position-Some}
use Rattle.nfit_reader.specs.declared.table.Mapping.{Mapping}
use Rattle.label_codec.specs.declared.label.Label.{Label}
use Rattle.label_area.specs.Area.{SlotState, labels_in}
use Rattle.label_area.specs.Change.{without}
use Rattle.label_set.specs.declared.placed.Placed.{Placed}
use Rattle.namespace_map.specs.Namespaces.{placed_in, placed_on, labels_with, uuid_of, entry_at}
use Rattle.namespace_map.specs.Areas.{Area, Change, slots_of, area_at, changed_areas, changed_area, all_changed, is_free, refilled, replaced, has_uuid, slot_of}
use Rattle.namespace_map.specs.Changes.{placed_in_all, labels_at}
use Rattle.namespace_map.specs.CommandLaws.{IsOf}
use Rattle.namespace_map.proofs.Slots.{slot}
use Rattle.namespace_map.proofs.Areas.{slots_after}

-- the labels of a UUID on one module
abbrev pub part : List ℕ → ℕ → ℕ → List SlotState → List Placed
part uuid m k slots = labels_with uuid (filter_map (placed_in m) (enumerate_from k (labels_in slots)))

abbrev pub placed_at : ℕ → ℕ → Label → Placed
placed_at m s l = record { «module» = m; slot = s; label = l }

pub part_none : (slots : List SlotState) (uuid : List ℕ) (m k : ℕ) → ((j : ℕ) → has_uuid uuid (slot slots j) ≡ false) → part uuid m k slots ≡ []
part_none [] uuid m k h = refl
part_none (None ∷ slots) uuid m k h = part_none slots uuid m (k + 1) (λ j. h (suc j))
part_none (Some None ∷ slots) uuid m k h = part_none slots uuid m (k + 1) (λ j. h (suc j))
part_none (Some (Some l) ∷ slots) uuid m k h = rw (h 0) (part_none slots uuid m (k + 1) (λ j. h (suc j)))

pub part_one : (slots : List SlotState) (uuid : List ℕ) (m k s : ℕ) (l : Label) → slot slots s ≡ Some (Some l) → l.uuid ≡ uuid
    → ((j : ℕ) → j ≢ s → has_uuid uuid (slot slots j) ≡ false) → part uuid m k slots ≡ placed_at m (k + s) l ∷ []
part_one [] uuid m k s l here e others = absurd (none-some _ here)
part_one (None ∷ slots) uuid m k zero l here e others = absurd (none-some _ here)
part_one (Some x ∷ slots) uuid m k zero l here e others =
    let is : x ≡ Some l = same_Some x (Some l) here in
    let kept : bytes_eq l.uuid uuid ≡ true = (bytes_eq-Decides l.uuid uuid).1 e in
    subst (λ (y : Option Label). part uuid m k (Some y ∷ slots) ≡ placed_at m (k + 0) l ∷ []) (sym is)
    (rw (kept, part_none slots uuid m (k + 1) (λ j. others (suc j) (λ e. omega arith))) (ap (λ (n : ℕ). placed_at m n l ∷ []) (omega arith)))
part_one (None ∷ slots) uuid m k (suc s) l here e others =
    part_one slots uuid m (k + 1) s l here e (λ j ne. others (suc j) (λ e. ne (omega arith))) ∙ ap (λ (n : ℕ). placed_at m n l ∷ []) (omega arith)
part_one (Some None ∷ slots) uuid m k (suc s) l here e others =
    part_one slots uuid m (k + 1) s l here e (λ j ne. others (suc j) (λ e. ne (omega arith))) ∙ ap (λ (n : ℕ). placed_at m n l ∷ []) (omega arith)
part_one (Some (Some x) ∷ slots) uuid m k (suc s) l here e others =
    rw (others 0 (λ e. omega arith)) (part_one slots uuid m (k + 1) s l here e (λ j ne. others (suc j) (λ e. ne (omega arith))) ∙ ap (λ (n : ℕ). placed_at m n l ∷ []) (omega arith))

-- a write that neither removes nor puts a label of the UUID changes none of its labels
pub part_kept : (slots : List SlotState) (uuid : List ℕ) (m k i : ℕ) (x : SlotState) → has_uuid uuid (slot slots i) ≡ false → has_uuid uuid x ≡ false
    → part uuid m k (set slots i x) ≡ part uuid m k slots
part_kept [] uuid m k i x old new = refl
part_kept (None ∷ slots) uuid m k zero None old new = refl
part_kept (None ∷ slots) uuid m k zero (Some None) old new = refl
part_kept (None ∷ slots) uuid m k zero (Some (Some l)) old new = rw new refl
part_kept (Some None ∷ slots) uuid m k zero None old new = refl
part_kept (Some None ∷ slots) uuid m k zero (Some None) old new = refl
part_kept (Some None ∷ slots) uuid m k zero (Some (Some l)) old new = rw new refl
part_kept (Some (Some o) ∷ slots) uuid m k zero None old new = rw old refl
part_kept (Some (Some o) ∷ slots) uuid m k zero (Some None) old new = rw old refl
part_kept (Some (Some o) ∷ slots) uuid m k zero (Some (Some l)) old new = rw (old, new) refl
part_kept (None ∷ slots) uuid m k (suc i) x old new = part_kept slots uuid m (k + 1) i x old new
part_kept (Some None ∷ slots) uuid m k (suc i) x old new = part_kept slots uuid m (k + 1) i x old new
part_kept (Some (Some o) ∷ slots) uuid m k (suc i) x old new = rw (part_kept slots uuid m (k + 1) i x old new) refl

-- ---- all modules

abbrev pub from_area : List ℕ → ℕ × Option Area → List Placed
from_area uuid a = part uuid a.0 0 (slots_of a.1)

abbrev pub own_from : List ℕ → ℕ → List (Option Area) → List Placed
own_from uuid k areas = flat_map (from_area uuid) (enumerate_from k areas)

placed_of_area : (k : ℕ) (a : Option Area) → placed_on (k, labels_at a) ≡ filter_map (placed_in k) (enumerate_from 0 (labels_in (slots_of a)))
placed_of_area k None = refl
placed_of_area k (Some a) = refl

labels_are_own_from : (areas : List (Option Area)) (uuid : List ℕ) (k : ℕ) → labels_with uuid (flat_map placed_on (enumerate_from k (map labels_at areas))) ≡ own_from uuid k areas
labels_are_own_from [] uuid k = refl
labels_are_own_from (a ∷ areas) uuid k =
    filter-append (λ p. bytes_eq (uuid_of p) uuid) (placed_on (k, labels_at a)) (flat_map placed_on (enumerate_from (k + 1) (map labels_at areas)))
    ∙ ap (λ (ps : List Placed). labels_with uuid ps ++ labels_with uuid (flat_map placed_on (enumerate_from (k + 1) (map labels_at areas)))) (placed_of_area k a)
    ∙ ap (λ (ps : List Placed). part uuid k 0 (slots_of a) ++ ps) (labels_are_own_from areas uuid (k + 1))

pub labels_of_areas : (uuid : List ℕ) (areas : List (Option Area)) → labels_with uuid (placed_in_all areas) ≡ own_from uuid 0 areas
labels_of_areas uuid areas = labels_are_own_from areas uuid 0

own_from_set : (areas : List (Option Area)) (uuid : List ℕ) (k i : ℕ) (a : Option Area) → ((m : ℕ) → part uuid m 0 (slots_of a) ≡ part uuid m 0 (slots_of (get_or areas i None)))
    → own_from uuid k (set areas i a) ≡ own_from uuid k areas
own_from_set [] uuid k i a same = refl
own_from_set (b ∷ areas) uuid k zero a same = rw (same k) refl
own_from_set (b ∷ areas) uuid k (suc i) a same = ap (λ (ps : List Placed). part uuid k 0 (slots_of b) ++ ps) (own_from_set areas uuid (k + 1) i a same)

-- ---- another UUID's labels stay

other_uuid : (u v : List ℕ) (s : SlotState) → u ≢ v → has_uuid v s ≡ true → has_uuid u s ≡ false
other_uuid u v None apart e = refl
other_uuid u v (Some None) apart e = refl
other_uuid u v (Some (Some l)) apart e =
    false_from_ne_true _ (λ same. apart (sym ((bytes_eq-Decides l.uuid u).0 same) ∙ (bytes_eq-Decides l.uuid v).0 e))

not_there : (u v : List ℕ) (l : Label) (k : ℕ) → u ≢ v → l.uuid ≡ v → has_uuid u (Some (Some (record l { slot = k }))) ≡ false
not_there u v l k apart e = false_from_ne_true _ (λ same. apart (sym ((bytes_eq-Decides l.uuid u).0 same) ∙ e))

free_has_none : (u : List ℕ) (s : SlotState) → is_free s ≡ true → has_uuid u s ≡ false
free_has_none u None e = refl
free_has_none u (Some x) e = absurd (false≢true e)

written : (u : List ℕ) (slots : List SlotState) (s : ℕ) (x : SlotState) → has_uuid u (slot slots s) ≡ false → has_uuid u x ≡ false → has_uuid u (slot (set slots s x) s) ≡ false
written u [] s x h e = refl
written u (y ∷ ys) zero x h e = e
written u (y ∷ ys) (suc s) x h e = written u ys s x h e

module _ (u v : List ℕ) (apart : u ≢ v) (m : ℕ) where
  -- a slot of the other UUID is freed
  freed_kept : (slots : List SlotState) (p : Option ℕ) → ((s : ℕ) → p ≡ Some s → has_uuid u (slot slots s) ≡ false) → part u m 0 (without p slots) ≡ part u m 0 slots
  freed_kept slots None h = refl
  freed_kept slots (Some s) h = part_kept slots u m 0 s None (h s refl) refl

  -- after a label was put into a slot, a slot without a label of the UUID still has none
  filled_none : (slots : List SlotState) (s j : ℕ) (l : Label) → l.uuid ≡ v → has_uuid u (slot slots j) ≡ false
      → has_uuid u (slot (set slots s (Some (Some (record l { slot = s })))) j) ≡ false
  filled_none slots s j l e h =
      elim (cases_eq j s) [
        | inl same ↦ rw same (written u slots s _ (subst (λ (i : ℕ). has_uuid u (slot slots i) ≡ false) same h) (not_there u v l s apart e))
        | inr ne ↦ rw (get_or-set_other slots s j (Some (Some (record l { slot = s }))) None ne) h
      ]

  of_other : (slots : List SlotState) (s : ℕ) → slot_of slots v ≡ Some s → has_uuid u (slot slots s) ≡ false
  of_other slots s is = other_uuid u v (slot slots s) apart (position-Some (has_uuid v) slots s None is).1

  replaced_kept : (slots : List SlotState) (new : Option Label) → ((l : Label) → new ≡ Some l → l.uuid ≡ v) → part u m 0 (replaced (slot_of slots v) new slots) ≡ part u m 0 slots
  replaced_kept slots None ls = freed_kept slots (slot_of slots v) (of_other slots)
  replaced_kept slots (Some l) ls = by (position is_free slots) refl
    where
      by : (o : Option ℕ) → position is_free slots ≡ o → part u m 0 (refilled (slot_of slots v) l o slots) ≡ part u m 0 slots
      by None is = refl
      by (Some s) is =
          freed_kept (set slots s (Some (Some (record l { slot = s })))) (slot_of slots v) (λ j at. filled_none slots s j l (ls l refl) (of_other slots j at))
          ∙ part_kept slots u m 0 s _ (free_has_none u (slot slots s) (position-Some is_free slots s None is).1) (not_there u v l s apart (ls l refl))

-- a change of one UUID doesn't change the labels of another
pub others_stay : (u v : List ℕ) (areas : List (Option Area)) (c : Change) → u ≢ v → IsOf v c → labels_with u (placed_in_all (changed_areas areas c)) ≡ labels_with u (placed_in_all areas)
others_stay u v areas c apart of =
    let area = area_at areas c.number in
    labels_of_areas u (changed_areas areas c)
    ∙ own_from_set areas u 0 c.number (changed_area area c) (λ m.
    ap (part u m 0) (slots_after area c)
    ∙ subst (λ (w : List ℕ). part u m 0 (replaced (slot_of (slots_of area) w) c.label (slots_of area)) ≡ part u m 0 (slots_of (get_or areas c.number None))) (sym of.of_uuid)
    (replaced_kept u v apart m (slots_of area) c.label of.label_of_uuid ∙ ap (λ (a : Option Area). part u m 0 (slots_of a)) (unwrap_or-slice_get areas c.number None)))
    ∙ sym (labels_of_areas u areas)

pub others_stay_all : (cs : List Change) (u v : List ℕ) (areas : List (Option Area)) → u ≢ v → AllByRecursion (IsOf v) cs
    → labels_with u (placed_in_all (all_changed areas cs)) ≡ labels_with u (placed_in_all areas)
unfolding all_changed
others_stay_all [] u v areas apart all = refl
others_stay_all (c ∷ cs) u v areas apart (one, rest) = others_stay_all cs u v (changed_areas areas c) apart rest ∙ others_stay u v areas c apart one

-- so every other entry is as before
pub other_entries_stay : (sets : List (List Mapping)) (cs : List Change) (u v : List ℕ) (areas : List (Option Area)) → u ≢ v → AllByRecursion (IsOf v) cs
    → entry_at sets (placed_in_all (all_changed areas cs)) u ≡ entry_at sets (placed_in_all areas) u
other_entries_stay sets cs u v areas apart all = rw (others_stay_all cs u v areas apart all) refl
