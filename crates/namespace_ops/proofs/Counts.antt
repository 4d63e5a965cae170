-- Changes keep how many slots areas have.
use Rattle.std.proofs.Common.{◌≡◌, ℕ, ◌+◌, true, List, [], ◌∷◌, length, map, Option, Some, None, refl, sym, ap, ◌∙◌, arith}
use Rattle.std.proofs.Math.ListN.{length-set}
use Rattle.std.proofs.Math.Seq.{map-set_same}
use Rattle.std.specs.List.{position}
use Rattle.std.proofs.lemmas.List.{length-map}
use Rattle.std.proofs.lemmas.List.Elements.{All-head, All-tail}
use Rattle.std.proofs.lemmas.List.Sums.{sum_by-cons}
use Rattle.std.proofs.lemmas.Option.{unwrap_or-slice_get}
use Rattle.label_codec.specs.declared.label.Label.{Label}
use Rattle.label_area.specs.Area.{SlotState, label_in}
use Rattle.label_area.specs.Change.{without, with_put}
use Rattle.namespace_areas.specs.declared.area.Area.{Area}
use Rattle.namespace_areas.specs.declared.area.Area.TheVariants.{Absent, Refused, Ready}
use Rattle.namespace_map.specs.Areas.{Area as SeenArea, Change, slots_of as seen_slots, area_at, is_free, refilled, replaced, changed_area, changed_areas, all_changed, slot_of}
use Rattle.namespace_map.proofs.Areas.{slots_after}
use Rattle.namespace_areas.specs.Groups.{slots_of, slots_in}
use Rattle.namespace_areas.specs.Seen.{IsHeld, AreHeld, ready_seen, area_seen, areas_seen}
use Rattle.namespace_areas.specs.Went.{Went}
use Rattle.namespace_areas.proofs.OneChange.{labels_shown}

abbrev count_of : Option SeenArea → ℕ
count_of a = length (seen_slots a)

abbrev counts_of : List (Option SeenArea) → List ℕ
counts_of areas = map count_of areas

total : List ℕ → ℕ
total [] = 0
total (n ∷ ns) = n + total ns

-- ---- one area

without_count : (out : Option ℕ) (slots : List SlotState) → length (without out slots) ≡ length slots
without_count None slots = refl
without_count (Some k) slots = length-set slots k None

refilled_count : (out : Option ℕ) (l : Label) (at : Option ℕ) (slots : List SlotState) → length (refilled out l at slots) ≡ length slots
refilled_count out l None slots = refl
refilled_count out l (Some f) slots = without_count out (with_put (Some (record l { slot = f })) slots) ∙ length-set slots f (Some (Some (record l { slot = f })))

replaced_count : (out : Option ℕ) (new : Option Label) (slots : List SlotState) → length (replaced out new slots) ≡ length slots
replaced_count out None slots = without_count out slots
replaced_count out (Some l) slots = refilled_count out l (position is_free slots) slots

-- ---- all areas

changed_counts : (areas : List (Option SeenArea)) (c : Change) → counts_of (changed_areas areas c) ≡ counts_of areas
changed_counts areas c =
    map-set_same count_of areas c.number (changed_area (area_at areas c.number) c) None
    (ap (λ (xs : List SlotState). length xs) (slots_after (area_at areas c.number) c)
    ∙ replaced_count (slot_of (seen_slots (area_at areas c.number)) c.uuid) c.label (seen_slots (area_at areas c.number))
    ∙ ap count_of (unwrap_or-slice_get areas c.number None))

all_counts : (cs : List Change) (areas : List (Option SeenArea)) → counts_of (all_changed areas cs) ≡ counts_of areas
unfolding all_changed
all_counts [] areas = refl
all_counts (c ∷ cs) areas = all_counts cs (changed_areas areas c) ∙ changed_counts areas c

-- ---- those that are held

count_is : (area : Area) → IsHeld area → slots_of area ≡ count_of (area_seen area)
count_is Absent h = refl
count_is (Refused r) h = refl
count_is (Ready a) h = ap (λ (ls : List (Option Label)). length ls) (labels_shown a h) ∙ length-map (ready_seen a).slots label_in

slots_total : (areas : List Area) → AreHeld areas → slots_in areas ≡ total (counts_of (areas_seen areas))
unfolding total
slots_total [] h = refl
slots_total (a ∷ areas) h =
    let one = count_is a (All-head IsHeld a areas h) in
    let rest = slots_total areas (All-tail IsHeld a areas h) in
    let both = sum_by-cons slots_of a areas in
    omega (arith, one, rest, both)

pub slots_kept : (old new : List Area) (fuse left : Option ℕ) (cs : List Change) → AreHeld old → Went old new fuse left cs true → slots_in new ≡ slots_in old
slots_kept old new fuse left cs held went =
    slots_total new (went.held refl) ∙ ap (λ (areas : List (Option SeenArea)). total (counts_of areas)) (went.done refl) ∙ ap total (all_counts cs (areas_seen old)) ∙ sym (slots_total old held)
