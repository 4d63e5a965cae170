-- After a crash within recovery entries are apart, since recovery puts no label whose extent no label of its UUID had before.
use Rattle.std.proofs.Common.{◌≡◌, ◌⊎◌, inl, inr, ℕ, zero, suc, ◌+◌, Bool, true, false, cond, List, [], ◌∷◌, ◌++◌, length, map, take, filter, Option, Some, None, refl, sym, ap, ◌∙◌, subst, arith}
use Rattle.std.proofs.Math.ListN.{set}
use Rattle.std.specs.Prelude.{slice_get}
use Rattle.std.specs.List.{AllByRecursion, enumerate_from, filter_map, flat_map, position}
use Rattle.std.proofs.lemmas.Bool.{cases_eq, cases_lt}
use Rattle.std.proofs.lemmas.List.{set_past}
use Rattle.std.proofs.lemmas.Option.{none-some, same_Some}
use Rattle.label_codec.specs.declared.label.Label.{Label}
use Rattle.label_codec.specs.Flags.{updated}
use Rattle.label_area.specs.Area.{SlotState, label_in}
use Rattle.label_area.specs.Change.{without as without_slot}
use Rattle.label_set.specs.declared.placed.Placed.{Placed}
use Rattle.nfit_reader.specs.declared.table.Mapping.{Mapping}
use Rattle.region_space.specs.declared.extent.Extent.{Extent}
use Rattle.region_space.specs.Space.{clash, overlap_of}
use Rattle.namespace_map.specs.Namespaces.{NamespaceEntry, extent_of, labels_with, placed_in, placed_on}
use Rattle.namespace_map.specs.Areas.{Area, Change, after_steps, all_changed, changed_areas, changed_slots, is_free, refilled, replaced, slot_of, slots_of, slots_on}
use Rattle.namespace_map.specs.Changes.{by_position, change_to, gone_changes, is_unsettled, labels_at, namespaces_of, own_labels, placed_in_all, recovery_changes, settling_changes, with_name}
use Rattle.namespace_map.specs.Commands.{is_complete, is_unfinished}
use Rattle.namespace_map.proofs.Areas.{area_of_other, slots_of_changed}
use Rattle.namespace_map.proofs.Fronts.{cut_is_front}
use Rattle.namespace_laws.specs.Apart.{EntriesApart}
use Rattle.namespace_laws.proofs.Fronts.{take_all}
use Rattle.namespace_laws.proofs.Gone.{append_all}
use Rattle.namespace_laws.proofs.Position.{by_position_all, pair_of}
use Rattle.namespace_laws.proofs.Staged.{all_map}
use Rattle.shell_changes.proofs.Apart.{In, apart_by, labels_clear}

-- ---- lists

in_append : {X : Type 0} (x : X) (xs ys : List X) → In x (xs ++ ys) → In x xs ⊎ In x ys
in_append x [] ys i = inr i
in_append x (z ∷ xs) ys (inl e) = inl (inl e)
in_append x (z ∷ xs) ys (inr i) = elim (in_append x xs ys i) [ inl j ↦ inl (inr j) | inr j ↦ inr j ]

append_first : {X : Type 0} (x : X) (xs ys : List X) → In x xs → In x (xs ++ ys)
append_first x [] ys i = absurd i
append_first x (z ∷ xs) ys (inl e) = inl e
append_first x (z ∷ xs) ys (inr i) = inr (append_first x xs ys i)

append_second : {X : Type 0} (x : X) (xs ys : List X) → In x ys → In x (xs ++ ys)
append_second x [] ys i = i
append_second x (z ∷ xs) ys i = inr (append_second x xs ys i)

all_of_in : {X : Type 0} (P : X → Type 0) (xs : List X) → ((x : X) → In x xs → P x) → AllByRecursion P xs
all_of_in P [] each = tt
all_of_in P (x ∷ xs) each = (each x (inl refl), all_of_in P xs (λ y i. each y (inr i)))

all_filter : {X : Type 0} (P : X → Type 0) (test : X → Bool) (xs : List X) → AllByRecursion P xs → AllByRecursion P (filter test xs)
all_filter P test [] all = tt
all_filter P test (x ∷ xs) (one, rest) = by (test x) (all_filter P test xs rest)
  where
    by : (b : Bool) → AllByRecursion P (filter test xs) → AllByRecursion P (cond b (x ∷ filter test xs) (filter test xs))
    by true more = (one, more)
    by false more = more

all_flat : {X Y : Type 0} (P : Y → Type 0) (f : X → List Y) (xs : List X) → ((x : X) → AllByRecursion P (f x)) → AllByRecursion P (flat_map f xs)
all_flat P f [] each = tt
all_flat P f (x ∷ xs) each = append_all P (f x) (flat_map f xs) (each x) (all_flat P f xs each)

-- ---- labels and their slots

-- a label is in a slot of a module's area
abbrev pub HasLabel : List (Option Area) → ℕ → Label → Type 0
HasLabel areas m l = (s : ℕ) × (slice_get (slots_on areas m) s ≡ Some (Some (Some l)))

in_slots : (k j : ℕ) (slots : List SlotState) (p : Placed) → In p (filter_map (placed_in k) (enumerate_from j (map label_in slots))) → (p.«module» ≡ k) × ((s : ℕ) × (slice_get slots s ≡ Some (Some (Some p.label))))
in_slots k j [] p i = absurd i
in_slots k j (None ∷ slots) p i = let r = in_slots k (j + 1) slots p i in (r.0, (suc r.1.0, r.1.1))
in_slots k j (Some None ∷ slots) p i = let r = in_slots k (j + 1) slots p i in (r.0, (suc r.1.0, r.1.1))
in_slots k j (Some (Some l) ∷ slots) p (inl e) = (ap (λ (q : Placed). q.«module») (sym e), (zero, ap (λ (q : Placed). Some (Some (Some q.label))) e))
in_slots k j (Some (Some l) ∷ slots) p (inr i) = let r = in_slots k (j + 1) slots p i in (r.0, (suc r.1.0, r.1.1))

in_area : (k : ℕ) (a : Option Area) (p : Placed) → In p (placed_on (k, labels_at a)) → (p.«module» ≡ k) × ((s : ℕ) × (slice_get (slots_of a) s ≡ Some (Some (Some p.label))))
in_area k None p i = absurd i
in_area k (Some area) p i = in_slots k 0 area.slots p i

in_areas : (k : ℕ) (areas : List (Option Area)) (p : Placed) → In p (flat_map placed_on (enumerate_from k (map labels_at areas))) → (i : ℕ) × (p.«module» ≡ k + i) × HasLabel areas i p.label
in_areas k [] p i = absurd i
in_areas k (a ∷ areas) p i = elim (in_append p (placed_on (k, labels_at a)) (flat_map placed_on (enumerate_from (k + 1) (map labels_at areas))) i) [
  | inl here ↦ let r = in_area k a p here in (zero, r.0 ∙ (let e : k ≡ k + 0 = omega arith in e), r.1)
  | inr there ↦ let r = in_areas (k + 1) areas p there in (suc r.0, r.1 ∙ (let e : k + 1 + r.0 ≡ k + suc r.0 = omega arith in e), r.2)
]

slot_in : (k j : ℕ) (slots : List SlotState) (s : ℕ) (l : Label) → slice_get slots s ≡ Some (Some (Some l)) → (p : Placed) × In p (filter_map (placed_in k) (enumerate_from j (map label_in slots))) × (p.«module» ≡ k) × (p.label ≡ l)
slot_in k j [] s l at = absurd (none-some _ at)
slot_in k j (None ∷ slots) zero l at = absurd (none-some _ (same_Some None (Some (Some l)) at))
slot_in k j (None ∷ slots) (suc s) l at = slot_in k (j + 1) slots s l at
slot_in k j (Some None ∷ slots) zero l at = absurd (none-some _ (same_Some None (Some l) (same_Some (Some None) (Some (Some l)) at)))
slot_in k j (Some None ∷ slots) (suc s) l at = slot_in k (j + 1) slots s l at
slot_in k j (Some (Some x) ∷ slots) zero l at = (record { «module» = k; slot = j; label = x }, inl refl, refl, same_Some x l (same_Some (Some x) (Some l) (same_Some (Some (Some x)) (Some (Some l)) at)))
slot_in k j (Some (Some x) ∷ slots) (suc s) l at = let r = slot_in k (j + 1) slots s l at in (r.0, inr r.1, r.2, r.3)

area_in : (k : ℕ) (a : Option Area) (s : ℕ) (l : Label) → slice_get (slots_of a) s ≡ Some (Some (Some l)) → (p : Placed) × In p (placed_on (k, labels_at a)) × (p.«module» ≡ k) × (p.label ≡ l)
area_in k None s l at = absurd (none-some _ at)
area_in k (Some area) s l at = slot_in k 0 area.slots s l at

areas_in : (k : ℕ) (areas : List (Option Area)) (m s : ℕ) (l : Label) → slice_get (slots_on areas m) s ≡ Some (Some (Some l)) → (p : Placed) × In p (flat_map placed_on (enumerate_from k (map labels_at areas))) × (p.«module» ≡ k + m) × (p.label ≡ l)
areas_in k [] m s l at = absurd (none-some _ at)
areas_in k (a ∷ areas) zero s l at =
    let r = area_in k a s l at in
    (r.0, append_first r.0 (placed_on (k, labels_at a)) (flat_map placed_on (enumerate_from (k + 1) (map labels_at areas))) r.1, r.2 ∙ (let e : k ≡ k + 0 = omega arith in e), r.3)
areas_in k (a ∷ areas) (suc m) s l at =
    let r = areas_in (k + 1) areas m s l at in
    (r.0, append_second r.0 (placed_on (k, labels_at a)) (flat_map placed_on (enumerate_from (k + 1) (map labels_at areas))) r.1, r.2 ∙ (let e : k + 1 + m ≡ k + suc m = omega arith in e), r.3)

-- ---- extents that are known

-- a module's area has a label of this UUID with this extent
pub record IsKnown (olds : List (Option Area)) (m : ℕ) (l : Label) : Type 0 where
  pub old : Label
  pub has : HasLabel olds m old
  pub uuid : old.uuid ≡ l.uuid
  pub start : old.dpa ≡ l.dpa
  pub bytes : old.raw ≡ l.raw

-- so has each label
abbrev pub AllKnown : List (Option Area) → List (Option Area) → Type 0
AllKnown news olds = (m s : ℕ) (l : Label) → slice_get (slots_on news m) s ≡ Some (Some (Some l)) → IsKnown olds m l

abbrev PutsKnown : List (Option Area) → Change → Type 0
PutsKnown olds c = (l : Label) → c.label ≡ Some l → IsKnown olds c.number l

abbrev HasEach : (Label → Type 0) → List SlotState → Type 0
HasEach P slots = (s : ℕ) (l : Label) → slice_get slots s ≡ Some (Some (Some l)) → P l

set_has : (P : Label → Type 0) (slots : List SlotState) (i : ℕ) (x : SlotState) → HasEach P slots → ((l : Label) → x ≡ Some (Some l) → P l) → HasEach P (set slots i x)
set_has P [] i x each new s l is = each s l is
set_has P (y ∷ ys) zero x each new zero l is = new l (same_Some x (Some (Some l)) is)
set_has P (y ∷ ys) zero x each new (suc s) l is = each (suc s) l is
set_has P (y ∷ ys) (suc i) x each new zero l is = each zero l is
set_has P (y ∷ ys) (suc i) x each new (suc s) l is = set_has P ys i x (λ n k e. each (suc n) k e) new s l is

freed_has : (P : Label → Type 0) (slots : List SlotState) (out : Option ℕ) → HasEach P slots → HasEach P (without_slot out slots)
freed_has P slots None each = each
freed_has P slots (Some o) each = set_has P slots o None each (λ l e. absurd (none-some _ e))

replaced_has : (P : Label → Type 0) (slots : List SlotState) (out : Option ℕ) (new : Option Label) → HasEach P slots → ((l : Label) (k : ℕ) → new ≡ Some l → P (record l { slot = k })) → HasEach P (replaced out new slots)
replaced_has P slots out None each news = freed_has P slots out each
replaced_has P slots out (Some l) each news = by (position is_free slots)
  where
    by : (o : Option ℕ) → HasEach P (refilled out l o slots)
    by None = each
    by (Some f) = freed_has P (set slots f (Some (Some (record l { slot = f })))) out (set_has P slots f _ each
        (λ k e. subst P (same_Some _ k (same_Some _ (Some k) e)) (news l f refl)))

other_slot : (olds : List (Option Area)) (m k : ℕ) (l : Label) → IsKnown olds m l → IsKnown olds m (record l { slot = k })
other_slot olds m k l known = record { old = known.old; has = known.has; uuid = known.uuid; start = known.start; bytes = known.bytes }

known_one : (olds areas : List (Option Area)) (c : Change) → AllKnown areas olds → PutsKnown olds c → AllKnown (changed_areas areas c) olds
known_one olds areas c known puts m s l is = elim (cases_eq m c.number) [
  | inr apart ↦ known m s l (sym (ap (λ (a : Option Area). slice_get (slots_of a) s) (area_of_other areas c m apart)) ∙ is)
  | inl same ↦ elim (cases_lt c.number (length areas)) [
    | inr past ↦ known m s l (sym (ap (λ (xs : List (Option Area)). slice_get (slots_on xs m) s) (set_past areas c.number _ past)) ∙ is)
    | inl below ↦
        let at : slice_get (changed_slots (slots_on areas c.number) c) s ≡ Some (Some (Some l)) = sym (ap (λ (xs : List SlotState). slice_get xs s) (ap (slots_on (changed_areas areas c)) same ∙ slots_of_changed areas c below)) ∙ is in
        subst (λ (n : ℕ). IsKnown olds n l) (sym same)
        (replaced_has (IsKnown olds c.number) (slots_on areas c.number) (slot_of (slots_on areas c.number) c.uuid) c.label (known c.number) (λ k n e. other_slot olds c.number n k (puts k e)) s l at)
  ]
]

known_all : (olds : List (Option Area)) (cs : List Change) (areas : List (Option Area)) → AllKnown areas olds → AllByRecursion (PutsKnown olds) cs → AllKnown (all_changed areas cs) olds
unfolding all_changed
known_all olds [] areas known all = known
known_all olds (c ∷ cs) areas known (one, rest) = known_all olds cs (changed_areas areas c) (known_one olds areas c known one) rest

pub known_self : (areas : List (Option Area)) → AllKnown areas areas
known_self areas m s l is = record { old = l; has = (s, is); uuid = refl; start = refl; bytes = refl }

-- ---- the label changes of recovery

gone_known : (olds areas : List (Option Area)) (e : NamespaceEntry) → AllByRecursion (PutsKnown olds) (gone_changes areas e)
gone_known olds areas e = by (is_unfinished e.status)
  where
    removes : (ps : List (ℕ × Label)) → AllByRecursion (PutsKnown olds) (map (change_to (λ l. None)) ps)
    removes [] = tt
    removes (p ∷ ps) = ((λ l is. absurd (none-some l is)), removes ps)

    by : (b : Bool) → AllByRecursion (PutsKnown olds) (cond b (map (change_to (λ l. None)) (own_labels areas e.uuid)) [])
    by true = removes (own_labels areas e.uuid)
    by false = tt

pub own_known : (olds areas : List (Option Area)) (uuid : List ℕ) → AllKnown areas olds → AllByRecursion (λ p. IsKnown olds p.0 p.1) (own_labels areas uuid)
own_known olds areas uuid known =
    all_map (λ (p : ℕ × Label). IsKnown olds p.0 p.1) pair_of (by_position (labels_with uuid (placed_in_all areas)))
    (by_position_all (λ (q : Placed). IsKnown olds q.«module» q.label) (labels_with uuid (placed_in_all areas))
    (all_filter (λ (q : Placed). IsKnown olds q.«module» q.label) _ (placed_in_all areas)
    (all_of_in (λ (q : Placed). IsKnown olds q.«module» q.label) (placed_in_all areas) each)))
  where
    each : (q : Placed) → In q (placed_in_all areas) → IsKnown olds q.«module» q.label
    each q i =
        let r = in_areas 0 areas q i in
        let at : q.«module» ≡ r.0 = r.1 ∙ (let e : 0 + r.0 ≡ r.0 = omega arith in e) in
        subst (λ (m : ℕ). IsKnown olds m q.label) (sym at) (known r.0 r.2.0 q.label r.2.1)

settling_known : (olds areas : List (Option Area)) (e : NamespaceEntry) → AllKnown areas olds → AllByRecursion (PutsKnown olds) (settling_changes areas e)
settling_known olds areas e known = by (is_complete e.status)
  where
    puts : (ps : List (ℕ × Label)) → AllByRecursion (λ p. IsKnown olds p.0 p.1) ps → AllByRecursion (PutsKnown olds) (map (change_to (λ l. Some (with_name e.name (updated l)))) ps)
    puts [] all = tt
    puts (p ∷ ps) (one, rest) = (
      (λ l is. subst (IsKnown olds p.0) (same_Some (with_name e.name (updated p.1)) l is) (record { old = one.old; has = one.has; uuid = one.uuid; start = one.start; bytes = one.bytes })),
      puts ps rest,
    )

    by : (b : Bool) → AllByRecursion (PutsKnown olds) (cond b (map (change_to (λ l. Some (with_name e.name (updated l)))) (filter (is_unsettled areas) (own_labels areas e.uuid))) [])
    by true = puts (filter (is_unsettled areas) (own_labels areas e.uuid)) (all_filter (λ (p : ℕ × Label). IsKnown olds p.0 p.1) (is_unsettled areas) (own_labels areas e.uuid) (own_known olds areas e.uuid known))
    by false = tt

recovery_known : (sets : List (List Mapping)) (areas : List (Option Area)) → AllByRecursion (PutsKnown areas) (recovery_changes sets areas)
recovery_known sets areas =
    let gone = flat_map (gone_changes areas) (namespaces_of sets areas).entries in
    let left = all_changed areas gone in
    let first : AllByRecursion (PutsKnown areas) gone = all_flat (PutsKnown areas) (gone_changes areas) (namespaces_of sets areas).entries (gone_known areas areas) in
    append_all (PutsKnown areas) gone (flat_map (settling_changes left) (namespaces_of sets left).entries) first
    (all_flat (PutsKnown areas) (settling_changes left) (namespaces_of sets left).entries (λ e. settling_known areas left e (known_all areas gone areas (known_self areas) first)))

-- ---- after a crash within recovery

-- a label of the areas before has its extent
known_placed : (news olds : List (Option Area)) → AllKnown news olds → (p : Placed) → In p (placed_in_all news) → (q : Placed) × In q (placed_in_all olds) × (extent_of q ≡ extent_of p)
known_placed news olds known p i =
    let at = in_areas 0 news p i in
    let k = known at.0 at.2.0 p.label at.2.1 in
    let q = areas_in 0 olds at.0 k.has.0 k.old k.has.1 in (
      q.0,
      q.1,
      λ j. record {
        owner = (ap (λ (l : Label). l.uuid) q.3 ∙ k.uuid) j;
        «module» = (q.2 ∙ sym at.1) j;
        start = (ap (λ (l : Label). l.dpa) q.3 ∙ k.start) j;
        length = (ap (λ (l : Label). l.raw) q.3 ∙ k.bytes) j;
      },
    )

known_clear : (news olds : List (Option Area)) → AllKnown news olds → ((p r : Placed) → In p (placed_in_all olds) → In r (placed_in_all olds) → clash (extent_of p) (extent_of r) ≡ false)
    → (p r : Placed) → In p (placed_in_all news) → In r (placed_in_all news) → clash (extent_of p) (extent_of r) ≡ false
known_clear news olds known clear p r in_p in_r =
    let a = known_placed news olds known p in_p in
    let b = known_placed news olds known r in_r in
    ap (λ (x : Extent). clash x (extent_of r)) (sym a.2) ∙ ap (clash (extent_of a.0)) (sym b.2) ∙ clear a.0 b.0 a.1 b.1

pub stopped_apart : (sets : List (List Mapping)) (areas : List (Option Area)) (n : ℕ) (stays : Bool) → overlap_of (map extent_of (placed_in_all areas)) ≡ None
    → EntriesApart (namespaces_of sets (after_steps areas (recovery_changes sets areas) n stays))
stopped_apart sets areas n stays none =
    let front = cut_is_front (recovery_changes sets areas) areas n stays in
    let known : AllKnown (all_changed areas (take front.0 (recovery_changes sets areas))) areas =
    known_all areas (take front.0 (recovery_changes sets areas)) areas (known_self areas) (take_all (PutsKnown areas) front.0 (recovery_changes sets areas) (recovery_known sets areas)) in
    apart_by sets (after_steps areas (recovery_changes sets areas) n stays)
    (known_clear (after_steps areas (recovery_changes sets areas) n stays) areas (subst (λ (xs : List (Option Area)). AllKnown xs areas) (sym front.2) known) (labels_clear areas none))
