-- One group after another.
use Rattle.std.proofs.Common.{◌≡◌, ℕ, ◌+◌, ◌<◌, ◌≤◌, true, false, List, [], ◌∷◌, ◌++◌, Some, get_or, length, drop, take, refl, sym, ap, ◌∙◌, subst, inl, inr, ◌⊎◌, arith}
use Rattle.std.specs.Prelude.{◌-◌, min, slice_get}
use Rattle.std.specs.Option.{option_map}
use Rattle.std.specs.List.{AllByRecursion}
use Rattle.std.specs.List.Sorted.{IsStrictlySortedBy}
use Rattle.std.specs.Str.{bytes_eq}
use Rattle.std.proofs.lemmas.Bool.{cases_Bool, false≢true, false_from_ne_true}
use Rattle.std.proofs.lemmas.List.{take-append-drop, length-drop, length-take, length-take-le, get_or-drop}
use Rattle.std.proofs.lemmas.Option.{none-some}
use Rattle.std.proofs.Math.Seq.{take-append-add, drop-append-add}
use Rattle.std.proofs.lemmas.List.Elements.{filter-append}
use Rattle.std.proofs.lemmas.Slice.Eq.{bytes_eq-Decides}
use Rattle.nfit_reader.specs.declared.table.Mapping.{Mapping}
use Rattle.label_set.specs.declared.placed.Placed.{Placed}
use Rattle.namespace_map.specs.Namespaces.{NamespaceEntry, uuid_of, uuid_lt, labels_with, entry_with, entry_at, entries_of, lookup}
use Rattle.namespace_map.specs.Laws.{IsRising}
use Rattle.namespace_map.proofs.Entries.{lookup_entries}
use Rattle.namespace_map.proofs.Rising.{rising_entries, rising_same}
use Rattle.namespace_areas.specs.Groups.{AreGrouped, IsStart, IsNextGroup}
use Rattle.namespace_areas.proofs.Order.{In, filter_in, all_in, all_from_in, all_drop, in_drop}
use Rattle.namespace_areas.proofs.Parts.{none_passes, front_of_parted}
use Rattle.namespace_areas.proofs.Sorted.{uuids_of_less}
use Rattle.namespace_areas.proofs.Grouped.{has, has_parted, from_first, entries_have}

self : (u : List ℕ) → bytes_eq u u ≡ true
self u = (bytes_eq-Decides u u).1 refl

-- the labels of one UUID have none of another
apart_groups : (u v : List ℕ) (xs : List Placed) → bytes_eq v u ≡ false → labels_with v (labels_with u xs) ≡ []
apart_groups u v xs apart =
    none_passes (has v) (labels_with u xs) (all_from_in _ _ (λ z i.
    let own : uuid_of z ≡ u = (bytes_eq-Decides (uuid_of z) u).0 (filter_in (has u) xs z i).1 in
    false_from_ne_true _ (λ is. false≢true (sym apart ∙ (bytes_eq-Decides v u).1 (sym ((bytes_eq-Decides (uuid_of z) v).0 is) ∙ own)))))

module _ (x : Placed) (xs : List Placed) (up : AreGrouped (x ∷ xs)) where
  abbrev pub u : List ℕ
  u = uuid_of x

  abbrev pub group : List Placed
  group = labels_with u (x ∷ xs)

  -- what stands behind the first UUID's labels
  abbrev pub behind : List Placed
  behind = drop (length group) (x ∷ xs)

  pub fronts : (group ≡ take (length group) (x ∷ xs)) × AllByRecursion (λ p. has u p ≡ false) behind
  fronts = front_of_parted (has u) (x ∷ xs) (has_parted u (x ∷ xs) up (from_first x xs up))

  pub joined : group ++ behind ≡ x ∷ xs
  joined = ap (λ (l : List Placed). l ++ behind) fronts.0 ∙ take-append-drop (length group) (x ∷ xs)

  pub first_of_group : slice_get group 0 ≡ Some x
  first_of_group = let it : bytes_eq (uuid_of x) u ≡ true = self u in rw it refl

  pub group_some : 0 < length group
  group_some = let it : bytes_eq (uuid_of x) u ≡ true = self u in rw it (omega arith)

  above : AllByRecursion (λ p. uuid_lt u (uuid_of p) ≡ true) behind
  unfolding IsStrictlySortedBy
  above = all_from_in _ behind (λ z i. by z (all_in _ behind fronts.1 z i) (in_drop (length group) (x ∷ xs) z i))
    where
      by : (z : Placed) → has u z ≡ false → In z (x ∷ xs) → uuid_lt u (uuid_of z) ≡ true
      by z other (inl e) = absurd (false≢true (sym other ∙ ap (has u) (sym e) ∙ self u))
      by z other (inr i) =
          elim (uuids_of_less x z (all_in _ xs up.0 z i)) [ inl lt ↦ lt | inr same ↦ absurd (false≢true (sym other ∙ ap (λ (v : List ℕ). bytes_eq v u) (sym same) ∙ self u)) ]

  -- the labels of another UUID stand behind
  others_behind : (v : List ℕ) → bytes_eq v u ≡ false → labels_with v (x ∷ xs) ≡ labels_with v behind
  others_behind v apart =
      ap (labels_with v) (sym joined) ∙ filter-append (has v) group behind ∙ ap (λ (l : List Placed). l ++ labels_with v behind) (apart_groups u v (x ∷ xs) apart)

  pub next_entries : (sets : List (List Mapping)) (first : Placed) → slice_get group 0 ≡ Some first → entries_of sets (x ∷ xs) ≡ entry_with sets group first ∷ entries_of sets behind
  next_entries sets first is =
      let e : NamespaceEntry = entry_with sets group first in
      let same : first ≡ x = let h = sym is ∙ first_of_group in cc in
      let rises : IsRising (e ∷ entries_of sets behind) = (
        subst (λ (w : List ℕ). AllByRecursion (λ (f : NamespaceEntry). uuid_lt w f.uuid ≡ true) (entries_of sets behind)) (ap uuid_of (sym same)) (entries_have sets behind behind (λ w. uuid_lt u w ≡ true) above),
        rising_entries sets behind,
      ) in
      rising_same (entries_of sets (x ∷ xs)) (e ∷ entries_of sets behind) (rising_entries sets (x ∷ xs)) rises
      (λ w. lookup_entries sets (x ∷ xs) w ∙ by w same (cases_Bool (bytes_eq u w)))
    where
      by : (w : List ℕ) → first ≡ x → (bytes_eq u w ≡ true) ⊎ (bytes_eq u w ≡ false) → entry_at sets (x ∷ xs) w ≡ lookup w (entry_with sets group first ∷ entries_of sets behind)
      by w same (inl it) =
          let here : bytes_eq (uuid_of first) w ≡ true = ap (λ (p : Placed). bytes_eq (uuid_of p) w) same ∙ it in
          ap (entry_at sets (x ∷ xs)) (sym ((bytes_eq-Decides u w).0 it)) ∙ ap (option_map (entry_with sets group)) is ∙ sym (rw here refl)
      by w same (inr not_it) =
          let there : bytes_eq (uuid_of first) w ≡ false = ap (λ (p : Placed). bytes_eq (uuid_of p) w) same ∙ not_it in
          let apart : bytes_eq w u ≡ false = false_from_ne_true _ (λ h. false≢true (sym not_it ∙ (bytes_eq-Decides u w).1 (sym ((bytes_eq-Decides w u).0 h)))) in
          ap (λ (own : List Placed). option_map (entry_with sets own) (slice_get own 0)) (others_behind w apart) ∙ sym (lookup_entries sets behind w) ∙ sym (rw there refl)

-- ---- at a place of all labels

split_at : {X : Type 0} (a n : ℕ) (l : List X) → a ≤ length l → (take (a + n) l ≡ take a l ++ take n (drop a l)) × (drop (a + n) l ≡ drop n (drop a l))
split_at a n l le =
    let whole = take-append-drop a l in
    let long : length (take a l) ≡ a = length-take-le a l le in (
      ap (λ (k : ℕ). take (k + n) l) (sym long) ∙ ap (take (length (take a l) + n)) (sym whole) ∙ take-append-add (take a l) (drop a l) n,
      ap (λ (k : ℕ). drop (k + n) l) (sym long) ∙ ap (drop (length (take a l) + n)) (sym whole) ∙ drop-append-add (take a l) (drop a l) n,
    )

-- no UUID that stands behind a group stands before its end
starts_behind : (front group behind : List Placed) (u : List ℕ) → AllByRecursion (λ p. labels_with (uuid_of p) front ≡ []) behind → AllByRecursion (λ p. has u p ≡ false) behind
    → ((v : List ℕ) → bytes_eq v u ≡ false → labels_with v group ≡ []) → AllByRecursion (λ p. labels_with (uuid_of p) (front ++ group) ≡ []) behind
starts_behind front group behind u start other apart =
    all_from_in _ behind (λ z i.
    filter-append (has (uuid_of z)) front group ∙ ap (λ (l : List Placed). l ++ labels_with (uuid_of z) group) (all_in _ behind start z i) ∙ apart (uuid_of z) (all_in _ behind other z i))

fits : (whole at rest n : ℕ) → at ≤ whole → rest ≡ whole - at → n ≡ min n rest → at + n ≤ whole
fits whole at rest n le is short = omega (arith, is, short)

next_by : (sorted : List Placed) (at : ℕ) (x : Placed) (rest group : List Placed) → drop at sorted ≡ rest → at ≤ length sorted → IsStart sorted at → group ≡ take (length group) rest → slice_get group 0 ≡ Some x
    → labels_with (uuid_of x) rest ≡ group → labels_with (uuid_of x) (take at sorted) ≡ [] → AllByRecursion (λ p. has (uuid_of x) p ≡ false) (drop (length group) rest)
    → ((v : List ℕ) → bytes_eq v (uuid_of x) ≡ false → labels_with v group ≡ [])
    → (0 < length group) × (group ≡ labels_with (uuid_of x) sorted) × IsStart sorted (at + length group) × (at + length group ≤ length sorted) × (drop (at + length group) sorted ≡ drop (length group) rest)
next_by sorted at x rest group here le start front first own none other apart =
    let parts = split_at at (length group) sorted le in
    let behind : drop (at + length group) sorted ≡ drop (length group) rest = parts.1 ∙ ap (drop (length group)) here in
    let before : take (at + length group) sorted ≡ take at sorted ++ group = parts.0 ∙ ap (λ (l : List Placed). take at sorted ++ take (length group) l) here ∙ ap (λ (l : List Placed). take at sorted ++ l) (sym front) in
    let started : AllByRecursion (λ p. labels_with (uuid_of p) (take at sorted) ≡ []) rest = subst (λ (l : List Placed). AllByRecursion (λ p. labels_with (uuid_of p) (take at sorted) ≡ []) l) here start in
    let due = starts_behind (take at sorted) group (drop (length group) rest) (uuid_of x) (all_drop _ (length group) rest started) other apart in
    let whole : labels_with (uuid_of x) sorted ≡ group =
    ap (labels_with (uuid_of x)) (sym (take-append-drop at sorted)) ∙ filter-append (has (uuid_of x)) (take at sorted) (drop at sorted) ∙ ap (λ (l : List Placed). l ++ labels_with (uuid_of x) (drop at sorted)) none
    ∙ ap (labels_with (uuid_of x)) here ∙ own in (
      some group first,
      sym whole,
      subst (λ (l : List Placed). AllByRecursion (λ p. labels_with (uuid_of p) (take (at + length group) sorted) ≡ []) l) (sym behind)
          (subst (λ (f : List Placed). AllByRecursion (λ p. labels_with (uuid_of p) f ≡ []) (drop (length group) rest)) (sym before) due),
      fits (length sorted) at (length rest) (length group) le (sym (ap length here) ∙ length-drop at sorted) (ap length front ∙ length-take (length group) rest),
      behind,
    )
  where
    some : (g : List Placed) → slice_get g 0 ≡ Some x → 0 < length g
    some [] is = absurd (none-some x is)
    some (y ∷ ys) is = omega arith

pub next_group : (sorted : List Placed) (at : ℕ) (rest : List Placed) → drop at sorted ≡ rest → at < length sorted → IsStart sorted at → AreGrouped rest
    → (result : List Placed) → ((blank : Placed) → result ≡ labels_with (uuid_of (get_or rest 0 blank)) rest) → IsNextGroup sorted at result
next_group sorted at [] here lt start up result is = absurd (omega (arith, ap length here, length-drop at sorted))
next_group sorted at (x ∷ xs) here lt start up result is =
    let own : result ≡ group x xs up = is x in
    let start' : AllByRecursion (λ p. labels_with (uuid_of p) (take at sorted) ≡ []) (x ∷ xs) = subst (λ (l : List Placed). AllByRecursion (λ p. labels_with (uuid_of p) (take at sorted) ≡ []) l) here start in
    let f = fronts x xs up in
    let all = next_by sorted at x (x ∷ xs) (group x xs up) here (omega arith) start f.0 (first_of_group x xs up) refl start'.0 f.1 (λ v apart. apart_groups (uuid_of x) v (x ∷ xs) apart) in
    subst (IsNextGroup sorted at) (sym own) (record {
      some = all.0;
      whole = λ blank. all.1 ∙ ap (λ (p : Placed). labels_with (uuid_of p) sorted) (sym (at_first blank));
      next = all.2;
      within = all.3;
      entries = λ sets first is. ap (entries_of sets) here ∙ next_entries x xs up sets first is ∙ ap (λ (l : List Placed). entry_with sets (group x xs up) first ∷ entries_of sets l) (sym all.4);
    })
  where
    at_first : (blank : Placed) → get_or sorted at blank ≡ x
    at_first blank = ap (λ (k : ℕ). get_or sorted k blank) (omega arith) ∙ sym (get_or-drop at sorted 0 blank) ∙ ap (λ (l : List Placed). get_or l 0 blank) here
