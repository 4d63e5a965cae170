-- The two rounds of recovery: which changes they have, and that each of these can be made.
use Rattle.std.proofs.Common.{◌≡◌, ℕ, Bool, true, false, cond, List, [], ◌∷◌, ◌++◌, length, map, Option, Some, None, refl, sym, ap, ◌∙◌, subst, inl, inr}
use Rattle.std.specs.Prelude.{◌/◌, ◌%◌, ◌==◌, ◌&&◌, nat_le, filter, slice_get}
use Rattle.std.specs.Option.{option_map}
use Rattle.std.specs.List.{AllByRecursion, flat_map, list_all, list_any}
use Rattle.std.specs.Str.{bytes_eq}
use Rattle.std.proofs.lemmas.Bool.{cases_Bool, false≢true, leb-true}
use Rattle.std.proofs.lemmas.Option.{none-some, same_Some}
use Rattle.std.proofs.lemmas.Slice.Eq.{bytes_eq-Decides}
use Rattle.std.proofs.Math.ListN.{length-map}
use Rattle.nfit_reader.specs.declared.table.Mapping.{Mapping}
use Rattle.label_codec.specs.declared.label.Label.{Label}
use Rattle.label_codec.specs.Name.{HasNoZero}
use Rattle.label_codec.specs.Writable.{IsSound}
use Rattle.label_set.specs.declared.placed.Placed.{Placed}
use Rattle.label_set.specs.declared.placed.SetStatus.{SetStatus}
use Rattle.label_set.specs.declared.placed.SetStatus.TheVariants.{Complete, Local, Incomplete, Unfinished}
use Rattle.label_set.specs.declared.placed.Why.TheVariants.{Outside, Differs}
use Rattle.label_set.specs.declared.placed.Field.TheVariants.{Names}
use Rattle.label_set.specs.Rules.{is_local, is_updating, is_marked, same_name, agreed_name}
use Rattle.label_set.specs.Status.{half_named, named_by, naming_of}
use Rattle.namespace_map.specs.Namespaces.{NamespaceEntry, uuid_of, uuid_lt, labels_with, region_of, status_in, shown_name, entry_with, entry_at, entries_of, lookup, part_of, put, put_all}
use Rattle.namespace_areas.specs.declared.area.Area.{Area}
use Rattle.namespace_areas.specs.Areas.{labels_of}
use Rattle.namespace_map.specs.Areas.{Area as SeenArea, Change, free_in, slots_on}
use Rattle.namespace_map.specs.Commands.{is_complete, is_pending, is_unfinished}
use Rattle.namespace_map.specs.Changes.{placed_in_all, by_position, change_to, with_name, is_unsettled, gone_changes, settled_first, settling_changes, own_labels}
use Rattle.label_codec.specs.Flags.{updated}
use Rattle.namespace_laws.proofs.Staged.{all_map}
use Rattle.namespace_laws.proofs.Position.{by_position_all}
use Rattle.namespace_laws.proofs.Complete.{facts}
use Rattle.namespace_laws.proofs.Gone.{append_all}
use Rattle.namespace_map.proofs.Entries.{lookup_entries}
use Rattle.namespace_map.proofs.Rising.{all_pass_to}
use Rattle.namespace_areas.specs.Groups.{HasGroupsOf}
use Rattle.namespace_areas.proofs.Grouped.{entries_same}
use Rattle.namespace_areas.specs.Seen.{AreHeld, areas_seen}
use Rattle.namespace_areas.specs.Went.{CanMake, PutsSound}
use Rattle.namespace_areas.proofs.Seen.{seen_labels}
use Rattle.namespace_areas.proofs.CanMake.{HasLabel, IsRemoval, Fits, can_remove, can_put}
use Rattle.namespace_areas.proofs.Placed.{IsPlaced, placed_each, placed_ready, placed_label, placed_sound}
use Rattle.namespace_ops.specs.Plans.{first_of, gone_of, gone_in, settling_of, settling_in, settlings, all_gone, all_settling, gone_round, settling_round}
use Rattle.namespace_ops.specs.Carried.{first_round}
use Rattle.namespace_ops.proofs.Planned.{first_passes}

-- ---- lists

flat_same : {X Y : Type 0} (f g : X → List Y) → ((x : X) → f x ≡ g x) → (xs : List X) → flat_map f xs ≡ flat_map g xs
flat_same f g same [] = refl
flat_same f g same (x ∷ xs) = ap (λ ys. ys ++ flat_map f xs) (same x) ∙ ap (λ ys. g x ++ ys) (flat_same f g same xs)

flat_all : {X Y : Type 0} (Q : X → Type 0) (P : Y → Type 0) (f : X → List Y) → ((x : X) → Q x → AllByRecursion P (f x)) → (xs : List X) → AllByRecursion Q xs → AllByRecursion P (flat_map f xs)
flat_all Q P f each [] all = tt
flat_all Q P f each (x ∷ xs) (one, rest) = append_all P (f x) (flat_map f xs) (each x one) (flat_all Q P f each xs rest)

filtered : {X : Type 0} (P : X → Type 0) (t : X → Bool) (xs : List X) → AllByRecursion P xs → AllByRecursion (λ x. P x × (t x ≡ true)) (filter t xs)
filtered P t [] all = tt
filtered P t (x ∷ xs) (one, rest) = elim (cases_Bool (t x)) [
  | inl it ↦ rw it ((one, it), filtered P t xs rest)
  | inr not_it ↦ rw not_it (filtered P t xs rest)
]

any : {X : Type 0} (xs : List X) → AllByRecursion (λ x. Unit {0}) xs
any [] = tt
any (x ∷ xs) = (tt, any xs)

both_of : (a b : Bool) → (a && b) ≡ true → (a ≡ true) × (b ≡ true)
both_of true b e = (refl, e)
both_of false b e = absurd (false≢true e)

-- ---- which changes

module _ (sets : List (List Mapping)) (areas : List Area) (held : AreHeld areas) (sorted : List Placed) (same : HasGroupsOf sorted (labels_of areas)) where
  abbrev labels : List Placed
  labels = placed_in_all (areas_seen areas)

  groups : HasGroupsOf sorted labels
  groups u = same u ∙ ap (labels_with u) (sym (seen_labels areas held))

  pub gone_is : all_gone sets sorted ≡ gone_round sets (areas_seen areas)
  gone_is =
      ap (flat_map (gone_in sorted)) (entries_same sets sorted labels groups)
      ∙ flat_same (gone_in sorted) (gone_in labels) (λ e. ap (gone_of e) (groups e.uuid)) (entries_of sets labels)

  pub settling_is : all_settling sets (areas_seen areas) sorted ≡ settling_round sets (areas_seen areas)
  settling_is =
      ap (flat_map (settling_in (areas_seen areas) sorted)) (entries_same sets sorted labels groups)
      ∙ flat_same (settling_in (areas_seen areas) sorted) (settling_in (areas_seen areas) labels) (λ e. ap (settling_of (areas_seen areas) e) (groups e.uuid)) (entries_of sets labels)

  -- those that come before a command, if its entry is pending with several labels
  pub first_is : (uuid : List ℕ) → first_of sets (areas_seen areas) (labels_with uuid sorted) ≡ first_round sets (areas_seen areas) uuid
  first_is uuid =
      ap (first_of sets (areas_seen areas)) (groups uuid)
      ∙ by (labels_with uuid labels) refl
      ∙ sym (ap (settled_first (areas_seen areas)) (lookup_entries sets labels uuid))
    where
      pick : (s : SetStatus) (many : Bool) (xs : List Change) → cond many (cond (is_pending s) xs []) [] ≡ cond (is_pending s && many) (cond (is_complete s) xs []) []
      pick (Complete name true) true xs = refl
      pick (Complete name true) false xs = refl
      pick (Complete name false) true xs = refl
      pick (Complete name false) false xs = refl
      pick Unfinished true xs = refl
      pick Unfinished false xs = refl
      pick Local true xs = refl
      pick Local false xs = refl
      pick (Incomplete why) true xs = refl
      pick (Incomplete why) false xs = refl

      by : (own : List Placed) → labels_with uuid labels ≡ own → first_of sets (areas_seen areas) own ≡ settled_first (areas_seen areas) (option_map (entry_with sets own) (slice_get own 0))
      by [] is = refl
      by (p ∷ ps) is =
          let e : NamespaceEntry = entry_with sets (p ∷ ps) p in
          let u : e.uuid ≡ uuid = (bytes_eq-Decides e.uuid uuid).0 (first_passes (λ q. bytes_eq (uuid_of q) uuid) labels p (ap (λ (xs : List Placed). slice_get xs 0) is)) in
          pick e.status (nat_le 2 (length (p ∷ ps))) (settlings (areas_seen areas) e.name (by_position (p ∷ ps)))
          ∙ ap (λ (n : ℕ). cond (is_pending e.status && nat_le 2 n) (cond (is_complete e.status) (settlings (areas_seen areas) e.name (by_position (p ∷ ps))) []) []) (sym (length-map (p ∷ ps) part_of))
          ∙ ap (λ (xs : List Placed). cond (is_pending e.status && nat_le 2 (length e.parts)) (cond (is_complete e.status) (settlings (areas_seen areas) e.name (by_position xs)) []) []) (sym is)
          ∙ ap (λ (v : List ℕ). cond (is_pending e.status && nat_le 2 (length e.parts)) (cond (is_complete e.status) (settlings (areas_seen areas) e.name (by_position (labels_with v labels))) []) []) (sym u)

-- ---- the labels of a UUID, by position

own_each : (P : Placed → Type 0) (labels : List Placed) (u : List ℕ) → AllByRecursion P labels → AllByRecursion P (by_position (labels_with u labels))
own_each P labels u all =
    by_position_all P (labels_with u labels)
    (all_pass_to (λ p. P p × (bytes_eq (uuid_of p) u ≡ true)) P (λ p h. h.0) (labels_with u labels) (filtered P (λ p. bytes_eq (uuid_of p) u) labels all))

-- ---- removals can be made

removal_each : (areas : List (Option SeenArea)) (e : NamespaceEntry) → AllByRecursion (IsRemoval areas) (gone_changes areas e)
removal_each areas e = elim (cases_Bool (is_unfinished e.status)) [
  | inl it ↦ rw it (
      all_map (IsRemoval areas) (change_to (λ l. None)) (own_labels areas e.uuid)
      (all_map (λ q. IsRemoval areas (change_to (λ l. None) q)) (λ p. (p.«module», p.label)) (by_position (labels_with e.uuid (placed_in_all areas)))
      (all_pass_to (IsPlaced areas) (λ p. IsRemoval areas (change_to (λ l. None) (p.«module», p.label))) (λ p is. (refl, placed_ready areas p is)) (by_position (labels_with e.uuid (placed_in_all areas)))
      (own_each (IsPlaced areas) (placed_in_all areas) e.uuid (placed_each areas)))))
  | inr not_it ↦ rw not_it tt
]

gone_all : (sets : List (List Mapping)) (areas : List (Option SeenArea)) → AllByRecursion (IsRemoval areas) (gone_round sets areas)
gone_all sets areas =
    flat_all (λ e. Unit {0}) (IsRemoval areas) (gone_changes areas) (λ e ok. removal_each areas e) (entries_of sets (placed_in_all areas)) (any (entries_of sets (placed_in_all areas)))

pub gone_can : (sets : List (List Mapping)) (areas : List (Option SeenArea)) → CanMake areas (gone_round sets areas)
gone_can sets areas = can_remove (gone_round sets areas) areas (gone_all sets areas)

pub gone_sound : (sets : List (List Mapping)) (areas : List (Option SeenArea)) → AllByRecursion PutsSound (gone_round sets areas)
gone_sound sets areas = all_pass_to (IsRemoval areas) PutsSound (λ c is label e. absurd (none-some label (sym is.0 ∙ e))) (gone_round sets areas) (gone_all sets areas)

-- ---- settlings can be made

fits_each : (areas : List (Option SeenArea)) (e : NamespaceEntry) → AllByRecursion (Fits areas) (settling_changes areas e)
fits_each areas e = elim (cases_Bool (is_complete e.status)) [
  | inl it ↦ rw it (
      all_map (Fits areas) (change_to become) (filter (is_unsettled areas) (own_labels areas e.uuid))
      (all_pass_to (λ q. IsHere q × (is_unsettled areas q ≡ true)) (λ q. Fits areas (change_to become q))
      (λ q h.
      let free = both_of (q.1.flags / 8 % 2 == 1) (nat_le 1 (free_in (slots_on areas q.0))) h.1 in
      record { puts = (with_name e.name (updated q.1), refl, refl); there = h.0; room = leb-true 1 (free_in (slots_on areas q.0)) free.1 })
      (filter (is_unsettled areas) (own_labels areas e.uuid))
      (filtered IsHere (is_unsettled areas) (own_labels areas e.uuid)
      (all_map IsHere (λ p. (p.«module», p.label)) (by_position (labels_with e.uuid (placed_in_all areas)))
      (all_pass_to (IsPlaced areas) (λ p. IsHere (p.«module», p.label)) (λ p is. placed_label areas p is) (by_position (labels_with e.uuid (placed_in_all areas)))
      (own_each (IsPlaced areas) (placed_in_all areas) e.uuid (placed_each areas)))))))
  | inr not_it ↦ rw not_it tt
]
  where
    become : Label → Option Label
    become l = Some (with_name e.name (updated l))

    IsHere : ℕ × Label → Type 0
    IsHere q = HasLabel areas q.0 q.1.uuid

pub settling_can : (sets : List (List Mapping)) (areas : List (Option SeenArea)) → CanMake areas (settling_round sets areas)
settling_can sets areas =
    can_put (settling_round sets areas) areas
    (flat_all (λ e. Unit {0}) (Fits areas) (settling_changes areas) (λ e ok. fits_each areas e) (entries_of sets (placed_in_all areas)) (any (entries_of sets (placed_in_all areas))))

pub first_can : (sets : List (List Mapping)) (areas : List (Option SeenArea)) (uuid : List ℕ) → CanMake areas (first_round sets areas uuid)
first_can sets areas uuid = can_put (first_round sets areas uuid) areas (by (lookup uuid (entries_of sets (placed_in_all areas))))
  where
    by : (o : Option NamespaceEntry) → AllByRecursion (Fits areas) (settled_first areas o)
    by None = tt
    by (Some e) = elim (cases_Bool (is_pending e.status && nat_le 2 (length e.parts))) [ inl it ↦ rw it (fits_each areas e) | inr not_it ↦ rw not_it tt ]

-- ---- and the labels that they put, written

agreed_from : (Q : List ℕ → Type 0) (xs : List Placed) (n : List ℕ) → agreed_name xs ≡ Some n → AllByRecursion (λ p. Q p.label.name) xs → Q n
agreed_from Q [] n e all = absurd (none-some n e)
agreed_from Q (p ∷ ps) n e (one, rest) = elim (cases_Bool (list_all (same_name p) (p ∷ ps))) [
  | inl it ↦ subst Q (same_Some p.label.name n (rw it at e)) one
  | inr not_it ↦ absurd (none-some n (rw not_it at e))
]

half_from : (Q : List ℕ → Type 0) (own : List Placed) (a b : Option (List ℕ)) (name : List ℕ) (pending : Bool) → half_named a b ≡ Complete name pending → ((n : List ℕ) → a ≡ Some n → Q n) → Q name
half_from Q own (Some old) (Some new) name pending e from = let g : Complete old true ≡ Complete name pending = e in let same : old ≡ name = cc in subst Q same (from old refl)
half_from Q own (Some old) None name pending e from = absurd (let g : Incomplete (Differs Names) ≡ Complete name pending = e in cc)
half_from Q own None b name pending e from = absurd (let g : Incomplete (Differs Names) ≡ Complete name pending = e in cc)

name_from : (Q : List ℕ → Type 0) (own : List Placed) (name : List ℕ) (pending : Bool) → naming_of own ≡ Complete name pending → AllByRecursion (λ p. Q p.label.name) own → Q name
name_from Q own name pending e all = by (agreed_name own) refl e
  where
    by : (o : Option (List ℕ)) → agreed_name own ≡ o → named_by own o ≡ Complete name pending → Q name
    by (Some n) is f = let g : Complete n (list_any is_updating own) ≡ Complete name pending = f in let same : n ≡ name = cc in subst Q same (agreed_from Q own n is all)
    by None is f =
        half_from Q own (agreed_name (filter (is_marked false) own)) (agreed_name (filter (is_marked true) own)) name pending f
        (λ n at. agreed_from Q (filter (is_marked false) own) n at
        (all_pass_to (λ p. Q p.label.name × (is_marked false p ≡ true)) (λ p. Q p.label.name) (λ p h. h.0) (filter (is_marked false) own) (filtered (λ p. Q p.label.name) (is_marked false) own all)))

-- the name of a complete entry has no zero byte
abbrev IsNamed : NamespaceEntry → Type 0
IsNamed e = (name : List ℕ) (pending : Bool) → e.status ≡ Complete name pending → HasNoZero e.name

entry_named : (sets : List (List Mapping)) (first : Placed) (rest : List Placed) → AllByRecursion (λ p. HasNoZero p.label.name) (first ∷ rest) → IsNamed (entry_with sets (first ∷ rest) first)
entry_named sets first rest all name pending = by (region_of sets first)
  where
    by : (o : Option (ℕ × List Mapping)) → status_in o (first ∷ rest) first ≡ Complete name pending → HasNoZero (shown_name (status_in o (first ∷ rest) first) first)
    by None e = absurd (elim (cases_Bool (list_any is_local (first ∷ rest))) [
      | inl it ↦ (let g : Local ≡ Complete name pending = rw it at e in cc)
      | inr not_it ↦ (let g : Incomplete (Outside first.«module») ≡ Complete name pending = rw not_it at e in cc)
    ])
    by (Some r) e =
        subst (λ (s : SetStatus). HasNoZero (shown_name s first)) (sym e)
        (name_from HasNoZero (first ∷ rest) name pending (facts r.1 first rest name pending e).named all)

at_named : (sets : List (List Mapping)) (own : List Placed) (e : NamespaceEntry) → AllByRecursion (λ p. HasNoZero p.label.name) own → option_map (entry_with sets own) (slice_get own 0) ≡ Some e → IsNamed e
at_named sets [] e all is = absurd (none-some e is)
at_named sets (p ∷ ps) e all is = subst IsNamed (same_Some (entry_with sets (p ∷ ps) p) e is) (entry_named sets p ps all)

put_each : (P : NamespaceEntry → Type 0) (e : NamespaceEntry) (es : List NamespaceEntry) → P e → AllByRecursion P es → AllByRecursion P (put e es)
unfolding put
put_each P e [] one all = (one, tt)
put_each P e (f ∷ fs) one (first, rest) = elim (cases_Bool (uuid_lt f.uuid e.uuid)) [
  | inl it ↦ rw it (first, put_each P e fs one rest)
  | inr not_it ↦ rw not_it (elim (cases_Bool (bytes_eq f.uuid e.uuid)) [ inl at ↦ rw at (one, rest) | inr apart ↦ rw apart (one, (first, rest)) ])
]

put_all_each : (P : NamespaceEntry → Type 0) (os : List (Option NamespaceEntry)) → AllByRecursion (λ (o : Option NamespaceEntry). (e : NamespaceEntry) → o ≡ Some e → P e) os → AllByRecursion P (put_all os)
unfolding put_all
put_all_each P [] all = tt
put_all_each P (None ∷ os) (one, rest) = put_all_each P os rest
put_all_each P (Some e ∷ os) (one, rest) = put_each P e (put_all os) (one e refl) (put_all_each P os rest)

entries_named : (sets : List (List Mapping)) (labels : List Placed) → AllByRecursion (λ p. HasNoZero p.label.name) labels → AllByRecursion IsNamed (entries_of sets labels)
entries_named sets labels all =
    put_all_each IsNamed (map (λ p. entry_at sets labels (uuid_of p)) labels)
    (all_map (λ (o : Option NamespaceEntry). (e : NamespaceEntry) → o ≡ Some e → IsNamed e) (λ p. entry_at sets labels (uuid_of p)) labels
    (all_pass_to (λ (p : Placed). Unit {0}) (λ (p : Placed). (e : NamespaceEntry) → entry_at sets labels (uuid_of p) ≡ Some e → IsNamed e)
    (λ p ok e is. at_named sets (labels_with (uuid_of p) labels) e
    (all_pass_to (λ q. HasNoZero q.label.name × (bytes_eq (uuid_of q) (uuid_of p) ≡ true)) (λ q. HasNoZero q.label.name) (λ q h. h.0) (labels_with (uuid_of p) labels)
    (filtered (λ q. HasNoZero q.label.name) (λ q. bytes_eq (uuid_of q) (uuid_of p)) labels all)) is)
    labels (any labels)))

sound_each : (areas : List (Option SeenArea)) (e : NamespaceEntry) → AllByRecursion (λ p. IsSound p.label) (placed_in_all areas) → IsNamed e → AllByRecursion PutsSound (settling_changes areas e)
sound_each areas e sound named = by e.status refl
  where
    become : Label → Option Label
    become l = Some (with_name e.name (updated l))

    IsGood : ℕ × Label → Type 0
    IsGood q = IsSound q.1

    by : (s : SetStatus) → e.status ≡ s → AllByRecursion PutsSound (cond (is_complete s) (map (change_to become) (filter (is_unsettled areas) (own_labels areas e.uuid))) [])
    by (Complete name pending) is =
        all_map PutsSound (change_to become) (filter (is_unsettled areas) (own_labels areas e.uuid))
        (all_pass_to (λ q. IsGood q × (is_unsettled areas q ≡ true)) (λ q. PutsSound (change_to become q))
        (λ q h l at. subst IsSound (same_Some (with_name e.name (updated q.1)) l at) (record { no_zero = named name pending is; sizes = h.0.sizes }))
        (filter (is_unsettled areas) (own_labels areas e.uuid))
        (filtered IsGood (is_unsettled areas) (own_labels areas e.uuid)
        (all_map IsGood (λ p. (p.«module», p.label)) (by_position (labels_with e.uuid (placed_in_all areas))) (own_each (λ p. IsSound p.label) (placed_in_all areas) e.uuid sound))))
    by Unfinished is = tt
    by Local is = tt
    by (Incomplete why) is = tt

pub settling_sound : (sets : List (List Mapping)) (areas : List Area) → AllByRecursion PutsSound (settling_round sets (areas_seen areas))
settling_sound sets areas =
    let labels : List Placed = placed_in_all (areas_seen areas) in
    let sound : AllByRecursion (λ p. IsSound p.label) labels = all_pass_to (IsPlaced (areas_seen areas)) (λ p. IsSound p.label) (λ p is. placed_sound areas p is) labels (placed_each (areas_seen areas)) in
    let named : AllByRecursion (λ p. HasNoZero p.label.name) labels = all_pass_to (λ p. IsSound p.label) (λ p. HasNoZero p.label.name) (λ p is. is.no_zero) labels sound in
    flat_all IsNamed PutsSound (settling_changes (areas_seen areas)) (λ e is. sound_each (areas_seen areas) e sound is) (entries_of sets labels) (entries_named sets labels named)

pub first_sound : (sets : List (List Mapping)) (areas : List Area) (uuid : List ℕ) → AllByRecursion PutsSound (first_round sets (areas_seen areas) uuid)
first_sound sets areas uuid = by (lookup uuid (entries_of sets labels)) refl
  where
    labels : List Placed
    labels = placed_in_all (areas_seen areas)

    sound : AllByRecursion (λ p. IsSound p.label) labels
    sound = all_pass_to (IsPlaced (areas_seen areas)) (λ p. IsSound p.label) (λ p is. placed_sound areas p is) labels (placed_each (areas_seen areas))

    own_named : AllByRecursion (λ q. HasNoZero q.label.name) (labels_with uuid labels)
    own_named =
        all_pass_to (λ q. IsSound q.label × (bytes_eq (uuid_of q) uuid ≡ true)) (λ q. HasNoZero q.label.name) (λ q h. h.0.no_zero) (labels_with uuid labels)
        (filtered (λ q. IsSound q.label) (λ q. bytes_eq (uuid_of q) uuid) labels sound)

    by : (o : Option NamespaceEntry) → lookup uuid (entries_of sets labels) ≡ o → AllByRecursion PutsSound (settled_first (areas_seen areas) o)
    by None is = tt
    by (Some e) is = elim (cases_Bool (is_pending e.status && nat_le 2 (length e.parts))) [
      | inl it ↦ rw it (sound_each (areas_seen areas) e sound (at_named sets (labels_with uuid labels) e own_named (sym (lookup_entries sets labels uuid) ∙ is)))
      | inr not_it ↦ rw not_it tt
    ]
