-- A complete namespace that isn't pending: its labels, the rules and the areas.
use Rattle.std.proofs.Common.{◌≡◌, ℕ, zero, suc, ◌+◌, ◌%◌, ◌<◌, ◌≤◌, Bool, true, false, List, [], ◌∷◌, length, Option, Some, None, refl, sym, ap, ◌∙◌, subst, arith, inl, inr, ◌⊎◌}
use Rattle.std.specs.Prelude.{◌==◌, nat_lt, nat_le, map, find, slice_get}
use Rattle.std.specs.Option.{option_map}
use Rattle.std.specs.List.{AllByRecursion, Contains, list_any, enumerate_from, range_with_len}
use Rattle.std.proofs.lemmas.Bool.{cases_Bool, eq-eqb}
use Rattle.std.proofs.lemmas.Option.{none-some, same_Some}
use Rattle.std.proofs.Math.ListN.{length-map}
use Rattle.nfit_reader.specs.declared.table.Mapping.{Mapping}
use Rattle.label_codec.specs.declared.label.Label.{Label}
use Rattle.label_set.specs.declared.placed.Placed.{Placed}
use Rattle.label_set.specs.declared.placed.Why.TheVariants.{Outside}
use Rattle.label_set.specs.declared.placed.SetStatus.TheVariants.{Complete, Unfinished, Local, Incomplete}
use Rattle.label_set.specs.Rules.{is_local, is_updating, module_of, least_missing}
use Rattle.label_set.specs.Status.{status_of}
use Rattle.namespace_map.specs.Namespaces.{Part, NamespaceEntry, part_of, entry_with, region_of, holds_label, status_in, is_read_only, lookup}
use Rattle.namespace_map.proofs.Entries.{lookup_entries}
use Rattle.namespace_map.proofs.Rising.{all_pass_to}
use Rattle.namespace_map.specs.Areas.{Area}
use Rattle.namespace_map.specs.Commands.{entry_modules, short_of, area_of, renamed}
use Rattle.namespace_map.specs.Changes.{namespaces_of, placed_in_all, own_labels, by_position, by_position_with}
use Rattle.namespace_map.proofs.Areas.{Proper}
use Rattle.namespace_map.proofs.Labels.{placed_at}
use Rattle.namespace_map.specs.Left.{AreRegions, LabelsAreRead, IsPartOf, IsPending, Left}
use Rattle.namespace_laws.proofs.Whole.{AllLab, own_of, IsBy, slot_on, all_by, any_of, all_from_none}
use Rattle.namespace_laws.proofs.Agree.{own_by, placed_by}
use Rattle.namespace_laws.proofs.Apart.{on_module, own_apart}
use Rattle.namespace_laws.proofs.Staged.{Apart, names, IsGiven, all_map}
use Rattle.namespace_laws.proofs.Sound.{SoundAt, SoundIn}
use Rattle.namespace_laws.proofs.Statuses.{agreed_names}
use Rattle.namespace_laws.proofs.Table.{Model, SoundAs, like_self, changes_now, own_status}
use Rattle.namespace_laws.proofs.Delete.{Stands, IsComplete}
use Rattle.namespace_laws.proofs.Sets.{is_set, none_found}
use Rattle.namespace_laws.proofs.Regions.{in_region}
use Rattle.namespace_laws.proofs.Position.{by_position_all, by_position_any, by_position_apart, pair_of, pairs_apart, pairs_named}
use Rattle.namespace_laws.proofs.Complete.{Facts, facts, shared_of}
use Rattle.namespace_laws.proofs.Proper.{lab_of, proper_of, slots_of_lab, bytes_of_lab}
use Rattle.namespace_laws.proofs.Shaped.{base_parts, shaped, changing, IsLoose, entry_there, parts_among, parts_whole, all_there, lies_there, in_filter, in_range, covers, complete_misses}
use Rattle.namespace_laws.proofs.Backwards.{Quiet, naming_quiet, none_changing}
use Rattle.namespace_laws.proofs.Allowed.{unmap_all, all_both, not_short, free_there}

-- ---- lists

pub all_contained : {X : Type 0} (P : X → Type 0) (xs : List X) (x : X) → AllByRecursion P xs → Contains xs x → P x
all_contained P [] x all (k, below, is) = absurd (omega arith)
all_contained P (y ∷ ys) x (one, rest) (zero, below, is) = subst P is one
all_contained P (y ∷ ys) x (one, rest) (suc k, below, is) = all_contained P ys x rest (k, omega arith, is)

length_with : (xs : List Placed) (p : Placed) → length (by_position_with p xs) ≡ suc (length xs)
unfolding by_position_with
length_with [] p = refl
length_with (q ∷ qs) p = elim (cases_Bool (nat_le p.label.position q.label.position)) [ inl it ↦ rw it refl | inr not_it ↦ rw not_it (ap suc (length_with qs p)) ]

pub length_by_position : (xs : List Placed) → length (by_position xs) ≡ length xs
unfolding by_position
length_by_position [] = refl
length_by_position (x ∷ xs) = length_with (by_position xs) x ∙ ap suc (length_by_position xs)

found_place : (sets : List (List Mapping)) (test : List Mapping → Bool) (k : ℕ) (r : ℕ × List Mapping) → find (λ r. test r.1) (enumerate_from k sets) ≡ Some r → (j : ℕ) × (r.0 ≡ k + j) × (slice_get sets j ≡ Some r.1)
found_place [] test k r e = absurd (none-some r e)
found_place (s ∷ sets) test k r e = by (cases_Bool (test s)) (found_place sets test (k + 1) r)
  where
    by : (test s ≡ true) ⊎ (test s ≡ false) → (find (λ r. test r.1) (enumerate_from (k + 1) sets) ≡ Some r → (j : ℕ) × (r.0 ≡ k + 1 + j) × (slice_get sets j ≡ Some r.1))
        → (j : ℕ) × (r.0 ≡ k + j) × (slice_get (s ∷ sets) j ≡ Some r.1)
    by (inl it) later =
        let same : (k, s) ≡ r = same_Some (k, s) r (rw it at e) in
        (0, ap (λ (x : ℕ × List Mapping). x.0) (sym same) ∙ omega arith, ap (λ (x : ℕ × List Mapping). Some x.1) same)
    by (inr not_it) later = let h = later (rw not_it at e) in (suc h.0, (let a = h.1 in omega arith), h.2)

-- ---- the labels of a complete entry

pub record Found (sets : List (List Mapping)) (own : List Placed) (e : NamespaceEntry) (pending : Bool) : Type 0 where
  pub first : Placed
  pub rest : List Placed
  pub own_is : own ≡ first ∷ rest
  pub entry_is : entry_with sets own first ≡ e
  pub region : ℕ
  pub set : List Mapping
  pub at : slice_get sets region ≡ Some set
  pub complete : status_of set own ≡ Complete e.name pending

pub found_by : (sets : List (List Mapping)) (own : List Placed) (e : NamespaceEntry) (pending : Bool) → option_map (entry_with sets own) (slice_get own 0) ≡ Some e → e.status ≡ Complete e.name pending → Found sets own e pending
found_by sets own e pending is status = by own refl
  where
    region_by : (first : Placed) (rest : List Placed) → own ≡ first ∷ rest → entry_with sets own first ≡ e → (o : Option (ℕ × List Mapping)) → region_of sets first ≡ o
        → status_in o own first ≡ Complete e.name pending → Found sets own e pending
    region_by first rest own_is entry_is None r e' = elim (cases_Bool (list_any is_local own)) [
      | inl it ↦ absurd (let g : Local ≡ Complete e.name pending = rw it at e' in cc)
      | inr not_it ↦ absurd (let g : Incomplete (Outside first.«module») ≡ Complete e.name pending = rw not_it at e' in cc)
    ]
    region_by first rest own_is entry_is (Some r) found e' =
        let place = found_place sets (holds_label first) 0 r found in
        record { first = first; rest = rest; own_is = own_is; entry_is = entry_is; region = place.0; set = r.1; at = place.2; complete = e' }

    by : (xs : List Placed) → own ≡ xs → Found sets own e pending
    by [] nothing = absurd (none-some e (sym (ap (λ (xs : List Placed). option_map (entry_with sets own) (slice_get xs 0)) nothing) ∙ is))
    by (first ∷ rest) own_is =
        let same : entry_with sets own first ≡ e = same_Some (entry_with sets own first) e (sym (ap (λ (xs : List Placed). option_map (entry_with sets own) (slice_get xs 0)) own_is) ∙ is) in
        region_by first rest own_is same (region_of sets first) refl (ap (λ (x : NamespaceEntry). x.status) same ∙ status)

module _ (sets : List (List Mapping)) (areas : List (Option Area)) (uuid : List ℕ) (e : NamespaceEntry) (pending : Bool) (regions : AreRegions sets) (read : LabelsAreRead areas)
    (is : lookup uuid (namespaces_of sets areas).entries ≡ Some e) (status : e.status ≡ Complete e.name pending) (unlocked : e.read_only ≡ None) where
  abbrev own : List Placed
  own = own_of uuid areas

  pub standing : Found sets own e pending
  standing = found_by sets own e pending (sym (lookup_entries sets (placed_in_all areas) uuid) ∙ is) status

  abbrev pub set : List Mapping
  set = standing.set

  abbrev pub lab : ℕ → Option Label
  lab = lab_of uuid areas

  abbrev pub model : Model
  model = record { shared = shared_of set standing.first; base = lab }

  pub rules : Facts set standing.first own e.name pending
  rules =
      subst (λ (xs : List Placed). Facts set standing.first xs e.name pending) (sym standing.own_is)
      (facts set standing.first standing.rest e.name pending (subst (λ (xs : List Placed). status_of set xs ≡ Complete e.name pending) standing.own_is standing.complete))

  pub proper : Proper uuid lab areas
  proper = proper_of uuid areas read rules.once

  -- a property of each label in the list holds of the label on each module
  each_lab : (Q : ℕ → Label → Type 0) → AllByRecursion (λ p. Q p.«module» p.label) own → AllLab Q lab
  each_lab Q all m l here =
      subst (λ (x : Label). Q m x) (sym (slots_of_lab uuid areas read rules.once m l here))
      (all_contained (λ p. Q p.«module» p.label) own (placed_at m (slot_on uuid areas m) (record l { slot = slot_on uuid areas m })) all
      (subst (λ (xs : List Placed). Contains xs (placed_at m (slot_on uuid areas m) (record l { slot = slot_on uuid areas m }))) (sym (own_by uuid lab areas proper))
      (in_filter (placed_by lab (slot_on uuid areas)) (range_with_len 0 (length areas)) m _
      (subst (Contains (range_with_len 0 (length areas))) (zero_more m) (in_range (length areas) 0 m (lies_there uuid lab areas proper m l here)))
      (ap (option_map (λ k. placed_at m (slot_on uuid areas m) (record k { slot = slot_on uuid areas m }))) here))))
    where
      zero_more : (m : ℕ) → 0 + m ≡ m
      zero_more m = omega arith

  pub sound : AllLab (SoundAt set model.shared) lab
  sound = each_lab (SoundAt set model.shared) rules.sound

  pub sound_as : AllLab (SoundAs set model) lab
  sound_as m l here = record { sound = sound m l here; meant = l; is_meant = here; like = like_self l }

  quiet : pending ≡ false → Quiet own e.name
  quiet calm = naming_quiet own e.name (rules.named ∙ ap (λ (b : Bool). Complete e.name b) calm)

  some : list_any (λ (p : Placed). true) own ≡ true
  some = ap (list_any (λ (p : Placed). true)) standing.own_is

  pub stands : Stands uuid set model (Complete e.name pending) areas
  stands = record { lab = lab; proper = proper; sound = sound_as; has_status = standing.complete; some = some }

  abbrev pub ps : List (ℕ × Label)
  ps = own_labels areas uuid

  pub only : (m : ℕ) (l : Label) → lab m ≡ Some l → names ps m ≡ true
  only m l here =
      pairs_named (by_position own) m (by_position_any (on_module m) own (any_of uuid lab areas m l (on_module m) proper (lies_there uuid lab areas proper m l here) here (λ s. eq-eqb m m refl)))

  pub labels : AllByRecursion (λ p. lab p.0 ≡ Some p.1) ps
  labels =
      all_map (λ p. lab p.0 ≡ Some p.1) pair_of (by_position own)
      (by_position_all (λ (p : Placed). lab p.«module» ≡ Some p.label) own
      (all_pass_to (IsBy lab (slot_on uuid areas)) (λ (p : Placed). lab p.«module» ≡ Some p.label)
      (λ p by. by.is_given ∙ ap Some (slots_of_lab uuid areas read rules.once p.«module» by.given by.is_given ∙ sym by.label_is)) own (all_by uuid lab areas proper)))

  none_missing : least_missing own set ≡ None
  none_missing = complete_misses set own (least_missing own set) e.name pending refl (sym (own_status uuid set model rules.whole lab areas proper sound_as) ∙ standing.complete)

  pub set_covered : AllByRecursion (λ (m : Mapping). names ps m.«module» ≡ true) set
  set_covered =
      all_pass_to (λ (m : Mapping). list_any (on_module m.«module») own ≡ true) (λ (m : Mapping). names ps m.«module» ≡ true)
      (λ m h. pairs_named (by_position own) m.«module» (by_position_any (on_module m.«module») own h)) set (covers set own none_missing)

  pub is_complete : pending ≡ false → IsComplete uuid set model e.name lab ps
  is_complete calm = record {
    sound = sound_as;
    named = each_lab (λ m l. l.name ≡ e.name) (agreed_names own e.name (quiet calm).agreed);
    quiet = each_lab (λ m l. changes_now l ≡ false) (all_from_none is_updating own (quiet calm).quiet);
    only = only;
    labels = labels;
    covers = set_covered;
  }

  pub apart : Apart ps
  apart = pairs_apart (by_position own) (by_position_apart own (own_apart uuid lab areas proper))

  -- its parts are those of its labels
  pub parts_are : e.parts ≡ map part_of own
  parts_are = ap (λ (x : NamespaceEntry). x.parts) (sym standing.entry_is)

  pub count_is : length ps ≡ length e.parts
  count_is = length-map (by_position own) pair_of ∙ length_by_position own ∙ sym (length-map own part_of) ∙ ap (λ (xs : List Part). length xs) (sym parts_are)

  -- there is one
  pub some_own : 1 ≤ length e.parts
  some_own = let a = ap (λ (xs : List Part). length xs) parts_are in let b = length-map own part_of in let c = ap (λ (xs : List Placed). length xs) standing.own_is in omega (arith, a, b, c)

  pub modules_are : entry_modules e ≡ map (λ (p : Placed). p.«module») own
  modules_are = ap (map (λ (p : Part). p.extent.«module»)) parts_are ∙ twice own
    where
      twice : (xs : List Placed) → map (λ (p : Part). p.extent.«module») (map part_of xs) ≡ map (λ (p : Placed). p.«module») xs
      twice [] = refl
      twice (x ∷ xs) = ap (λ (ys : List ℕ). x.«module» ∷ ys) (twice xs)

  -- with a free slot on each module there is room for any change
  pub given : short_of (namespaces_of sets areas) 1 (entry_modules e) ≡ None → AllByRecursion (IsGiven uuid lab areas) ps
  given room =
      all_map (IsGiven uuid lab areas) pair_of (by_position own)
      (by_position_all (λ (p : Placed). IsGiven uuid lab areas (pair_of p)) own
      (all_pass_to (λ (p : Placed). (nat_lt (area_of (namespaces_of sets areas) p.«module»).free 1 ≡ false) × IsBy lab (slot_on uuid areas) p) (λ (p : Placed). IsGiven uuid lab areas (pair_of p))
      (λ p both. let here = both.1.is_given ∙ ap Some (slots_of_lab uuid areas read rules.once p.«module» both.1.given both.1.is_given ∙ sym both.1.label_is) in
      let f = free_there sets areas p.«module» 1 (omega arith) both.0 in
      (proper.named p.«module» p.label here, record { there = f.0; room = rw here (omega (arith, f.1)) })) own
      (all_both (λ (p : Placed). nat_lt (area_of (namespaces_of sets areas) p.«module»).free 1 ≡ false) (IsBy lab (slot_on uuid areas)) own free_own (all_by uuid lab areas proper))))
    where
      free_own : AllByRecursion (λ (p : Placed). nat_lt (area_of (namespaces_of sets areas) p.«module»).free 1 ≡ false) own
      free_own =
          unmap_all (λ m. nat_lt (area_of (namespaces_of sets areas) m).free 1 ≡ false) (λ (p : Placed). p.«module») own
          (subst (AllByRecursion (λ m. nat_lt (area_of (namespaces_of sets areas) m).free 1 ≡ false)) modules_are (not_short (namespaces_of sets areas) 1 (entry_modules e) room))

  -- ---- its entry

  pub loose : IsLoose lab
  loose = each_lab (λ m l. (l.flags % 2 == 1) ≡ false) (none_found is_read_only own (by (find is_read_only own) (ap (λ (x : NamespaceEntry). x.read_only) standing.entry_is ∙ unlocked)))
    where
      by : (o : Option Placed) → option_map module_of o ≡ None → o ≡ None
      by None e' = refl
      by (Some p) e' = absurd (none-some p.«module» (sym e'))

  some_bytes : 0 < model.shared.raw
  some_bytes = by (subst (AllByRecursion (IsBy lab (slot_on uuid areas))) standing.own_is (all_by uuid lab areas proper))
    where
      by : AllByRecursion (IsBy lab (slot_on uuid areas)) (standing.first ∷ standing.rest) → 0 < standing.first.label.raw
      by (one, rest) = subst (λ (l : Label). 0 < l.raw) (sym one.label_is) (bytes_of_lab uuid areas read rules.once standing.first.«module» one.given one.is_given)

  pub region_is : (p : Placed) → SoundIn set model.shared p → region_of sets p ≡ Some (standing.region, set)
  region_is = in_region sets standing.region set model.shared regions.apart (λ j s at. let r = regions.read j s at in is_set r.0 s r.2 r.1) standing.at some_bytes

  -- the shape of the entry that its labels make
  pub entry_shaped : shaped uuid standing.region model.shared e.name (base_parts lab (length areas)) (Complete e.name pending) (changing own) ≡ e
  unfolding stands
  entry_shaped = by (entry_there sets set standing.region uuid model region_is loose (Complete e.name pending) areas stands)
    where
      parts : map part_of own ≡ base_parts lab (length areas)
      parts = parts_whole sets set standing.region uuid model region_is loose (Complete e.name pending) areas stands (length areas) refl (λ m l here. (l, here))

      by : (p : Placed) × (lookup uuid (namespaces_of sets areas).entries ≡ Some (shaped uuid standing.region model.shared e.name (map part_of own) (Complete e.name pending) (changing own)))
          → shaped uuid standing.region model.shared e.name (base_parts lab (length areas)) (Complete e.name pending) (changing own) ≡ e
      by (p, found) =
          sym (rw parts refl)
          ∙ same_Some (shaped uuid standing.region model.shared e.name (map part_of own) (Complete e.name pending) (changing own)) e (sym found ∙ is)

  -- ---- the entry of each state

  module _ (left : List (Option Area)) (same : length left ≡ length areas) where
    pub part_left : Stands uuid set model Unfinished left → Left (IsPartOf e) (lookup uuid (namespaces_of sets left).entries)
    part_left s = by (entry_there sets set standing.region uuid model region_is loose Unfinished left s)
      where
        by : (p : Placed) × (lookup uuid (namespaces_of sets left).entries ≡ Some (shaped uuid standing.region model.shared p.label.name (map part_of (own_of uuid left)) Unfinished (changing (own_of uuid left))))
            → Left (IsPartOf e) (lookup uuid (namespaces_of sets left).entries)
        by (p, found) = (
          _,
          found,
          subst (λ (x : NamespaceEntry). IsPartOf x (shaped uuid standing.region model.shared p.label.name (map part_of (own_of uuid left)) Unfinished (changing (own_of uuid left)))) entry_shaped (record {
            unfinished = refl;
            uuid = refl;
            region = refl;
            mode = refl;
            lba = refl;
            parts = parts_among sets set standing.region uuid model region_is loose Unfinished left s (length areas) same;
          }),
        )

    pub whole_is : (name : List ℕ) (pending : Bool) → Stands uuid set model (Complete name pending) left
        → lookup uuid (namespaces_of sets left).entries ≡ Some (record e { name = name; status = Complete name pending; updating = changing (own_of uuid left) })
    whole_is name pending s = by (entry_there sets set standing.region uuid model region_is loose (Complete name pending) left s)
      where
        parts : map part_of (own_of uuid left) ≡ base_parts lab (length areas)
        parts =
            parts_whole sets set standing.region uuid model region_is loose (Complete name pending) left s (length areas) same (all_there set uuid model rules.whole sound name pending left s)

        by : (p : Placed) × (lookup uuid (namespaces_of sets left).entries ≡ Some (shaped uuid standing.region model.shared name (map part_of (own_of uuid left)) (Complete name pending) (changing (own_of uuid left))))
            → lookup uuid (namespaces_of sets left).entries ≡ Some (record e { name = name; status = Complete name pending; updating = changing (own_of uuid left) })
        by (p, found) =
            found
            ∙ ap (λ (xs : List Part). Some (shaped uuid standing.region model.shared name xs (Complete name pending) (changing (own_of uuid left)))) parts
            ∙ ap (λ (x : NamespaceEntry). Some (record x { name = name; status = Complete name pending; updating = changing (own_of uuid left) })) entry_shaped

    pub pending_left : (name : List ℕ) → Stands uuid set model (Complete name true) left → Left (IsPending name e) (lookup uuid (namespaces_of sets left).entries)
    pending_left name s = (_, whole_is name true s, refl)

    pub settled_left : (name : List ℕ) → Stands uuid set model (Complete name false) left → lookup uuid (namespaces_of sets left).entries ≡ Some (renamed e name)
    settled_left name s =
        whole_is name false s ∙ ap (λ (u : List ℕ). Some (record e { name = name; status = Complete name false; updating = u })) (none_changing set uuid model rules.whole name left s)
