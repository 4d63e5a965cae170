-- One complete entry, settled.
use Rattle.std.proofs.Common.{◌≡◌, ℕ, ◌<◌, ◌≤◌, Bool, true, false, cond, List, [], ◌∷◌, length, Option, Some, None, refl, sym, ap, ◌∙◌, subst, arith, inl, inr}
use Rattle.std.specs.Prelude.{◌==◌, ◌&&◌, map, filter, find, slice_get}
use Rattle.std.specs.Option.{option_map}
use Rattle.std.specs.List.{AllByRecursion, list_any, filter_map, range_with_len}
use Rattle.std.proofs.lemmas.Bool.{cases_Bool, false≢true, ne_eqb}
use Rattle.std.proofs.lemmas.Option.{same_Some}
use Rattle.nfit_reader.specs.declared.table.Mapping.{Mapping}
use Rattle.label_codec.specs.declared.label.Label.{Label}
use Rattle.label_codec.specs.Mode.{mode_of}
use Rattle.label_set.specs.declared.placed.Placed.{Placed}
use Rattle.label_set.specs.declared.placed.SetStatus.{SetStatus}
use Rattle.label_set.specs.declared.placed.SetStatus.TheVariants.{Complete}
use Rattle.label_set.specs.Rules.{module_of, is_updating, least_missing}
use Rattle.label_set.specs.Status.{status_of}
use Rattle.namespace_map.specs.Namespaces.{Namespaces, NamespaceEntry, Part, part_of, entry_with, region_of, is_read_only}
use Rattle.namespace_map.proofs.Entries.{lookup_entries}
use Rattle.namespace_map.proofs.Rising.{all_pass_to}
use Rattle.namespace_map.specs.Areas.{Area, Change, slots_on, free_in, all_changed}
use Rattle.namespace_map.specs.Commands.{area_of, settled_entry}
use Rattle.namespace_map.specs.Changes.{placed_in_all, is_unsettled}
use Rattle.namespace_map.specs.CommandLaws.{IsOf}
use Rattle.namespace_map.proofs.Areas.{Proper}
use Rattle.namespace_map.proofs.Labels.{placed_at}
use Rattle.namespace_map.specs.Left.{AreRegions, LabelsAreRead}
use Rattle.namespace_laws.proofs.Whole.{AllLab, own_of, IsBy, slot_on, all_by, any_of, any_none, own_each}
use Rattle.namespace_laws.proofs.Agree.{own_by, placed_by, map_filter_map}
use Rattle.namespace_laws.proofs.Apart.{on_module}
use Rattle.namespace_laws.proofs.Two.{length_kept}
use Rattle.namespace_laws.proofs.Sound.{Shared, SoundAt, SoundIn}
use Rattle.namespace_laws.proofs.Table.{Model, SoundAs, IsLike, like_self, like_slot, at_like, own_status, own_counted}
use Rattle.namespace_laws.proofs.Sets.{is_set}
use Rattle.namespace_laws.proofs.Regions.{in_region}
use Rattle.namespace_laws.proofs.Complete.{Facts, facts, shared_of}
use Rattle.namespace_laws.proofs.Proper.{bytes_of_lab}
use Rattle.namespace_laws.proofs.Shaped.{part_at, part_like, first_of, lies_there, covers, complete_misses}
use Rattle.namespace_laws.proofs.Standing.{Found, found_by}
use Rattle.namespace_laws.proofs.GoneLists.{PutsBytes}
use Rattle.namespace_laws.proofs.OwnLabels as mine
use Rattle.namespace_laws.proofs.Settle as settle
use Rattle.namespace_laws.proofs.Settle.{upd, locked, updating_by, locked_by, find_same, filter_both}
use Rattle.namespace_laws.proofs.Gone.{found}

module _ (sets : List (List Mapping)) (areas : List (Option Area)) (uuid : List ℕ) (e : NamespaceEntry) (pending : Bool) (regions : AreRegions sets) (read : LabelsAreRead areas)
    (is : found sets areas uuid ≡ Some e) (status : e.status ≡ Complete e.name pending)
    -- which of the unsettled labels are settled
    (t : ℕ × Label → Bool) (may : (p : ℕ × Label) → t p ≡ true → is_unsettled areas p ≡ true) where
  abbrev own : List Placed
  own = own_of uuid areas

  pub standing : Found sets own e pending
  standing = found_by sets own e pending (sym (lookup_entries sets (placed_in_all areas) uuid) ∙ is) status

  abbrev set : List Mapping
  set = standing.set

  abbrev c : Shared
  c = shared_of set standing.first

  pub rules : Facts set standing.first own e.name pending
  rules =
      subst (λ (xs : List Placed). Facts set standing.first xs e.name pending) (sym standing.own_is)
      (facts set standing.first standing.rest e.name pending (subst (λ (xs : List Placed). status_of set xs ≡ Complete e.name pending) standing.own_is standing.complete))

  abbrev lab : ℕ → Option Label
  lab = mine.lab uuid areas read rules.once

  pub proper : Proper uuid lab areas
  proper = mine.proper uuid areas read rules.once

  each_lab : (Q : ℕ → Label → Type 0) → AllByRecursion (λ p. Q p.«module» p.label) own → AllLab Q lab
  each_lab = mine.each_lab uuid areas read rules.once

  sound : AllLab (SoundAt set c) lab
  sound = each_lab (SoundAt set c) rules.sound

  abbrev model : Model
  model = record { shared = c; base = lab }

  sound_as : AllLab (SoundAs set model) lab
  sound_as m l here = record { sound = sound m l here; meant = l; is_meant = here; like = like_self l }

  some_bytes : 0 < c.raw
  some_bytes = by (subst (AllByRecursion (IsBy lab (slot_on uuid areas))) standing.own_is (all_by uuid lab areas proper))
    where
      by : AllByRecursion (IsBy lab (slot_on uuid areas)) (standing.first ∷ standing.rest) → 0 < standing.first.label.raw
      by (one, rest) = subst (λ (l : Label). 0 < l.raw) (sym one.label_is) (bytes_of_lab uuid areas read rules.once standing.first.«module» one.given one.is_given)

  region_is : (p : Placed) → SoundIn set c p → region_of sets p ≡ Some (standing.region, set)
  region_is = in_region sets standing.region set c regions.apart (λ j s at. let r = regions.read j s at in is_set r.0 s r.2 r.1) standing.at some_bytes

  -- ---- after

  abbrev pub cs : List Change
  cs = settle.cs uuid e.name areas lab proper (mine.labels uuid areas read rules.once) (mine.only uuid areas read rules.once) t may

  abbrev left : List (Option Area)
  left = all_changed areas cs

  abbrev lab_then : ℕ → Option Label
  lab_then = settle.lab_then uuid e.name areas lab proper (mine.labels uuid areas read rules.once) (mine.only uuid areas read rules.once) t may

  proper_then : Proper uuid lab_then left
  proper_then = settle.proper_then uuid e.name areas lab proper (mine.labels uuid areas read rules.once) (mine.only uuid areas read rules.once) t may

  like_lab : (m : ℕ) (k : Label) → lab_then m ≡ Some k → (l : Label) × (lab m ≡ Some l) × IsLike l k
  like_lab = settle.like_lab uuid e.name areas lab proper (mine.labels uuid areas read rules.once) (mine.only uuid areas read rules.once) t may

  lab_is : (m : ℕ) → lab_then m ≡ option_map (settle.step_of uuid e.name areas lab proper (mine.labels uuid areas read rules.once) (mine.only uuid areas read rules.once) t may m) (lab m)
  lab_is = settle.lab_is uuid e.name areas lab proper (mine.labels uuid areas read rules.once) (mine.only uuid areas read rules.once) t may

  sound_then : AllLab (SoundAs set model) lab_then
  sound_then m k at = let f = like_lab m k at in record { sound = at_like set c m f.0 k (sound m f.0 f.1) f.2; meant = f.0; is_meant = f.1; like = f.2 }

  same_count : length left ≡ length areas
  same_count = length_kept cs areas

  has_then : (m : ℕ) (l : Label) → lab m ≡ Some l → (k : Label) × (lab_then m ≡ Some k)
  has_then m l at = (_, lab_is m ∙ ap (option_map (settle.step_of uuid e.name areas lab proper (mine.labels uuid areas read rules.once) (mine.only uuid areas read rules.once) t may m)) at)

  some_then : list_any (λ (p : Placed). true) (own_of uuid left) ≡ true
  some_then = by (subst (AllByRecursion (IsBy lab (slot_on uuid areas))) standing.own_is (all_by uuid lab areas proper))
    where
      by : AllByRecursion (IsBy lab (slot_on uuid areas)) (standing.first ∷ standing.rest) → list_any (λ (p : Placed). true) (own_of uuid left) ≡ true
      by (one, rest) =
          let h = has_then standing.first.«module» one.given one.is_given in
          any_of uuid lab_then left standing.first.«module» h.0 (λ p. true) proper_then (lies_there uuid lab_then left proper_then standing.first.«module» h.0 h.1) h.1 (λ s. refl)

  none_missing : least_missing own set ≡ None
  none_missing = complete_misses set own (least_missing own set) e.name pending refl (sym (own_status uuid set model rules.whole lab areas proper sound_as) ∙ standing.complete)

  status_then : status_of set (own_of uuid left) ≡ Complete e.name (list_any is_updating (own_of uuid left))
  status_then =
      own_counted uuid set model rules.whole lab_then left proper_then sound_then
      (all_pass_to (λ (m : Mapping). list_any (on_module m.«module») own ≡ true) (λ (m : Mapping). (m.«module» < length left) × ((l : Label) × (lab_then m.«module» ≡ Some l)))
      (λ m stands. by m (lab m.«module») refl stands) set (covers set own none_missing))
      ∙ settle.naming_then uuid e.name areas lab proper (mine.labels uuid areas read rules.once) (mine.only uuid areas read rules.once) t may each_lab pending rules.named some_then
    where
      by : (m : Mapping) (o : Option Label) → lab m.«module» ≡ o → list_any (on_module m.«module») own ≡ true → (m.«module» < length left) × ((l : Label) × (lab_then m.«module» ≡ Some l))
      by m None at stands = absurd (false≢true (sym (any_none uuid lab areas m.«module» proper at) ∙ stands))
      by m (Some l) at stands = let h = has_then m.«module» l at in (lies_there uuid lab_then left proper_then m.«module» h.0 h.1, h)

  -- ---- the entry

  parts_same : map part_of (own_of uuid left) ≡ map part_of own
  parts_same =
      ap (map part_of) (own_by uuid lab_then left proper_then)
      ∙ map_filter_map part_of (placed_by lab_then (slot_on uuid left)) (λ m. option_map (part_at m) (lab m)) (λ m. each m (lab m) refl) (range_with_len 0 (length left))
      ∙ ap (λ (n : ℕ). filter_map (λ m. option_map (part_at m) (lab m)) (range_with_len 0 n)) same_count
      ∙ sym (ap (map part_of) (own_by uuid lab areas proper)
      ∙ map_filter_map part_of (placed_by lab (slot_on uuid areas)) (λ m. option_map (part_at m) (lab m)) (λ m. before m (lab m)) (range_with_len 0 (length areas)))
    where
      each : (m : ℕ) (o : Option Label) → lab m ≡ o → option_map part_of (placed_by lab_then (slot_on uuid left) m) ≡ option_map (part_at m) (lab m)
      each m None at =
          let none : lab_then m ≡ None = lab_is m ∙ ap (option_map (settle.step_of uuid e.name areas lab proper (mine.labels uuid areas read rules.once) (mine.only uuid areas read rules.once) t may m)) at in
          ap (λ (o : Option Label). option_map part_of (option_map (λ l. placed_at m (slot_on uuid left m) (record l { slot = slot_on uuid left m })) o)) none ∙ sym (ap (option_map (part_at m)) at)
      each m (Some l) at =
          let h = has_then m l at in let f = like_lab m h.0 h.1 in
          let same : f.0 ≡ l = same_Some f.0 l (sym f.1 ∙ at) in
          ap (λ (o : Option Label). option_map part_of (option_map (λ l. placed_at m (slot_on uuid left m) (record l { slot = slot_on uuid left m })) o)) h.1
          ∙ ap Some (part_like m l h.0 (subst (λ (x : Label). IsLike x h.0) same f.2))
          ∙ sym (ap (option_map (part_at m)) at)

      before : (m : ℕ) (o : Option Label) → option_map part_of (option_map (λ l. placed_at m (slot_on uuid areas m) (record l { slot = slot_on uuid areas m })) o) ≡ option_map (part_at m) o
      before m None = refl
      before m (Some l) = refl

  updating_before : map module_of (filter is_updating own) ≡ filter (λ m. upd (lab m)) (range_with_len 0 (length areas))
  updating_before = ap (λ (xs : List Placed). map module_of (filter is_updating xs)) (own_by uuid lab areas proper) ∙ updating_by lab (slot_on uuid areas) (range_with_len 0 (length areas))

  updating_then : map module_of (filter is_updating (own_of uuid left)) ≡ filter (λ m. upd (lab_then m)) (range_with_len 0 (length areas))
  updating_then =
      ap (λ (xs : List Placed). map module_of (filter is_updating xs)) (own_by uuid lab_then left proper_then)
      ∙ updating_by lab_then (slot_on uuid left) (range_with_len 0 (length left))
      ∙ ap (λ (n : ℕ). filter (λ m. upd (lab_then m)) (range_with_len 0 n)) same_count

  locked_same : option_map module_of (find is_read_only (own_of uuid left)) ≡ option_map module_of (find is_read_only own)
  locked_same =
      ap (λ (xs : List Placed). option_map module_of (find is_read_only xs)) (own_by uuid lab_then left proper_then)
      ∙ locked_by lab_then (slot_on uuid left) (range_with_len 0 (length left))
      ∙ ap (λ (n : ℕ). find (λ m. locked (lab_then m)) (range_with_len 0 n)) same_count
      ∙ find_same (λ m. locked (lab_then m)) (λ m. locked (lab m)) (settle.locked_then uuid e.name areas lab proper (mine.labels uuid areas read rules.once) (mine.only uuid areas read rules.once) t may) (range_with_len 0 (length areas))
      ∙ sym (ap (λ (xs : List Placed). option_map module_of (find is_read_only xs)) (own_by uuid lab areas proper) ∙ locked_by lab (slot_on uuid areas) (range_with_len 0 (length areas)))

  some_of : (xs : List Placed) → list_any (λ (m : ℕ). true) (map module_of (filter is_updating xs)) ≡ list_any is_updating xs
  some_of [] = refl
  some_of (x ∷ xs) = elim (cases_Bool (is_updating x)) [ inl it ↦ rw it refl | inr not_it ↦ rw not_it (some_of xs) ]

  abbrev shape : List Part → SetStatus → List ℕ → Option ℕ → NamespaceEntry
  shape parts st updating read_only = record {
    uuid = uuid;
    name = e.name;
    region = Some standing.region;
    mode = mode_of c.kind c.abstraction;
    lba = c.lba;
    parts = parts;
    status = st;
    updating = updating;
    read_only = read_only;
  }

  abbrev IsGood : Placed → Type 0
  IsGood p = SoundIn set c p × (p.label.uuid ≡ uuid)

  entry_of : (xs : List Placed) (b : Bool) (p : Placed) → IsGood p → status_of set xs ≡ Complete e.name b
      → entry_with sets xs p ≡ shape (map part_of xs) (Complete e.name b) (map module_of (filter is_updating xs)) (option_map module_of (find is_read_only xs))
  entry_of xs b p (sound, of) st = rw (region_is p sound, st, sound.kind, sound.abstraction, sound.lba, of) refl

  good : AllByRecursion IsGood own
  good = own_each uuid lab areas proper (λ m l. SoundAt set c m l × (l.uuid ≡ uuid)) (λ m l at n. (at_like set c m l (record l { slot = n }) (sound m l at) (like_slot l n), proper.named m l at))

  good_then : AllByRecursion IsGood (own_of uuid left)
  good_then = own_each uuid lab_then left proper_then (λ m l. SoundAt set c m l × (l.uuid ≡ uuid)) (λ m l at n. (at_like set c m l (record l { slot = n }) (sound_then m l at).sound (like_slot l n), proper_then.named m l at))

  shape_before : shape (map part_of own) (Complete e.name pending) (map module_of (filter is_updating own)) (option_map module_of (find is_read_only own)) ≡ e
  shape_before =
      sym (entry_of own pending standing.first (subst (AllByRecursion IsGood) standing.own_is good).0 standing.complete) ∙ standing.entry_is

  updating_is : e.updating ≡ filter (λ m. upd (lab m)) (range_with_len 0 (length areas))
  updating_is = ap (λ (x : NamespaceEntry). x.updating) (sym shape_before) ∙ updating_before

  -- the modules whose label still has UPDATING
  abbrev pub still_updating : List ℕ
  still_updating = filter (λ m. upd (lab_then m)) (range_with_len 0 (length areas))

  -- the entry, with some of its labels settled
  abbrev pub entry_then : NamespaceEntry
  entry_then = record e { updating = still_updating; status = Complete e.name (list_any (λ (m : ℕ). true) still_updating) }

  pub found_then : found sets left uuid ≡ Some entry_then
  found_then = by (first_of IsGood (own_of uuid left) some_then good_then)
    where
      pending_is : list_any is_updating (own_of uuid left) ≡ list_any (λ (m : ℕ). true) still_updating
      pending_is = sym (some_of (own_of uuid left)) ∙ ap (list_any (λ (m : ℕ). true)) updating_then

      by : (p : Placed) × (slice_get (own_of uuid left) 0 ≡ Some p) × IsGood p → found sets left uuid ≡ Some entry_then
      by (p, first, is_good) =
          lookup_entries sets (placed_in_all left) uuid
          ∙ ap (option_map (entry_with sets (own_of uuid left))) first
          ∙ ap Some (entry_of (own_of uuid left) (list_any is_updating (own_of uuid left)) p is_good status_then
          ∙ ap (λ (xs : List Part). shape xs (Complete e.name (list_any is_updating (own_of uuid left))) (map module_of (filter is_updating (own_of uuid left))) (option_map module_of (find is_read_only (own_of uuid left)))) parts_same
          ∙ ap (λ (o : Option ℕ). shape (map part_of own) (Complete e.name (list_any is_updating (own_of uuid left))) (map module_of (filter is_updating (own_of uuid left))) o) locked_same
          ∙ ap (λ (b : Bool). shape (map part_of own) (Complete e.name b) (map module_of (filter is_updating (own_of uuid left))) (option_map module_of (find is_read_only own))) pending_is
          ∙ ap (λ (u : List ℕ). shape (map part_of own) (Complete e.name (list_any (λ (m : ℕ). true) still_updating)) u (option_map module_of (find is_read_only own))) updating_then
          ∙ ap (λ (x : NamespaceEntry). record x { updating = still_updating; status = Complete e.name (list_any (λ (m : ℕ). true) still_updating) }) shape_before)

  filter_same : (s u : ℕ → Bool) → ((m : ℕ) → s m ≡ u m) → (xs : List ℕ) → filter s xs ≡ filter u xs
  filter_same s u same [] = refl
  filter_same s u same (x ∷ xs) = ap (λ (b : Bool). cond b (x ∷ filter s xs) (filter s xs)) (same x) ∙ ap (λ (ys : List ℕ). cond (u x) (x ∷ ys) ys) (filter_same s u same xs)

  settles : (gone : Namespaces) (x : NamespaceEntry) (b : Bool) → x.status ≡ Complete e.name b → settled_entry gone x ≡ record x {
    updating = filter (λ m. (area_of gone m).free == 0) x.updating;
    status = Complete e.name (list_any (λ (m : ℕ). true) (filter (λ m. (area_of gone m).free == 0) x.updating));
  }
  settles gone x b at = rw at refl

  -- settled, where all unsettled labels are
  pub settled_found : ((p : ℕ × Label) → t p ≡ is_unsettled areas p) → (gone : Namespaces) → ((m : ℕ) → (area_of gone m).free ≡ free_in (slots_on areas m)) → found sets left uuid ≡ Some (settled_entry gone e)
  settled_found all gone frees =
      found_then
      ∙ ap (λ (u : List ℕ). Some (record e { updating = u; status = Complete e.name (list_any (λ (m : ℕ). true) u) })) kept
      ∙ ap Some (sym (settles gone e pending status))
    where
      kept : still_updating ≡ filter (λ m. (area_of gone m).free == 0) e.updating
      kept =
          sym (filter_both (λ m. free_in (slots_on areas m) == 0) (λ m. upd (lab m)) (λ m. upd (lab_then m))
          (settle.upd_whole uuid e.name areas lab proper (mine.labels uuid areas read rules.once) (mine.only uuid areas read rules.once) t may all) (range_with_len 0 (length areas)))
          ∙ filter_same (λ m. free_in (slots_on areas m) == 0) (λ m. (area_of gone m).free == 0) (λ m. ap (λ (n : ℕ). n == 0) (sym (frees m))) (filter (λ m. upd (lab m)) (range_with_len 0 (length areas)))
          ∙ ap (filter (λ m. (area_of gone m).free == 0)) (sym updating_is)

  -- settled in the end, it has the same result
  pub settled_same : (gone : Namespaces) → ((m : ℕ) → free_in (slots_on areas m) ≤ (area_of gone m).free) → settled_entry gone entry_then ≡ settled_entry gone e
  settled_same gone more =
      settles gone entry_then (list_any (λ (m : ℕ). true) still_updating) refl
      ∙ ap (λ (u : List ℕ). record e { updating = u; status = Complete e.name (list_any (λ (m : ℕ). true) u) }) kept
      ∙ sym (settles gone e pending status)
    where
      full : (m : ℕ) → 1 ≤ free_in (slots_on areas m) → ((area_of gone m).free == 0) ≡ false
      full m some = ne_eqb (area_of gone m).free 0 (λ z. let f = more m in omega (arith, f, some, z))

      kept : filter (λ m. (area_of gone m).free == 0) still_updating ≡ filter (λ m. (area_of gone m).free == 0) e.updating
      kept =
          filter_both (λ m. (area_of gone m).free == 0) (λ m. upd (lab_then m)) (λ m. upd (lab m) && ((area_of gone m).free == 0))
          (λ m. settle.upd_full uuid e.name areas lab proper (mine.labels uuid areas read rules.once) (mine.only uuid areas read rules.once) t may m ((area_of gone m).free == 0) (full m)) (range_with_len 0 (length areas))
          ∙ sym (filter_both (λ m. (area_of gone m).free == 0) (λ m. upd (lab m)) (λ m. upd (lab m) && ((area_of gone m).free == 0)) (λ m. refl) (range_with_len 0 (length areas)))
          ∙ ap (filter (λ m. (area_of gone m).free == 0)) (sym updating_is)

  pub free_same : (i : ℕ) → free_in (slots_on left i) ≡ free_in (slots_on areas i)
  free_same = settle.free_same uuid e.name areas lab proper (mine.labels uuid areas read rules.once) (mine.only uuid areas read rules.once) t may

  pub of : AllByRecursion (IsOf uuid) cs
  of = settle.of uuid e.name areas lab proper (mine.labels uuid areas read rules.once) (mine.only uuid areas read rules.once) t may

  -- each label that is put has some bytes
  pub bytes : AllByRecursion PutsBytes cs
  bytes = settle.bytes uuid e.name areas lab proper (mine.labels uuid areas read rules.once) (mine.only uuid areas read rules.once) t may (bytes_of_lab uuid areas read rules.once)
