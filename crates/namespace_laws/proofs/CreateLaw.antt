-- A create that isn't refused: its entry after a crash in its label changes.
use Rattle.std.proofs.Common.{◌≡◌, ◌≢◌, ℕ, suc, ◌+◌, ◌%◌, ◌≤◌, Bool, true, false, List, [], ◌∷◌, length, Option, Some, None, refl, sym, ap, ◌∙◌, subst, arith, inl, inr}
use Rattle.std.specs.Prelude.{◌==◌, nat_lt, map, find, slice_get, position}
use Rattle.std.specs.Option.{option_map}
use Rattle.std.specs.List.{AllByRecursion, Contains, enumerate_from, filter_map, range_with_len}
use Rattle.std.proofs.lemmas.Bool.{cases_Bool, eq-eqb, ne_eqb, eqb-true, or_right, and_parts, leb-true}
use Rattle.std.proofs.lemmas.Option.{none-some, same_Some}
use Rattle.nfit_reader.specs.declared.table.Mapping.{Mapping}
use Rattle.interleave.specs.Places.{unit_of}
use Rattle.interleave.specs.Sound.{span_of}
use Rattle.label_codec.specs.declared.label.Label.{Label}
use Rattle.label_codec.specs.Mode.{persistent_memory, mode_of}
use Rattle.label_set.specs.declared.placed.Placed.{Placed}
use Rattle.label_set.specs.declared.placed.SetStatus.{SetStatus}
use Rattle.label_set.specs.declared.placed.SetStatus.TheVariants.{Complete, Unfinished}
use Rattle.label_set.specs.Rules.{mapping_of}
use Rattle.region_space.specs.Space.{is_clear}
use Rattle.namespace_map.specs.Namespaces.{Namespaces, NamespaceEntry, Part, part_of, lookup, extents_of, region_of}
use Rattle.namespace_map.proofs.Entries.{lookup_entries}
use Rattle.namespace_map.proofs.Entries as entries
use Rattle.namespace_map.proofs.Rising.{all_pass_to}
use Rattle.namespace_map.specs.declared.commands.Make.{Make}
use Rattle.namespace_map.specs.declared.commands.Make.TheVariants as make
use Rattle.namespace_map.specs.declared.commands.Named.{Named}
use Rattle.namespace_map.specs.declared.commands.Command.{Command}
use Rattle.namespace_map.specs.declared.commands.Command.TheVariants as command
use Rattle.namespace_map.specs.Areas.{Area}
use Rattle.namespace_map.specs.Commands.{set_of, area_of, share_of, name_in, refusal_of, new_part, new_parts, new_offset, new_entry, mode_for, lba_for}
use Rattle.namespace_map.specs.Changes.{namespaces_of, placed_in_all, new_label, new_labels, abstraction_for, area_summary}
use Rattle.namespace_map.proofs.Areas.{Proper}
use Rattle.std.proofs.Math.ListN.{length-map}
use Rattle.namespace_map.specs.Left.{AreRegions, IsPartOf, IsPending, Left}
use Rattle.namespace_map.proofs.Asking.{create_with, spec_with}
use Rattle.namespace_laws.proofs.Whole.{AllLab, own_of}
use Rattle.namespace_laws.proofs.Staged.{Apart, names, IsGiven}
use Rattle.namespace_laws.proofs.Sound.{SoundAt, SoundIn, IsWhole}
use Rattle.namespace_laws.proofs.Table.{Model, like_self}
use Rattle.namespace_laws.proofs.Create.{IsNew, StandsAs}
use Rattle.namespace_laws.proofs.Delete.{Stands}
use Rattle.namespace_laws.proofs.Sets.{ModulesApart, IsSet, is_set}
use Rattle.namespace_laws.proofs.Regions.{found_passes, find_self, places, in_region}
use Rattle.namespace_laws.proofs.Shaped.{part_at, base_parts, shaped, changing, IsLoose, entry_there, parts_among, parts_whole, all_there}
use Rattle.namespace_laws.proofs.Allowed.{Allowed, allowed, all_both, free_there, proper_none}

-- ---- the list of new labels

-- a property of each mapping and its place holds of each new label
pub each_new : (P : ℕ × Label → Type 0) (f : ℕ × Mapping → ℕ × Label) (ms : List Mapping) (k : ℕ) (Q : Mapping → Type 0) (R : ℕ × Mapping → Type 0)
    → ((e : ℕ × Mapping) → Q e.1 → R e → P (f e)) → AllByRecursion Q ms → AllByRecursion R (enumerate_from k ms) → AllByRecursion P (map f (enumerate_from k ms))
each_new P f [] k Q R step qs rs = tt
each_new P f (m ∷ ms) k Q R step (q, qs) (r, rs) = (step (k, m) q r, each_new P f ms (k + 1) Q R step qs rs)

pub any_place : (ms : List Mapping) (k : ℕ) → AllByRecursion (λ (e : ℕ × Mapping). Unit {0}) (enumerate_from k ms)
any_place [] k = tt
any_place (m ∷ ms) k = (tt, any_place ms (k + 1))

module _ (f : ℕ × Mapping → ℕ × Label) (number : (e : ℕ × Mapping) → (f e).0 ≡ e.1.«module») where
  pub covers_from : (ms : List Mapping) (k : ℕ) → AllByRecursion (λ (m : Mapping). names (map f (enumerate_from k ms)) m.«module» ≡ true) ms
  covers_from [] k = tt
  covers_from (m ∷ ms) k = (
    rw (number (k, m), eq-eqb m.«module» m.«module» refl) refl,
    all_pass_to (λ (j : Mapping). names (map f (enumerate_from (k + 1) ms)) j.«module» ≡ true) (λ (j : Mapping). names (map f (enumerate_from k (m ∷ ms))) j.«module» ≡ true)
        (λ j e. or_right ((f (k, m)).0 == j.«module») (names (map f (enumerate_from (k + 1) ms)) j.«module») e) ms (covers_from ms (k + 1)),
  )

  pub apart_from : (ms : List Mapping) (k : ℕ) → ModulesApart ms → Apart (map f (enumerate_from k ms))
  apart_from [] k apart = tt
  apart_from (m ∷ ms) k (one, rest) = (
    each_new (λ q. (f (k, m)).0 ≢ q.0) f ms (k + 1) (λ j. m.«module» ≢ j.«module») (λ e. Unit {0})
        (λ e ne t same. ne (sym (number (k, m)) ∙ same ∙ number e)) one (any_place ms (k + 1)),
    apart_from ms (k + 1) rest,
  )

pub length_new : (f : ℕ × Mapping → ℕ × Label) (ms : List Mapping) (k : ℕ) → length (map f (enumerate_from k ms)) ≡ length ms
length_new f [] k = refl
length_new f (m ∷ ms) k = ap suc (length_new f ms (k + 1))

-- the label of a list for a module
abbrev pub label_of : List (ℕ × Label) → ℕ → Option Label
label_of ps m = option_map (λ p. p.1) (find (λ p. p.0 == m) ps)

pub label_self : (ps : List (ℕ × Label)) → Apart ps → AllByRecursion (λ p. label_of ps p.0 ≡ Some p.1) ps
label_self [] apart = tt
label_self (p ∷ ps) (one, rest) = (
  rw (eq-eqb p.0 p.0 refl) refl,
  later ps (label_self ps rest) one,
)
  where
    later : (qs : List (ℕ × Label)) → AllByRecursion (λ q. label_of ps q.0 ≡ Some q.1) qs → AllByRecursion (λ q. p.0 ≢ q.0) qs → AllByRecursion (λ q. label_of (p ∷ ps) q.0 ≡ Some q.1) qs
    later [] a b = tt
    later (q ∷ qs) (a, as') (b, bs) = (rw (ne_eqb p.0 q.0 b) a, later qs as' bs)

-- a property of each label of a list holds of that of each module
pub label_has : (Q : ℕ → Label → Type 0) (ps : List (ℕ × Label)) → AllByRecursion (λ p. Q p.0 p.1) ps → AllLab Q (label_of ps)
label_has Q ps all m l is = by (find (λ p. p.0 == m) ps) refl is
  where
    by : (o : Option (ℕ × Label)) → find (λ p. p.0 == m) ps ≡ o → option_map (λ p. p.1) o ≡ Some l → Q m l
    by None e is = absurd (none-some l is)
    by (Some p) e is =
        let both = found_passes (λ (p : ℕ × Label). p.0 == m) (λ p. Q p.0 p.1) ps p e all in
        subst (λ (k : ℕ). Q k l) (eqb-true p.0 m both.0) (subst (λ (x : Label). Q p.0 x) (same_Some p.1 l is) both.1)

-- ---- the new entry

module _ (sets : List (List Mapping)) (areas : List (Option Area)) (uuid : List ℕ) (name : Named) (region size : ℕ) (made : Make) where
  abbrev pub ns : Namespaces
  ns = namespaces_of sets areas

  abbrev pub create : Command
  create = create_with uuid name region size made

  abbrev pub set : List Mapping
  set = set_of ns region

  abbrev pub raw : ℕ
  raw = share_of set size

  abbrev pub offset : ℕ
  offset = new_offset ns set raw

  abbrev pub label_for : ℕ × Mapping → ℕ × Label
  label_for = new_label uuid (name_in name) made set offset raw

  abbrev pub ps : List (ℕ × Label)
  ps = new_labels ns (spec_with uuid name region size made)

  abbrev pub model : Model
  model = record {
    shared = record { offset = offset; raw = raw; lba = lba_for made; kind = persistent_memory; abstraction = abstraction_for made };
    base = label_of ps;
  }

  abbrev pub made_entry : NamespaceEntry
  made_entry = new_entry ns (spec_with uuid name region size made)

  -- the parts of the new labels are the new parts
  part_found : (ms : List Mapping) (k m : ℕ) → option_map (part_at m) (label_of (map label_for (enumerate_from k ms)) m) ≡ option_map (new_part uuid offset raw) (mapping_of ms m)
  part_found [] k m = refl
  part_found (j ∷ js) k m = elim (cases_Bool (j.«module» == m)) [
    | inl it ↦ rw it (ap (λ (n : ℕ). Some (record { extent = record { owner = uuid; «module» = n; start = j.start + offset; length = raw }; align = 0; spa_cookie = 0; flags = 0 })) (sym (eqb-true j.«module» m it)))
    | inr not_it ↦ rw not_it (part_found js (k + 1) m)
  ]

  pub new_parts_are : (count : ℕ) → base_parts model.base count ≡ new_parts uuid offset raw set count
  new_parts_are count = same (range_with_len 0 count)
    where
      same : (xs : List ℕ) → filter_map (λ m. option_map (part_at m) (label_of ps m)) xs ≡ filter_map (λ m. option_map (new_part uuid offset raw) (mapping_of set m)) xs
      same [] = refl
      same (x ∷ xs) = rw (part_found set 0 x, same xs) refl

  modes : (made : Make) → mode_of persistent_memory (abstraction_for made) ≡ mode_for made
  modes make.Raw = refl
  modes (make.Sector sector lanes) = refl

  pub entry_shaped : shaped uuid region model.shared (name_in name) (base_parts model.base (length ns.areas)) (Complete (name_in name) false) [] ≡ made_entry
  entry_shaped = rw (new_parts_are (length ns.areas), modes made) refl

  module _ (regions : AreRegions sets) (good : refusal_of ns create ≡ None) where
    pub has : Allowed ns uuid name region size made
    has = allowed ns uuid name region size made good

    each_set : (j : ℕ) (s : List Mapping) → slice_get sets j ≡ Some s → IsSet s
    each_set j s at = let r = regions.read j s at in is_set r.0 s r.2 r.1

    pub sound_set : IsSet set
    sound_set = each_set region set has.there

    pub whole : IsWhole set model.shared
    whole = record { offset = eq-eqb (offset % unit_of set) 0 has.offset_whole; raw = eq-eqb (raw % unit_of set) 0 has.raw_whole }

    pub proper : Proper uuid (λ m. None) areas
    proper = proper_none uuid areas (entries.entry_there sets (placed_in_all areas) uuid (sym (lookup_entries sets (placed_in_all areas) uuid) ∙ has.absent))

    pub given : AllByRecursion (IsGiven uuid (λ m. None) areas) ps
    given =
        each_new (IsGiven uuid (λ m. None) areas) label_for set 0 (λ m. nat_lt (area_of ns m.«module»).free 2 ≡ false) (λ e. Unit {0})
        (λ e free t. let both = free_there sets areas e.1.«module» 2 (omega arith) free in (refl, record { there = both.0; room = omega (arith, both.1) }))
        has.slots (any_place set 0)

    pub apart : Apart ps
    apart = apart_from label_for (λ e. refl) set 0 sound_set.apart

    pub covers : AllByRecursion (λ (m : Mapping). names ps m.«module» ≡ true) set
    covers = covers_from label_for (λ e. refl) set 0

    fits : AllByRecursion (λ (m : Mapping). offset + raw ≤ span_of set) set
    fits =
        all_pass_to (λ (m : Mapping). (m.size ≡ span_of set) × (is_clear (extents_of ns.entries) raw offset m ≡ true)) (λ (m : Mapping). offset + raw ≤ span_of set)
        (λ m both. let a = leb-true (offset + raw) m.size (and_parts _ _ both.1).0 in omega (arith, both.0)) set
        (all_both (λ (m : Mapping). m.size ≡ span_of set) (λ (m : Mapping). is_clear (extents_of ns.entries) raw offset m ≡ true) set sound_set.sizes has.clear)

    pub sound_new : AllByRecursion (λ p. SoundAt set model.shared p.0 p.1) ps
    sound_new =
        each_new (λ p. SoundAt set model.shared p.0 p.1) label_for set 0
        (λ (m : Mapping). (mapping_of set m.«module» ≡ Some m) × (offset + raw ≤ span_of set)) (λ (e : ℕ × Mapping). position (λ j. j.«module» == e.1.«module») set ≡ Some e.0)
        (λ e q r. record {
          mapping = e.1;
          found = q.0;
          starts = refl;
          fits = q.1;
          raw = refl;
          lba = refl;
          kind = refl;
          abstraction = refl;
          cookie = refl;
          count = refl;
          position = r;
          not_local = refl;
        })
        (all_both (λ (m : Mapping). mapping_of set m.«module» ≡ Some m) (λ (m : Mapping). offset + raw ≤ span_of set) set (find_self set sound_set.apart) fits)
        (places set sound_set.apart)

    pub is_new : AllByRecursion (IsNew set model (name_in name)) ps
    is_new =
        all_pass_to (λ p. (SoundAt set model.shared p.0 p.1) × ((label_of ps p.0 ≡ Some p.1) × (p.1.name ≡ name_in name))) (IsNew set model (name_in name))
        (λ p all. record { sound = record { sound = all.0; meant = p.1; is_meant = all.1.0; like = like_self p.1 }; named = all.1.1 }) ps
        (all_both (λ p. SoundAt set model.shared p.0 p.1) (λ p. (label_of ps p.0 ≡ Some p.1) × (p.1.name ≡ name_in name)) ps sound_new
        (all_both (λ p. label_of ps p.0 ≡ Some p.1) (λ p. p.1.name ≡ name_in name) ps (label_self ps apart)
        (each_new (λ p. p.1.name ≡ name_in name) label_for set 0 (λ m. Unit {0}) (λ e. Unit {0}) (λ e q r. refl) (units set) (any_place set 0))))
      where
        units : (ms : List Mapping) → AllByRecursion (λ (m : Mapping). Unit {0}) ms
        units [] = tt
        units (m ∷ ms) = (tt, units ms)

    pub loose : IsLoose model.base
    loose =
        label_has (λ m l. (l.flags % 2 == 1) ≡ false) ps
        (each_new (λ p. (p.1.flags % 2 == 1) ≡ false) label_for set 0 (λ m. Unit {0}) (λ e. Unit {0}) (λ e q r. refl) (units set) (any_place set 0))
      where
        units : (ms : List Mapping) → AllByRecursion (λ (m : Mapping). Unit {0}) ms
        units [] = tt
        units (m ∷ ms) = (tt, units ms)

    pub base_sound : AllLab (SoundAt set model.shared) model.base
    base_sound = label_has (SoundAt set model.shared) ps sound_new

    pub region_is : (p : Placed) → SoundIn set model.shared p → region_of sets p ≡ Some (region, set)
    region_is = in_region sets region set model.shared regions.apart each_set has.there has.raw_some

    -- ---- the entry of each state

    pub as_stands : (status : SetStatus) (left : List (Option Area)) → StandsAs uuid set model (name_in name) status left → Stands uuid set model status left
    as_stands status left s = record { lab = s.lab; proper = s.proper; sound = s.sound; has_status = s.has_status; some = s.some }

    abbrev pub stands_with : SetStatus → List (Option Area) → Type 0
    stands_with status left = StandsAs uuid set model (name_in name) status left

    same_count : (left : List (Option Area)) → length left ≡ length areas → length left ≡ length ns.areas
    same_count left e = e ∙ sym (length-map areas area_summary)

    pub part_left : (left : List (Option Area)) → length left ≡ length areas → stands_with Unfinished left → Left (IsPartOf made_entry) (lookup uuid (namespaces_of sets left).entries)
    part_left left same s = by (entry_there sets set region uuid model region_is loose Unfinished left (as_stands Unfinished left s))
      where
        own : List Placed
        own = own_of uuid left

        by : (p : Placed) × (lookup uuid (namespaces_of sets left).entries ≡ Some (shaped uuid region model.shared p.label.name (map part_of (own_of uuid left)) Unfinished (changing (own_of uuid left))))
            → Left (IsPartOf made_entry) (lookup uuid (namespaces_of sets left).entries)
        by (p, is) = (
          _,
          is,
          record {
            unfinished = refl;
            uuid = refl;
            region = refl;
            mode = modes made;
            lba = refl;
            parts = subst (λ (parts : List Part). AllByRecursion (Contains parts) (map part_of (own_of uuid left))) (new_parts_are (length ns.areas))
                (parts_among sets set region uuid model region_is loose Unfinished left (as_stands Unfinished left s) (length ns.areas) (same_count left same));
          },
        )

    pub shape_is : (left : List (Option Area)) (pending : Bool) → length left ≡ length areas → stands_with (Complete (name_in name) pending) left
        → lookup uuid (namespaces_of sets left).entries ≡ Some (record made_entry { status = Complete (name_in name) pending; updating = changing (own_of uuid left) })
    shape_is left pending same s = by (entry_there sets set region uuid model region_is loose (Complete (name_in name) pending) left (as_stands (Complete (name_in name) pending) left s))
      where
        parts_are : map part_of (own_of uuid left) ≡ new_parts uuid offset raw set (length ns.areas)
        parts_are =
            parts_whole sets set region uuid model region_is loose (Complete (name_in name) pending) left (as_stands (Complete (name_in name) pending) left s) (length ns.areas) (same_count left same)
            (all_there set uuid model whole base_sound (name_in name) pending left (as_stands (Complete (name_in name) pending) left s))
            ∙ new_parts_are (length ns.areas)

        by : (p : Placed) × (lookup uuid (namespaces_of sets left).entries ≡ Some (shaped uuid region model.shared (name_in name) (map part_of (own_of uuid left)) (Complete (name_in name) pending) (changing (own_of uuid left))))
            → lookup uuid (namespaces_of sets left).entries ≡ Some (record made_entry { status = Complete (name_in name) pending; updating = changing (own_of uuid left) })
        by (p, is) = is ∙ rw (parts_are, modes made) refl

    pub pending_left : (left : List (Option Area)) → length left ≡ length areas → stands_with (Complete (name_in name) true) left → Left (IsPending (name_in name) made_entry) (lookup uuid (namespaces_of sets left).entries)
    pending_left left same s = (_, shape_is left true same s, refl)
