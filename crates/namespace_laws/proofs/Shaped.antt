-- The entry of the labels of a UUID, if they are valid and like the intended ones.
use Rattle.std.proofs.Common.{◌≡◌, ℕ, zero, suc, ◌+◌, ◌%◌, ◌<◌, ◌≤◌, Bool, true, false, List, [], ◌∷◌, length, Option, Some, None, refl, sym, ap, ◌∙◌, subst, arith, inl, inr, ◌⊎◌}
use Rattle.std.specs.Prelude.{◌==◌, find, filter, map, slice_get, unwrap_or, nat_le}
use Rattle.std.specs.Option.{option_map}
use Rattle.std.specs.List.{AllByRecursion, Contains, list_any, list_all, filter_map, range_with_len, cons_option}
use Rattle.std.proofs.lemmas.Bool.{cases_Bool, false≢true, cases_lt, eq-eqb}
use Rattle.std.proofs.lemmas.Option.{none-some, slice_get_past}
use Rattle.nfit_reader.specs.declared.table.Mapping.{Mapping}
use Rattle.label_codec.specs.declared.label.Label.{Label}
use Rattle.label_codec.specs.Mode.{mode_of}
use Rattle.label_set.specs.declared.placed.Placed.{Placed}
use Rattle.label_set.specs.declared.placed.SetStatus.{SetStatus}
use Rattle.label_set.specs.declared.placed.SetStatus.TheVariants.{Complete, Unfinished, Incomplete}
use Rattle.label_set.specs.declared.placed.Why.TheVariants.{Missing}
use Rattle.label_set.specs.Rules.{least_where, lesser, modules_of, module_of, count_on, is_updating, least_missing}
use Rattle.label_set.specs.Status.{missing_finding, naming_of, short_of}
use Rattle.namespace_map.specs.Namespaces.{Part, NamespaceEntry, part_of, entry_with, region_of, shown_name, is_read_only, lookup}
use Rattle.label_codec.specs.Flags.{without_updating}
use Rattle.namespace_map.proofs.Entries.{lookup_entries}
use Rattle.namespace_map.proofs.Rising.{all_pass_to}
use Rattle.label_area.specs.Area.{SlotState}
use Rattle.namespace_map.specs.Areas.{Area, slots_of, slots_on}
use Rattle.namespace_map.proofs.Slots.{slot, IsOwn}
use Rattle.namespace_map.specs.Changes.{placed_in_all, namespaces_of}
use Rattle.namespace_map.proofs.Areas.{Proper}
use Rattle.namespace_map.proofs.Labels.{placed_at}
use Rattle.namespace_laws.proofs.Whole.{own_of, own_each, AllLab, IsBy, slot_on, all_by, any_none}
use Rattle.namespace_laws.proofs.Agree.{own_by, placed_by, map_filter_map}
use Rattle.namespace_laws.proofs.Sound.{Shared, SoundAt, SoundIn, IsWhole}
use Rattle.namespace_laws.proofs.Table.{IsLike, like_slot, Model, sound_like, own_status}
use Rattle.namespace_laws.proofs.Apart.{on_module, count_none}
use Rattle.namespace_laws.proofs.Regions.{found_passes, found_number}
use Rattle.namespace_laws.proofs.Delete.{Stands}

-- ---- labels lie on existing modules

in_list : (slots : List SlotState) (s : ℕ) (x : Option Label) → slot slots s ≡ Some x → 0 < length slots
in_list [] s x e = absurd (none-some x e)
in_list (y ∷ ys) s x e = omega arith

pub lies_there : (uuid : List ℕ) (lab : ℕ → Option Label) (areas : List (Option Area)) → Proper uuid lab areas → (m : ℕ) (l : Label) → lab m ≡ Some l → m < length areas
lies_there uuid lab areas proper m l is = by (cases_lt m (length areas)) (subst (λ (o : Option Label). IsOwn uuid o (slots_on areas m)) is (proper.own m))
  where
    by : (m < length areas) ⊎ (length areas ≤ m) → IsOwn uuid (Some l) (slots_on areas m) → m < length areas
    by (inl below) own = below
    by (inr past) (s, at, others) =
        let nothing : slots_on areas m ≡ [] = ap (λ (o : Option (Option Area)). slots_of (unwrap_or o None)) (slice_get_past areas m past) in
        let h = in_list (slots_on areas m) s (Some (record l { slot = s })) at in
        absurd (let z : length (slots_on areas m) ≡ 0 = ap (λ (xs : List SlotState). length xs) nothing in omega arith)

-- ---- parts

abbrev pub part_at : ℕ → Label → Part
part_at m l = part_of (placed_at m 0 l)

same_part : (o o' : List ℕ) (m s s' n n' a a' k k' f f' : ℕ) → o ≡ o' → s ≡ s' → n ≡ n' → a ≡ a' → k ≡ k' → f ≡ f'
    → ◌≡◌ {A = Part} (record { extent = record { owner = o; «module» = m; start = s; length = n }; align = a; spa_cookie = k; flags = f })
    (record { extent = record { owner = o'; «module» = m; start = s'; length = n' }; align = a'; spa_cookie = k'; flags = f' })
same_part o o' m s s' n n' a a' k k' f f' e1 e2 e3 e4 e5 e6 = rw (e1, e2, e3, e4, e5, e6) refl

pub part_like : (m : ℕ) (b l : Label) → IsLike b l → part_at m l ≡ part_at m b
part_like m b l k =
    same_part l.uuid b.uuid m l.dpa b.dpa l.raw b.raw l.align b.align l.spa_cookie b.spa_cookie (without_updating l.flags) (without_updating b.flags) k.uuid k.dpa k.raw k.align k.spa_cookie k.kept

-- the parts of the intended labels, by module
abbrev pub base_parts : (ℕ → Option Label) → ℕ → List Part
base_parts base count = filter_map (λ m. option_map (part_at m) (base m)) (range_with_len 0 count)

pub in_filter : {X Y : Type 0} (f : X → Option Y) (xs : List X) (x : X) (y : Y) → Contains xs x → f x ≡ Some y → Contains (filter_map f xs) y
in_filter f [] x y (k, below, is) e = absurd (omega arith)
in_filter {Y = Y} f (z ∷ zs) x y (zero, below, is) e =
    let here : f z ≡ Some y = ap f is ∙ e in
    subst (λ o. Contains (cons_option o (filter_map f zs)) y) (sym here) (0, omega arith, refl)
in_filter {Y = Y} f (z ∷ zs) x y (suc k, below, is) e = later (f z) (in_filter f zs x y (k, omega arith, is) e)
  where
    later : (o : Option Y) → Contains (filter_map f zs) y → Contains (cons_option o (filter_map f zs)) y
    later None c = c
    later (Some w) c = (suc c.0, omega (arith, c.1), c.2)

pub in_range : (n k i : ℕ) → i < n → Contains (range_with_len k n) (k + i)
in_range zero k i below = absurd (omega arith)
in_range (suc n) k zero below = (0, omega arith, omega arith)
in_range (suc n) k (suc i) below =
    let c : Contains (range_with_len (k + 1) n) (k + 1 + i) = in_range n (k + 1) i (omega arith) in
    subst (λ (x : ℕ). Contains (range_with_len k (suc n)) x) (omega arith) (suc c.0, omega (arith, c.1), c.2)

-- ---- lists

pub first_of : (P : Placed → Type 0) (xs : List Placed) → list_any (λ (p : Placed). true) xs ≡ true → AllByRecursion P xs → (p : Placed) × (slice_get xs 0 ≡ Some p) × P p
first_of P [] e all = absurd (false≢true e)
first_of P (x ∷ xs) e (one, rest) = (x, refl, one)

pub filter_none : {X : Type 0} (test : X → Bool) (xs : List X) → AllByRecursion (λ x. test x ≡ false) xs → filter test xs ≡ []
filter_none test [] all = refl
filter_none test (x ∷ xs) (one, rest) = rw one (filter_none test xs rest)

pub find_none : {X : Type 0} (test : X → Bool) (xs : List X) → AllByRecursion (λ x. test x ≡ false) xs → find test xs ≡ None
find_none test [] all = refl
find_none test (x ∷ xs) (one, rest) = rw one (find_none test xs rest)

-- ---- the entry

abbrev pub shaped : List ℕ → ℕ → Shared → List ℕ → List Part → SetStatus → List ℕ → NamespaceEntry
shaped uuid region c name parts status updating = record {
  uuid = uuid;
  name = name;
  region = Some region;
  mode = mode_of c.kind c.abstraction;
  lba = c.lba;
  parts = parts;
  status = status;
  updating = updating;
  read_only = None;
}

abbrev pub changing : List Placed → List ℕ
changing own = map module_of (filter is_updating own)

-- none of the intended labels has ROLABEL
abbrev pub IsLoose : (ℕ → Option Label) → Type 0
IsLoose base = AllLab (λ m l. (l.flags % 2 == 1) ≡ false) base

module _ (sets : List (List Mapping)) (set : List Mapping) (region : ℕ) (uuid : List ℕ) (c : Model)
    (in_region : (p : Placed) → SoundIn set c.shared p → region_of sets p ≡ Some (region, set)) (loose : IsLoose c.base) where
  module _ (status : SetStatus) (left : List (Option Area)) (s : Stands uuid set c status left) where
    abbrev own : List Placed
    own = own_of uuid left

    abbrev IsGood : Placed → Type 0
    IsGood p = SoundIn set c.shared p × (p.label.uuid ≡ uuid)

    good : AllByRecursion IsGood own
    good = own_each uuid s.lab left s.proper (λ m l. SoundAt set c.shared m l × (l.uuid ≡ uuid))
        (λ m l e n. ((sound_like set c m l (record l { slot = n }) (s.sound m l e) (like_slot l n)).sound, s.proper.named m l e))

    no_lock : find is_read_only own ≡ None
    no_lock =
        find_none is_read_only own (own_each uuid s.lab left s.proper (λ m l. (l.flags % 2 == 1) ≡ false)
        (λ m l e n. let k = s.sound m l e in ap (λ (x : ℕ). x == 1) k.like.read_only ∙ loose m k.meant k.is_meant))

    entry_of : (p : Placed) → IsGood p → entry_with sets own p ≡ shaped uuid region c.shared (shown_name status p) (map part_of own) status (changing own)
    entry_of p (sound, of) = rw (in_region p sound, s.has_status, no_lock, sound.kind, sound.abstraction, sound.lba, of) refl

    -- the entry
    pub entry_there : (p : Placed) × (lookup uuid (namespaces_of sets left).entries ≡ Some (shaped uuid region c.shared (shown_name status p) (map part_of own) status (changing own)))
    entry_there = by (first_of IsGood own s.some good)
      where
        by : (p : Placed) × (slice_get own 0 ≡ Some p) × IsGood p
            → (p : Placed) × (lookup uuid (namespaces_of sets left).entries ≡ Some (shaped uuid region c.shared (shown_name status p) (map part_of own) status (changing own)))
        by (p, first, is_good) = (
          p,
          lookup_entries sets (placed_in_all left) uuid ∙ ap (option_map (entry_with sets own)) first ∙ ap Some (entry_of p is_good),
        )

    -- its parts are among the intended ones
    pub parts_among : (count : ℕ) → length left ≡ count → AllByRecursion (Contains (base_parts c.base count)) (map part_of own)
    parts_among count same = mapped own (all_pass_to (IsBy s.lab (slot_on uuid left)) (λ p. Contains (base_parts c.base count) (part_of p)) one own (all_by uuid s.lab left s.proper))
      where
        mapped : (xs : List Placed) → AllByRecursion (λ p. Contains (base_parts c.base count) (part_of p)) xs → AllByRecursion (Contains (base_parts c.base count)) (map part_of xs)
        mapped [] all = tt
        mapped (x ∷ xs) (one, rest) = (one, mapped xs rest)

        zero_more : (m : ℕ) → 0 + m ≡ m
        zero_more m = omega arith

        one : (p : Placed) → IsBy s.lab (slot_on uuid left) p → Contains (base_parts c.base count) (part_of p)
        one p by =
            let k = s.sound p.«module» by.given by.is_given in
            let part : part_of p ≡ part_at p.«module» k.meant =
            ap (λ (l : Label). part_at p.«module» l) by.label_is ∙ part_like p.«module» k.meant by.given k.like in
            subst (Contains (base_parts c.base count)) (sym part)
            (in_filter (λ m. option_map (part_at m) (c.base m)) (range_with_len 0 count) p.«module» (part_at p.«module» k.meant)
            (subst (Contains (range_with_len 0 count)) (zero_more p.«module») (in_range count 0 p.«module» (let below = lies_there uuid s.lab left s.proper p.«module» by.given by.is_given in omega (arith, same)))) (ap (option_map (part_at p.«module»)) k.is_meant))

    -- if all intended labels are there, it has all these parts
    pub parts_whole : (count : ℕ) → length left ≡ count → ((m : ℕ) (l : Label) → c.base m ≡ Some l → (k : Label) × (s.lab m ≡ Some k)) → map part_of own ≡ base_parts c.base count
    parts_whole count same has =
        ap (map part_of) (own_by uuid s.lab left s.proper)
        ∙ map_filter_map part_of (placed_by s.lab (slot_on uuid left)) (λ m. option_map (part_at m) (c.base m)) (λ m. each m (s.lab m) refl) (range_with_len 0 (length left))
        ∙ ap (base_parts c.base) same
      where
        none_meant : (m : ℕ) (o : Option Label) → c.base m ≡ o → s.lab m ≡ None → o ≡ None
        none_meant m None is none = refl
        none_meant m (Some l) is none = absurd (let h = has m l is in none-some h.0 (sym none ∙ h.1))

        each : (m : ℕ) (o : Option Label) → s.lab m ≡ o → option_map part_of (placed_by s.lab (slot_on uuid left) m) ≡ option_map (part_at m) (c.base m)
        each m None is = rw (is, none_meant m (c.base m) refl is) refl
        each m (Some l) is = let k = s.sound m l is in rw (is, k.is_meant) (ap Some (part_like m k.meant l k.like))

-- ---- with a complete status no label is missing

pub complete_misses : (set : List Mapping) (own : List Placed) (o : Option ℕ) (name : List ℕ) (pending : Bool) → least_missing own set ≡ o
    → unwrap_or (missing_finding set own) (naming_of own) ≡ Complete name pending → o ≡ None
complete_misses set own None name pending is e = refl
complete_misses set own (Some w) name pending is e = absurd (by (rw is at e))
  where
    by : short_of own w ≡ Complete name pending → ⊥
    by e = elim (cases_Bool (list_all is_updating own)) [
      | inl it ↦ let g : Unfinished ≡ Complete name pending = rw it at e in cc
      | inr not_it ↦ let g : Incomplete (Missing w) ≡ Complete name pending = rw not_it at e in cc
    ]

pub least_nothing : {X : Type 0} (key : X → ℕ) (test : X → Bool) (xs : List X) → least_where key test xs ≡ None → AllByRecursion (λ x. test x ≡ false) xs
least_nothing key test [] e = tt
least_nothing {X = X} key test (x ∷ xs) e = by (cases_Bool (test x)) (λ rest. least_nothing key test xs rest)
  where
    lesser_none : (o : Option X) → lesser key (Some x) o ≡ None → ⊥
    lesser_none None e = none-some x (sym e)
    lesser_none (Some b) e = elim (cases_Bool (nat_le (key x) (key b))) [ inl it ↦ none-some x (sym (rw it at e)) | inr not_it ↦ none-some b (sym (rw not_it at e)) ]

    by : (test x ≡ true) ⊎ (test x ≡ false) → (least_where key test xs ≡ None → AllByRecursion (λ y. test y ≡ false) xs) → AllByRecursion (λ y. test y ≡ false) (x ∷ xs)
    by (inl it) on = absurd (lesser_none (least_where key test xs) (rw it at e))
    by (inr not_it) on = (not_it, on (rw not_it at e))

-- each module of the set has a label
pub covers : (set : List Mapping) (own : List Placed) → least_missing own set ≡ None → AllByRecursion (λ (m : Mapping). list_any (on_module m.«module») own ≡ true) set
covers set own e = by set (least_nothing (λ number. number) (λ number. count_on own number == 0) (modules_of set) e)
  where
    some : (m : ℕ) → (count_on own m == 0) ≡ false → list_any (on_module m) own ≡ true
    some m e = elim (cases_Bool (list_any (on_module m) own)) [
      | inl it ↦ it
      | inr not_it ↦ absurd (false≢true (sym e ∙ eq-eqb (count_on own m) 0 (count_none (on_module m) own not_it)))
    ]

    by : (ms : List Mapping) → AllByRecursion (λ number. (count_on own number == 0) ≡ false) (modules_of ms) → AllByRecursion (λ (m : Mapping). list_any (on_module m.«module») own ≡ true) ms
    by [] all = tt
    by (m ∷ ms) (one, rest) = (some m.«module» one, by ms rest)

module _ (set : List Mapping) (uuid : List ℕ) (c : Model) (whole : IsWhole set c.shared) (sound : AllLab (SoundAt set c.shared) c.base) (name : List ℕ) (pending : Bool) (left : List (Option Area))
    (s : Stands uuid set c (Complete name pending) left) where
  none_missing : least_missing (own_of uuid left) set ≡ None
  none_missing =
      complete_misses set (own_of uuid left) (least_missing (own_of uuid left) set) name pending refl
      (sym (own_status uuid set c whole s.lab left s.proper s.sound) ∙ s.has_status)

  -- so all intended labels are there
  pub all_there : (m : ℕ) (l : Label) → c.base m ≡ Some l → (k : Label) × (s.lab m ≡ Some k)
  all_there m l is = by (s.lab m) refl
    where
      stands : list_any (on_module m) (own_of uuid left) ≡ true
      stands =
          let k = sound m l is in
          let h = (found_passes (λ (j : Mapping). j.«module» == m) (λ (j : Mapping). list_any (on_module j.«module») (own_of uuid left) ≡ true) set k.mapping k.found (covers set (own_of uuid left) none_missing)).1 in
          subst (λ (n : ℕ). list_any (on_module n) (own_of uuid left) ≡ true) (found_number set m k.mapping k.found) h

      by : (o : Option Label) → s.lab m ≡ o → (k : Label) × (s.lab m ≡ Some k)
      by None none = absurd (false≢true (sym (any_none uuid s.lab left m s.proper none) ∙ stands))
      by (Some k) is = (k, is)
