-- All changes of two rounds, and the state after them.
use Rattle.std.proofs.Common.{◌≡◌, ℕ, zero, suc, ◌+◌, ◌-◌, ◌<◌, ◌≤◌, Bool, true, false, List, [], ◌∷◌, length, get_or, Option, Some, None, refl, sym, ap, ◌∙◌, subst, arith, inl, inr, ◌⊎◌}
use Rattle.std.proofs.Math.ListN.{set}
use Rattle.std.specs.Prelude.{◌==◌, map, filter, is_some, cond, count_by}
use Rattle.std.specs.List.{AllByRecursion, list_any}
use Rattle.std.proofs.lemmas.Bool.{cases_Bool, false≢true, cases_eq, cases_lt, eq-eqb}
use Rattle.std.proofs.lemmas.Option.{none-some, same_Some, unwrap_or-slice_get}
use Rattle.std.proofs.lemmas.List.{get_or-set_same}
use Rattle.nfit_reader.specs.declared.table.Mapping.{Mapping}
use Rattle.label_codec.specs.declared.label.Label.{Label}
use Rattle.label_set.specs.declared.placed.Placed.{Placed}
use Rattle.label_set.specs.declared.placed.SetStatus.TheVariants.{Complete}
use Rattle.label_set.specs.Rules.{is_updating}
use Rattle.namespace_map.specs.Namespaces.{AreaSummary}
use Rattle.namespace_map.proofs.Rising.{all_pass_to}
use Rattle.namespace_map.specs.Areas.{Area, Change, slots_of, slots_on, block_of, free_in, area_at, changed_areas, changed_area, all_changed}
use Rattle.namespace_map.specs.Commands.{no_area, count_in, taken_from, given_to}
use Rattle.namespace_map.specs.Changes.{area_summary, change_to, in_two}
use Rattle.namespace_map.specs.CommandLaws.{IsOf}
use Rattle.namespace_map.proofs.Slots.{owned}
use Rattle.namespace_map.proofs.Areas.{Proper, HasRoom, Fitting, moved_all, proper_after, area_of_other}
use Rattle.namespace_laws.proofs.Whole.{AllLab, all_append, own_of, own_each, any_of, any_none, none_passes}
use Rattle.namespace_laws.proofs.Apart.{on_module, own_apart, count_apart, count_none, count_some}
use Rattle.namespace_laws.proofs.Staged.{names, moved_hit, moved_miss, unnamed, moved_all_append, IsGiven, KeepsUuid, stage_fits, all_map}
use Rattle.namespace_laws.proofs.Sound.{IsWhole}
use Rattle.namespace_laws.proofs.Table.{Model, SoundAs, changes_now, own_complete}
use Rattle.namespace_laws.proofs.Create.{StandsAs}
use Rattle.namespace_laws.proofs.Proper.{count_cons}
use Rattle.namespace_laws.proofs.Shaped.{lies_there}

-- ---- labels after both rounds

pub two_hit : (P : ℕ → Option Label → Type 0) (f g : Label → Option Label) (ps : List (ℕ × Label)) (lab : ℕ → Option Label) (m : ℕ) → names ps m ≡ true
    → AllByRecursion (λ p. P p.0 (g p.1)) ps → P m (moved_all lab (in_two f g ps) m)
two_hit P f g [] lab m named all = absurd (false≢true named)
two_hit P f g (p ∷ []) lab m named all = moved_hit P g (p ∷ []) lab m named all
two_hit P f g (p ∷ q ∷ ps) lab m named all =
    subst (λ (h : ℕ → Option Label). P m (h m)) (sym (moved_all_append (map (change_to f) (p ∷ q ∷ ps)) (map (change_to g) (p ∷ q ∷ ps)) lab))
    (moved_hit P g (p ∷ q ∷ ps) (moved_all lab (map (change_to f) (p ∷ q ∷ ps))) m named all)

pub two_miss : (f g : Label → Option Label) (ps : List (ℕ × Label)) (lab : ℕ → Option Label) (m : ℕ) → names ps m ≡ false → moved_all lab (in_two f g ps) m ≡ lab m
two_miss f g [] lab m none = refl
two_miss f g (p ∷ []) lab m none = moved_miss g (p ∷ []) lab m (unnamed (p ∷ []) m none)
two_miss f g (p ∷ q ∷ ps) lab m none =
    ap (λ (h : ℕ → Option Label). h m) (moved_all_append (map (change_to f) (p ∷ q ∷ ps)) (map (change_to g) (p ∷ q ∷ ps)) lab)
    ∙ moved_miss g (p ∷ q ∷ ps) (moved_all lab (map (change_to f) (p ∷ q ∷ ps))) m (unnamed (p ∷ q ∷ ps) m none)
    ∙ moved_miss f (p ∷ q ∷ ps) lab m (unnamed (p ∷ q ∷ ps) m none)

pub two_fits : (uuid : List ℕ) (lab : ℕ → Option Label) (areas : List (Option Area)) (f g : Label → Option Label) → KeepsUuid f → KeepsUuid g → (ps : List (ℕ × Label))
    → AllByRecursion (IsGiven uuid lab areas) ps → Fitting uuid lab areas (in_two f g ps)
two_fits uuid lab areas f g kf kg [] all = tt
two_fits uuid lab areas f g kf kg (p ∷ []) all = stage_fits uuid lab areas g kg (p ∷ []) all
two_fits uuid lab areas f g kf kg (p ∷ q ∷ ps) all =
    all_append (λ c. IsOf uuid c × HasRoom lab areas c.number) (map (change_to f) (p ∷ q ∷ ps)) (map (change_to g) (p ∷ q ∷ ps))
    (stage_fits uuid lab areas f kf (p ∷ q ∷ ps) all) (stage_fits uuid lab areas g kg (p ∷ q ∷ ps) all)

of_map : (uuid : List ℕ) (f : Label → Option Label) → KeepsUuid f → (ps : List (ℕ × Label)) → AllByRecursion (λ p. p.1.uuid ≡ uuid) ps → AllByRecursion (IsOf uuid) (map (change_to f) ps)
of_map uuid f keeps ps all =
    all_map (IsOf uuid) (change_to f) ps (all_pass_to (λ p. p.1.uuid ≡ uuid) (λ p. IsOf uuid (change_to f p)) (λ p e. record { of_uuid = e; label_of_uuid = λ l is. keeps p.1 l is ∙ e }) ps all)

-- changes of the labels of one UUID are of that UUID
pub two_of : (uuid : List ℕ) (f g : Label → Option Label) → KeepsUuid f → KeepsUuid g → (ps : List (ℕ × Label)) → AllByRecursion (λ p. p.1.uuid ≡ uuid) ps → AllByRecursion (IsOf uuid) (in_two f g ps)
two_of uuid f g kf kg [] all = tt
two_of uuid f g kf kg (p ∷ []) all = of_map uuid g kg (p ∷ []) all
two_of uuid f g kf kg (p ∷ q ∷ ps) all =
    all_append (IsOf uuid) (map (change_to f) (p ∷ q ∷ ps)) (map (change_to g) (p ∷ q ∷ ps)) (of_map uuid f kf (p ∷ q ∷ ps) all) (of_map uuid g kg (p ∷ q ∷ ps) all)

-- ---- the final state, if each label becomes valid, has the same name and isn't updating

pub record Becomes (set : List Mapping) (c : Model) (name : List ℕ) (g : Label → Option Label) (p : ℕ × Label) : Type 0 where
  pub new : Label
  pub is_new : g p.1 ≡ Some new
  pub sound : SoundAs set c p.0 new
  pub named : new.name ≡ name
  pub quiet : changes_now new ≡ false

module _ (uuid : List ℕ) (set : List Mapping) (c : Model) (whole : IsWhole set c.shared) (name : List ℕ) (areas : List (Option Area)) (lab : ℕ → Option Label) (ps : List (ℕ × Label))
    (f g : Label → Option Label) (kf : KeepsUuid f) (kg : KeepsUuid g) (proper : Proper uuid lab areas) (given : AllByRecursion (IsGiven uuid lab areas) ps)
    (only : (m : ℕ) (l : Label) → lab m ≡ Some l → names ps m ≡ true) (covers : AllByRecursion (λ (m : Mapping). names ps m.«module» ≡ true) set)
    (becomes : AllByRecursion (Becomes set c name g) ps) (some : 1 ≤ length ps) where
  abbrev pub lab_end : ℕ → Option Label
  lab_end = moved_all lab (in_two f g ps)

  abbrev pub areas_end : List (Option Area)
  areas_end = all_changed areas (in_two f g ps)

  pub proper_end : Proper uuid lab_end areas_end
  proper_end = proper_after (in_two f g ps) uuid lab areas proper (two_fits uuid lab areas f g kf kg ps given)

  -- a named module has such a label
  pub hit_end : (m : ℕ) → names ps m ≡ true → (l : Label) × (lab_end m ≡ Some l) × SoundAs set c m l × (l.name ≡ name) × (changes_now l ≡ false)
  hit_end m named =
      two_hit (λ n o. (l : Label) × (o ≡ Some l) × SoundAs set c n l × (l.name ≡ name) × (changes_now l ≡ false)) f g ps lab m named
      (all_pass_to (Becomes set c name g) (λ p. (l : Label) × (g p.1 ≡ Some l) × SoundAs set c p.0 l × (l.name ≡ name) × (changes_now l ≡ false)) (λ p b. (b.new, b.is_new, b.sound, b.named, b.quiet)) ps becomes)

  -- the other modules have none
  pub miss_end : (m : ℕ) → names ps m ≡ false → lab_end m ≡ None
  miss_end m none = two_miss f g ps lab m none ∙ by (lab m) refl
    where
      by : (o : Option Label) → lab m ≡ o → o ≡ None
      by None is = refl
      by (Some l) is = absurd (false≢true (sym none ∙ only m l is))

  each_end : AllLab (λ m l. SoundAs set c m l × (l.name ≡ name) × (changes_now l ≡ false)) lab_end
  each_end m l is = elim (cases_Bool (names ps m)) [
    | inl it ↦ let h = hit_end m it in subst (λ (x : Label). SoundAs set c m x × (x.name ≡ name) × (changes_now x ≡ false)) (same_Some h.0 l (sym h.1 ∙ is)) (h.2, h.3, h.4)
    | inr not_it ↦ absurd (none-some l (sym (miss_end m not_it) ∙ is))
  ]

  some_end : list_any (λ (p : Placed). true) (own_of uuid areas_end) ≡ true
  some_end = first ps some (λ m n. n)
    where
      first : (qs : List (ℕ × Label)) → 1 ≤ length qs → ((m : ℕ) → names qs m ≡ true → names ps m ≡ true) → list_any (λ (p : Placed). true) (own_of uuid areas_end) ≡ true
      first [] few same = absurd (omega arith)
      first (q ∷ qs) few same =
          let h = hit_end q.0 (same q.0 (rw (eq-eqb q.0 q.0 refl) refl)) in
          any_of uuid lab_end areas_end q.0 h.0 (λ p. true) proper_end (lies_there uuid lab_end areas_end proper_end q.0 h.0 h.1) h.1 (λ s. refl)

  pub stands_end : StandsAs uuid set c name (Complete name false) areas_end
  stands_end = record {
    lab = lab_end;
    proper = proper_end;
    sound = λ m l is. (each_end m l is).0;
    named = λ m l is. (each_end m l is).1;
    has_status =
        own_complete uuid set c whole lab_end areas_end proper_end (λ m l is. (each_end m l is).0)
        (all_pass_to (λ (m : Mapping). names ps m.«module» ≡ true) (λ (m : Mapping). (m.«module» < length areas_end) × ((l : Label) × (lab_end m.«module» ≡ Some l)))
        (λ m named. let h = hit_end m.«module» named in (lies_there uuid lab_end areas_end proper_end m.«module» h.0 h.1, (h.0, h.1))) set covers)
        name (λ m l is. (each_end m l is).1) some_end
        ∙ ap (λ (b : Bool). Complete name b) (none_passes is_updating (own_of uuid areas_end) (own_each uuid lab_end areas_end proper_end (λ m l. changes_now l ≡ false) (λ m l is n. (each_end m l is).2)));
    some = some_end;
  }

-- ---- free slots

count_in_is : (xs : List Placed) (m : ℕ) → count_in (map (λ (p : Placed). p.«module») xs) m ≡ count_by (on_module m) xs
count_in_is [] m = refl
count_in_is (x ∷ xs) m = by (cases_Bool (x.«module» == m)) (count_in_is xs m)
  where
    by : (on_module m x ≡ true) ⊎ (on_module m x ≡ false) → count_in (map (λ (p : Placed). p.«module») xs) m ≡ count_by (on_module m) xs
        → count_in (map (λ (p : Placed). p.«module») (x ∷ xs)) m ≡ count_by (on_module m) (x ∷ xs)
    by (inl it) h =
        let a : count_by (on_module m) (x ∷ xs) ≡ 1 + count_by (on_module m) xs = count_cons (on_module m) x xs ∙ rw it refl in
        ap (λ (b : Bool). length (cond b (x.«module» ∷ filter (λ k. k == m) (map (λ (p : Placed). p.«module») xs)) (filter (λ k. k == m) (map (λ (p : Placed). p.«module») xs)))) it ∙ omega (arith, a, h)
    by (inr not_it) h =
        let a : count_by (on_module m) (x ∷ xs) ≡ count_by (on_module m) xs = count_cons (on_module m) x xs ∙ rw not_it (omega arith) in
        ap (λ (b : Bool). length (cond b (x.«module» ∷ filter (λ k. k == m) (map (λ (p : Placed). p.«module») xs)) (filter (λ k. k == m) (map (λ (p : Placed). p.«module») xs)))) not_it ∙ omega (arith, a, h)

-- a module has a label of the UUID as often as it occurs among their modules
pub owned_count : (uuid : List ℕ) (lab : ℕ → Option Label) (areas : List (Option Area)) → Proper uuid lab areas → (m : ℕ) → owned (lab m) ≡ count_in (map (λ (p : Placed). p.«module») (own_of uuid areas)) m
owned_count uuid lab areas proper m = by (lab m) refl ∙ sym (count_in_is (own_of uuid areas) m)
  where
    by : (o : Option Label) → lab m ≡ o → owned o ≡ count_by (on_module m) (own_of uuid areas)
    by None is = sym (count_none (on_module m) (own_of uuid areas) (any_none uuid lab areas m proper is))
    by (Some l) is =
        let few = count_apart (own_of uuid areas) m (own_apart uuid lab areas proper) in
        let many = count_some (on_module m) (own_of uuid areas) (any_of uuid lab areas m l (on_module m) proper (lies_there uuid lab areas proper m l is) is (λ s. eq-eqb m m refl)) in
        omega (arith, few, many)

-- ---- the states of areas

kept : {X : Type 0} (of : Option Area → X) → ((a : Option Area) (c : Change) → of (changed_area a c) ≡ of a) → (cs : List Change) (areas : List (Option Area)) (m : ℕ)
    → of (area_at (all_changed areas cs) m) ≡ of (area_at areas m)
unfolding all_changed
kept of same [] areas m = refl
kept of same (c ∷ cs) areas m = kept of same cs (changed_areas areas c) m ∙ elim (cases_eq m c.number) [
  | inl at ↦ elim (cases_lt c.number (length areas)) [
    | inl below ↦ rw at (ap of (unwrap_or-slice_get (changed_areas areas c) c.number None ∙ get_or-set_same areas c.number _ None below) ∙ same (area_at areas c.number) c)
    | inr past ↦ ap (λ (xs : List (Option Area)). of (area_at xs m)) (set_past areas c.number _ past)
  ]
  | inr apart ↦ ap of (area_of_other areas c m apart)
]
  where
    set_past : (xs : List (Option Area)) (i : ℕ) (a : Option Area) → length xs ≤ i → set xs i a ≡ xs
    set_past [] i a past = refl
    set_past (x ∷ xs) zero a past = absurd (omega arith)
    set_past (x ∷ xs) (suc i) a past = ap (λ (ys : List (Option Area)). x ∷ ys) (set_past xs i a (omega arith))

abbrev is_ready : Option Area → Bool
is_ready area = is_some area

ready_after : (a : Option Area) (c : Change) → is_ready (changed_area a c) ≡ is_ready a
ready_after None c = refl
ready_after (Some a) c = refl

block_after : (a : Option Area) (c : Change) → block_of (changed_area a c) ≡ block_of a
block_after None c = refl
block_after (Some a) c = refl

state_is : (a : Option Area) → area_summary a ≡ record { ready = is_ready a; block = block_of a; free = free_in (slots_of a) }
state_is None = refl
state_is (Some a) = refl

-- after changes, an area's state differs only in its free slots
pub state_after : (cs : List Change) (areas : List (Option Area)) (m n : ℕ) → free_in (slots_on (all_changed areas cs) m) ≡ n → area_summary (area_at (all_changed areas cs) m) ≡ record (area_summary (area_at areas m)) { free = n }
state_after cs areas m n free =
    state_is (area_at (all_changed areas cs) m)
    ∙ states (is_ready (area_at (all_changed areas cs) m)) (is_ready (area_at areas m)) (block_of (area_at (all_changed areas cs) m)) (block_of (area_at areas m)) (free_in (slots_on (all_changed areas cs) m)) n
    (kept is_ready ready_after cs areas m) (kept block_of block_after cs areas m) free
    ∙ ap (λ (s : AreaSummary). record s { free = n }) (sym (state_is (area_at areas m)))
  where
    states : (a b : Bool) (i j k l : ℕ) → a ≡ b → i ≡ j → k ≡ l → ◌≡◌ {A = AreaSummary} (record { ready = a; block = i; free = k }) (record { ready = b; block = j; free = l })
    states a b i j k l e f g = rw (e, f, g) refl

pub same_states : (xs ys : List AreaSummary) → length xs ≡ length ys → ((i : ℕ) → i < length xs → get_or xs i no_area ≡ get_or ys i no_area) → xs ≡ ys
same_states [] [] same each = refl
same_states [] (y ∷ ys) same each = absurd (omega arith)
same_states (x ∷ xs) [] same each = absurd (omega arith)
same_states (x ∷ xs) (y ∷ ys) same each =
    ap (λ (z : AreaSummary). z ∷ xs) (each 0 (omega arith)) ∙ ap (λ (zs : List AreaSummary). y ∷ zs) (same_states xs ys (omega arith) (λ i below. each (suc i) (omega arith)))

pub get_state : (areas : List (Option Area)) (i : ℕ) → get_or (map area_summary areas) i no_area ≡ area_summary (area_at areas i)
get_state areas i = at areas i ∙ ap area_summary (sym (unwrap_or-slice_get areas i None))
  where
    at : (as' : List (Option Area)) (j : ℕ) → get_or (map area_summary as') j no_area ≡ area_summary (get_or as' j None)
    at [] j = refl
    at (a ∷ as') zero = refl
    at (a ∷ as') (suc j) = at as' j

pub length_taken : (xs : List AreaSummary) (k : ℕ) (modules : List ℕ) → length (taken_from k modules xs) ≡ length xs
unfolding taken_from
length_taken [] k modules = refl
length_taken (x ∷ xs) k modules = ap suc (length_taken xs (k + 1) modules)

pub get_taken : (xs : List AreaSummary) (k i : ℕ) (modules : List ℕ) → i < length xs
    → get_or (taken_from k modules xs) i no_area ≡ record (get_or xs i no_area) { free = (get_or xs i no_area).free - count_in modules (k + i) }
unfolding taken_from
get_taken [] k i modules below = absurd (omega arith)
get_taken (x ∷ xs) k zero modules below = ap (λ (n : ℕ). record x { free = x.free - count_in modules n }) (omega arith)
get_taken (x ∷ xs) k (suc i) modules below =
    get_taken xs (k + 1) i modules (omega arith) ∙ ap (λ (n : ℕ). record (get_or xs i no_area) { free = (get_or xs i no_area).free - count_in modules n }) (omega arith)

pub length_given : (xs : List AreaSummary) (k : ℕ) (modules : List ℕ) → length (given_to k modules xs) ≡ length xs
unfolding given_to
length_given [] k modules = refl
length_given (x ∷ xs) k modules = ap suc (length_given xs (k + 1) modules)

pub get_given : (xs : List AreaSummary) (k i : ℕ) (modules : List ℕ) → i < length xs
    → get_or (given_to k modules xs) i no_area ≡ record (get_or xs i no_area) { free = (get_or xs i no_area).free + count_in modules (k + i) }
unfolding given_to
get_given [] k i modules below = absurd (omega arith)
get_given (x ∷ xs) k zero modules below = ap (λ (n : ℕ). record x { free = x.free + count_in modules n }) (omega arith)
get_given (x ∷ xs) k (suc i) modules below =
    get_given xs (k + 1) i modules (omega arith) ∙ ap (λ (n : ℕ). record (get_or xs i no_area) { free = (get_or xs i no_area).free + count_in modules n }) (omega arith)
