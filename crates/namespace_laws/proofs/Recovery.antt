-- Recovery as a step on the map: its result depends on each entry and on the free slots, including those of unfinished entries.
use Rattle.std.proofs.Common.{◌≡◌, ◌≢◌, ℕ, ◌+◌, ◌<◌, Bool, true, false, cond, List, [], ◌∷◌, length, get_or, Option, Some, None, refl, sym, ap, ◌∙◌, arith, inl, inr, ◌⊎◌}
use Rattle.std.specs.Prelude.{◌&&◌, ◌||◌, map}
use Rattle.std.specs.Option.{option_map}
use Rattle.std.specs.List.{AllByRecursion, list_any}
use Rattle.std.specs.Str.{bytes_eq}
use Rattle.std.proofs.lemmas.Bool.{cases_Bool, false≢true, and_right, or_right, false_from_ne_true}
use Rattle.std.proofs.lemmas.Option.{none-some, same_Some}
use Rattle.std.proofs.lemmas.Slice.Eq.{bytes_eq-Decides}
use Rattle.nfit_reader.specs.declared.table.Mapping.{Mapping}
use Rattle.namespace_map.specs.Namespaces.{Namespaces, NamespaceEntry, AreaSummary, lookup, without, uuid_lt}
use Rattle.namespace_map.specs.Laws.{IsRising}
use Rattle.namespace_map.proofs.Entries.{lt_irreflexive}
use Rattle.namespace_map.proofs.Rising.{rising_same}
use Rattle.namespace_map.specs.Commands.{no_area, count_in, entry_modules, deleted_entry, is_unfinished, unfinished_gone, settled_entry, after_recovery}
use Rattle.namespace_laws.proofs.Agrees.{lookup_without, rising_without}
use Rattle.namespace_laws.proofs.Final.{same_states, length_given, get_given}

-- ---- lookups after recovery

pub lookup_settled : (gone : Namespaces) (es : List NamespaceEntry) (u : List ℕ) → lookup u (map (settled_entry gone) es) ≡ option_map (settled_entry gone) (lookup u es)
lookup_settled gone [] u = refl
lookup_settled gone (e ∷ es) u = elim (cases_Bool (bytes_eq e.uuid u)) [
  | inl it ↦ rw it refl
  | inr not_it ↦ rw not_it (lookup_settled gone es u)
]

abbrev pub goes : List ℕ → NamespaceEntry → Bool
goes u e = is_unfinished e.status && bytes_eq e.uuid u

-- lookups after the unfinished entries of a list were removed
pub lookup_gone : (es : List NamespaceEntry) (ns : Namespaces) (u : List ℕ) → lookup u (unfinished_gone ns es).entries ≡ cond (list_any (goes u) es) None (lookup u ns.entries)
unfolding unfinished_gone
lookup_gone [] ns u = refl
lookup_gone (e ∷ es) ns u = step (is_unfinished e.status) (lookup_gone es (deleted_entry ns (Some e)) u) (lookup_gone es ns u)
  where
    both : (b c : Bool) → cond c None (cond b None (lookup u ns.entries)) ≡ cond (b || c) None (lookup u ns.entries)
    both true true = refl
    both true false = refl
    both false true = refl
    both false false = refl

    step : (b : Bool) → lookup u (unfinished_gone (deleted_entry ns (Some e)) es).entries ≡ cond (list_any (goes u) es) None (lookup u (without e.uuid ns.entries))
        → lookup u (unfinished_gone ns es).entries ≡ cond (list_any (goes u) es) None (lookup u ns.entries)
        → lookup u (unfinished_gone (cond b (deleted_entry ns (Some e)) ns) es).entries ≡ cond ((b && bytes_eq e.uuid u) || list_any (goes u) es) None (lookup u ns.entries)
    step true gone stays = gone ∙ ap (λ (o : Option NamespaceEntry). cond (list_any (goes u) es) None o) (lookup_without ns.entries e.uuid u) ∙ both (bytes_eq e.uuid u) (list_any (goes u) es)
    step false gone stays = stays

-- an entry is found in its list
goes_there : (es : List NamespaceEntry) (u : List ℕ) (e : NamespaceEntry) → lookup u es ≡ Some e → is_unfinished e.status ≡ true → list_any (goes u) es ≡ true
goes_there [] u e is gone = absurd (none-some e is)
goes_there (f ∷ fs) u e is gone = elim (cases_Bool (bytes_eq f.uuid u)) [
  | inl it ↦
      let same : f ≡ e = same_Some f e (rw it at is) in
      let ends : is_unfinished f.status ≡ true = ap (λ (x : NamespaceEntry). is_unfinished x.status) same ∙ gone in
      rw (it, ends) refl
  | inr not_it ↦ or_right (goes u f) (list_any (goes u) fs) (goes_there fs u e (rw not_it at is) gone)
]

not_above : (es : List NamespaceEntry) (u v : List ℕ) → v ≡ u → AllByRecursion (λ (f : NamespaceEntry). uuid_lt v f.uuid ≡ true) es → list_any (goes u) es ≡ false
not_above [] u v same all = refl
not_above (f ∷ fs) u v same (less, rest) =
    let apart : bytes_eq f.uuid u ≡ false =
    false_from_ne_true _ (λ s. false≢true (sym (lt_irreflexive v f.uuid less) ∙ (bytes_eq-Decides v f.uuid).1 (same ∙ sym ((bytes_eq-Decides f.uuid u).0 s)))) in
    rw (and_right (is_unfinished f.status) (bytes_eq f.uuid u) apart) (not_above fs u v same rest)

stays_there : (es : List NamespaceEntry) (u : List ℕ) (e : NamespaceEntry) → IsRising es → lookup u es ≡ Some e → is_unfinished e.status ≡ false → list_any (goes u) es ≡ false
stays_there [] u e rising is status = refl
stays_there (f ∷ fs) u e (above_f, rising) is status = elim (cases_Bool (bytes_eq f.uuid u)) [
  | inl it ↦
      let same : f ≡ e = same_Some f e (rw it at is) in
      let quiet : is_unfinished f.status ≡ false = ap (λ (x : NamespaceEntry). is_unfinished x.status) same ∙ status in
      rw quiet (not_above fs u f.uuid ((bytes_eq-Decides f.uuid u).0 it) above_f)
  | inr not_it ↦ rw (and_right (is_unfinished f.status) (bytes_eq f.uuid u) not_it) (stays_there fs u e rising (rw not_it at is) status)
]

-- an entry tells whether it is removed
abbrev pub gone_of : Option NamespaceEntry → Bool
gone_of None = false
gone_of (Some e) = is_unfinished e.status

pub goes_is : (es : List NamespaceEntry) (u : List ℕ) → IsRising es → list_any (goes u) es ≡ gone_of (lookup u es)
goes_is es u rising = by (lookup u es) refl
  where
    none_goes : (xs : List NamespaceEntry) → lookup u xs ≡ None → list_any (goes u) xs ≡ false
    none_goes [] is = refl
    none_goes (x ∷ xs) is = elim (cases_Bool (bytes_eq x.uuid u)) [
      | inl it ↦ absurd (none-some x (sym (rw it at is)))
      | inr not_it ↦ rw (and_right (is_unfinished x.status) (bytes_eq x.uuid u) not_it) (none_goes xs (rw not_it at is))
    ]

    by : (o : Option NamespaceEntry) → lookup u es ≡ o → list_any (goes u) es ≡ gone_of o
    by None is = none_goes es is
    by (Some e) is = elim (cases_Bool (is_unfinished e.status)) [
      | inl it ↦ goes_there es u e is it ∙ sym it
      | inr not_it ↦ stays_there es u e rising is not_it ∙ sym not_it
    ]

-- the entry after settling
abbrev pub settle : Namespaces → Option NamespaceEntry → Option NamespaceEntry
settle gone None = None
settle gone (Some e) = cond (is_unfinished e.status) None (Some (settled_entry gone e))

pub lookup_recovered : (ns : Namespaces) (u : List ℕ) → IsRising ns.entries → lookup u (after_recovery ns).entries ≡ settle (unfinished_gone ns ns.entries) (lookup u ns.entries)
lookup_recovered ns u rising =
    lookup_settled (unfinished_gone ns ns.entries) (unfinished_gone ns ns.entries).entries u
    ∙ ap (option_map (settled_entry (unfinished_gone ns ns.entries))) (lookup_gone ns.entries ns u ∙ ap (λ (b : Bool). cond b None (lookup u ns.entries)) (goes_is ns.entries u rising))
    ∙ by (lookup u ns.entries)
  where
    both : (b : Bool) (e : NamespaceEntry) → option_map (settled_entry (unfinished_gone ns ns.entries)) (cond b None (Some e)) ≡ cond b None (Some (settled_entry (unfinished_gone ns ns.entries) e))
    both true e = refl
    both false e = refl

    by : (o : Option NamespaceEntry) → option_map (settled_entry (unfinished_gone ns ns.entries)) (cond (gone_of o) None o) ≡ settle (unfinished_gone ns ns.entries) o
    by None = refl
    by (Some e) = both (is_unfinished e.status) e

-- ---- what recovery keeps

pub gone_rising : (es : List NamespaceEntry) (ns : Namespaces) → IsRising ns.entries → IsRising (unfinished_gone ns es).entries
unfolding unfinished_gone
gone_rising [] ns rising = rising
gone_rising (e ∷ es) ns rising = by (is_unfinished e.status) (gone_rising es)
  where
    by : (b : Bool) → ((ns : Namespaces) → IsRising ns.entries → IsRising (unfinished_gone ns es).entries) → IsRising (unfinished_gone (cond b (deleted_entry ns (Some e)) ns) es).entries
    by true on = on (deleted_entry ns (Some e)) (rising_without ns.entries e.uuid rising)
    by false on = on ns rising

pub settled_rising : (gone : Namespaces) (es : List NamespaceEntry) → IsRising es → IsRising (map (settled_entry gone) es)
settled_rising gone [] rising = tt
settled_rising gone (e ∷ es) (one, rest) = (above es one, settled_rising gone es rest)
  where
    above : (fs : List NamespaceEntry) → AllByRecursion (λ (f : NamespaceEntry). uuid_lt e.uuid f.uuid ≡ true) fs → AllByRecursion (λ (f : NamespaceEntry). uuid_lt e.uuid f.uuid ≡ true) (map (settled_entry gone) fs)
    above [] all = tt
    above (f ∷ fs) (less, rest) = (less, above fs rest)

pub recovered_rising : (ns : Namespaces) → IsRising ns.entries → IsRising (after_recovery ns).entries
recovered_rising ns rising = settled_rising (unfinished_gone ns ns.entries) (unfinished_gone ns ns.entries).entries (gone_rising ns.entries ns rising)

pub gone_sets : (es : List NamespaceEntry) (ns : Namespaces) → (unfinished_gone ns es).sets ≡ ns.sets
unfolding unfinished_gone
gone_sets [] ns = refl
gone_sets (e ∷ es) ns = by (is_unfinished e.status) (gone_sets es)
  where
    by : (b : Bool) → ((ns : Namespaces) → (unfinished_gone ns es).sets ≡ ns.sets) → (unfinished_gone (cond b (deleted_entry ns (Some e)) ns) es).sets ≡ ns.sets
    by true on = on (deleted_entry ns (Some e))
    by false on = on ns

pub gone_claims : (es : List NamespaceEntry) (ns : Namespaces) → (unfinished_gone ns es).claims ≡ ns.claims
unfolding unfinished_gone
gone_claims [] ns = refl
gone_claims (e ∷ es) ns = by (is_unfinished e.status) (gone_claims es)
  where
    by : (b : Bool) → ((ns : Namespaces) → (unfinished_gone ns es).claims ≡ ns.claims) → (unfinished_gone (cond b (deleted_entry ns (Some e)) ns) es).claims ≡ ns.claims
    by true on = on (deleted_entry ns (Some e))
    by false on = on ns

-- ---- the slots that unfinished entries free

abbrev pub weight : Option NamespaceEntry → ℕ → ℕ
weight None i = 0
weight (Some e) i = cond (is_unfinished e.status) (count_in (entry_modules e) i) 0

abbrev pub total : List NamespaceEntry → ℕ → ℕ
total [] i = 0
total (e ∷ es) i = weight (Some e) i + total es i

pub gone_length : (es : List NamespaceEntry) (ns : Namespaces) → length (unfinished_gone ns es).areas ≡ length ns.areas
unfolding unfinished_gone
gone_length [] ns = refl
gone_length (e ∷ es) ns = by (is_unfinished e.status) (gone_length es)
  where
    by : (b : Bool) → ((ns : Namespaces) → length (unfinished_gone ns es).areas ≡ length ns.areas) → length (unfinished_gone (cond b (deleted_entry ns (Some e)) ns) es).areas ≡ length ns.areas
    by true on = on (deleted_entry ns (Some e)) ∙ length_given ns.areas 0 (entry_modules e)
    by false on = on ns

abbrev pub with_free : AreaSummary → ℕ → AreaSummary
with_free a n = record a { free = n }

pub gone_area : (es : List NamespaceEntry) (ns : Namespaces) (i : ℕ) → i < length ns.areas
    → get_or (unfinished_gone ns es).areas i no_area ≡ with_free (get_or ns.areas i no_area) ((get_or ns.areas i no_area).free + total es i)
unfolding unfinished_gone
gone_area [] ns i below = ap (with_free (get_or ns.areas i no_area)) (omega arith)
gone_area (e ∷ es) ns i below = by (is_unfinished e.status) (gone_area es)
  where
    by : (b : Bool) → ((ns : Namespaces) (i : ℕ) → i < length ns.areas → get_or (unfinished_gone ns es).areas i no_area ≡ with_free (get_or ns.areas i no_area) ((get_or ns.areas i no_area).free + total es i))
        → get_or (unfinished_gone (cond b (deleted_entry ns (Some e)) ns) es).areas i no_area
        ≡ with_free (get_or ns.areas i no_area) ((get_or ns.areas i no_area).free + (cond b (count_in (entry_modules e) i) 0 + total es i))
    by true on =
        on (deleted_entry ns (Some e)) i (omega (arith, length_given ns.areas 0 (entry_modules e)))
        ∙ ap (λ (a : AreaSummary). with_free a (a.free + total es i)) (get_given ns.areas 0 i (entry_modules e) below)
        ∙ ap (with_free (get_or ns.areas i no_area)) (let z : count_in (entry_modules e) (0 + i) ≡ count_in (entry_modules e) i = ap (count_in (entry_modules e)) (omega arith) in omega (arith, z))
    by false on = on ns i below ∙ ap (with_free (get_or ns.areas i no_area)) (omega arith)

-- ---- the total, by one entry and the others

without_above : (es : List NamespaceEntry) (u v : List ℕ) → v ≡ u → AllByRecursion (λ (f : NamespaceEntry). uuid_lt v f.uuid ≡ true) es → without u es ≡ es
without_above [] u v same all = refl
without_above (f ∷ fs) u v same (less, rest) =
    let apart : bytes_eq f.uuid u ≡ false =
    false_from_ne_true _ (λ s. false≢true (sym (lt_irreflexive v f.uuid less) ∙ (bytes_eq-Decides v f.uuid).1 (same ∙ sym ((bytes_eq-Decides f.uuid u).0 s)))) in
    rw apart (ap (λ (xs : List NamespaceEntry). f ∷ xs) (without_above fs u v same rest))

total_parts : (es : List NamespaceEntry) (u : List ℕ) (i : ℕ) → IsRising es → total es i ≡ total (without u es) i + weight (lookup u es) i
total_parts [] u i rising = refl
total_parts (f ∷ fs) u i (above, rising) = elim (cases_Bool (bytes_eq f.uuid u)) [
  | inl it ↦ rw it (let same = ap (λ (xs : List NamespaceEntry). total xs i) (without_above fs u f.uuid ((bytes_eq-Decides f.uuid u).0 it) above) in omega (arith, same))
  | inr not_it ↦ rw not_it (let h = total_parts fs u i rising in omega (arith, h))
]

-- ---- two maps that differ only in one entry

pub record AreNear (left right : Namespaces) (uuid : List ℕ) : Type 0 where
  pub sets : left.sets ≡ right.sets
  pub claims : left.claims ≡ right.claims
  pub rising_left : IsRising left.entries
  pub rising_right : IsRising right.entries
  pub others : (u : List ℕ) → u ≢ uuid → lookup u left.entries ≡ lookup u right.entries
  pub count : length left.areas ≡ length right.areas
  -- free slots, plus those that the entry frees, are as many
  pub areas : (i : ℕ) → i < length left.areas
      → with_free (get_or left.areas i no_area) ((get_or left.areas i no_area).free + weight (lookup uuid left.entries) i)
      ≡ with_free (get_or right.areas i no_area) ((get_or right.areas i no_area).free + weight (lookup uuid right.entries) i)

module _ (left right : Namespaces) (uuid : List ℕ) (near : AreNear left right uuid) where
  abbrev gone_left : Namespaces
  gone_left = unfinished_gone left left.entries

  abbrev gone_right : Namespaces
  gone_right = unfinished_gone right right.entries

  same_rest : without uuid left.entries ≡ without uuid right.entries
  same_rest =
      rising_same (without uuid left.entries) (without uuid right.entries) (rising_without left.entries uuid near.rising_left) (rising_without right.entries uuid near.rising_right)
      (λ u. lookup_without left.entries uuid u ∙ by u (cases_Bool (bytes_eq uuid u)) ∙ sym (lookup_without right.entries uuid u))
    where
      by : (u : List ℕ) → (bytes_eq uuid u ≡ true) ⊎ (bytes_eq uuid u ≡ false) → cond (bytes_eq uuid u) None (lookup u left.entries) ≡ cond (bytes_eq uuid u) None (lookup u right.entries)
      by u (inl it) = rw it refl
      by u (inr not_it) = rw not_it (near.others u (λ same. false≢true (sym not_it ∙ (bytes_eq-Decides uuid u).1 (sym same))))

  pub same_areas : gone_left.areas ≡ gone_right.areas
  same_areas = same_states gone_left.areas gone_right.areas (gone_length left.entries left ∙ near.count ∙ sym (gone_length right.entries right)) each
    where
      more : (a b : AreaSummary) (x y t : ℕ) → with_free a (a.free + x) ≡ with_free b (b.free + y) → with_free a (a.free + (t + x)) ≡ with_free b (b.free + (t + y))
      more a b x y t e =
          let frees : a.free + x ≡ b.free + y = ap (λ (s : AreaSummary). s.free) e in
          ap (with_free a) (omega arith) ∙ ap (λ (s : AreaSummary). with_free s (t + s.free)) e ∙ ap (with_free b) (omega arith)

      each : (i : ℕ) → i < length gone_left.areas → get_or gone_left.areas i no_area ≡ get_or gone_right.areas i no_area
      each i below =
          let below_left : i < length left.areas = omega (arith, gone_length left.entries left) in
          let rest : total (without uuid left.entries) i ≡ total (without uuid right.entries) i = ap (λ (xs : List NamespaceEntry). total xs i) same_rest in
          gone_area left.entries left i below_left
          ∙ ap (λ (n : ℕ). with_free (get_or left.areas i no_area) ((get_or left.areas i no_area).free + n)) (total_parts left.entries uuid i near.rising_left)
          ∙ more (get_or left.areas i no_area) (get_or right.areas i no_area) (weight (lookup uuid left.entries) i) (weight (lookup uuid right.entries) i) (total (without uuid left.entries) i) (near.areas i below_left)
          ∙ ap (λ (n : ℕ). with_free (get_or right.areas i no_area) ((get_or right.areas i no_area).free + (n + weight (lookup uuid right.entries) i))) rest
          ∙ ap (λ (n : ℕ). with_free (get_or right.areas i no_area) ((get_or right.areas i no_area).free + n)) (sym (total_parts right.entries uuid i near.rising_right))
          ∙ sym (gone_area right.entries right i (omega (arith, near.count)))

  -- settling depends only on the areas
  pub settle_same : (o : Option NamespaceEntry) → settle gone_left o ≡ settle gone_right o
  settle_same None = refl
  settle_same (Some e) = ap (λ (areas : List AreaSummary). cond (is_unfinished e.status) None (Some (settled_entry (record gone_right { areas = areas }) e))) same_areas

  -- if the entry has the same result, so has the whole map
  pub recovered_same : settle gone_left (lookup uuid left.entries) ≡ settle gone_right (lookup uuid right.entries) → after_recovery left ≡ after_recovery right
  recovered_same own =
      namespaces_same (after_recovery left) (after_recovery right) (gone_sets left.entries left ∙ near.sets ∙ sym (gone_sets right.entries right)) same_areas
      (rising_same (after_recovery left).entries (after_recovery right).entries (recovered_rising left near.rising_left) (recovered_rising right near.rising_right) each)
      (gone_claims left.entries left ∙ near.claims ∙ sym (gone_claims right.entries right))
    where
      namespaces_same : (a b : Namespaces) → a.sets ≡ b.sets → a.areas ≡ b.areas → a.entries ≡ b.entries → a.claims ≡ b.claims → a ≡ b
      namespaces_same a b e f g h =
          ap (λ (s : List (List Mapping)). record a { sets = s }) e
          ∙ ap (λ (as' : List AreaSummary). record a { sets = b.sets; areas = as' }) f
          ∙ ap (λ (es : List NamespaceEntry). record a { sets = b.sets; areas = b.areas; entries = es }) g
          ∙ ap (λ (cs : List (List ℕ × ℕ)). record b { claims = cs }) h

      each : (u : List ℕ) → lookup u (after_recovery left).entries ≡ lookup u (after_recovery right).entries
      each u =
          lookup_recovered left u near.rising_left
          ∙ elim (cases_Bool (bytes_eq u uuid)) [
            | inl it ↦
                let same : u ≡ uuid = (bytes_eq-Decides u uuid).0 it in
                ap (λ (v : List ℕ). settle gone_left (lookup v left.entries)) same ∙ own ∙ ap (λ (v : List ℕ). settle gone_right (lookup v right.entries)) (sym same)
            | inr not_it ↦
                let other : u ≢ uuid = λ same. false≢true (sym not_it ∙ (bytes_eq-Decides u uuid).1 same) in
                settle_same (lookup u left.entries) ∙ ap (settle gone_right) (near.others u other)
          ]
          ∙ sym (lookup_recovered right u near.rising_right)
