-- The map and the areas after a list of changes, from its effect on one entry and on the free slots.
use Rattle.std.proofs.Common.{◌≡◌, ◌≢◌, ℕ, ◌+◌, ◌-◌, ◌<◌, Bool, true, false, cond, List, [], ◌∷◌, length, get_or, Option, Some, None, refl, sym, ap, ◌∙◌, subst, arith, inl, inr, ◌⊎◌}
use Rattle.std.specs.Prelude.{map}
use Rattle.std.specs.List.{AllByRecursion}
use Rattle.std.specs.Str.{bytes_eq}
use Rattle.std.proofs.Math.ListN.{length-map}
use Rattle.std.proofs.lemmas.Bool.{cases_Bool, false≢true, false_from_ne_true}
use Rattle.std.proofs.lemmas.Slice.Eq.{bytes_eq-Decides}
use Rattle.nfit_reader.specs.declared.table.Mapping.{Mapping}
use Rattle.namespace_map.specs.Namespaces.{NamespaceEntry, AreaSummary, lookup, put, without, uuid_lt}
use Rattle.namespace_map.specs.Laws.{IsRising}
use Rattle.namespace_map.proofs.Entries.{lookup_entries, lookup_put}
use Rattle.namespace_map.proofs.Rising.{rising_same, rising_entries, rising_put}
use Rattle.namespace_map.specs.Areas.{Area, Change, slots_of, slots_on, free_in, area_at, all_changed}
use Rattle.namespace_map.specs.Commands.{no_area, count_in, taken_from, given_to}
use Rattle.namespace_map.specs.Changes.{namespaces_of, placed_in_all, area_summary}
use Rattle.namespace_map.specs.CommandLaws.{IsOf}
use Rattle.namespace_map.proofs.Labels.{other_entries_stay}
use Rattle.namespace_laws.proofs.Two.{length_kept}
use Rattle.namespace_laws.proofs.Final.{state_after, same_states, get_state, length_taken, get_taken, length_given, get_given}

-- ---- entries

pub lookup_without : (es : List NamespaceEntry) (v u : List ℕ) → lookup u (without v es) ≡ cond (bytes_eq v u) None (lookup u es)
lookup_without [] v u = both (bytes_eq v u)
  where
    both : (b : Bool) → ◌≡◌ {A = Option NamespaceEntry} None (cond b None None)
    both true = refl
    both false = refl
lookup_without (e ∷ es) v u = elim (cases_Bool (bytes_eq e.uuid v)) [
  | inl it ↦ rw it (lookup_without es v u ∙ gone ((bytes_eq-Decides e.uuid v).0 it))
  | inr not_it ↦ rw not_it (kept not_it (cases_Bool (bytes_eq e.uuid u)) (lookup_without es v u))
]
  where
    by_case : (b : Bool) → ◌≡◌ {A = Option NamespaceEntry} (cond b None (lookup u es)) (cond b None (cond b (Some e) (lookup u es)))
    by_case true = refl
    by_case false = refl

    gone : e.uuid ≡ v → cond (bytes_eq v u) None (lookup u es) ≡ cond (bytes_eq v u) None (lookup u (e ∷ es))
    gone same = by_case (bytes_eq v u) ∙ ap (λ (w : List ℕ). cond (bytes_eq v u) None (cond (bytes_eq w u) (Some e) (lookup u es))) (sym same)

    kept : bytes_eq e.uuid v ≡ false → (bytes_eq e.uuid u ≡ true) ⊎ (bytes_eq e.uuid u ≡ false) → lookup u (without v es) ≡ cond (bytes_eq v u) None (lookup u es)
        → lookup u (e ∷ without v es) ≡ cond (bytes_eq v u) None (lookup u (e ∷ es))
    kept apart (inl at) ih =
        let other : bytes_eq v u ≡ false = false_from_ne_true _ (λ s. false≢true (sym apart ∙ (bytes_eq-Decides e.uuid v).1 ((bytes_eq-Decides e.uuid u).0 at ∙ sym ((bytes_eq-Decides v u).0 s)))) in
        rw (at, other) refl
    kept apart (inr not_at) ih = rw not_at ih

above_without : (es : List NamespaceEntry) (u v : List ℕ) → AllByRecursion (λ (f : NamespaceEntry). uuid_lt u f.uuid ≡ true) es → AllByRecursion (λ (f : NamespaceEntry). uuid_lt u f.uuid ≡ true) (without v es)
above_without [] u v all = tt
above_without (f ∷ fs) u v (one, rest) = elim (cases_Bool (bytes_eq f.uuid v)) [
  | inl it ↦ rw it (above_without fs u v rest)
  | inr not_it ↦ rw not_it (one, above_without fs u v rest)
]

pub rising_without : (es : List NamespaceEntry) (v : List ℕ) → IsRising es → IsRising (without v es)
rising_without [] v rising = tt
rising_without (f ∷ fs) v (one, rest) = elim (cases_Bool (bytes_eq f.uuid v)) [
  | inl it ↦ rw it (rising_without fs v rest)
  | inr not_it ↦ rw not_it (above_without fs f.uuid v one, rising_without fs v rest)
]

module _ (sets : List (List Mapping)) (areas : List (Option Area)) (uuid : List ℕ) (cs : List Change) (of : AllByRecursion (IsOf uuid) cs) where
  abbrev before : List NamespaceEntry
  before = (namespaces_of sets areas).entries

  abbrev after : List NamespaceEntry
  after = (namespaces_of sets (all_changed areas cs)).entries

  others : (u : List ℕ) → u ≢ uuid → lookup u after ≡ lookup u before
  others u ne =
      lookup_entries sets (placed_in_all (all_changed areas cs)) u ∙ other_entries_stay sets cs u uuid areas ne of ∙ sym (lookup_entries sets (placed_in_all areas) u)

  -- one entry is added or replaced
  pub entries_put : (e : NamespaceEntry) → e.uuid ≡ uuid → lookup uuid after ≡ Some e → after ≡ put e before
  entries_put e is found =
      rising_same after (put e before) (rising_entries sets (placed_in_all (all_changed areas cs))) (rising_put before e (rising_entries sets (placed_in_all areas)))
      (λ u. by u (cases_Bool (bytes_eq e.uuid u)) ∙ sym (lookup_put before e u))
    where
      by : (u : List ℕ) → (bytes_eq e.uuid u ≡ true) ⊎ (bytes_eq e.uuid u ≡ false) → lookup u after ≡ cond (bytes_eq e.uuid u) (Some e) (lookup u before)
      by u (inl it) = rw it (subst (λ (v : List ℕ). lookup v after ≡ Some e) (sym is ∙ (bytes_eq-Decides e.uuid u).0 it) found)
      by u (inr not_it) = rw not_it (others u (λ same. false≢true (sym not_it ∙ (bytes_eq-Decides e.uuid u).1 (is ∙ sym same))))

  -- one entry is removed
  pub entries_without : lookup uuid after ≡ None → after ≡ without uuid before
  entries_without found =
      rising_same after (without uuid before) (rising_entries sets (placed_in_all (all_changed areas cs))) (rising_without before uuid (rising_entries sets (placed_in_all areas)))
      (λ u. by u (cases_Bool (bytes_eq uuid u)) ∙ sym (lookup_without before uuid u))
    where
      by : (u : List ℕ) → (bytes_eq uuid u ≡ true) ⊎ (bytes_eq uuid u ≡ false) → lookup u after ≡ cond (bytes_eq uuid u) None (lookup u before)
      by u (inl it) = rw it (subst (λ (v : List ℕ). lookup v after ≡ None) ((bytes_eq-Decides uuid u).0 it) found)
      by u (inr not_it) = rw not_it (others u (λ same. false≢true (sym not_it ∙ (bytes_eq-Decides uuid u).1 (sym same))))

-- ---- areas

module _ (areas : List (Option Area)) (cs : List Change) (modules : List ℕ) where
  abbrev left : List (Option Area)
  left = all_changed areas cs

  free_is : (i : ℕ) → (area_summary (area_at areas i)).free ≡ free_in (slots_on areas i)
  free_is i = by (area_at areas i)
    where
      by : (a : Option Area) → (area_summary a).free ≡ free_in (slots_of a)
      by None = refl
      by (Some a) = refl

  same_length : length (map area_summary left) ≡ length (map area_summary areas)
  same_length = length-map left area_summary ∙ length_kept cs areas ∙ sym (length-map areas area_summary)

  pub areas_taken : ((i : ℕ) → free_in (slots_on left i) ≡ free_in (slots_on areas i) - count_in modules i) → map area_summary left ≡ taken_from 0 modules (map area_summary areas)
  areas_taken free =
      same_states (map area_summary left) (taken_from 0 modules (map area_summary areas)) (same_length ∙ sym (length_taken (map area_summary areas) 0 modules)) each
    where
      each : (i : ℕ) → i < length (map area_summary left) → get_or (map area_summary left) i no_area ≡ get_or (taken_from 0 modules (map area_summary areas)) i no_area
      each i below =
          get_state left i
          ∙ state_after cs areas i (free_in (slots_on areas i) - count_in modules i) (free i)
          ∙ ap (λ (n : ℕ). record (area_summary (area_at areas i)) { free = n }) (ap (λ (n : ℕ). n - count_in modules i) (sym (free_is i)) ∙ ap (λ (k : ℕ). (area_summary (area_at areas i)).free - count_in modules k) (omega arith))
          ∙ ap (λ (s : AreaSummary). record s { free = s.free - count_in modules (0 + i) }) (sym (get_state areas i))
          ∙ sym (get_taken (map area_summary areas) 0 i modules (omega (arith, same_length)))

  pub areas_given : ((i : ℕ) → free_in (slots_on left i) ≡ free_in (slots_on areas i) + count_in modules i) → map area_summary left ≡ given_to 0 modules (map area_summary areas)
  areas_given free =
      same_states (map area_summary left) (given_to 0 modules (map area_summary areas)) (same_length ∙ sym (length_given (map area_summary areas) 0 modules)) each
    where
      each : (i : ℕ) → i < length (map area_summary left) → get_or (map area_summary left) i no_area ≡ get_or (given_to 0 modules (map area_summary areas)) i no_area
      each i below =
          get_state left i
          ∙ state_after cs areas i (free_in (slots_on areas i) + count_in modules i) (free i)
          ∙ ap (λ (n : ℕ). record (area_summary (area_at areas i)) { free = n }) (ap (λ (n : ℕ). n + count_in modules i) (sym (free_is i)) ∙ ap (λ (k : ℕ). (area_summary (area_at areas i)).free + count_in modules k) (omega arith))
          ∙ ap (λ (s : AreaSummary). record s { free = s.free + count_in modules (0 + i) }) (sym (get_state areas i))
          ∙ sym (get_given (map area_summary areas) 0 i modules (omega (arith, same_length)))

  pub areas_same : ((i : ℕ) → free_in (slots_on left i) ≡ free_in (slots_on areas i)) → map area_summary left ≡ map area_summary areas
  areas_same free = same_states (map area_summary left) (map area_summary areas) same_length each
    where
      each : (i : ℕ) → i < length (map area_summary left) → get_or (map area_summary left) i no_area ≡ get_or (map area_summary areas) i no_area
      each i below =
          get_state left i
          ∙ state_after cs areas i (free_in (slots_on areas i)) (free i)
          ∙ ap (λ (n : ℕ). record (area_summary (area_at areas i)) { free = n }) (sym (free_is i))
          ∙ sym (get_state areas i)
