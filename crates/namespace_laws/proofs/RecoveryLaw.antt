-- Recovery's label changes have the effect of recovery on the map.
use Rattle.std.proofs.Common.{◌≡◌, ℕ, ◌+◌, ◌<◌, Bool, true, false, cond, List, [], ◌∷◌, length, get_or, Option, Some, None, refl, sym, ap, ◌∙◌, arith, inl, inr, ◌⊎◌}
use Rattle.std.specs.Prelude.{map, slice_get}
use Rattle.std.specs.Option.{option_map}
use Rattle.std.specs.List.{AllByRecursion, list_any, flat_map}
use Rattle.std.specs.Str.{bytes_eq}
use Rattle.std.proofs.Math.ListN.{length-map}
use Rattle.std.proofs.lemmas.Bool.{cases_Bool, false≢true}
use Rattle.std.proofs.lemmas.Slice.Eq.{bytes_eq-Decides}
use Rattle.nfit_reader.specs.declared.table.Mapping.{Mapping}
use Rattle.label_set.specs.declared.placed.Placed.{Placed}
use Rattle.namespace_map.specs.Namespaces.{Namespaces, NamespaceEntry, AreaSummary, entry_with, lookup}
use Rattle.namespace_map.specs.Laws.{IsRising}
use Rattle.namespace_map.proofs.Entries.{lookup_entries}
use Rattle.namespace_map.proofs.Rising.{rising_same, rising_entries}
use Rattle.namespace_map.specs.Areas.{Area, Change, slots_on, slots_of, free_in, area_at, all_changed}
use Rattle.namespace_map.specs.Commands.{no_area, unfinished_gone, settled_entry, after_recovery}
use Rattle.namespace_map.specs.Changes.{namespaces_of, placed_in_all, area_summary, gone_changes, settling_changes, recovered_areas}
use Rattle.namespace_map.specs.Left.{AreRegions, LabelsAreRead}
use Rattle.namespace_laws.proofs.Whole.{own_of}
use Rattle.namespace_laws.proofs.Staged.{all_changed_append}
use Rattle.namespace_laws.proofs.Two.{length_kept}
use Rattle.namespace_laws.proofs.Allowed.{area_free}
use Rattle.namespace_laws.proofs.Final.{state_after, same_states, get_state}
use Rattle.namespace_laws.proofs.Recovery.{goes, lookup_gone, lookup_settled, total, gone_area, gone_length, gone_rising, gone_sets, gone_claims, settled_rising}
use Rattle.namespace_laws.proofs.GoneLists.{read_all}
use Rattle.namespace_laws.proofs.Gone.{found, GoneAll, gone_all, Above, above_apart}
use Rattle.namespace_laws.proofs.SettleAll.{SettledAll, settled_all}

namespaces_same : (a b : Namespaces) → a.sets ≡ b.sets → a.areas ≡ b.areas → a.entries ≡ b.entries → a.claims ≡ b.claims → a ≡ b
namespaces_same a b e f g h =
    ap (λ (s : List (List Mapping)). record a { sets = s }) e
    ∙ ap (λ (as' : List AreaSummary). record a { sets = b.sets; areas = as' }) f
    ∙ ap (λ (es : List NamespaceEntry). record a { sets = b.sets; areas = b.areas; entries = es }) g
    ∙ ap (λ (cs : List (List ℕ × ℕ)). record b { claims = cs }) h

-- each entry of a rising list is found under its UUID
pub self_found : (es : List NamespaceEntry) → IsRising es → AllByRecursion (λ (e : NamespaceEntry). lookup e.uuid es ≡ Some e) es
self_found [] rising = tt
self_found (e ∷ es) (above, rising) = (rw ((bytes_eq-Decides e.uuid e.uuid).1 refl) refl, later es above (self_found es rising))
  where
    later : (fs : List NamespaceEntry) → Above e.uuid fs → AllByRecursion (λ (f : NamespaceEntry). lookup f.uuid es ≡ Some f) fs → AllByRecursion (λ (f : NamespaceEntry). lookup f.uuid (e ∷ es) ≡ Some f) fs
    later [] less all = tt
    later (f ∷ fs) (less, lesses) (one, rest) = (by (cases_Bool (bytes_eq e.uuid f.uuid)), later fs lesses rest)
      where
        by : (bytes_eq e.uuid f.uuid ≡ true) ⊎ (bytes_eq e.uuid f.uuid ≡ false) → lookup f.uuid (e ∷ es) ≡ Some f
        by (inl at) = absurd (above_apart e.uuid f.uuid less (sym ((bytes_eq-Decides e.uuid f.uuid).0 at)))
        by (inr not_at) = rw not_at one

-- the UUID of an entry is among the entries'
among : (es : List NamespaceEntry) (u : List ℕ) (gone : Namespaces) → cond (list_any (λ (e : NamespaceEntry). bytes_eq e.uuid u) es) (option_map (settled_entry gone) (lookup u es)) (lookup u es) ≡ option_map (settled_entry gone) (lookup u es)
among es u gone = by (cases_Bool (list_any (λ (e : NamespaceEntry). bytes_eq e.uuid u) es))
  where
    none : (xs : List NamespaceEntry) → list_any (λ (e : NamespaceEntry). bytes_eq e.uuid u) xs ≡ false → lookup u xs ≡ None
    none [] e = refl
    none (x ∷ xs) e = elim (cases_Bool (bytes_eq x.uuid u)) [
      | inl it ↦ absurd (false≢true (sym e ∙ rw it refl))
      | inr not_it ↦ rw not_it (none xs (rw not_it at e))
    ]

    by : (list_any (λ (e : NamespaceEntry). bytes_eq e.uuid u) es ≡ true) ⊎ (list_any (λ (e : NamespaceEntry). bytes_eq e.uuid u) es ≡ false)
        → cond (list_any (λ (e : NamespaceEntry). bytes_eq e.uuid u) es) (option_map (settled_entry gone) (lookup u es)) (lookup u es) ≡ option_map (settled_entry gone) (lookup u es)
    by (inl it) = rw it refl
    by (inr not_it) = rw not_it (none es not_it ∙ sym (ap (option_map (settled_entry gone)) (none es not_it)))

module _ (sets : List (List Mapping)) (areas : List (Option Area)) (regions : AreRegions sets) (read : LabelsAreRead areas) where
  abbrev ns : Namespaces
  ns = namespaces_of sets areas

  rising : IsRising ns.entries
  rising = rising_entries sets (placed_in_all areas)

  -- ---- the unfinished entries

  abbrev first : List Change
  first = flat_map (gone_changes areas) ns.entries

  abbrev left : List (Option Area)
  left = all_changed areas first

  went : GoneAll sets areas ns.entries first
  went = gone_all ns.entries sets areas read rising (self_found ns.entries rising)

  abbrev gone : Namespaces
  gone = unfinished_gone ns ns.entries

  free_is : (i : ℕ) → (area_summary (area_at areas i)).free ≡ free_in (slots_on areas i)
  free_is i = by (area_at areas i)
    where
      by : (a : Option Area) → (area_summary a).free ≡ free_in (slots_of a)
      by None = refl
      by (Some a) = refl

  gone_areas : (namespaces_of sets left).areas ≡ gone.areas
  gone_areas =
      same_states (map area_summary left) gone.areas (length-map left area_summary ∙ length_kept first areas ∙ sym (length-map areas area_summary) ∙ sym (gone_length ns.entries ns)) each
    where
      each : (i : ℕ) → i < length (map area_summary left) → get_or (map area_summary left) i no_area ≡ get_or gone.areas i no_area
      each i below =
          let below' : i < length ns.areas = omega (arith, length-map left area_summary, length_kept first areas, length-map areas area_summary) in
          get_state left i
          ∙ state_after first areas i (free_in (slots_on areas i) + total ns.entries i) (went.free i)
          ∙ ap (λ (n : ℕ). record (area_summary (area_at areas i)) { free = n }) (ap (λ (n : ℕ). n + total ns.entries i) (sym (free_is i)))
          ∙ ap (λ (s : AreaSummary). record s { free = s.free + total ns.entries i }) (sym (get_state areas i))
          ∙ sym (gone_area ns.entries ns i below')

  gone_found : (u : List ℕ) → found sets left u ≡ lookup u gone.entries
  gone_found u =
      lookup_entries sets (placed_in_all left) u
      ∙ ap (λ (own : List Placed). option_map (entry_with sets own) (slice_get own 0)) (went.labels u)
      ∙ by (list_any (goes u) ns.entries)
      ∙ ap (λ (o : Option NamespaceEntry). cond (list_any (goes u) ns.entries) None o) (sym (lookup_entries sets (placed_in_all areas) u))
      ∙ sym (lookup_gone ns.entries ns u)
    where
      by : (b : Bool) → option_map (entry_with sets (cond b [] (own_of u areas))) (slice_get (cond b [] (own_of u areas)) 0) ≡ cond b None (option_map (entry_with sets (own_of u areas)) (slice_get (own_of u areas) 0))
      by true = refl
      by false = refl

  gone_entries : (namespaces_of sets left).entries ≡ gone.entries
  gone_entries = rising_same (namespaces_of sets left).entries gone.entries (rising_entries sets (placed_in_all left)) (gone_rising ns.entries ns rising) gone_found

  gone_is : namespaces_of sets left ≡ gone
  gone_is = namespaces_same (namespaces_of sets left) gone (sym (gone_sets ns.entries ns)) gone_areas gone_entries (sym (gone_claims ns.entries ns))

  -- ---- the complete ones

  abbrev now : Namespaces
  now = namespaces_of sets left

  abbrev second : List Change
  second = flat_map (settling_changes left) now.entries

  rising_now : IsRising now.entries
  rising_now = rising_entries sets (placed_in_all left)

  settles : SettledAll sets left now now.entries second
  settles = settled_all now.entries sets left now regions (read_all first areas read went.bytes) rising_now (self_found now.entries rising_now) (area_free sets left)

  settled_areas : (namespaces_of sets (all_changed left second)).areas ≡ now.areas
  settled_areas = same_states (map area_summary (all_changed left second)) (map area_summary left) (length-map (all_changed left second) area_summary ∙ length_kept second left ∙ sym (length-map left area_summary)) each
    where
      free_left : (i : ℕ) → (area_summary (area_at left i)).free ≡ free_in (slots_on left i)
      free_left i = by (area_at left i)
        where
          by : (a : Option Area) → (area_summary a).free ≡ free_in (slots_of a)
          by None = refl
          by (Some a) = refl

      each : (i : ℕ) → i < length (map area_summary (all_changed left second)) → get_or (map area_summary (all_changed left second)) i no_area ≡ get_or (map area_summary left) i no_area
      each i below =
          get_state (all_changed left second) i
          ∙ state_after second left i (free_in (slots_on left i)) (settles.free i)
          ∙ ap (λ (n : ℕ). record (area_summary (area_at left i)) { free = n }) (sym (free_left i))
          ∙ sym (get_state left i)

  settled_entries : (namespaces_of sets (all_changed left second)).entries ≡ map (settled_entry now) now.entries
  settled_entries =
      rising_same (namespaces_of sets (all_changed left second)).entries (map (settled_entry now) now.entries) (rising_entries sets (placed_in_all (all_changed left second))) (settled_rising now now.entries rising_now)
      (λ u. settles.entries u ∙ among now.entries u now ∙ sym (lookup_settled now now.entries u))

  settled_is : namespaces_of sets (all_changed left second) ≡ record now { entries = map (settled_entry now) now.entries }
  settled_is = namespaces_same (namespaces_of sets (all_changed left second)) (record now { entries = map (settled_entry now) now.entries }) refl settled_areas settled_entries refl

  pub recovery_agrees : namespaces_of sets (recovered_areas sets areas) ≡ after_recovery ns
  recovery_agrees =
      ap (namespaces_of sets) (all_changed_append first second areas)
      ∙ settled_is
      ∙ ap (λ (g : Namespaces). record g { entries = map (settled_entry g) g.entries }) gone_is
