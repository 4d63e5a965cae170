-- All complete entries, settled.
use Rattle.std.proofs.Common.{◌≡◌, ◌≢◌, ℕ, ◌/◌, ◌%◌, Bool, true, false, cond, List, [], ◌∷◌, ◌++◌, Option, Some, refl, sym, ap, ◌∙◌, subst, inl, inr, ◌⊎◌}
use Rattle.std.specs.Prelude.{◌==◌, ◌&&◌, ◌||◌, map, filter, nat_le}
use Rattle.std.specs.Option.{option_map}
use Rattle.std.specs.List.{AllByRecursion, list_any, flat_map}
use Rattle.std.specs.Str.{bytes_eq}
use Rattle.std.proofs.lemmas.Bool.{cases_Bool, false≢true, false_from_ne_true}
use Rattle.std.proofs.lemmas.Slice.Eq.{bytes_eq-Decides}
use Rattle.nfit_reader.specs.declared.table.Mapping.{Mapping}
use Rattle.label_codec.specs.declared.label.Label.{Label}
use Rattle.label_set.specs.declared.placed.SetStatus.{SetStatus}
use Rattle.label_set.specs.declared.placed.SetStatus.TheVariants.{Complete, Unfinished, Local, Incomplete}
use Rattle.namespace_map.specs.Namespaces.{Namespaces, NamespaceEntry}
use Rattle.namespace_map.specs.Laws.{IsRising}
use Rattle.namespace_map.specs.Areas.{Area, Change, slots_on, free_in, all_changed}
use Rattle.namespace_map.specs.Commands.{area_of, is_complete, settled_status, settled_entry}
use Rattle.namespace_map.specs.Changes.{own_labels, change_to, with_name, is_unsettled, settling_changes}
use Rattle.label_codec.specs.Flags.{updated}
use Rattle.namespace_map.specs.Left.{AreRegions, LabelsAreRead}
use Rattle.namespace_laws.proofs.Whole.{own_of}
use Rattle.namespace_laws.proofs.Staged.{all_changed_append}
use Rattle.namespace_laws.proofs.Refusals.{complete_named}
use Rattle.namespace_laws.proofs.GoneLists.{PutsBytes, read_all}
use Rattle.namespace_laws.proofs.Gone.{found, AreFound, Above, above_apart, others_own, found_by_own, still_found, own_labels_same, append_all}
use Rattle.namespace_laws.proofs.SettleEntry as one

pub record SettledAll (sets : List (List Mapping)) (areas : List (Option Area)) (gone : Namespaces) (es : List NamespaceEntry) (cs : List Change) : Type 0 where
  pub bytes : AllByRecursion PutsBytes cs
  pub entries : (u : List ℕ) → found sets (all_changed areas cs) u ≡ cond (list_any (λ (e : NamespaceEntry). bytes_eq e.uuid u) es) (option_map (settled_entry gone) (found sets areas u)) (found sets areas u)
  pub free : (i : ℕ) → free_in (slots_on (all_changed areas cs) i) ≡ free_in (slots_on areas i)

-- an entry that isn't complete is unchanged
unsettled_stays : (gone : Namespaces) (e : NamespaceEntry) → is_complete e.status ≡ false → settled_entry gone e ≡ e
unsettled_stays gone e not_it = ap (λ (b : Bool). record e {
  updating = cond b (filter (λ m. (area_of gone m).free == 0) e.updating) e.updating;
  status = settled_status e.status (cond b (filter (λ m. (area_of gone m).free == 0) e.updating) e.updating);
}) not_it
    ∙ ap (λ (s : SetStatus). record e { status = s }) (by e.status e.updating not_it)
  where
    by : (s : SetStatus) (u : List ℕ) → is_complete s ≡ false → settled_status s u ≡ s
    by (Complete name pending) u f = absurd (false≢true (sym f))
    by Unfinished u f = refl
    by Local u f = refl
    by (Incomplete why) u f = refl

filter_same : (left areas : List (Option Area)) → ((i : ℕ) → free_in (slots_on left i) ≡ free_in (slots_on areas i)) → (ps : List (ℕ × Label)) → filter (is_unsettled areas) ps ≡ filter (is_unsettled left) ps
filter_same left areas same [] = refl
filter_same left areas same (p ∷ ps) =
    let t : is_unsettled areas p ≡ is_unsettled left p = ap (λ (n : ℕ). (p.1.flags / 8 % 2 == 1) && nat_le 1 n) (sym (same p.0)) in
    ap (λ (b : Bool). cond b (p ∷ filter (is_unsettled areas) ps) (filter (is_unsettled areas) ps)) t ∙ ap (λ (qs : List (ℕ × Label)). cond (is_unsettled left p) (p ∷ qs) qs) (filter_same left areas same ps)

pub same_settling : (left areas : List (Option Area)) (v : List ℕ) (es : List NamespaceEntry) → Above v es → ((u : List ℕ) → u ≢ v → own_of u left ≡ own_of u areas) → ((i : ℕ) → free_in (slots_on left i) ≡ free_in (slots_on areas i))
    → flat_map (settling_changes areas) es ≡ flat_map (settling_changes left) es
same_settling left areas v [] above same free = refl
same_settling left areas v (f ∷ fs) (less, above) same free =
    ap (λ (xs : List Change). xs ++ flat_map (settling_changes areas) fs)
    (ap (λ (qs : List (ℕ × Label)). cond (is_complete f.status) (map (change_to (λ l. Some (with_name f.name (updated l)))) (filter (is_unsettled areas) qs)) []) (sym (own_labels_same left areas f.uuid (same f.uuid (above_apart v f.uuid less))))
    ∙ ap (λ (qs : List (ℕ × Label)). cond (is_complete f.status) (map (change_to (λ l. Some (with_name f.name (updated l)))) qs) []) (filter_same left areas free (own_labels left f.uuid)))
    ∙ ap (λ (xs : List Change). settling_changes left f ++ xs) (same_settling left areas v fs above same free)

-- a UUID isn't among greater ones
not_among : (es : List NamespaceEntry) (v : List ℕ) → Above v es → list_any (λ (e : NamespaceEntry). bytes_eq e.uuid v) es ≡ false
not_among [] v above = refl
not_among (f ∷ fs) v (less, above) =
    let apart : bytes_eq f.uuid v ≡ false = false_from_ne_true _ (λ s. above_apart v f.uuid less ((bytes_eq-Decides f.uuid v).0 s)) in
    rw apart (not_among fs v above)

pub settled_all : (es : List NamespaceEntry) (sets : List (List Mapping)) (areas : List (Option Area)) (gone : Namespaces) → AreRegions sets → LabelsAreRead areas → IsRising es → AreFound sets areas es
    → ((m : ℕ) → (area_of gone m).free ≡ free_in (slots_on areas m)) → SettledAll sets areas gone es (flat_map (settling_changes areas) es)
unfolding all_changed
settled_all [] sets areas gone regions read rising all frees = record { bytes = tt; entries = λ u. refl; free = λ i. refl }
settled_all (e ∷ es) sets areas gone regions read (above, rising) (is, rest) frees = by (cases_Bool (is_complete e.status)) (settled_all es sets)
  where
    by : (is_complete e.status ≡ true) ⊎ (is_complete e.status ≡ false)
        → ((as' : List (Option Area)) (gone : Namespaces) → AreRegions sets → LabelsAreRead as' → IsRising es → AreFound sets as' es → ((m : ℕ) → (area_of gone m).free ≡ free_in (slots_on as' m))
        → SettledAll sets as' gone es (flat_map (settling_changes as') es))
        → SettledAll sets areas gone (e ∷ es) (flat_map (settling_changes areas) (e ∷ es))
    by (inr not_it) on =
        let later = on areas gone regions read rising rest frees in
        rw not_it (record { bytes = later.bytes; entries = λ u. later.entries u ∙ same u (cases_Bool (bytes_eq e.uuid u)); free = later.free })
      where
        same : (u : List ℕ) → (bytes_eq e.uuid u ≡ true) ⊎ (bytes_eq e.uuid u ≡ false)
            → cond (list_any (λ (f : NamespaceEntry). bytes_eq f.uuid u) es) (option_map (settled_entry gone) (found sets areas u)) (found sets areas u)
            ≡ cond (bytes_eq e.uuid u || list_any (λ (f : NamespaceEntry). bytes_eq f.uuid u) es) (option_map (settled_entry gone) (found sets areas u)) (found sets areas u)
        same u (inl at) =
            let same_uuid : e.uuid ≡ u = (bytes_eq-Decides e.uuid u).0 at in
            let stays : option_map (settled_entry gone) (found sets areas u) ≡ found sets areas u =
            subst (λ (v : List ℕ). option_map (settled_entry gone) (found sets areas v) ≡ found sets areas v) same_uuid (ap (option_map (settled_entry gone)) is ∙ ap Some (unsettled_stays gone e not_it) ∙ sym is) in
            ap (λ (o : Option NamespaceEntry). cond (list_any (λ (f : NamespaceEntry). bytes_eq f.uuid u) es) o (found sets areas u)) stays
            ∙ either (list_any (λ (f : NamespaceEntry). bytes_eq f.uuid u) es) (found sets areas u)
            ∙ sym stays
            ∙ sym (ap (λ (b : Bool). cond (b || list_any (λ (f : NamespaceEntry). bytes_eq f.uuid u) es) (option_map (settled_entry gone) (found sets areas u)) (found sets areas u)) at)
          where
            either : (b : Bool) (o : Option NamespaceEntry) → cond b o o ≡ o
            either true o = refl
            either false o = refl
        same u (inr not_at) = sym (ap (λ (b : Bool). cond (b || list_any (λ (f : NamespaceEntry). bytes_eq f.uuid u) es) (option_map (settled_entry gone) (found sets areas u)) (found sets areas u)) not_at)
    by (inl it) on = with_status (complete_named sets areas e.uuid e is it)
      where
        with_status : (pending : Bool) × (e.status ≡ Complete e.name pending) → SettledAll sets areas gone (e ∷ es) (flat_map (settling_changes areas) (e ∷ es))
        with_status (pending, status) = rw it (record {
          bytes = append_all PutsBytes changes (flat_map (settling_changes areas) es) (one.bytes sets areas e.uuid e pending regions read is status (is_unsettled areas) (λ p u. u)) next.bytes;
          entries = λ u. ap (λ (left : List (Option Area)). found sets left u) joined ∙ next.entries u ∙ entries_by u (cases_Bool (bytes_eq e.uuid u));
          free = λ i. ap (λ (left : List (Option Area)). free_in (slots_on left i)) joined ∙ next.free i ∙ one.free_same sets areas e.uuid e pending regions read is status (is_unsettled areas) (λ p u. u) i;
        })
          where
            changes : List Change
            changes = one.cs sets areas e.uuid e pending regions read is status (is_unsettled areas) (λ p u. u)

            others : (u : List ℕ) → u ≢ e.uuid → own_of u (all_changed areas (one.cs sets areas e.uuid e pending regions read is status (is_unsettled areas) (λ p u. u))) ≡ own_of u areas
            others u ne = others_own (one.cs sets areas e.uuid e pending regions read is status (is_unsettled areas) (λ p u. u)) areas u e.uuid ne (one.of sets areas e.uuid e pending regions read is status (is_unsettled areas) (λ p u. u))

            next : SettledAll sets (all_changed areas (one.cs sets areas e.uuid e pending regions read is status (is_unsettled areas) (λ p u. u))) gone es (flat_map (settling_changes areas) es)
            next =
                subst (SettledAll sets (all_changed areas (one.cs sets areas e.uuid e pending regions read is status (is_unsettled areas) (λ p u. u))) gone es)
                (sym (same_settling (all_changed areas (one.cs sets areas e.uuid e pending regions read is status (is_unsettled areas) (λ p u. u))) areas e.uuid es above others (one.free_same sets areas e.uuid e pending regions read is status (is_unsettled areas) (λ p u. u))))
                (on (all_changed areas (one.cs sets areas e.uuid e pending regions read is status (is_unsettled areas) (λ p u. u))) gone regions
                (read_all (one.cs sets areas e.uuid e pending regions read is status (is_unsettled areas) (λ p u. u)) areas read (one.bytes sets areas e.uuid e pending regions read is status (is_unsettled areas) (λ p u. u))) rising
                (still_found sets (all_changed areas (one.cs sets areas e.uuid e pending regions read is status (is_unsettled areas) (λ p u. u))) areas e.uuid es above others rest)
                (λ m. frees m ∙ sym (one.free_same sets areas e.uuid e pending regions read is status (is_unsettled areas) (λ p u. u) m)))

            joined : all_changed areas (one.cs sets areas e.uuid e pending regions read is status (is_unsettled areas) (λ p u. u) ++ flat_map (settling_changes areas) es)
                ≡ all_changed (all_changed areas (one.cs sets areas e.uuid e pending regions read is status (is_unsettled areas) (λ p u. u))) (flat_map (settling_changes areas) es)
            joined = all_changed_append (one.cs sets areas e.uuid e pending regions read is status (is_unsettled areas) (λ p u. u)) (flat_map (settling_changes areas) es) areas

            entries_by : (u : List ℕ) → (bytes_eq e.uuid u ≡ true) ⊎ (bytes_eq e.uuid u ≡ false)
                → cond (list_any (λ (f : NamespaceEntry). bytes_eq f.uuid u) es) (option_map (settled_entry gone) (found sets (all_changed areas (one.cs sets areas e.uuid e pending regions read is status (is_unsettled areas) (λ p u. u))) u))
                (found sets (all_changed areas (one.cs sets areas e.uuid e pending regions read is status (is_unsettled areas) (λ p u. u))) u)
                ≡ cond (bytes_eq e.uuid u || list_any (λ (f : NamespaceEntry). bytes_eq f.uuid u) es) (option_map (settled_entry gone) (found sets areas u)) (found sets areas u)
            entries_by u (inl at) =
                let same_uuid : e.uuid ≡ u = (bytes_eq-Decides e.uuid u).0 at in
                let none : list_any (λ (f : NamespaceEntry). bytes_eq f.uuid u) es ≡ false = ap (λ (v : List ℕ). list_any (λ (f : NamespaceEntry). bytes_eq f.uuid v) es) (sym same_uuid) ∙ not_among es e.uuid above in
                let after : found sets (all_changed areas (one.cs sets areas e.uuid e pending regions read is status (is_unsettled areas) (λ p u. u))) u ≡ Some (settled_entry gone e) =
                subst (λ (v : List ℕ). found sets (all_changed areas (one.cs sets areas e.uuid e pending regions read is status (is_unsettled areas) (λ p u. u))) v ≡ Some (settled_entry gone e)) same_uuid
                (one.settled_found sets areas e.uuid e pending regions read is status (is_unsettled areas) (λ p u. u) (λ p. refl) gone frees) in
                let before : found sets areas u ≡ Some e = subst (λ (v : List ℕ). found sets areas v ≡ Some e) same_uuid is in
                ap (λ (b : Bool). cond b (option_map (settled_entry gone) (found sets (all_changed areas (one.cs sets areas e.uuid e pending regions read is status (is_unsettled areas) (λ p u. u))) u))
                (found sets (all_changed areas (one.cs sets areas e.uuid e pending regions read is status (is_unsettled areas) (λ p u. u))) u)) none
                ∙ after
                ∙ sym (ap (λ (b : Bool). cond (b || list_any (λ (f : NamespaceEntry). bytes_eq f.uuid u) es) (option_map (settled_entry gone) (found sets areas u)) (found sets areas u)) at ∙ ap (option_map (settled_entry gone)) before)
            entries_by u (inr not_at) =
                let same : found sets (all_changed areas (one.cs sets areas e.uuid e pending regions read is status (is_unsettled areas) (λ p u. u))) u ≡ found sets areas u =
                found_by_own sets (all_changed areas (one.cs sets areas e.uuid e pending regions read is status (is_unsettled areas) (λ p u. u))) areas u (others u (λ s. false≢true (sym not_at ∙ (bytes_eq-Decides e.uuid u).1 (sym s)))) in
                ap (λ (o : Option NamespaceEntry). cond (list_any (λ (f : NamespaceEntry). bytes_eq f.uuid u) es) (option_map (settled_entry gone) o) o) same
                ∙ sym (ap (λ (b : Bool). cond (b || list_any (λ (f : NamespaceEntry). bytes_eq f.uuid u) es) (option_map (settled_entry gone) (found sets areas u)) (found sets areas u)) not_at)
