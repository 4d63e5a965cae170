-- Recovery that is interrupted and run again.
use Rattle.std.proofs.Common.{◌≡◌, ◌≢◌, ℕ, Bool, true, false, List, [], ◌∷◌, length, take, Option, None, refl, sym, ap, ◌∙◌, subst, inl, inr, ◌⊎◌}
use Rattle.std.specs.Prelude.{map}
use Rattle.std.specs.List.{AllByRecursion, flat_map}
use Rattle.std.proofs.Math.Seq.{take-length}
use Rattle.std.proofs.lemmas.Bool.{cases_Bool}
use Rattle.nfit_reader.specs.declared.table.Mapping.{Mapping}
use Rattle.label_set.specs.declared.placed.SetStatus.TheVariants.{Complete}
use Rattle.namespace_map.specs.Namespaces.{NamespaceEntry, Namespaces}
use Rattle.namespace_map.specs.Laws.{IsRising}
use Rattle.namespace_map.proofs.Rising.{rising_entries}
use Rattle.namespace_map.specs.Areas.{Area, Change, all_changed}
use Rattle.namespace_map.specs.Commands.{is_complete, is_unfinished}
use Rattle.namespace_map.specs.Changes.{namespaces_of, placed_in_all, own_labels, change_to, gone_changes, is_unsettled, settling_changes, recovered_areas, recovery_changes}
use Rattle.namespace_map.proofs.Fronts.{IsFront, cut_is_front}
use Rattle.namespace_map.specs.Left.{AreRegions, LabelsAreRead}
use Rattle.namespace_laws.proofs.Whole.{own_of}
use Rattle.namespace_laws.proofs.Allowed.{area_free}
use Rattle.namespace_laws.proofs.Refusals.{complete_named}
use Rattle.namespace_laws.specs.Cuts.{recovery_cut, RecoveryResumes}
use Rattle.namespace_laws.proofs.Fronts.{AtFronts, fronts_append, fronts_by, fronts_take, take_all}
use Rattle.namespace_laws.proofs.Gone.{AreFound, append_all, gone_all, gone_one, GoneAll, is_unfinished_is, others_own, same_gone, still_found}
use Rattle.namespace_laws.proofs.GoneFront as gone_front
use Rattle.namespace_laws.proofs.GoneLists.{PutsBytes, read_all}
use Rattle.namespace_laws.proofs.RecoveryLaw.{recovery_agrees, self_found}
use Rattle.namespace_laws.proofs.SettleAll.{same_settling, settled_all, SettledAll}
use Rattle.namespace_laws.proofs.SettleEntry as one
use Rattle.namespace_laws.proofs.SettleFront as settle_front
use Rattle.namespace_laws.proofs.SettleFront.{recovery_of}

-- the result of recovery
abbrev ComesTo : List (List Mapping) → Namespaces → List (Option Area) → Type 0
ComesTo sets end areas = recovery_of sets areas ≡ end

-- after all changes the result is the same as after each front
whole : (sets : List (List Mapping)) (areas : List (Option Area)) (cs : List Change) → ((k : ℕ) → recovery_of sets (all_changed areas (take k cs)) ≡ recovery_of sets areas) → recovery_of sets (all_changed areas cs) ≡ recovery_of sets areas
whole sets areas cs each = ap (λ (ds : List Change). recovery_of sets (all_changed areas ds)) (sym (take-length cs)) ∙ each (length cs)

-- ---- all unfinished entries

gone_fronts : (es : List NamespaceEntry) (sets : List (List Mapping)) (end : Namespaces) (areas : List (Option Area)) → AreRegions sets → LabelsAreRead areas → IsRising es → AreFound sets areas es → ComesTo sets end areas
    → AtFronts (ComesTo sets end) areas (flat_map (gone_changes areas) es)
gone_fronts [] sets end areas regions read rising all comes = comes
gone_fronts (e ∷ es) sets end areas regions read (above, rising) (is, rest) comes = by (cases_Bool (is_unfinished e.status)) (gone_fronts es sets end)
  where
    by : (is_unfinished e.status ≡ true) ⊎ (is_unfinished e.status ≡ false)
        → ((as' : List (Option Area)) → AreRegions sets → LabelsAreRead as' → IsRising es → AreFound sets as' es → ComesTo sets end as' → AtFronts (ComesTo sets end) as' (flat_map (gone_changes as') es))
        → AtFronts (ComesTo sets end) areas (flat_map (gone_changes areas) (e ∷ es))
    by (inr not_it) on = rw not_it (on areas regions read rising rest comes)
    by (inl it) on = rw it (fronts_append (ComesTo sets end) cs (flat_map (gone_changes areas) es) areas (fronts_by (ComesTo sets end) cs areas (λ k. fronts k ∙ comes)) next)
      where
        cs : List Change
        cs = map (change_to (λ l. None)) (own_labels areas e.uuid)

        fronts : (k : ℕ) → recovery_of sets (all_changed areas (take k (map (change_to (λ l. None)) (own_labels areas e.uuid)))) ≡ recovery_of sets areas
        fronts = gone_front.front_recovers sets areas e.uuid e regions read is (is_unfinished_is e.status it)

        others : (u : List ℕ) → u ≢ e.uuid → own_of u (all_changed areas (map (change_to (λ l. None)) (own_labels areas e.uuid))) ≡ own_of u areas
        others u ne = others_own (map (change_to (λ l. None)) (own_labels areas e.uuid)) areas u e.uuid ne (gone_one sets areas e.uuid e read is (is_unfinished_is e.status it)).of

        next : AtFronts (ComesTo sets end) (all_changed areas (map (change_to (λ l. None)) (own_labels areas e.uuid))) (flat_map (gone_changes areas) es)
        next =
            subst (AtFronts (ComesTo sets end) (all_changed areas (map (change_to (λ l. None)) (own_labels areas e.uuid))))
            (sym (same_gone (all_changed areas (map (change_to (λ l. None)) (own_labels areas e.uuid))) areas e.uuid es above others))
            (on (all_changed areas (map (change_to (λ l. None)) (own_labels areas e.uuid))) regions
            (read_all (map (change_to (λ l. None)) (own_labels areas e.uuid)) areas read (gone_one sets areas e.uuid e read is (is_unfinished_is e.status it)).bytes) rising
            (still_found sets (all_changed areas (map (change_to (λ l. None)) (own_labels areas e.uuid))) areas e.uuid es above others rest)
            (whole sets areas (map (change_to (λ l. None)) (own_labels areas e.uuid)) fronts ∙ comes))

-- ---- all complete ones

settled_fronts : (es : List NamespaceEntry) (sets : List (List Mapping)) (end : Namespaces) (areas : List (Option Area)) → AreRegions sets → LabelsAreRead areas → IsRising es → AreFound sets areas es → ComesTo sets end areas
    → AtFronts (ComesTo sets end) areas (flat_map (settling_changes areas) es)
settled_fronts [] sets end areas regions read rising all comes = comes
settled_fronts (e ∷ es) sets end areas regions read (above, rising) (is, rest) comes = by (cases_Bool (is_complete e.status)) (settled_fronts es sets end)
  where
    by : (is_complete e.status ≡ true) ⊎ (is_complete e.status ≡ false)
        → ((as' : List (Option Area)) → AreRegions sets → LabelsAreRead as' → IsRising es → AreFound sets as' es → ComesTo sets end as' → AtFronts (ComesTo sets end) as' (flat_map (settling_changes as') es))
        → AtFronts (ComesTo sets end) areas (flat_map (settling_changes areas) (e ∷ es))
    by (inr not_it) on = rw not_it (on areas regions read rising rest comes)
    by (inl it) on = with_status (complete_named sets areas e.uuid e is it)
      where
        with_status : (pending : Bool) × (e.status ≡ Complete e.name pending) → AtFronts (ComesTo sets end) areas (flat_map (settling_changes areas) (e ∷ es))
        with_status (pending, status) =
            rw it (fronts_append (ComesTo sets end) (one.cs sets areas e.uuid e pending regions read is status (is_unsettled areas) (λ p u. u)) (flat_map (settling_changes areas) es) areas
            (fronts_by (ComesTo sets end) (one.cs sets areas e.uuid e pending regions read is status (is_unsettled areas) (λ p u. u)) areas (λ k. fronts k ∙ comes)) next)
          where
            fronts : (k : ℕ) → recovery_of sets (all_changed areas (take k (one.cs sets areas e.uuid e pending regions read is status (is_unsettled areas) (λ p u. u)))) ≡ recovery_of sets areas
            fronts = settle_front.front_recovers sets areas e.uuid e pending regions read is status

            others : (u : List ℕ) → u ≢ e.uuid → own_of u (all_changed areas (one.cs sets areas e.uuid e pending regions read is status (is_unsettled areas) (λ p u. u))) ≡ own_of u areas
            others u ne =
                others_own (one.cs sets areas e.uuid e pending regions read is status (is_unsettled areas) (λ p u. u)) areas u e.uuid ne (one.of sets areas e.uuid e pending regions read is status (is_unsettled areas) (λ p u. u))

            next : AtFronts (ComesTo sets end) (all_changed areas (one.cs sets areas e.uuid e pending regions read is status (is_unsettled areas) (λ p u. u))) (flat_map (settling_changes areas) es)
            next =
                subst (AtFronts (ComesTo sets end) (all_changed areas (one.cs sets areas e.uuid e pending regions read is status (is_unsettled areas) (λ p u. u))))
                (sym (same_settling (all_changed areas (one.cs sets areas e.uuid e pending regions read is status (is_unsettled areas) (λ p u. u))) areas e.uuid es above others
                (one.free_same sets areas e.uuid e pending regions read is status (is_unsettled areas) (λ p u. u))))
                (on (all_changed areas (one.cs sets areas e.uuid e pending regions read is status (is_unsettled areas) (λ p u. u))) regions
                (read_all (one.cs sets areas e.uuid e pending regions read is status (is_unsettled areas) (λ p u. u)) areas read (one.bytes sets areas e.uuid e pending regions read is status (is_unsettled areas) (λ p u. u))) rising
                (still_found sets (all_changed areas (one.cs sets areas e.uuid e pending regions read is status (is_unsettled areas) (λ p u. u))) areas e.uuid es above others rest)
                (whole sets areas (one.cs sets areas e.uuid e pending regions read is status (is_unsettled areas) (λ p u. u)) fronts ∙ comes))

-- ---- the law

module _ (sets : List (List Mapping)) (areas : List (Option Area)) (regions : AreRegions sets) (read : LabelsAreRead areas) where
  abbrev ns : Namespaces
  ns = namespaces_of sets areas

  abbrev first : List Change
  first = flat_map (gone_changes areas) ns.entries

  abbrev left : List (Option Area)
  left = all_changed areas first

  abbrev now : Namespaces
  now = namespaces_of sets left

  abbrev second : List Change
  second = flat_map (settling_changes left) now.entries

  rising : IsRising ns.entries
  rising = rising_entries sets (placed_in_all areas)

  rising_now : IsRising now.entries
  rising_now = rising_entries sets (placed_in_all left)

  went : GoneAll sets areas ns.entries first
  went = gone_all ns.entries sets areas read rising (self_found ns.entries rising)

  read_left : LabelsAreRead left
  read_left = read_all first areas read went.bytes

  settles : SettledAll sets left now now.entries second
  settles = settled_all now.entries sets left now regions read_left rising_now (self_found now.entries rising_now) (area_free sets left)

  firsts : AtFronts (ComesTo sets (recovery_of sets areas)) areas first
  firsts = gone_fronts ns.entries sets (recovery_of sets areas) areas regions read rising (self_found ns.entries rising) refl

  after_first : recovery_of sets left ≡ recovery_of sets areas
  after_first = ap (λ (cs : List Change). recovery_of sets (all_changed areas cs)) (sym (take-length first)) ∙ fronts_take (ComesTo sets (recovery_of sets areas)) first areas firsts (length first)

  seconds : AtFronts (ComesTo sets (recovery_of sets areas)) left second
  seconds = settled_fronts now.entries sets (recovery_of sets areas) left regions read_left rising_now (self_found now.entries rising_now) after_first

  fronts : AtFronts (ComesTo sets (recovery_of sets areas)) areas (recovery_changes sets areas)
  fronts = fronts_append (ComesTo sets (recovery_of sets areas)) first second areas firsts seconds

  bytes : AllByRecursion PutsBytes (recovery_changes sets areas)
  bytes = append_all PutsBytes first second went.bytes settles.bytes

  module _ (steps : ℕ) (stays : Bool) where
    front : IsFront areas (recovery_changes sets areas) (recovery_cut sets areas steps stays)
    front = cut_is_front (recovery_changes sets areas) areas steps stays

    cut_is : recovery_cut sets areas steps stays ≡ all_changed areas (take front.0 (recovery_changes sets areas))
    cut_is = front.2

    comes : recovery_of sets (recovery_cut sets areas steps stays) ≡ recovery_of sets areas
    comes = ap (recovery_of sets) cut_is ∙ fronts_take (ComesTo sets (recovery_of sets areas)) (recovery_changes sets areas) areas fronts front.0

    read_cut : LabelsAreRead (recovery_cut sets areas steps stays)
    read_cut = subst LabelsAreRead (sym cut_is) (read_all (take front.0 (recovery_changes sets areas)) areas read (take_all PutsBytes front.0 (recovery_changes sets areas) bytes))

    pub resumes : namespaces_of sets (recovered_areas sets (recovery_cut sets areas steps stays)) ≡ namespaces_of sets (recovered_areas sets areas)
    resumes = recovery_agrees sets (recovery_cut sets areas steps stays) regions read_cut ∙ comes ∙ sym (recovery_agrees sets areas regions read)

pub recovery_resumes : RecoveryResumes
recovery_resumes sets areas regions read steps stays = resumes sets areas regions read steps stays
