-- What recovery makes of the label areas that a journal left.
use Rattle.std.proofs.Common.{◌≡◌, ◌⊎◌, inl, inr, ℕ, Bool, true, false, List, [], ◌∷◌, length, take, Option, Some, None, refl, sym, ap, ◌∙◌, subst, arith}
use Rattle.std.specs.Prelude.{MatchBool}
use Rattle.std.proofs.lemmas.Bool.{le-leb, true≢false}
use Rattle.cut_words.specs.Fuses.{burnt, lasts}
use Rattle.nfit_reader.specs.declared.table.Mapping.{Mapping}
use Rattle.namespace_map.specs.Areas.{Area, Change, IsLeftBy, after_steps, all_changed}
use Rattle.namespace_map.specs.Changes.{changes_of, namespaces_of}
use Rattle.namespace_map.specs.Commands.{after_recovery, refusal_of}
use Rattle.namespace_map.specs.declared.commands.Command.{Command}
use Rattle.namespace_map.specs.declared.commands.Command.TheVariants.{Claim, Create, Delete, Rename, Unclaim}
use Rattle.namespace_map.specs.declared.refused.OpRefused.{OpRefused}
use Rattle.namespace_map.specs.Left.{LabelsAreRead, AreRegions}
use Rattle.namespace_map.specs.Namespaces.{Namespaces}
use Rattle.namespace_map.proofs.Fronts.{cut_is_front}
use Rattle.namespace_laws.specs.Recovered.{RecoversToEither}
use Rattle.namespace_laws.specs.Whole.{Agrees}
use Rattle.namespace_laws.proofs.AgreesCreate.{create_agrees}
use Rattle.namespace_laws.proofs.First.{delete_agrees, delete_recovers, rename_agrees, rename_recovers}
use Rattle.namespace_laws.proofs.Fronts.{take_all}
use Rattle.namespace_laws.proofs.GoneLists.{PutsBytes, read_all}
use Rattle.namespace_laws.proofs.RecoversLaw.{create_recovers}
use Rattle.namespace_laws.proofs.RecoveryLaw.{recovery_agrees}
use Rattle.namespace_ops.specs.Entries.{JournalEntry}
use Rattle.namespace_ops.specs.Replay.{Kept, kept_by, namespaces_with}
use Rattle.session_account.specs.Journal.{AreLeft, IsCutIn, kept_with, refusal_at, steps_at, steps_by}
use Rattle.session_account.specs.Recovered.{JournalsRecover, LeftRecovers, recovered_namespaces}
use Rattle.session_account.proofs.Labels.{allowed_here, changes_same, puts_bytes}

-- ---- a command that isn't refused

module _ (sets : List (List Mapping)) (regions : AreRegions sets) (areas : List (Option Area)) (read : LabelsAreRead areas) where
  abbrev ns : Namespaces
  ns = namespaces_of sets areas

  abbrev cs : Command → List Change
  cs c = changes_of ns areas c

  -- recovery on the map leads to the map before the command or after it
  abbrev Either : Command → List (Option Area) → Type 0
  Either c left = (after_recovery (namespaces_of sets left) ≡ after_recovery ns) ⊎ (after_recovery (namespaces_of sets left) ≡ after_recovery (namespaces_of sets (all_changed areas (cs c))))

  by_law : (c : Command) → Agrees sets areas c → RecoversToEither sets areas c → (n : ℕ) (stays : Bool) → Either c (after_steps areas (cs c) n stays)
  by_law c agrees recovers n stays = elim (recovers n stays) [
    | inl before ↦ inl before
    | inr after ↦ inr (after ∙ ap after_recovery (sym agrees))
  ]

  none_made : (n : ℕ) (stays : Bool) → after_steps areas [] n stays ≡ areas
  unfolding after_steps
  none_made n stays = refl

  to_either : (c : Command) → refusal_of ns c ≡ None → (n : ℕ) (stays : Bool) → Either c (after_steps areas (cs c) n stays)
  to_either (Create spec) none n stays =
      by_law (Create spec) (create_agrees sets areas spec.uuid spec.name spec.region spec.size spec.make regions none)
      (create_recovers sets areas spec.uuid spec.name spec.region spec.size spec.make regions none) n stays
  to_either (Delete uuid) none n stays = by_law (Delete uuid) (delete_agrees sets areas uuid regions read none) (delete_recovers sets areas uuid regions read none) n stays
  to_either (Rename uuid name) none n stays = by_law (Rename uuid name) (rename_agrees sets areas uuid name regions read none) (rename_recovers sets areas uuid name regions read none) n stays
  to_either (Claim uuid) none n stays = inl (ap (λ (xs : List (Option Area)). after_recovery (namespaces_of sets xs)) (none_made n stays))
  to_either (Unclaim uuid) none n stays = inl (ap (λ (xs : List (Option Area)). after_recovery (namespaces_of sets xs)) (none_made n stays))

  -- ---- recovery's own label changes

  changed_read : (c : Command) → refusal_of ns c ≡ None → LabelsAreRead (all_changed areas (cs c))
  changed_read c none = read_all (cs c) areas read (puts_bytes sets areas c regions read none)

  cut_read : (c : Command) → refusal_of ns c ≡ None → (n : ℕ) (stays : Bool) → LabelsAreRead (after_steps areas (cs c) n stays)
  cut_read c none n stays =
      let front = cut_is_front (cs c) areas n stays in
      subst LabelsAreRead (sym front.2) (read_all (take front.0 (cs c)) areas read (take_all PutsBytes front.0 (cs c) (puts_bytes sets areas c regions read none)))

  abbrev Recovers : Command → List (Option Area) → Type 0
  Recovers c left = (recovered_namespaces sets left ≡ recovered_namespaces sets areas) ⊎ (recovered_namespaces sets left ≡ recovered_namespaces sets (all_changed areas (cs c)))

  recovers : (c : Command) → refusal_of ns c ≡ None → (n : ℕ) (stays : Bool) → Recovers c (after_steps areas (cs c) n stays)
  recovers c none n stays =
      let now : recovered_namespaces sets (after_steps areas (cs c) n stays) ≡ after_recovery (namespaces_of sets (after_steps areas (cs c) n stays)) =
      recovery_agrees sets (after_steps areas (cs c) n stays) regions (cut_read c none n stays) in
      elim (to_either c none n stays) [
        | inl before ↦ inl (now ∙ before ∙ sym (recovery_agrees sets areas regions read))
        | inr after ↦ inr (now ∙ after ∙ sym (recovery_agrees sets (all_changed areas (cs c)) regions (changed_read c none)))
      ]

  left_recovers : (c : Command) → refusal_of ns c ≡ None → (n : ℕ) (left : List (Option Area)) → IsLeftBy areas (cs c) n left → Recovers c left
  left_recovers c none n left (inl same) = subst (Recovers c) (sym same) (recovers c none n true)
  left_recovers c none n left (inr same) = subst (Recovers c) (sym same) (recovers c none n false)

-- ---- a journal

module _ (sets : List (List Mapping)) (regions : AreRegions sets) where
  -- labels stay readable
  pub read_after : (k : Kept) (c : Command) (r : Option OpRefused) → refusal_of (namespaces_with sets k) c ≡ r → LabelsAreRead k.areas → LabelsAreRead (kept_by sets k c r).areas
  read_after k c (Some f) is read = read
  read_after k c None is read =
      subst (λ (xs : List Change). LabelsAreRead (all_changed k.areas xs)) (sym (changes_same sets k.areas k.claims c))
      (changed_read sets regions k.areas read c (allowed_here sets k.areas k.claims c is))

  -- a cut comes in a command that isn't refused
  abbrev RecoversBy : Kept → JournalEntry → Option OpRefused → List (Option Area) → Type 0
  RecoversBy k e r left =
      (recovered_namespaces sets left ≡ recovered_namespaces sets k.areas) ⊎ (recovered_namespaces sets left ≡ recovered_namespaces sets (kept_by sets k e.command r).areas)

  cut_recovers : (k : Kept) (fuse : Option ℕ) (e : JournalEntry) (left : List (Option Area)) (r : Option OpRefused) → refusal_at sets k e ≡ r → lasts fuse (steps_by sets k e r) ≡ false → LabelsAreRead k.areas
      → IsCutIn sets k fuse e left → RecoversBy k e r left
  cut_recovers k None e left r is short read cut = absurd (true≢false short)
  cut_recovers k (Some n) e left (Some f) is short read cut = absurd (true≢false (sym (le-leb 0 n (omega arith)) ∙ short))
  cut_recovers k (Some n) e left None is short read (steps, spent, by) =
      let same = changes_same sets k.areas k.claims e.command in
      subst (λ (xs : List Change). (recovered_namespaces sets left ≡ recovered_namespaces sets k.areas) ⊎ (recovered_namespaces sets left ≡ recovered_namespaces sets (all_changed k.areas xs))) (sym same)
      (left_recovers sets regions k.areas read e.command (allowed_here sets k.areas k.claims e.command is) steps left (subst (λ (xs : List Change). IsLeftBy k.areas xs steps left) same by))

  journal_recovers : (journal : List JournalEntry) (k : Kept) (fuse : Option ℕ) (left : List (Option Area)) → LabelsAreRead k.areas → AreLeft sets k fuse journal left → LeftRecovers sets k fuse journal left
  unfolding AreLeft LeftRecovers
  journal_recovers [] k fuse left read is = ap (recovered_namespaces sets) is
  journal_recovers (e ∷ es) k fuse left read is =
      by_power (lasts fuse (steps_at sets k e)) refl
      (journal_recovers es (kept_with sets k e) (burnt fuse (steps_at sets k e)) left (read_after k e.command (refusal_at sets k e) refl read)) is
    where
      by_power : (b : Bool) → lasts fuse (steps_at sets k e) ≡ b
          → (AreLeft sets (kept_with sets k e) (burnt fuse (steps_at sets k e)) es left → LeftRecovers sets (kept_with sets k e) (burnt fuse (steps_at sets k e)) es left)
          → MatchBool b (AreLeft sets (kept_with sets k e) (burnt fuse (steps_at sets k e)) es left) (IsCutIn sets k fuse e left)
          → MatchBool b (LeftRecovers sets (kept_with sets k e) (burnt fuse (steps_at sets k e)) es left) (RecoversBy k e (refusal_at sets k e) left)
      by_power true lasted later on = later on
      by_power false short later cut = cut_recovers k fuse e left (refusal_at sets k e) refl short read cut

pub journals_recover : JournalsRecover
journals_recover sets from fuse journal left regions read is = journal_recovers sets regions journal from fuse left read is
