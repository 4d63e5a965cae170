-- A cut in a journal changes no namespace but the one of the command that was cut.
use Rattle.std.proofs.Common.{◌≡◌, inl, inr, ℕ, Bool, true, false, List, [], ◌∷◌, Option, Some, None, refl, sym, ap, ◌∙◌, subst, arith}
use Rattle.std.specs.Prelude.{MatchBool}
use Rattle.std.proofs.lemmas.Bool.{le-leb, true≢false}
use Rattle.cut_words.specs.Fuses.{burnt, lasts}
use Rattle.nfit_reader.specs.declared.table.Mapping.{Mapping}
use Rattle.namespace_map.specs.Areas.{Area, Change, IsLeftBy, after_steps}
use Rattle.namespace_map.specs.Changes.{changes_of, namespaces_of}
use Rattle.namespace_map.specs.Commands.{refusal_of}
use Rattle.namespace_map.specs.declared.commands.Command.{Command}
use Rattle.namespace_map.specs.declared.commands.Command.TheVariants.{Claim, Create, Delete, Rename, Unclaim}
use Rattle.namespace_map.specs.declared.refused.OpRefused.{OpRefused}
use Rattle.namespace_map.specs.Left.{AreRegions, LabelsAreRead}
use Rattle.namespace_map.specs.Namespaces.{Namespaces, lookup}
use Rattle.namespace_laws.proofs.CreateCut.{create_is_cut}
use Rattle.namespace_laws.proofs.Disjoint.{create_others}
use Rattle.namespace_laws.proofs.First.{any_delete_is_cut, any_rename_is_cut, delete_others, rename_others}
use Rattle.namespace_laws.proofs.Refusals.{delete_found, rename_found}
use Rattle.namespace_ops.specs.Entries.{JournalEntry}
use Rattle.namespace_ops.specs.Replay.{Kept}
use Rattle.session_account.specs.CutEntries.{EndsCut, IsCutOff, JournalsLeaveOthers}
use Rattle.session_account.specs.Journal.{AreLeft, IsCutIn, kept_with, refusal_at, steps_at, steps_by}
use Rattle.session_account.proofs.Labels.{allowed_here, changes_same}
use Rattle.session_account.proofs.Recovering.{read_after}

-- ---- a command that isn't refused

module _ (sets : List (List Mapping)) (regions : AreRegions sets) (areas : List (Option Area)) (read : LabelsAreRead areas) where
  abbrev ns : Namespaces
  ns = namespaces_of sets areas

  none_made : (n : ℕ) (stays : Bool) → after_steps areas [] n stays ≡ areas
  unfolding after_steps
  none_made n stays = refl

  cut_off : (c : Command) → refusal_of ns c ≡ None → (n : ℕ) (stays : Bool) → IsCutOff ns (namespaces_of sets (after_steps areas (changes_of ns areas c) n stays)) c
  cut_off (Create spec) none n stays = record {
    others = create_others sets areas spec.uuid spec.name spec.region spec.size spec.make regions none n stays;
    own = create_is_cut sets areas spec.uuid spec.name spec.region spec.size spec.make regions none n stays;
  }
  cut_off (Delete uuid) none n stays =
      let f = delete_found sets areas uuid none in
      record {
        others = delete_others sets areas uuid regions read none n stays;
        own = (f.entry, f.is, any_delete_is_cut sets areas uuid f.entry regions read f.is none n stays);
      }
  cut_off (Rename uuid name) none n stays =
      let f = rename_found sets areas uuid name none in
      record {
        others = rename_others sets areas uuid name regions read none n stays;
        own = (f.entry, f.is, any_rename_is_cut sets areas uuid f.entry regions read f.is name none n stays);
      }
  cut_off (Claim uuid) none n stays =
      let same : namespaces_of sets (after_steps areas [] n stays) ≡ ns = ap (λ (xs : List (Option Area)). namespaces_of sets xs) (none_made n stays) in
      record {
        others = λ other ne. ap (λ (x : Namespaces). lookup other x.entries) same;
        own = ap (λ (x : Namespaces). lookup uuid x.entries) same;
      }
  cut_off (Unclaim uuid) none n stays =
      let same : namespaces_of sets (after_steps areas [] n stays) ≡ ns = ap (λ (xs : List (Option Area)). namespaces_of sets xs) (none_made n stays) in
      record {
        others = λ other ne. ap (λ (x : Namespaces). lookup other x.entries) same;
        own = ap (λ (x : Namespaces). lookup uuid x.entries) same;
      }

  left_cut_off : (c : Command) → refusal_of ns c ≡ None → (n : ℕ) (left : List (Option Area)) → IsLeftBy areas (changes_of ns areas c) n left → IsCutOff ns (namespaces_of sets left) c
  left_cut_off c none n left (inl same) = subst (λ (xs : List (Option Area)). IsCutOff ns (namespaces_of sets xs) c) (sym same) (cut_off c none n true)
  left_cut_off c none n left (inr same) = subst (λ (xs : List (Option Area)). IsCutOff ns (namespaces_of sets xs) c) (sym same) (cut_off c none n false)

-- ---- a journal

module _ (sets : List (List Mapping)) (regions : AreRegions sets) where
  -- a cut comes in a command that isn't refused
  cut_in : (k : Kept) (fuse : Option ℕ) (e : JournalEntry) (left : List (Option Area)) (r : Option OpRefused) → refusal_at sets k e ≡ r → lasts fuse (steps_by sets k e r) ≡ false → LabelsAreRead k.areas
      → IsCutIn sets k fuse e left → IsCutOff (namespaces_of sets k.areas) (namespaces_of sets left) e.command
  cut_in k None e left r is short read cut = absurd (true≢false short)
  cut_in k (Some n) e left (Some f) is short read cut = absurd (true≢false (sym (le-leb 0 n (omega arith)) ∙ short))
  cut_in k (Some n) e left None is short read (steps, spent, by) =
      left_cut_off sets regions k.areas read e.command (allowed_here sets k.areas k.claims e.command is) steps left
      (subst (λ (xs : List Change). IsLeftBy k.areas xs steps left) (changes_same sets k.areas k.claims e.command) by)

  ends_cut : (journal : List JournalEntry) (k : Kept) (fuse : Option ℕ) (left : List (Option Area)) → LabelsAreRead k.areas → AreLeft sets k fuse journal left → EndsCut sets k fuse journal left
  unfolding AreLeft EndsCut
  ends_cut [] k fuse left read is = ap (λ (xs : List (Option Area)). namespaces_of sets xs) is
  ends_cut (e ∷ es) k fuse left read is =
      by_power (lasts fuse (steps_at sets k e)) refl
      (ends_cut es (kept_with sets k e) (burnt fuse (steps_at sets k e)) left (read_after sets regions k e.command (refusal_at sets k e) refl read)) is
    where
      by_power : (b : Bool) → lasts fuse (steps_at sets k e) ≡ b
          → (AreLeft sets (kept_with sets k e) (burnt fuse (steps_at sets k e)) es left → EndsCut sets (kept_with sets k e) (burnt fuse (steps_at sets k e)) es left)
          → MatchBool b (AreLeft sets (kept_with sets k e) (burnt fuse (steps_at sets k e)) es left) (IsCutIn sets k fuse e left)
          → MatchBool b (EndsCut sets (kept_with sets k e) (burnt fuse (steps_at sets k e)) es left) (IsCutOff (namespaces_of sets k.areas) (namespaces_of sets left) e.command)
      by_power true lasted later on = later on
      by_power false short later cut = cut_in k fuse e left (refusal_at sets k e) refl short read cut

pub journals_leave_others : JournalsLeaveOthers
journals_leave_others sets from fuse journal left regions read is = ends_cut sets regions journal from fuse left read is
