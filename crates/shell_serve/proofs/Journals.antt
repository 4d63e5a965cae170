-- A journal of commands keeps namespaces apart, wherever it was cut; and one without commands leaves them.
use Rattle.std.proofs.Common.{◌≡◌, inl, inr, ℕ, Bool, true, false, List, [], ◌∷◌, Option, Some, None, refl, sym, ◌∙◌, subst, arith}
use Rattle.std.specs.Prelude.{MatchBool}
use Rattle.std.proofs.lemmas.Bool.{le-leb, true≢false}
use Rattle.cut_words.specs.Fuses.{burnt, lasts}
use Rattle.nfit_reader.specs.declared.table.Mapping.{Mapping}
use Rattle.namespace_map.specs.Areas.{Area, Change, IsLeftBy, after_steps, all_changed, steps_of_all}
use Rattle.namespace_map.specs.Changes.{changes_of, namespaces_of}
use Rattle.namespace_map.specs.Commands.{refusal_of}
use Rattle.namespace_map.specs.declared.commands.Command.{Command}
use Rattle.namespace_map.specs.declared.commands.Command.TheVariants.{Claim, Create, Delete, Rename, Unclaim}
use Rattle.namespace_map.specs.declared.refused.OpRefused.{OpRefused}
use Rattle.namespace_map.specs.Left.{LabelsAreRead, AreRegions}
use Rattle.namespace_laws.specs.Apart.{EntriesApart}
use Rattle.namespace_laws.proofs.Disjoint.{create_apart}
use Rattle.namespace_laws.proofs.First.{delete_apart, rename_apart}
use Rattle.namespace_ops.specs.Entries.{JournalEntry}
use Rattle.namespace_ops.specs.Replay.{Kept, kept_by, namespaces_with}
use Rattle.session_account.specs.Journal.{AreLeft, IsCutIn, kept_with, refusal_at, steps_at, steps_by}
use Rattle.session_account.specs.Recovered.{LeftRecovers}
use Rattle.session_account.proofs.Labels.{allowed_here, changes_same}
use Rattle.session_account.proofs.Recovering.{read_after}
use Rattle.shell_changes.proofs.Maps.{after_whole}

-- without commands areas recover as they were
pub none_recovers : (sets : List (List Mapping)) (k : Kept) (fuse : Option ℕ) → LeftRecovers sets k fuse [] k.areas
unfolding LeftRecovers
none_recovers sets k fuse = refl

-- power lasted, or it didn't
by_power : (b : Bool) (P Q R : Type 0) → MatchBool b P Q → (P → R) → (b ≡ false → Q → R) → R
by_power true P Q R on then cut = then on
by_power false P Q R off then cut = cut refl off

module _ (sets : List (List Mapping)) (regions : AreRegions sets) where
  none_made : (areas : List (Option Area)) (n : ℕ) (stays : Bool) → after_steps areas [] n stays ≡ areas
  unfolding after_steps
  none_made areas n stays = refl

  -- after any number of its steps
  command_apart : (areas : List (Option Area)) (c : Command) → LabelsAreRead areas → EntriesApart (namespaces_of sets areas) → refusal_of (namespaces_of sets areas) c ≡ None → (n : ℕ) (stays : Bool)
      → EntriesApart (namespaces_of sets (after_steps areas (changes_of (namespaces_of sets areas) areas c) n stays))
  command_apart areas (Create spec) read apart none n stays = create_apart sets areas spec.uuid spec.name spec.region spec.size spec.make regions none apart n stays
  command_apart areas (Delete uuid) read apart none n stays = delete_apart sets areas uuid regions read none apart n stays
  command_apart areas (Rename uuid name) read apart none n stays = rename_apart sets areas uuid name regions read none apart n stays
  command_apart areas (Claim uuid) read apart none n stays = subst (λ (xs : List (Option Area)). EntriesApart (namespaces_of sets xs)) (sym (none_made areas n stays)) apart
  command_apart areas (Unclaim uuid) read apart none n stays = subst (λ (xs : List (Option Area)). EntriesApart (namespaces_of sets xs)) (sym (none_made areas n stays)) apart

  -- ---- one entry

  apart_after : (k : Kept) (c : Command) (r : Option OpRefused) → refusal_of (namespaces_with sets k) c ≡ r → LabelsAreRead k.areas → EntriesApart (namespaces_of sets k.areas) → EntriesApart (namespaces_of sets (kept_by sets k c r).areas)
  apart_after k c (Some f) is read apart = apart
  apart_after k c None is read apart =
      let changes : List Change = changes_of (namespaces_of sets k.areas) k.areas c in
      let same : changes_of (namespaces_with sets k) k.areas c ≡ changes = changes_same sets k.areas k.claims c in
      subst (λ (cs : List Change). EntriesApart (namespaces_of sets (all_changed k.areas cs))) (sym same)
      (subst (λ (xs : List (Option Area)). EntriesApart (namespaces_of sets xs)) (after_whole changes k.areas)
      (command_apart k.areas c read apart (allowed_here sets k.areas k.claims c is) (steps_of_all k.areas changes) true))

  either_way : (areas left : List (Option Area)) (changes : List Change) (n : ℕ) → IsLeftBy areas changes n left → ((stays : Bool) → EntriesApart (namespaces_of sets (after_steps areas changes n stays))) → EntriesApart (namespaces_of sets left)
  either_way areas left changes n (inl same) all = subst (λ (xs : List (Option Area)). EntriesApart (namespaces_of sets xs)) (sym same) (all true)
  either_way areas left changes n (inr same) all = subst (λ (xs : List (Option Area)). EntriesApart (namespaces_of sets xs)) (sym same) (all false)

  -- a cut comes in a command that isn't refused
  cut_apart : (k : Kept) (fuse : Option ℕ) (e : JournalEntry) (left : List (Option Area)) (r : Option OpRefused) → refusal_at sets k e ≡ r → lasts fuse (steps_by sets k e r) ≡ false → LabelsAreRead k.areas → EntriesApart (namespaces_of sets k.areas)
      → IsCutIn sets k fuse e left → EntriesApart (namespaces_of sets left)
  cut_apart k None e left r is short read apart cut = absurd (true≢false short)
  cut_apart k (Some n) e left (Some f) is short read apart cut = absurd (true≢false (sym (le-leb 0 n (omega arith)) ∙ short))
  cut_apart k (Some n) e left None is short read apart (steps, spent, by) =
      let none : refusal_of (namespaces_of sets k.areas) e.command ≡ None = allowed_here sets k.areas k.claims e.command is in
      either_way k.areas left (changes_of (namespaces_of sets k.areas) k.areas e.command) steps
      (subst (λ (cs : List Change). IsLeftBy k.areas cs steps left) (changes_same sets k.areas k.claims e.command) by) (command_apart k.areas e.command read apart none steps)

  -- ---- all of them

  pub left_apart : (journal : List JournalEntry) (k : Kept) (fuse : Option ℕ) (left : List (Option Area)) → LabelsAreRead k.areas → EntriesApart (namespaces_of sets k.areas) → AreLeft sets k fuse journal left → EntriesApart (namespaces_of sets left)
  unfolding AreLeft
  left_apart [] k fuse left read apart is = subst (λ (xs : List (Option Area)). EntriesApart (namespaces_of sets xs)) (sym is) apart
  left_apart (e ∷ es) k fuse left read apart is =
      by_power (lasts fuse (steps_at sets k e)) (AreLeft sets (kept_with sets k e) (burnt fuse (steps_at sets k e)) es left) (IsCutIn sets k fuse e left) (EntriesApart (namespaces_of sets left)) is
      (left_apart es (kept_with sets k e) (burnt fuse (steps_at sets k e)) left (read_after sets regions k e.command (refusal_at sets k e) refl read) (apart_after k e.command (refusal_at sets k e) refl read apart))
      (λ short cut. cut_apart k fuse e left (refusal_at sets k e) refl short read apart cut)
