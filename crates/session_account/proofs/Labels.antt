-- The labels that a journal's commands put can be read again.
use Rattle.std.proofs.Common.{◌≡◌, ℕ, ◌<◌, List, [], ◌∷◌, map, Option, Some, None, not, refl, sym, ap, ◌∙◌, subst}
use Rattle.std.specs.List.{AllByRecursion, enumerate_from}
use Rattle.std.proofs.lemmas.Option.{none-some, same_Some}
use Rattle.nvd_words.specs.Checks.{fault_if, first_fault}
use Rattle.nfit_reader.specs.declared.table.Mapping.{Mapping}
use Rattle.label_codec.specs.declared.label.Label.{Label}
use Rattle.label_codec.specs.Flags.{updated, updating}
use Rattle.namespace_map.specs.Areas.{Area, all_changed}
use Rattle.namespace_map.specs.Changes.{change_to, changes_of, delete_changes, in_two, is_unsettled, namespaces_of, new_label, own_labels, rename_changes, settled_first, with_name}
use Rattle.namespace_map.specs.Commands.{delete_refusal, is_complete, entry_refusal, name_in, refusal_of, share_of, set_of, new_offset}
use Rattle.namespace_map.specs.declared.commands.Command.{Command}
use Rattle.namespace_map.specs.declared.commands.Command.TheVariants.{Claim, Create, Delete, Rename, Unclaim}
use Rattle.namespace_map.specs.declared.commands.CreateSpec.{CreateSpec}
use Rattle.namespace_map.specs.declared.refused.OpRefused.{OpRefused}
use Rattle.namespace_map.specs.declared.refused.OpRefused.TheVariants.{NoSuch, NotComplete}
use Rattle.namespace_map.specs.Left.{LabelsAreRead, AreRegions}
use Rattle.namespace_map.specs.Namespaces.{NamespaceEntry, Namespaces, lookup}
use Rattle.namespace_map.proofs.Rising.{all_pass_to}
use Rattle.namespace_laws.proofs.Allowed.{allowed}
use Rattle.namespace_laws.proofs.Gone.{append_all}
use Rattle.namespace_laws.proofs.GoneLists.{PutsBytes, read_all}
use Rattle.namespace_laws.proofs.OwnLabels as mine
use Rattle.namespace_laws.proofs.Proper.{bytes_of_lab}
use Rattle.namespace_laws.proofs.First.{delete_still_allowed, first_bytes, rename_still_allowed}
use Rattle.namespace_laws.proofs.Refusals.{IsFound, delete_found, rename_found}
use Rattle.namespace_laws.proofs.SettleEntry as one
use Rattle.namespace_ops.specs.Counted.{with_claims}

-- ---- labels that are put have bytes

abbrev KeepsBytes : (Label → Option Label) → Type 0
KeepsBytes f = (l k : Label) → f l ≡ Some k → k.raw ≡ l.raw

abbrev HaveBytes : List (ℕ × Label) → Type 0
HaveBytes ps = AllByRecursion (λ (p : ℕ × Label). 0 < p.1.raw) ps

puts_map : (f : Label → Option Label) → KeepsBytes f → (ps : List (ℕ × Label)) → HaveBytes ps → AllByRecursion PutsBytes (map (change_to f) ps)
puts_map f keeps [] all = tt
puts_map f keeps (p ∷ ps) (one, rest) = ((λ l is. subst (λ (n : ℕ). 0 < n) (sym (keeps p.1 l is)) one), puts_map f keeps ps rest)

puts_two : (f g : Label → Option Label) → KeepsBytes f → KeepsBytes g → (ps : List (ℕ × Label)) → HaveBytes ps → AllByRecursion PutsBytes (in_two f g ps)
puts_two f g first second [] all = tt
puts_two f g first second (p ∷ []) (one, rest) = ((λ l is. subst (λ (n : ℕ). 0 < n) (sym (second p.1 l is)) one), tt)
puts_two f g first second (p ∷ q ∷ ps) all =
    append_all PutsBytes (map (change_to f) (p ∷ q ∷ ps)) (map (change_to g) (p ∷ q ∷ ps)) (puts_map f first (p ∷ q ∷ ps) all) (puts_map g second (p ∷ q ∷ ps) all)

puts_as : (f : Label → Label) → ((l : Label) → (f l).raw ≡ l.raw) → KeepsBytes (λ l. Some (f l))
puts_as f keeps l k is = ap (λ (x : Label). x.raw) (sym (same_Some (f l) k is)) ∙ keeps l

puts_none : KeepsBytes (λ l. None)
puts_none l k is = absurd (none-some k is)

own_bytes : (sets : List (List Mapping)) (areas : List (Option Area)) (uuid : List ℕ) → AreRegions sets → LabelsAreRead areas → IsFound sets areas uuid → HaveBytes (own_labels areas uuid)
own_bytes sets areas uuid regions read f =
    let once = (one.rules sets areas uuid f.entry f.pending regions read f.is f.status (is_unsettled areas) (λ p u. u)).once in
    all_pass_to (λ p. mine.lab uuid areas read once p.0 ≡ Some p.1) (λ p. 0 < p.1.raw) (λ p at. bytes_of_lab uuid areas read once p.0 p.1 at) (own_labels areas uuid)
    (mine.labels uuid areas read once)

new_bytes : (ns : Namespaces) (spec : CreateSpec) → 0 < share_of (set_of ns spec.region) spec.size → (ms : List (ℕ × Mapping))
    → HaveBytes (map (new_label spec.uuid (name_in spec.name) spec.make (set_of ns spec.region) (new_offset ns (set_of ns spec.region) (share_of (set_of ns spec.region) spec.size)) (share_of (set_of ns spec.region) spec.size)) ms)
new_bytes ns spec some [] = tt
new_bytes ns spec some (m ∷ ms) = (some, new_bytes ns spec some ms)

-- ---- a command that isn't refused, whatever is claimed

skip_second : {F : Type 0} (a b : Option F) (rest : List (Option F)) → first_fault (a ∷ b ∷ rest) ≡ None → first_fault (a ∷ None ∷ rest) ≡ None
unfolding first_fault
skip_second None None rest none = none
skip_second None (Some f) rest none = absurd (none-some f (sym none))
skip_second (Some f) b rest none = absurd (none-some f (sym none))

entry_allowed : (a : NamespaceEntry → Option OpRefused) (rest : NamespaceEntry → List (Option OpRefused)) (o : Option NamespaceEntry) → entry_refusal o (λ e. a e ∷ rest e) ≡ None → entry_refusal o (λ e. None ∷ rest e) ≡ None
entry_allowed a rest None is = absurd (none-some NoSuch (sym is))
entry_allowed a rest (Some e) is = skip_second (fault_if (not (is_complete e.status)) NotComplete) (a e) (rest e) is

-- what isn't refused with claims isn't refused without
delete_allowed : (ns : Namespaces) (claims : List (List ℕ × ℕ)) (uuid : List ℕ) → ns.claims ≡ [] → delete_refusal (with_claims ns claims) uuid ≡ None → delete_refusal (with_claims ns []) uuid ≡ None
delete_allowed ns claims uuid unclaimed none = entry_allowed _ _ (lookup uuid ns.entries) none

module _ (sets : List (List Mapping)) (areas : List (Option Area)) where
  -- the namespaces of areas are unclaimed
  pub allowed_here : (claims : List (List ℕ × ℕ)) (c : Command) → refusal_of (with_claims (namespaces_of sets areas) claims) c ≡ None → refusal_of (namespaces_of sets areas) c ≡ None
  allowed_here claims (Create spec) none = none
  allowed_here claims (Delete uuid) none = delete_allowed (namespaces_of sets areas) claims uuid refl none
  allowed_here claims (Rename uuid name) none = none
  allowed_here claims (Claim uuid) none = none
  allowed_here claims (Unclaim uuid) none = none

  pub changes_same : (claims : List (List ℕ × ℕ)) (c : Command) → changes_of (with_claims (namespaces_of sets areas) claims) areas c ≡ changes_of (namespaces_of sets areas) areas c
  changes_same claims (Create spec) = refl
  changes_same claims (Delete uuid) = refl
  changes_same claims (Rename uuid name) = refl
  changes_same claims (Claim uuid) = refl
  changes_same claims (Unclaim uuid) = refl

  -- ---- its labels have bytes

  bytes_first : (uuid : List ℕ) → AreRegions sets → LabelsAreRead areas → IsFound sets areas uuid → AllByRecursion PutsBytes (settled_first areas (lookup uuid (namespaces_of sets areas).entries))
  bytes_first uuid regions read f = first_bytes sets areas uuid f.entry f.pending regions read f.is f.status

  pub puts_bytes : (c : Command) → AreRegions sets → LabelsAreRead areas → refusal_of (namespaces_of sets areas) c ≡ None → AllByRecursion PutsBytes (changes_of (namespaces_of sets areas) areas c)
  puts_bytes (Create spec) regions read none =
      let ns = namespaces_of sets areas in
      puts_two _ _ (puts_as updating (λ l. refl)) (puts_as updated (λ l. refl)) _
      (new_bytes ns spec (allowed ns spec.uuid spec.name spec.region spec.size spec.make none).raw_some (enumerate_from 0 (set_of ns spec.region)))
  puts_bytes (Delete uuid) regions read none =
      let first = settled_first areas (lookup uuid (namespaces_of sets areas).entries) in
      let bytes = bytes_first uuid regions read (delete_found sets areas uuid none) in
      append_all PutsBytes first (delete_changes uuid (all_changed areas first)) bytes
      (puts_two _ _ (puts_as updating (λ l. refl)) puts_none _
      (own_bytes sets (all_changed areas first) uuid regions (read_all first areas read bytes) (delete_found sets (all_changed areas first) uuid (delete_still_allowed sets areas uuid regions read none))))
  puts_bytes (Rename uuid name) regions read none =
      let first = settled_first areas (lookup uuid (namespaces_of sets areas).entries) in
      let bytes = bytes_first uuid regions read (rename_found sets areas uuid name none) in
      append_all PutsBytes first (rename_changes uuid name (all_changed areas first)) bytes
      (puts_two _ _ (puts_as (λ l. with_name (name_in name) (updating l)) (λ l. refl)) (puts_as (λ l. with_name (name_in name) (updated l)) (λ l. refl)) _
      (own_bytes sets (all_changed areas first) uuid regions (read_all first areas read bytes) (rename_found sets (all_changed areas first) uuid name (rename_still_allowed sets areas uuid name regions read none))))
  puts_bytes (Claim uuid) regions read none = tt
  puts_bytes (Unclaim uuid) regions read none = tt
