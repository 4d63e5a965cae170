-- After a crash during a delete or rename, the entry has only its own parts.
use Rattle.std.proofs.Common.{◌≡◌, ◌≢◌, ℕ, ◌+◌, Bool, List, [], ◌∷◌, length, take, Option, Some, None, refl, sym, ap, ◌∙◌, subst, arith, inl, inr, ◌⊎◌}
use Rattle.std.specs.Prelude.{map, slice_get}
use Rattle.std.specs.Option.{option_map}
use Rattle.std.specs.List.{AllByRecursion, Contains, range_with_len}
use Rattle.std.proofs.lemmas.Bool.{cases_lt, le-leb}
use Rattle.std.proofs.lemmas.Option.{none-some, same_Some}
use Rattle.nfit_reader.specs.declared.table.Mapping.{Mapping}
use Rattle.label_codec.specs.declared.label.Label.{Label}
use Rattle.label_set.specs.declared.placed.Placed.{Placed}
use Rattle.label_set.specs.declared.placed.SetStatus.TheVariants.{Complete}
use Rattle.namespace_map.specs.Namespaces.{NamespaceEntry, Part, part_of, entry_with, lookup}
use Rattle.namespace_map.proofs.Entries.{lookup_entries}
use Rattle.namespace_map.proofs.Entries as entries
use Rattle.namespace_map.proofs.Rising.{all_pass_to}
use Rattle.namespace_map.specs.declared.commands.Named.{Named}
use Rattle.namespace_map.specs.declared.commands.Command.TheVariants as command
use Rattle.namespace_map.specs.Areas.{Area, Change, all_changed, after_steps}
use Rattle.namespace_map.specs.Commands.{refusal_of, name_in}
use Rattle.namespace_map.specs.Changes.{namespaces_of, placed_in_all, change_to, in_two, delete_changes, rename_changes}
use Rattle.namespace_map.specs.CommandLaws.{IsOf}
use Rattle.namespace_map.proofs.Areas.{Proper, HasRoom, moved_all, moved_keeps, proper_after, all_of_front}
use Rattle.namespace_map.proofs.Fronts.{cut_is_front, IsFront}
use Rattle.namespace_map.proofs.Others.{cut_leaves_others}
use Rattle.namespace_map.specs.Left.{AreRegions, LabelsAreRead}
use Rattle.namespace_laws.specs.Apart.{AreApart, EntriesApart}
use Rattle.namespace_laws.proofs.Whole.{AllLab, all_append, own_of, IsBy, slot_on, all_by}
use Rattle.namespace_laws.proofs.Staged.{IsGiven, KeepsUuid, all_map}
use Rattle.namespace_laws.proofs.Table.{IsLike, like_like, like_self, like_named, like_updating, like_updated}
use Rattle.namespace_laws.proofs.Two.{length_kept}
use Rattle.namespace_laws.proofs.Delete.{to_updating, to_nothing, keeps_updating, keeps_nothing}
use Rattle.namespace_laws.proofs.Rename.{to_renamed, to_updated, keeps_renamed, keeps_updated}
use Rattle.namespace_laws.proofs.Shaped.{part_at, part_like, base_parts, in_filter, in_range, lies_there}
use Rattle.namespace_laws.proofs.One.{delete_cut_one}
use Rattle.namespace_laws.proofs.Standing as st
use Rattle.namespace_laws.proofs.EntryCut.{DeleteGood, delete_good, rename_good}
use Rattle.namespace_laws.proofs.Final.{two_fits, two_of}
use Rattle.namespace_laws.proofs.Disjoint.{keeps_apart, itself}

-- labels like the intended ones make some of their parts
pub parts_like : (uuid : List ℕ) (base lab : ℕ → Option Label) (left : List (Option Area)) → Proper uuid lab left → AllLab (λ m l. (b : Label) × (base m ≡ Some b) × IsLike b l) lab → (count : ℕ) → length left ≡ count
    → AllByRecursion (Contains (base_parts base count)) (map part_of (own_of uuid left))
parts_like uuid base lab left proper like count same =
    mapped (own_of uuid left) (all_pass_to (IsBy lab (slot_on uuid left)) (λ p. Contains (base_parts base count) (part_of p)) one (own_of uuid left) (all_by uuid lab left proper))
  where
    mapped : (xs : List Placed) → AllByRecursion (λ p. Contains (base_parts base count) (part_of p)) xs → AllByRecursion (Contains (base_parts base count)) (map part_of xs)
    mapped [] all = tt
    mapped (x ∷ xs) (one, rest) = (one, mapped xs rest)

    zero_more : (m : ℕ) → 0 + m ≡ m
    zero_more m = omega arith

    one : (p : Placed) → IsBy lab (slot_on uuid left) p → Contains (base_parts base count) (part_of p)
    one p by =
        let k = like p.«module» by.given by.is_given in
        let part : part_of p ≡ part_at p.«module» k.0 = ap (λ (l : Label). part_at p.«module» l) by.label_is ∙ part_like p.«module» k.0 by.given k.2 in
        subst (Contains (base_parts base count)) (sym part)
        (in_filter (λ m. option_map (part_at m) (base m)) (range_with_len 0 count) p.«module» (part_at p.«module» k.0)
        (subst (Contains (range_with_len 0 count)) (zero_more p.«module») (in_range count 0 p.«module» (let below = lies_there uuid lab left proper p.«module» by.given by.is_given in omega (arith, same))))
        (ap (option_map (part_at p.«module»)) k.1))

-- an entry's parts are those of its labels
pub own_parts : (sets : List (List Mapping)) (left : List (Option Area)) (uuid : List ℕ) (x : NamespaceEntry) → lookup uuid (namespaces_of sets left).entries ≡ Some x → x.parts ≡ map part_of (own_of uuid left)
own_parts sets left uuid x is = by (slice_get (own_of uuid left) 0) refl
  where
    at : option_map (entry_with sets (own_of uuid left)) (slice_get (own_of uuid left) 0) ≡ Some x
    at = sym (lookup_entries sets (placed_in_all left) uuid) ∙ is

    by : (o : Option Placed) → slice_get (own_of uuid left) 0 ≡ o → x.parts ≡ map part_of (own_of uuid left)
    by None e = absurd (none-some x (sym (ap (option_map (entry_with sets (own_of uuid left))) e) ∙ at))
    by (Some p) e = ap (λ (y : NamespaceEntry). y.parts) (sym (same_Some (entry_with sets (own_of uuid left) p) x (sym (ap (option_map (entry_with sets (own_of uuid left))) e) ∙ at)))

-- ---- changes that keep labels like the intended ones

abbrev pub KeepsLike : (Label → Option Label) → Type 0
KeepsLike f = (l l' : Label) → f l ≡ Some l' → IsLike l l'

abbrev LikeIn : (ℕ → Option Label) → ℕ → Option Label → Type 0
LikeIn base m o = (l : Label) → o ≡ Some l → (b : Label) × (base m ≡ Some b) × IsLike b l

like_map : (lab : ℕ → Option Label) (f : Label → Option Label) → KeepsLike f → (ps : List (ℕ × Label)) → AllByRecursion (λ p. lab p.0 ≡ Some p.1) ps
    → AllByRecursion (λ (c : Change). LikeIn lab c.number c.label) (map (change_to f) ps)
like_map lab f keeps ps labels =
    all_map (λ (c : Change). LikeIn lab c.number c.label) (change_to f) ps
    (all_pass_to (λ p. lab p.0 ≡ Some p.1) (λ p. LikeIn lab p.0 (f p.1)) (λ p at l is. (p.1, at, keeps p.1 l is)) ps labels)

like_two : (lab : ℕ → Option Label) (f g : Label → Option Label) → KeepsLike f → KeepsLike g → (ps : List (ℕ × Label)) → AllByRecursion (λ p. lab p.0 ≡ Some p.1) ps
    → AllByRecursion (λ (c : Change). LikeIn lab c.number c.label) (in_two f g ps)
like_two lab f g kf kg [] labels = tt
like_two lab f g kf kg (p ∷ []) labels = like_map lab g kg (p ∷ []) labels
like_two lab f g kf kg (p ∷ q ∷ ps) labels =
    all_append (λ (c : Change). LikeIn lab c.number c.label) (map (change_to f) (p ∷ q ∷ ps)) (map (change_to g) (p ∷ q ∷ ps)) (like_map lab f kf (p ∷ q ∷ ps) labels) (like_map lab g kg (p ∷ q ∷ ps) labels)

-- any front of the changes leaves some of the parts of the existing labels
pub front_parts : (uuid : List ℕ) (lab : ℕ → Option Label) (areas : List (Option Area)) (ps : List (ℕ × Label)) (f g : Label → Option Label) → KeepsUuid f → KeepsUuid g → KeepsLike f → KeepsLike g → Proper uuid lab areas
    → AllByRecursion (IsGiven uuid lab areas) ps → AllByRecursion (λ p. lab p.0 ≡ Some p.1) ps → (n : ℕ) (stays : Bool)
    → AllByRecursion (Contains (base_parts lab (length areas))) (map part_of (own_of uuid (after_steps areas (in_two f g ps) n stays)))
front_parts uuid lab areas ps f g kf kg lf lg proper given labels n stays = by (cut_is_front (in_two f g ps) areas n stays)
  where
    by : IsFront areas (in_two f g ps) (after_steps areas (in_two f g ps) n stays) → AllByRecursion (Contains (base_parts lab (length areas))) (map part_of (own_of uuid (after_steps areas (in_two f g ps) n stays)))
    by (k, below, is) =
        subst (λ (left : List (Option Area)). AllByRecursion (Contains (base_parts lab (length areas))) (map part_of (own_of uuid left))) (sym is)
        (parts_like uuid lab (moved_all lab (take k (in_two f g ps))) (all_changed areas (take k (in_two f g ps)))
        (proper_after (take k (in_two f g ps)) uuid lab areas proper (all_of_front (λ c. IsOf uuid c × HasRoom lab areas c.number) k (in_two f g ps) (two_fits uuid lab areas f g kf kg ps given)))
        (λ m l at. moved_keeps (LikeIn lab) (take k (in_two f g ps)) lab (λ i l here. (l, here, like_self l)) (all_of_front (λ (c : Change). LikeIn lab c.number c.label) k (in_two f g ps) (like_two lab f g lf lg ps labels)) m l at)
        (length areas) (length_kept (take k (in_two f g ps)) areas))

like_marked : KeepsLike to_updating
like_marked l l' is = subst (IsLike l) (same_Some _ l' is) (like_updating l)

like_gone : KeepsLike to_nothing
like_gone l l' is = absurd (none-some l' is)

like_renamed : (new : List ℕ) → KeepsLike (to_renamed new)
like_renamed new l l' is = subst (IsLike l) (same_Some _ l' is) (like_like l _ _ (like_updating l) (like_named _ new))

like_ended : (new : List ℕ) → KeepsLike (to_updated new)
like_ended new l l' is = subst (IsLike l) (same_Some _ l' is) (like_like l _ _ (like_updated l) (like_named _ new))

-- ---- delete and rename

module _ (sets : List (List Mapping)) (areas : List (Option Area)) (uuid : List ℕ) (e : NamespaceEntry) (pending : Bool) (regions : AreRegions sets) (read : LabelsAreRead areas)
    (is : lookup uuid (namespaces_of sets areas).entries ≡ Some e) (status : e.status ≡ Complete e.name pending) (before : EntriesApart (namespaces_of sets areas)) where
  free : (v : List ℕ) (f : NamespaceEntry) → v ≢ uuid → lookup v (namespaces_of sets areas).entries ≡ Some f → AreApart e f
  free v f ne at = before uuid v e f (λ same. ne (sym same)) is at

  module _ (unlocked : e.read_only ≡ None) where
    abbrev lab : ℕ → Option Label
    lab = st.lab sets areas uuid e pending regions read is status unlocked

    abbrev ps : List (ℕ × Label)
    ps = st.ps sets areas uuid e pending regions read is status unlocked

    labels : AllByRecursion (λ p. lab p.0 ≡ Some p.1) ps
    labels = st.labels sets areas uuid e pending regions read is status unlocked

    proper : Proper uuid lab areas
    proper = st.proper sets areas uuid e pending regions read is status unlocked

    of_uuid : AllByRecursion (λ p. p.1.uuid ≡ uuid) ps
    of_uuid = all_pass_to (λ p. lab p.0 ≡ Some p.1) (λ p. p.1.uuid ≡ uuid) (λ p at. proper.named p.0 p.1 at) ps labels

    base_is : base_parts lab (length areas) ≡ e.parts
    base_is = ap (λ (x : NamespaceEntry). x.parts) (st.entry_shaped sets areas uuid e pending regions read is status unlocked)

    -- some of the labels' parts are some of the entry's
    among : (left : List (Option Area)) → AllByRecursion (Contains (base_parts lab (length areas))) (map part_of (own_of uuid left)) → (x : NamespaceEntry) → lookup uuid (namespaces_of sets left).entries ≡ Some x → AllByRecursion (Contains e.parts) x.parts
    among left all x at = subst (λ (xs : List Part). AllByRecursion (Contains e.parts) xs) (sym (own_parts sets left uuid x at)) (subst (λ (base : List Part). AllByRecursion (Contains base) (map part_of (own_of uuid left))) base_is all)

  delete_parts : (has : DeleteGood (namespaces_of sets areas) e) (n : ℕ) (stays : Bool) (x : NamespaceEntry)
      → lookup uuid (namespaces_of sets (after_steps areas (delete_changes uuid areas) n stays)).entries ≡ Some x → AllByRecursion (Contains e.parts) x.parts
  delete_parts has n stays x at = elim (cases_lt 1 (length e.parts)) [
    | inl many ↦ among has.unlocked (after_steps areas (delete_changes uuid areas) n stays)
        (front_parts uuid (lab has.unlocked) areas (ps has.unlocked) to_updating to_nothing keeps_updating keeps_nothing like_marked like_gone (proper has.unlocked)
        (st.given sets areas uuid e pending regions read is status has.unlocked (rw (le-leb 2 (length e.parts) (omega arith)) at has.room)) (labels has.unlocked) n stays) x at
    | inr few ↦
        let some = st.some_own sets areas uuid e pending regions read is status has.unlocked in
        let count = st.count_is sets areas uuid e pending regions read is status has.unlocked in
        by (delete_cut_one uuid areas (lab has.unlocked) (ps has.unlocked) (proper has.unlocked) (st.only sets areas uuid e pending regions read is status has.unlocked) (labels has.unlocked) (omega (arith, some, count)) n stays)
  ]
    where
      by : (after_steps areas (delete_changes uuid areas) n stays ≡ areas) ⊎ (own_of uuid (after_steps areas (delete_changes uuid areas) n stays) ≡ [])
          → AllByRecursion (Contains e.parts) x.parts
      by (inl same) =
          subst (λ (y : NamespaceEntry). AllByRecursion (Contains e.parts) y.parts) (same_Some e x (sym is ∙ sym (ap (λ (left : List (Option Area)). lookup uuid (namespaces_of sets left).entries) same) ∙ at)) (itself e.parts)
      by (inr empty) =
          absurd (none-some x (sym (lookup_entries sets (placed_in_all (after_steps areas (delete_changes uuid areas) n stays)) uuid
          ∙ entries.entry_none sets (placed_in_all (after_steps areas (delete_changes uuid areas) n stays)) uuid empty) ∙ at))

  pub delete_apart_of : refusal_of (namespaces_of sets areas) (command.Delete uuid) ≡ None → (n : ℕ) (stays : Bool)
      → EntriesApart (namespaces_of sets (after_steps areas (delete_changes uuid areas) n stays))
  delete_apart_of good n stays =
      let has = delete_good (namespaces_of sets areas) uuid e is good in
      keeps_apart sets areas (after_steps areas (delete_changes uuid areas) n stays) uuid e before
      (λ v ne. cut_leaves_others sets areas uuid (delete_changes uuid areas)
      (two_of uuid to_updating to_nothing keeps_updating keeps_nothing (ps has.unlocked) (of_uuid has.unlocked)) n stays v ne)
      (delete_parts has n stays) free

  pub rename_apart_of : (name : Named) → refusal_of (namespaces_of sets areas) (command.Rename uuid name) ≡ None → (n : ℕ) (stays : Bool)
      → EntriesApart (namespaces_of sets (after_steps areas (rename_changes uuid name areas) n stays))
  rename_apart_of name good n stays =
      let fine = rename_good (namespaces_of sets areas) uuid name e is good in
      keeps_apart sets areas (after_steps areas (rename_changes uuid name areas) n stays) uuid e before
      (λ v ne. cut_leaves_others sets areas uuid (rename_changes uuid name areas)
      (two_of uuid (to_renamed (name_in name)) (to_updated (name_in name)) (keeps_renamed (name_in name)) (keeps_updated (name_in name)) (ps fine.unlocked) (of_uuid fine.unlocked)) n stays v ne)
      (among fine.unlocked (after_steps areas (rename_changes uuid name areas) n stays)
      (front_parts uuid (lab fine.unlocked) areas (ps fine.unlocked) (to_renamed (name_in name)) (to_updated (name_in name)) (keeps_renamed (name_in name)) (keeps_updated (name_in name)) (like_renamed (name_in name)) (like_ended (name_in name))
      (proper fine.unlocked) (st.given sets areas uuid e pending regions read is status fine.unlocked fine.room) (labels fine.unlocked) n stays)) free
