-- The two rounds of a command on the labels of a UUID can be made.
use Rattle.std.proofs.Common.{◌≡◌, ℕ, ◌+◌, ◌≤◌, ◌^◌, Bool, true, false, cond, List, [], ◌∷◌, ◌++◌, length, map, Option, Some, None, refl, sym, ap, ◌∙◌, subst, inl, inr, arith, ◌<◌}
use Rattle.std.specs.Prelude.{filter, nat_le, nat_lt, slice_get, IsSome}
use Rattle.std.specs.List.{AllByRecursion}
use Rattle.std.specs.Option.{option_map}
use Rattle.std.specs.Str.{bytes_eq}
use Rattle.std.proofs.lemmas.Bool.{cases_Bool, leb-false}
use Rattle.std.proofs.lemmas.Option.{none-some}
use Rattle.nvd_words.specs.Checks.{first_fault}
use Rattle.nfit_reader.specs.declared.table.Mapping.{Mapping}
use Rattle.label_codec.specs.declared.label.Label.{Label}
use Rattle.label_codec.specs.Name.{HasNoZero}
use Rattle.label_codec.specs.Writable.{IsSound}
use Rattle.label_set.specs.declared.placed.Placed.{Placed}
use Rattle.label_set.specs.Rules.{least_where, module_of}
use Rattle.namespace_map.specs.Namespaces.{entry_with, labels_with, uuid_of}
use Rattle.namespace_map.specs.declared.commands.Named.{Named}
use Rattle.namespace_map.specs.Commands.{bad_name, delete_refusal, rename_refusal}
use Rattle.namespace_map.specs.declared.commands.Named.TheVariants as named
use Rattle.namespace_map.specs.declared.refused.OpRefused.TheVariants.{BadName, NoSlot}
use Rattle.namespace_map.specs.Areas.{Area as SeenArea, Change, slots_on, free_in, area_at, all_changed}
use Rattle.namespace_map.specs.Changes.{by_position, by_position_with, change_to, in_two, placed_in_all}
use Rattle.namespace_laws.proofs.Sets.{no_fault, unmapped}
use Rattle.namespace_laws.proofs.Shaped.{least_nothing}
use Rattle.namespace_laws.proofs.Allowed.{free_there, unmap_all}
use Rattle.namespace_areas.specs.declared.area.Area.{Area}
use Rattle.namespace_areas.specs.Seen.{areas_seen}
use Rattle.namespace_areas.specs.Went.{CanMake, PutsSound}
use Rattle.namespace_areas.proofs.CanMake.{IsRemoval, Fits, can_both, can_put, can_remove, ready_all}
use Rattle.namespace_areas.proofs.Placed.{IsPlaced, placed_each, placed_ready, placed_label, placed_sound}
use Rattle.namespace_areas.specs.Groups.{Grouping}
use Rattle.namespace_areas.proofs.Changing.{delete_of, rename_of, entry_of_group, own_labels as group_labels}
use Rattle.namespace_areas.specs.Refusals.{AreOpen, shown, changing, deleting, full_of, incomplete_of, read_only_of, renaming, area_summary_at}
use Rattle.namespace_ops.specs.declared.turns.Round.{Round}
use Rattle.namespace_ops.specs.declared.turns.Round.TheVariants.{Mark, MarkAs, Remove, SettleAs}
use Rattle.namespace_ops.specs.Carried.{becomes, rounds}
use Rattle.namespace_ops.specs.Held.{AreCurrent}
use Rattle.namespace_ops.specs.Plans.{pairs_of}

-- ---- labels by position

all_put : (P : Placed → Type 0) (p : Placed) (ps : List Placed) → P p → AllByRecursion P ps → AllByRecursion P (by_position_with p ps)
unfolding by_position_with
all_put P p [] one all = (one, tt)
all_put P p (q ∷ qs) one (first, rest) =
    elim (cases_Bool (nat_le p.label.position q.label.position)) [ inl it ↦ rw it (one, (first, rest)) | inr not_it ↦ rw not_it (first, all_put P p qs one rest) ]

pub all_ordered : (P : Placed → Type 0) (ps : List Placed) → AllByRecursion P ps → AllByRecursion P (by_position ps)
unfolding by_position
all_ordered P [] all = tt
all_ordered P (p ∷ ps) (one, rest) = all_put P p (by_position ps) one (all_ordered P ps rest)

length_put : (p : Placed) (ps : List Placed) → length (by_position_with p ps) ≡ length ps + 1
unfolding by_position_with
length_put p [] = omega arith
length_put p (q ∷ qs) =
    elim (cases_Bool (nat_le p.label.position q.label.position)) [ inl it ↦ rw it (omega arith) | inr not_it ↦ rw not_it (let e = length_put p qs in omega (arith, e)) ]

pub length_ordered : (ps : List Placed) → length (by_position ps) ≡ length ps
unfolding by_position
length_ordered [] = refl
length_ordered (p ∷ ps) = length_put p (by_position ps) ∙ (let e = length_ordered ps in omega (arith, e))

pub all_kept : (P : Placed → Type 0) (test : Placed → Bool) (ps : List Placed) → AllByRecursion P ps → AllByRecursion P (filter test ps)
all_kept P test [] all = tt
all_kept P test (p ∷ ps) (one, rest) = elim (cases_Bool (test p)) [ inl it ↦ rw it (one, all_kept P test ps rest) | inr not_it ↦ rw not_it (all_kept P test ps rest) ]

both : (P Q : Placed → Type 0) (ps : List Placed) → AllByRecursion P ps → AllByRecursion Q ps → AllByRecursion (λ p. P p × Q p) ps
both P Q [] xs ys = tt
both P Q (p ∷ ps) (x, xs) (y, ys) = ((x, y), both P Q ps xs ys)

-- ---- one round

-- it puts a label of the same UUID
abbrev pub Keeps : (Label → Option Label) → Type 0
Keeps f = (l : Label) → (m : Label) × (f l ≡ Some m) × (m.uuid ≡ l.uuid)

abbrev HasFree : List (Option SeenArea) → Placed → Type 0
HasFree areas p = 1 ≤ free_in (slots_on areas p.«module»)

fit_round : (areas : List (Option SeenArea)) (f : Label → Option Label) → Keeps f → (ps : List Placed) → AllByRecursion (λ p. IsPlaced areas p × HasFree areas p) ps
    → AllByRecursion (Fits areas) (map (change_to f) (pairs_of ps))
fit_round areas f keeps [] all = tt
fit_round areas f keeps (p ∷ ps) ((placed, room), rest) = (record { puts = keeps p.label; there = placed_label areas p placed; room = room }, fit_round areas f keeps ps rest)

remove_round : (areas now : List (Option SeenArea)) → ((m : ℕ) → IsSome (area_at areas m) → IsSome (area_at now m)) → (ps : List Placed) → AllByRecursion (IsPlaced areas) ps
    → AllByRecursion (IsRemoval now) (map (change_to (λ l. None)) (pairs_of ps))
remove_round areas now ready [] all = tt
remove_round areas now ready (p ∷ ps) (placed, rest) = ((refl, ready p.«module» (placed_ready areas p placed)), remove_round areas now ready ps rest)

-- ---- two rounds

all_append : (P : Change → Type 0) (xs ys : List Change) → AllByRecursion P xs → AllByRecursion P ys → AllByRecursion P (xs ++ ys)
all_append P [] ys all more = more
all_append P (x ∷ xs) ys (one, rest) more = (one, all_append P xs ys rest more)

pub two_all : (P : Change → Type 0) (f g : Label → Option Label) (ps : List (ℕ × Label)) → AllByRecursion P (map (change_to f) ps) → AllByRecursion P (map (change_to g) ps) → AllByRecursion P (in_two f g ps)
two_all P f g [] xs ys = tt
two_all P f g (p ∷ []) xs ys = ys
two_all P f g (p ∷ q ∷ ps) xs ys = all_append P (map (change_to f) (p ∷ q ∷ ps)) (map (change_to g) (p ∷ q ∷ ps)) xs ys

pub can_rename : (areas : List (Option SeenArea)) (f g : Label → Option Label) → Keeps f → Keeps g → (ps : List Placed) → AllByRecursion (λ p. IsPlaced areas p × HasFree areas p) ps
    → CanMake areas (in_two f g (pairs_of ps))
can_rename areas f g kf kg ps all = can_put (in_two f g (pairs_of ps)) areas (two_all (Fits areas) f g (pairs_of ps) (fit_round areas f kf ps all) (fit_round areas g kg ps all))

pub can_delete : (areas : List (Option SeenArea)) (f : Label → Option Label) → Keeps f → (ps : List Placed) → AllByRecursion (IsPlaced areas) ps → (2 ≤ length ps → AllByRecursion (HasFree areas) ps)
    → CanMake areas (in_two f (λ l. None) (pairs_of ps))
can_delete areas f kf [] all free = tt
can_delete areas f kf (p ∷ []) all free = can_remove (change_to (λ l. None) (p.«module», p.label) ∷ []) areas (remove_round areas areas (λ m r. r) (p ∷ []) all)
can_delete areas f kf (p ∷ q ∷ ps) all free =
    let own : List Placed = p ∷ q ∷ ps in
    let first : List Change = map (change_to f) (pairs_of own) in
    can_both first (map (change_to (λ l. None)) (pairs_of own)) areas
    (can_put first areas (fit_round areas f kf own (both (IsPlaced areas) (HasFree areas) own all (free (omega arith)))))
    (can_remove (map (change_to (λ l. None)) (pairs_of own)) (all_changed areas first) (remove_round areas (all_changed areas first) (ready_all first areas) own all))

-- ---- what is put can be written

abbrev pub KeepsSound : (Label → Option Label) → Type 0
KeepsSound f = (l m : Label) → IsSound l → f l ≡ Some m → IsSound m

sound_round : (areas : List Area) (f : Label → Option Label) → KeepsSound f → (ps : List Placed) → AllByRecursion (IsPlaced (areas_seen areas)) ps → AllByRecursion PutsSound (map (change_to f) (pairs_of ps))
sound_round areas f keeps [] all = tt
sound_round areas f keeps (p ∷ ps) (placed, rest) = (λ m is. keeps p.label m (placed_sound areas p placed) is, sound_round areas f keeps ps rest)

pub sound_rounds : (areas : List Area) (f g : Label → Option Label) → KeepsSound f → KeepsSound g → (ps : List Placed) → AllByRecursion (IsPlaced (areas_seen areas)) ps
    → AllByRecursion PutsSound (in_two f g (pairs_of ps))
sound_rounds areas f g kf kg ps all = two_all PutsSound f g (pairs_of ps) (sound_round areas f kf ps all) (sound_round areas g kg ps all)

same_sound : (l m n : Label) → IsSound l → m.name ≡ l.name → m.dpa ≡ l.dpa → m.raw ≡ l.raw → Some m ≡ Some n → IsSound n
same_sound l m n sound a b c e =
    let here : IsSound m = record { no_zero = subst HasNoZero (sym a) sound.no_zero; sizes = rw (b, c) sound.sizes } in
    subst IsSound (let h = e in cc) here

pub keeps_mark : Keeps (becomes Mark)
keeps_mark l = (_, refl, refl)

pub keeps_mark_as : (name : List ℕ) → Keeps (becomes (MarkAs name))
keeps_mark_as name l = (_, refl, refl)

pub keeps_settle_as : (name : List ℕ) → Keeps (becomes (SettleAs name))
keeps_settle_as name l = (_, refl, refl)

pub sound_mark : KeepsSound (becomes Mark)
sound_mark l n sound e = subst IsSound (some_same e) (record { no_zero = sound.no_zero; sizes = sound.sizes })
  where
    some_same : {x y : Label} → Some x ≡ Some y → x ≡ y
    some_same h = cc

pub sound_mark_as : (name : List ℕ) → HasNoZero name → KeepsSound (becomes (MarkAs name))
sound_mark_as name good l n sound e = subst IsSound (some_same e) (record { no_zero = good; sizes = sound.sizes })
  where
    some_same : {x y : Label} → Some x ≡ Some y → x ≡ y
    some_same h = cc

pub sound_settle_as : (name : List ℕ) → HasNoZero name → KeepsSound (becomes (SettleAs name))
sound_settle_as name good l n sound e = subst IsSound (some_same e) (record { no_zero = good; sizes = sound.sizes })
  where
    some_same : {x y : Label} → Some x ≡ Some y → x ≡ y
    some_same h = cc

pub sound_remove : KeepsSound (becomes Remove)
sound_remove l n sound e = absurd (none-some n e)

-- ---- from what isn't refused

full_free : (sets : List (List Mapping)) (areas : List Area) (labels : List Placed) → full_of areas labels ≡ None → AllByRecursion (HasFree (areas_seen areas)) labels
full_free sets areas labels e = step labels (unmap_all (λ m. nat_lt (area_summary_at areas m).free 1 ≡ false) module_of labels fine)
  where
    fine : AllByRecursion (λ m. nat_lt (area_summary_at areas m).free 1 ≡ false) (map module_of labels)
    fine = least_nothing (λ number. number) (λ number. nat_lt (area_summary_at areas number).free 1) (map module_of labels)
        (unmapped (λ number. NoSlot number) (least_where (λ number. number) (λ number. nat_lt (area_summary_at areas number).free 1) (map module_of labels)) e)

    step : (ps : List Placed) → AllByRecursion (λ p. nat_lt (area_summary_at areas p.«module»).free 1 ≡ false) ps → AllByRecursion (HasFree (areas_seen areas)) ps
    step [] all = tt
    step (p ∷ ps) (one, rest) = ((free_there sets (areas_seen areas) p.«module» 1 (omega arith) one).1, step ps rest)

pub delete_free : (sets : List (List Mapping)) (areas : List Area) (labels : List Placed) → changing (deleting sets areas) labels ≡ None → 2 ≤ length labels → AllByRecursion (HasFree (areas_seen areas)) labels
delete_free sets areas [] e many = tt
delete_free sets areas (p ∷ ps) e many =
    let a = no_fault (incomplete_of sets (p ∷ ps) p) _ e in
    let b = no_fault (read_only_of (p ∷ ps)) _ a.1 in
    let c = no_fault (cond (nat_le 2 (length (p ∷ ps))) (full_of areas (p ∷ ps)) None) [] b.1 in
    full_free sets areas (p ∷ ps) (by (length (p ∷ ps)) (nat_le 2 (length (p ∷ ps))) refl many c.0)
  where
    by : (n : ℕ) (b : Bool) → nat_le 2 n ≡ b → 2 ≤ n → cond b (full_of areas (p ∷ ps)) None ≡ None → full_of areas (p ∷ ps) ≡ None
    by n true is le e = e
    by n false is le e = absurd (omega (arith, leb-false 2 n is))

pub rename_free : (sets : List (List Mapping)) (areas : List Area) (labels : List Placed) → changing (renaming sets areas) labels ≡ None → AllByRecursion (HasFree (areas_seen areas)) labels
rename_free sets areas [] e = tt
rename_free sets areas (p ∷ ps) e =
    let a = no_fault (incomplete_of sets (p ∷ ps) p) _ e in
    let b = no_fault (read_only_of (p ∷ ps)) _ a.1 in
    let c = no_fault (full_of areas (p ∷ ps)) [] b.1 in
    full_free sets areas (p ∷ ps) c.0

-- ---- from the areas and the groups

pub opened : (areas : List Area) (groups : Grouping) → length areas < 2 ^ 32 → AreCurrent areas groups → AreOpen areas groups
opened areas groups few current = record { held = current.held; groups = current.same; few = few }

pub short_filter : (test : Placed → Bool) (ps : List Placed) → length (filter test ps) ≤ length ps
short_filter test [] = omega arith
short_filter test (p ∷ ps) = let e = short_filter test ps in elim (cases_Bool (test p)) [ inl it ↦ rw it (omega (arith, e)) | inr not_it ↦ rw not_it (omega (arith, e)) ]

module _ (areas : List Area) (grouping : Grouping) (is_open : AreOpen areas grouping) (uuid : List ℕ) where
  abbrev seen : List (Option SeenArea)
  seen = areas_seen areas

  abbrev pub own : List Placed
  own = labels_with uuid (placed_in_all seen)

  pub own_is : labels_with uuid grouping.sorted ≡ own
  own_is = group_labels areas grouping is_open uuid

  placed : AllByRecursion (IsPlaced seen) own
  placed = all_kept (IsPlaced seen) (λ p. bytes_eq (uuid_of p) uuid) (placed_in_all seen) (placed_each seen)

  placed_ordered : AllByRecursion (IsPlaced seen) (by_position own)
  placed_ordered = all_ordered (IsPlaced seen) own placed

  -- what two rounds plan
  pub rounds_are : (first second : Round) (group ordered : List Placed) (changes : List Change) → group ≡ labels_with uuid grouping.sorted → ordered ≡ by_position group
      → changes ≡ in_two (becomes first) (becomes second) (pairs_of ordered) → changes ≡ rounds first second seen uuid
  rounds_are first second group ordered changes g o is =
      is ∙ ap (λ (ps : List Placed). in_two (becomes first) (becomes second) (pairs_of ps)) (o ∙ ap by_position (g ∙ own_is))

  pub sound_both : (first second : Round) → KeepsSound (becomes first) → KeepsSound (becomes second) → AllByRecursion PutsSound (rounds first second seen uuid)
  sound_both first second kf ks = sound_rounds areas (becomes first) (becomes second) kf ks (by_position own) placed_ordered

  -- a delete that isn't refused can be made
  pub delete_can : (sets : List (List Mapping)) → None ≡ delete_refusal (shown sets areas) uuid → CanMake seen (rounds Mark Remove seen uuid)
  delete_can sets good =
      let none : changing (deleting sets areas) own ≡ None =
      sym (good ∙ delete_of sets areas uuid own (entry_of_group sets areas grouping is_open uuid ∙ ap (λ (ps : List Placed). option_map (entry_with sets ps) (slice_get ps 0)) own_is)) in
      can_delete seen (becomes Mark) keeps_mark (by_position own) placed_ordered
      (λ many. all_ordered (HasFree seen) own (delete_free sets areas own none (subst (λ (n : ℕ). 2 ≤ n) (length_ordered own) many)))

  -- so can a rename
  pub rename_can : (sets : List (List Mapping)) (name : Named) (n : List ℕ) → None ≡ rename_refusal (shown sets areas) uuid name → CanMake seen (rounds (MarkAs n) (SettleAs n) seen uuid)
  rename_can sets name n good =
      let due = sym (good ∙ rename_of sets areas uuid name own (entry_of_group sets areas grouping is_open uuid ∙ ap (λ (ps : List Placed). option_map (entry_with sets ps) (slice_get ps 0)) own_is)) in
      let none : changing (renaming sets areas) own ≡ None = (no_fault (changing (renaming sets areas) own) [] (no_fault (bad_name name) _ due).1).0 in
      can_rename seen (becomes (MarkAs n)) (becomes (SettleAs n)) (keeps_mark_as n) (keeps_settle_as n) (by_position own)
      (both (IsPlaced seen) (HasFree seen) (by_position own) placed_ordered (all_ordered (HasFree seen) own (rename_free sets areas own none)))

-- ---- refusals

pub no_refusal : {F : Type 0} (o : Option F) (f : F) → None ≡ o → o ≡ Some f → ⊥
no_refusal o f none some = none-some f (none ∙ some)

-- a text that makes no name is refused
pub not_named : (sets : List (List Mapping)) (areas : List Area) (uuid : List ℕ) (name : Named) (bytes : ℕ) → name ≡ named.Refused bytes → None ≡ rename_refusal (shown sets areas) uuid name → ⊥
unfolding first_fault
not_named sets areas uuid name bytes is none = none-some (BadName bytes) (none ∙ ap (λ (n : Named). rename_refusal (shown sets areas) uuid n) is)
