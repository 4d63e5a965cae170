-- After a crash during a command, recovery leads to the map before it or after it.
use Rattle.std.proofs.Common.{◌≡◌, ◌≢◌, ℕ, zero, suc, ◌+◌, ◌≤◌, Bool, true, false, cond, List, [], ◌∷◌, length, take, get_or, Option, Some, None, refl, sym, ap, ◌∙◌, subst, arith, inl, inr}
use Rattle.std.specs.Prelude.{◌==◌, map, filter, slice_get, unwrap_or}
use Rattle.std.specs.Option.{option_map}
use Rattle.std.specs.List.{AllByRecursion}
use Rattle.std.proofs.lemmas.Bool.{cases_Bool, ne_eqb}
use Rattle.std.proofs.lemmas.Option.{none-some, same_Some}
use Rattle.std.proofs.Math.ListN.{length-map}
use Rattle.nfit_reader.specs.declared.table.Mapping.{Mapping}
use Rattle.label_codec.specs.declared.label.Label.{Label}
use Rattle.label_set.specs.declared.placed.Placed.{Placed}
use Rattle.label_set.specs.declared.placed.SetStatus.{SetStatus}
use Rattle.label_set.specs.declared.placed.SetStatus.TheVariants.{Complete, Unfinished}
use Rattle.label_set.specs.Rules.{is_updating}
use Rattle.namespace_map.specs.Namespaces.{Namespaces, NamespaceEntry, Part, AreaSummary, entry_with, part_of, lookup}
use Rattle.namespace_map.proofs.Entries.{lookup_entries}
use Rattle.namespace_map.proofs.Entries as entries
use Rattle.namespace_map.proofs.Rising.{all_pass_to, rising_entries}
use Rattle.namespace_map.specs.Areas.{Area, Change, slots_on, free_in, area_at, all_changed, after_steps}
use Rattle.namespace_map.specs.Commands.{no_area, area_of, count_in, given_to, entry_modules, deleted_entry, is_unfinished, unfinished_gone, settled_entry, after_recovery}
use Rattle.namespace_map.specs.Changes.{namespaces_of, placed_in_all, area_summary}
use Rattle.namespace_map.specs.CommandLaws.{IsOf}
use Rattle.namespace_map.proofs.Slots.{owned}
use Rattle.namespace_map.proofs.Areas.{Proper, HasRoom, Fitting, moved_all, moved_keeps, proper_after, sum_kept, all_of_front}
use Rattle.namespace_map.proofs.Labels.{other_entries_stay}
use Rattle.namespace_map.proofs.Fronts.{cut_is_front, IsFront}
use Rattle.namespace_laws.proofs.Whole.{own_of, own_each}
use Rattle.namespace_laws.proofs.Two.{length_kept}
use Rattle.namespace_laws.proofs.Allowed.{area_free}
use Rattle.namespace_laws.proofs.Shaped.{changing, filter_none}
use Rattle.namespace_laws.proofs.DisjointEntry.{own_parts}
use Rattle.namespace_laws.proofs.Final.{owned_count, state_after, get_state}
use Rattle.namespace_laws.proofs.Recovery.{AreNear, settle, weight, with_free, recovered_same, settle_same}

-- ---- a front of the changes of a UUID

-- areas after some of the changes of a UUID, which had room: the label of each module, and the slots
pub record FrontOf (sets : List (List Mapping)) (uuid : List ℕ) (lab : ℕ → Option Label) (areas left : List (Option Area)) : Type 0 where
  pub lab_then : ℕ → Option Label
  pub proper : Proper uuid lab_then left
  pub sum : (i : ℕ) → free_in (slots_on left i) + owned (lab_then i) ≡ free_in (slots_on areas i) + owned (lab i)
  pub room : (m : ℕ) (l : Label) → lab_then m ≡ Some l → 1 ≤ free_in (slots_on left m)
  pub state : (i n : ℕ) → free_in (slots_on left i) ≡ n → area_summary (area_at left i) ≡ record (area_summary (area_at areas i)) { free = n }
  pub count : length left ≡ length areas
  pub others : (u : List ℕ) → u ≢ uuid → lookup u (namespaces_of sets left).entries ≡ lookup u (namespaces_of sets areas).entries

module _ (sets : List (List Mapping)) (uuid : List ℕ) (lab : ℕ → Option Label) (areas : List (Option Area)) (cs : List Change)
    (proper : Proper uuid lab areas) (fits : Fitting uuid lab areas cs) (roomy : (m : ℕ) (l : Label) → lab m ≡ Some l → HasRoom lab areas m) where
  pub front_at : (k : ℕ) → FrontOf sets uuid lab areas (all_changed areas (take k cs))
  front_at k = record {
    lab_then = moved_all lab (take k cs);
    proper = proper_after (take k cs) uuid lab areas proper fit;
    sum = sum_kept (take k cs) uuid lab areas proper fit;
    room = λ m l is. enough m l is;
    state = λ i n free. state_after (take k cs) areas i n free;
    count = length_kept (take k cs) areas;
    others = λ u ne.
        lookup_entries sets (placed_in_all (all_changed areas (take k cs))) u ∙ other_entries_stay sets (take k cs) u uuid areas ne (all_of_front (IsOf uuid) k cs (all_pass_to (λ c. IsOf uuid c × HasRoom lab areas c.number) (IsOf uuid) (λ c both. both.0) cs fits))
        ∙ sym (lookup_entries sets (placed_in_all areas) u);
  }
    where
      fit : Fitting uuid lab areas (take k cs)
      fit = all_of_front (λ c. IsOf uuid c × HasRoom lab areas c.number) k cs fits

      enough : (m : ℕ) (l : Label) → moved_all lab (take k cs) m ≡ Some l → 1 ≤ free_in (slots_on (all_changed areas (take k cs)) m)
      enough m l is =
          let has : HasRoom lab areas m =
          moved_keeps (λ n o. (x : Label) → o ≡ Some x → HasRoom lab areas n) (take k cs) lab roomy
          (all_pass_to (λ c. IsOf uuid c × HasRoom lab areas c.number) (λ c. (x : Label) → c.label ≡ Some x → HasRoom lab areas c.number) (λ c both x e. both.1) (take k cs) fit) m l is in
          let r = has.room in let s = sum_kept (take k cs) uuid lab areas proper fit m in let o = ap owned is in omega (arith, r, s, o)

  pub front_of_cut : (n : ℕ) (stays : Bool) → FrontOf sets uuid lab areas (after_steps areas cs n stays)
  front_of_cut n stays = by (cut_is_front cs areas n stays)
    where
      by : IsFront areas cs (after_steps areas cs n stays) → FrontOf sets uuid lab areas (after_steps areas cs n stays)
      by (k, below, is) = subst (FrontOf sets uuid lab areas) (sym is) (front_at k)

  pub front_before : FrontOf sets uuid lab areas areas
  unfolding all_changed
  front_before = front_at 0

  pub front_after : FrontOf sets uuid lab areas (all_changed areas cs)
  front_after = subst (λ (ds : List Change). FrontOf sets uuid lab areas (all_changed areas ds)) (all_taken cs) (front_at (length cs))
    where
      all_taken : (ds : List Change) → take (length ds) ds ≡ ds
      all_taken [] = refl
      all_taken (d ∷ ds) = ap (λ (xs : List Change). d ∷ xs) (all_taken ds)

-- ---- free slots for what changes

settles_all : (gone : Namespaces) (e : NamespaceEntry) (name : List ℕ) (pending : Bool) → e.status ≡ Complete name pending → AllByRecursion (λ m. ((area_of gone m).free == 0) ≡ false) e.updating
    → settled_entry gone e ≡ record e { updating = []; status = Complete name false }
settles_all gone e name pending status free = rw (status, filter_none (λ m. (area_of gone m).free == 0) e.updating free) refl

given_more : (states : List AreaSummary) (modules : List ℕ) (k m : ℕ)
    → (unwrap_or (slice_get states m) no_area).free ≤ (unwrap_or (slice_get (given_to k modules states) m) no_area).free
unfolding given_to
given_more [] modules k m = omega arith
given_more (a ∷ as') modules k zero = omega arith
given_more (a ∷ as') modules k (suc m) = given_more as' modules (k + 1) m

-- recovering unfinished entries takes no free slot
gone_free : (es : List NamespaceEntry) (ns : Namespaces) (m : ℕ) → (area_of ns m).free ≤ (area_of (unfinished_gone ns es) m).free
unfolding unfinished_gone
gone_free [] ns m = omega arith
gone_free (e ∷ es) ns m = step (is_unfinished e.status) (gone_free es (deleted_entry ns (Some e)) m) (gone_free es ns m)
  where
    step : (b : Bool) → (area_of (deleted_entry ns (Some e)) m).free ≤ (area_of (unfinished_gone (deleted_entry ns (Some e)) es) m).free
        → (area_of ns m).free ≤ (area_of (unfinished_gone ns es) m).free
        → (area_of ns m).free ≤ (area_of (unfinished_gone (cond b (deleted_entry ns (Some e)) ns) es) m).free
    step true gone stays = let more = given_more ns.areas (entry_modules e) 0 m in omega (arith, more, gone)
    step false gone stays = stays

modules_all : (P : ℕ → Type 0) (test : Placed → Bool) (xs : List Placed) → AllByRecursion (λ (p : Placed). P p.«module») xs → AllByRecursion P (map (λ p. p.«module») (filter test xs))
modules_all P test [] all = tt
modules_all P test (x ∷ xs) (one, rest) = elim (cases_Bool (test x)) [
  | inl it ↦ rw it (one, modules_all P test xs rest)
  | inr not_it ↦ rw not_it (modules_all P test xs rest)
]

-- ---- the entry of a front

-- how often a module occurs among those of an entry, if it isn't removed
abbrev pub cnt : Option NamespaceEntry → ℕ → ℕ
cnt None i = 0
cnt (Some e) i = count_in (entry_modules e) i

abbrev pub kept_count : Option NamespaceEntry → ℕ → ℕ
kept_count None i = 0
kept_count (Some e) i = cond (is_unfinished e.status) 0 (count_in (entry_modules e) i)

cnt_parts : (o : Option NamespaceEntry) (i : ℕ) → cnt o i ≡ kept_count o i + weight o i
cnt_parts None i = refl
cnt_parts (Some e) i = both (is_unfinished e.status)
  where
    both : (b : Bool) → count_in (entry_modules e) i ≡ cond b 0 (count_in (entry_modules e) i) + cond b (count_in (entry_modules e) i) 0
    both true = omega arith
    both false = omega arith

pub own_modules : (sets : List (List Mapping)) (left : List (Option Area)) (uuid : List ℕ) (x : NamespaceEntry) → lookup uuid (namespaces_of sets left).entries ≡ Some x
    → entry_modules x ≡ map (λ (p : Placed). p.«module») (own_of uuid left)
own_modules sets left uuid x is = ap (map (λ (p : Part). p.extent.«module»)) (own_parts sets left uuid x is) ∙ twice (own_of uuid left)
  where
    twice : (xs : List Placed) → map (λ (p : Part). p.extent.«module») (map part_of xs) ≡ map (λ (p : Placed). p.«module») xs
    twice [] = refl
    twice (x ∷ xs) = ap (λ (ys : List ℕ). x.«module» ∷ ys) (twice xs)

pub own_updating : (sets : List (List Mapping)) (left : List (Option Area)) (uuid : List ℕ) (x : NamespaceEntry) → lookup uuid (namespaces_of sets left).entries ≡ Some x → x.updating ≡ changing (own_of uuid left)
own_updating sets left uuid x is = by (slice_get (own_of uuid left) 0) refl
  where
    at : option_map (entry_with sets (own_of uuid left)) (slice_get (own_of uuid left) 0) ≡ Some x
    at = sym (lookup_entries sets (placed_in_all left) uuid) ∙ is

    by : (o : Option Placed) → slice_get (own_of uuid left) 0 ≡ o → x.updating ≡ changing (own_of uuid left)
    by None e = absurd (none-some x (sym (ap (option_map (entry_with sets (own_of uuid left))) e) ∙ at))
    by (Some p) e = ap (λ (y : NamespaceEntry). y.updating) (sym (same_Some (entry_with sets (own_of uuid left) p) x (sym (ap (option_map (entry_with sets (own_of uuid left))) e) ∙ at)))

module _ (sets : List (List Mapping)) (uuid : List ℕ) (lab : ℕ → Option Label) (areas : List (Option Area)) where
  abbrev found : List (Option Area) → Option NamespaceEntry
  found left = lookup uuid (namespaces_of sets left).entries

  owned_is : (left : List (Option Area)) (front : FrontOf sets uuid lab areas left) (i : ℕ) → owned (front.lab_then i) ≡ cnt (found left) i
  owned_is left front i = owned_count uuid front.lab_then left front.proper i ∙ by (found left) refl
    where
      by : (o : Option NamespaceEntry) → found left ≡ o → count_in (map (λ (p : Placed). p.«module») (own_of uuid left)) i ≡ cnt o i
      by None is =
          ap (λ (xs : List Placed). count_in (map (λ (p : Placed). p.«module») xs) i) (entries.entry_there sets (placed_in_all left) uuid (sym (lookup_entries sets (placed_in_all left) uuid) ∙ is))
      by (Some x) is = ap (λ (ms : List ℕ). count_in ms i) (sym (own_modules sets left uuid x is))

  -- two fronts whose entries keep the same modules
  pub near : (left right : List (Option Area)) → FrontOf sets uuid lab areas left → FrontOf sets uuid lab areas right → ((i : ℕ) → kept_count (found left) i ≡ kept_count (found right) i)
      → AreNear (namespaces_of sets left) (namespaces_of sets right) uuid
  near left right fl fr kept = record {
    sets = refl;
    claims = refl;
    rising_left = rising_entries sets (placed_in_all left);
    rising_right = rising_entries sets (placed_in_all right);
    others = λ u ne. fl.others u ne ∙ sym (fr.others u ne);
    count = length-map left area_summary ∙ fl.count ∙ sym fr.count ∙ sym (length-map right area_summary);
    areas = λ i below. each i;
  }
    where
      each : (i : ℕ) → with_free (get_or (map area_summary left) i no_area) ((get_or (map area_summary left) i no_area).free + weight (found left) i)
          ≡ with_free (get_or (map area_summary right) i no_area) ((get_or (map area_summary right) i no_area).free + weight (found right) i)
      each i =
          ap (λ (a : AreaSummary). with_free a (a.free + weight (found left) i)) (get_state left i ∙ fl.state i (free_in (slots_on left i)) refl)
          ∙ ap (with_free (area_summary (area_at areas i)))
          (let a = fl.sum i in let b = fr.sum i in let c = owned_is left fl i in let d = owned_is right fr i in
          let e = cnt_parts (found left) i in let f = cnt_parts (found right) i in let g = kept i in omega (arith, a, b, c, d, e, f, g))
          ∙ ap (λ (a : AreaSummary). with_free a (a.free + weight (found right) i)) (sym (get_state right i ∙ fr.state i (free_in (slots_on right i)) refl))

  -- both have the same entry
  pub recovers_same : (left right : List (Option Area)) → FrontOf sets uuid lab areas left → FrontOf sets uuid lab areas right → found left ≡ found right → after_recovery (namespaces_of sets left) ≡ after_recovery (namespaces_of sets right)
  recovers_same left right fl fr same =
      let n = near left right fl fr (λ i. ap (λ (o : Option NamespaceEntry). kept_count o i) same) in
      recovered_same (namespaces_of sets left) (namespaces_of sets right) uuid n
      (settle_same (namespaces_of sets left) (namespaces_of sets right) uuid n (found left) ∙ ap (settle (unfinished_gone (namespaces_of sets right) (namespaces_of sets right).entries)) same)

  -- one is unfinished, the other has none
  pub recovers_gone : (left right : List (Option Area)) → FrontOf sets uuid lab areas left → FrontOf sets uuid lab areas right → (x : NamespaceEntry) → found left ≡ Some x → x.status ≡ Unfinished → found right ≡ None
      → after_recovery (namespaces_of sets left) ≡ after_recovery (namespaces_of sets right)
  recovers_gone left right fl fr x is status none =
      recovered_same (namespaces_of sets left) (namespaces_of sets right) uuid
      (near left right fl fr (λ i. ap (λ (o : Option NamespaceEntry). kept_count o i) is ∙ ap (λ (s : SetStatus). cond (is_unfinished s) 0 (count_in (entry_modules x) i)) status ∙ sym (ap (λ (o : Option NamespaceEntry). kept_count o i) none)))
      (ap (settle (unfinished_gone (namespaces_of sets left) (namespaces_of sets left).entries)) is
      ∙ ap (λ (s : SetStatus). cond (is_unfinished s) None (Some (settled_entry (unfinished_gone (namespaces_of sets left) (namespaces_of sets left).entries) x))) status
      ∙ sym (ap (settle (unfinished_gone (namespaces_of sets right) (namespaces_of sets right).entries)) none))

  -- one is pending, the other is settled
  pub recovers_settled : (left right : List (Option Area)) → FrontOf sets uuid lab areas left → FrontOf sets uuid lab areas right → (x b : NamespaceEntry) (name : List ℕ) → found left ≡ Some x
      → x ≡ record b { name = name; status = Complete name true; updating = x.updating } → found right ≡ Some b → b.name ≡ name → b.status ≡ Complete name false → b.updating ≡ []
      → after_recovery (namespaces_of sets left) ≡ after_recovery (namespaces_of sets right)
  recovers_settled left right fl fr x b name is like is_b named status quiet =
      recovered_same (namespaces_of sets left) (namespaces_of sets right) uuid
      (near left right fl fr (λ i. ap (λ (o : Option NamespaceEntry). kept_count o i) is
      ∙ ap (λ (s : SetStatus). cond (is_unfinished s) 0 (count_in (entry_modules x) i)) (ap (λ (y : NamespaceEntry). y.status) like)
      ∙ ap (λ (ps : List Part). count_in (map (λ (p : Part). p.extent.«module») ps) i) (ap (λ (y : NamespaceEntry). y.parts) like)
      ∙ sym (ap (λ (o : Option NamespaceEntry). kept_count o i) is_b ∙ ap (λ (s : SetStatus). cond (is_unfinished s) 0 (count_in (entry_modules b) i)) status)))
      (ap (settle gone) is ∙ settles ∙ sym (ap (settle (unfinished_gone (namespaces_of sets right) (namespaces_of sets right).entries)) is_b ∙ settles_b (unfinished_gone (namespaces_of sets right) (namespaces_of sets right).entries)))
    where
      gone : Namespaces
      gone = unfinished_gone (namespaces_of sets left) (namespaces_of sets left).entries

      frees : AllByRecursion (λ m. ((area_of gone m).free == 0) ≡ false) x.updating
      frees =
          subst (AllByRecursion (λ m. ((area_of gone m).free == 0) ≡ false)) (sym (own_updating sets left uuid x is))
          (modules_all (λ m. ((area_of gone m).free == 0) ≡ false) is_updating (own_of uuid left)
          (own_each uuid fl.lab_then left fl.proper (λ m l. ((area_of gone m).free == 0) ≡ false)
          (λ m l at n. let more = gone_free (namespaces_of sets left).entries (namespaces_of sets left) m in let r = fl.room m l at in let f = area_free sets left m in
          ne_eqb (area_of gone m).free 0 (λ z. omega arith))))

      back : (n n' : List ℕ) (s s' : SetStatus) (u u' : List ℕ) → n ≡ n' → s ≡ s' → u ≡ u' → record b { name = n; updating = u; status = s } ≡ record b { name = n'; updating = u'; status = s' }
      back n n' s s' u u' e f g = rw (e, f, g) refl

      settles : settle gone (Some x) ≡ Some b
      settles =
          ap (λ (s : SetStatus). cond (is_unfinished s) None (Some (settled_entry gone x))) (ap (λ (y : NamespaceEntry). y.status) like)
          ∙ ap Some (settles_all gone x name true (ap (λ (y : NamespaceEntry). y.status) like) frees
          ∙ ap (λ (y : NamespaceEntry). record y { updating = []; status = Complete name false }) like
          ∙ back name b.name (Complete name false) b.status [] b.updating (sym named) (sym status) (sym quiet))

      settles_b : (gone : Namespaces) → settle gone (Some b) ≡ Some b
      settles_b gone =
          ap (λ (s : SetStatus). cond (is_unfinished s) None (Some (settled_entry gone b))) status
          ∙ ap Some (settles_all gone b name false status (subst (AllByRecursion (λ m. ((area_of gone m).free == 0) ≡ false)) (sym quiet) tt)
          ∙ back b.name b.name (Complete name false) b.status [] b.updating refl (sym status) (sym quiet))
