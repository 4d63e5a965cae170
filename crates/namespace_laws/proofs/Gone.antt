-- The label changes that remove unfinished entries.
use Rattle.std.proofs.Common.{◌≡◌, ◌≢◌, ℕ, ◌+◌, Bool, true, false, cond, List, [], ◌∷◌, ◌++◌, Option, Some, None, refl, sym, ap, ◌∙◌, subst, arith, inl, inr, ◌⊎◌}
use Rattle.std.specs.Prelude.{◌&&◌, ◌||◌, map, slice_get}
use Rattle.std.specs.Option.{option_map}
use Rattle.std.specs.List.{AllByRecursion, list_any, flat_map}
use Rattle.std.specs.Str.{bytes_eq}
use Rattle.std.proofs.lemmas.Bool.{cases_Bool, false≢true}
use Rattle.std.proofs.lemmas.Option.{none-some}
use Rattle.std.proofs.lemmas.Slice.Eq.{bytes_eq-Decides}
use Rattle.nfit_reader.specs.declared.table.Mapping.{Mapping}
use Rattle.label_codec.specs.declared.label.Label.{Label}
use Rattle.label_set.specs.declared.placed.Placed.{Placed}
use Rattle.label_set.specs.declared.placed.SetStatus.{SetStatus}
use Rattle.label_set.specs.declared.placed.SetStatus.TheVariants.{Complete, Unfinished, Local, Incomplete}
use Rattle.namespace_map.specs.Namespaces.{NamespaceEntry, lookup, entry_with, uuid_lt}
use Rattle.namespace_map.specs.Laws.{IsRising}
use Rattle.namespace_map.proofs.Entries.{lookup_entries, lt_irreflexive}
use Rattle.namespace_map.proofs.Rising.{all_pass_to}
use Rattle.namespace_map.specs.Areas.{Area, Change, slots_on, free_in, all_changed}
use Rattle.namespace_map.specs.Commands.{count_in, entry_modules, is_unfinished}
use Rattle.namespace_map.specs.Changes.{namespaces_of, placed_in_all, own_labels, by_position, change_to, gone_changes}
use Rattle.namespace_map.specs.CommandLaws.{IsOf}
use Rattle.namespace_map.proofs.Slots.{owned}
use Rattle.namespace_map.proofs.Areas.{moved_all}
use Rattle.namespace_map.proofs.Labels.{others_stay_all}
use Rattle.namespace_map.specs.Left.{LabelsAreRead}
use Rattle.namespace_laws.proofs.Whole.{own_of}
use Rattle.namespace_laws.proofs.Staged.{names, moved_hit, moved_miss, unnamed, all_changed_append, all_map}
use Rattle.namespace_laws.proofs.Delete.{to_nothing, own_empty}
use Rattle.namespace_laws.proofs.Final.{owned_count}
use Rattle.namespace_laws.proofs.Recovers.{own_modules}
use Rattle.namespace_laws.proofs.Recovery.{goes, total, weight}
use Rattle.namespace_laws.proofs.GoneLists.{PutsBytes, read_all, removed, Removed}
use Rattle.namespace_laws.proofs.OwnLabels.{IsOnce, lab, proper, labels, only, apart, entry_once}

abbrev pub found : List (List Mapping) → List (Option Area) → List ℕ → Option NamespaceEntry
found sets areas u = lookup u (namespaces_of sets areas).entries

-- ---- one unfinished entry

pub record GoneOne (uuid : List ℕ) (areas : List (Option Area)) (e : NamespaceEntry) (cs : List Change) : Type 0 where
  pub of : AllByRecursion (IsOf uuid) cs
  pub bytes : AllByRecursion PutsBytes cs
  pub empty : own_of uuid (all_changed areas cs) ≡ []
  pub free : (i : ℕ) → free_in (slots_on (all_changed areas cs) i) ≡ free_in (slots_on areas i) + count_in (entry_modules e) i

module _ (sets : List (List Mapping)) (areas : List (Option Area)) (uuid : List ℕ) (e : NamespaceEntry) (read : LabelsAreRead areas) (is : found sets areas uuid ≡ Some e) (status : e.status ≡ Unfinished) where
  once : IsOnce (own_of uuid areas)
  once = entry_once sets (own_of uuid areas) e (sym (lookup_entries sets (placed_in_all areas) uuid) ∙ is) status

  abbrev mine : ℕ → Option Label
  mine = lab uuid areas read once

  abbrev ps : List (ℕ × Label)
  ps = own_labels areas uuid

  went : Removed uuid mine areas ps
  went = removed ps uuid mine areas (proper uuid areas read once) (labels uuid areas read once) (apart uuid areas read once)

  none_left : (m : ℕ) → moved_all mine (map (change_to to_nothing) ps) m ≡ None
  none_left m = elim (cases_Bool (names ps m)) [
    | inl it ↦ moved_hit (λ n o. o ≡ None) to_nothing ps mine m it (nothings ps)
    | inr not_it ↦ moved_miss to_nothing ps mine m (unnamed ps m not_it) ∙ by (mine m) refl not_it
  ]
    where
      nothings : (qs : List (ℕ × Label)) → AllByRecursion (λ (q : ℕ × Label). to_nothing q.1 ≡ None) qs
      nothings [] = tt
      nothings (q ∷ qs) = (refl, nothings qs)

      by : (o : Option Label) → mine m ≡ o → names ps m ≡ false → o ≡ None
      by None at e' = refl
      by (Some l) at e' = absurd (false≢true (sym e' ∙ only uuid areas read once m l at))

  pub gone_one : GoneOne uuid areas e (map (change_to to_nothing) ps)
  gone_one = record {
    of = all_map (IsOf uuid) (change_to to_nothing) ps
        (all_pass_to (λ p. mine p.0 ≡ Some p.1) (λ p. IsOf uuid (change_to to_nothing p)) (λ p at. record { of_uuid = (proper uuid areas read once).named p.0 p.1 at; label_of_uuid = λ l e'. absurd (none-some l e') }) ps (labels uuid areas read once));
    bytes = all_map PutsBytes (change_to to_nothing) ps (all_pass_to (λ p. mine p.0 ≡ Some p.1) (λ p. PutsBytes (change_to to_nothing p)) (λ p at l e'. absurd (none-some l e')) ps (labels uuid areas read once));
    empty = own_empty uuid (moved_all mine (map (change_to to_nothing) ps)) (all_changed areas (map (change_to to_nothing) ps)) went.proper none_left;
    free = λ i.
        let a = went.sum i in let b = ap owned (none_left i) in
        let c = owned_count uuid mine areas (proper uuid areas read once) i in
        let d = ap (λ (ms : List ℕ). count_in ms i) (own_modules sets areas uuid e is) in
        omega (arith, a, b, c, d);
  }

-- ---- all of them

pub record GoneAll (sets : List (List Mapping)) (areas : List (Option Area)) (es : List NamespaceEntry) (cs : List Change) : Type 0 where
  pub bytes : AllByRecursion PutsBytes cs
  pub labels : (u : List ℕ) → own_of u (all_changed areas cs) ≡ cond (list_any (goes u) es) [] (own_of u areas)
  pub free : (i : ℕ) → free_in (slots_on (all_changed areas cs) i) ≡ free_in (slots_on areas i) + total es i

abbrev pub AreFound : List (List Mapping) → List (Option Area) → List NamespaceEntry → Type 0
AreFound sets areas es = AllByRecursion (λ (e : NamespaceEntry). found sets areas e.uuid ≡ Some e) es

abbrev pub Above : List ℕ → List NamespaceEntry → Type 0
Above u es = AllByRecursion (λ (f : NamespaceEntry). uuid_lt u f.uuid ≡ true) es

pub above_apart : (a b : List ℕ) → uuid_lt a b ≡ true → b ≢ a
above_apart a b less same = false≢true (sym (lt_irreflexive a b less) ∙ (bytes_eq-Decides a b).1 (sym same))

pub append_all : {X : Type 0} (P : X → Type 0) (xs ys : List X) → AllByRecursion P xs → AllByRecursion P ys → AllByRecursion P (xs ++ ys)
append_all P [] ys all more = more
append_all P (x ∷ xs) ys (one, rest) more = (one, append_all P xs ys rest more)

pub is_unfinished_is : (s : SetStatus) → is_unfinished s ≡ true → s ≡ Unfinished
is_unfinished_is Unfinished e = refl
is_unfinished_is (Complete name pending) e = absurd (false≢true e)
is_unfinished_is Local e = absurd (false≢true e)
is_unfinished_is (Incomplete why) e = absurd (false≢true e)

-- changes of one UUID leave the labels of the others, and so their entries and changes
pub others_own : (cs : List Change) (areas : List (Option Area)) (u v : List ℕ) → u ≢ v → AllByRecursion (IsOf v) cs → own_of u (all_changed areas cs) ≡ own_of u areas
others_own cs areas u v ne of = others_stay_all cs u v areas ne of

pub found_by_own : (sets : List (List Mapping)) (left areas : List (Option Area)) (u : List ℕ) → own_of u left ≡ own_of u areas → found sets left u ≡ found sets areas u
found_by_own sets left areas u same =
    lookup_entries sets (placed_in_all left) u ∙ ap (λ (own : List Placed). option_map (entry_with sets own) (slice_get own 0)) same ∙ sym (lookup_entries sets (placed_in_all areas) u)

pub still_found : (sets : List (List Mapping)) (left areas : List (Option Area)) (v : List ℕ) (es : List NamespaceEntry) → Above v es → ((u : List ℕ) → u ≢ v → own_of u left ≡ own_of u areas) → AreFound sets areas es → AreFound sets left es
still_found sets left areas v [] above same all = tt
still_found sets left areas v (f ∷ fs) (less, above) same (one, rest) = (found_by_own sets left areas f.uuid (same f.uuid (above_apart v f.uuid less)) ∙ one, still_found sets left areas v fs above same rest)

pub own_labels_same : (left areas : List (Option Area)) (u : List ℕ) → own_of u left ≡ own_of u areas → own_labels left u ≡ own_labels areas u
own_labels_same left areas u same = ap (λ (own : List Placed). map (λ p. (p.«module», p.label)) (by_position own)) same

pub same_gone : (left areas : List (Option Area)) (v : List ℕ) (es : List NamespaceEntry) → Above v es → ((u : List ℕ) → u ≢ v → own_of u left ≡ own_of u areas) → flat_map (gone_changes areas) es ≡ flat_map (gone_changes left) es
same_gone left areas v [] above same = refl
same_gone left areas v (f ∷ fs) (less, above) same =
    ap (λ (xs : List Change). xs ++ flat_map (gone_changes areas) fs) (ap (λ (qs : List (ℕ × Label)). cond (is_unfinished f.status) (map (change_to (λ l. None)) qs) []) (sym (own_labels_same left areas f.uuid (same f.uuid (above_apart v f.uuid less)))))
    ∙ ap (λ (xs : List Change). gone_changes left f ++ xs) (same_gone left areas v fs above same)

pub gone_all : (es : List NamespaceEntry) (sets : List (List Mapping)) (areas : List (Option Area)) → LabelsAreRead areas → IsRising es → AreFound sets areas es → GoneAll sets areas es (flat_map (gone_changes areas) es)
unfolding all_changed
gone_all [] sets areas read rising all = record { bytes = tt; labels = λ u. refl; free = λ i. omega arith }
gone_all (e ∷ es) sets areas read (above, rising) (one, rest) = by (cases_Bool (is_unfinished e.status)) (gone_all es sets)
  where
    by : (is_unfinished e.status ≡ true) ⊎ (is_unfinished e.status ≡ false)
        → ((as' : List (Option Area)) → LabelsAreRead as' → IsRising es → AreFound sets as' es → GoneAll sets as' es (flat_map (gone_changes as') es))
        → GoneAll sets areas (e ∷ es) (flat_map (gone_changes areas) (e ∷ es))
    by (inr not_it) on =
        let later = on areas read rising rest in
        rw not_it (record {
          bytes = later.bytes;
          labels = λ u. later.labels u ∙ sym (ap (λ (b : Bool). cond ((b && bytes_eq e.uuid u) || list_any (goes u) es) [] (own_of u areas)) not_it);
          free = λ i. later.free i ∙ (let w : weight (Some e) i ≡ 0 = ap (λ (b : Bool). cond b (count_in (entry_modules e) i) 0) not_it in omega (arith, w));
        })
    by (inl it) on = rw it both
      where
        first : GoneOne e.uuid areas e (map (change_to (λ l. None)) (own_labels areas e.uuid))
        first = gone_one sets areas e.uuid e read one (is_unfinished_is e.status it)

        others : (u : List ℕ) → u ≢ e.uuid → own_of u (all_changed areas (map (change_to (λ l. None)) (own_labels areas e.uuid))) ≡ own_of u areas
        others u ne = others_own (map (change_to (λ l. None)) (own_labels areas e.uuid)) areas u e.uuid ne first.of

        next : GoneAll sets (all_changed areas (map (change_to (λ l. None)) (own_labels areas e.uuid))) es (flat_map (gone_changes areas) es)
        next =
            subst (GoneAll sets (all_changed areas (map (change_to (λ l. None)) (own_labels areas e.uuid))) es)
            (sym (same_gone (all_changed areas (map (change_to (λ l. None)) (own_labels areas e.uuid))) areas e.uuid es above others))
            (on (all_changed areas (map (change_to (λ l. None)) (own_labels areas e.uuid))) (read_all (map (change_to (λ l. None)) (own_labels areas e.uuid)) areas read first.bytes) rising
            (still_found sets (all_changed areas (map (change_to (λ l. None)) (own_labels areas e.uuid))) areas e.uuid es above others rest))

        joined : all_changed areas (map (change_to (λ l. None)) (own_labels areas e.uuid) ++ flat_map (gone_changes areas) es)
            ≡ all_changed (all_changed areas (map (change_to (λ l. None)) (own_labels areas e.uuid))) (flat_map (gone_changes areas) es)
        joined = all_changed_append (map (change_to (λ l. None)) (own_labels areas e.uuid)) (flat_map (gone_changes areas) es) areas

        labels_by : (u : List ℕ) → (bytes_eq e.uuid u ≡ true) ⊎ (bytes_eq e.uuid u ≡ false)
            → cond (list_any (goes u) es) [] (own_of u (all_changed areas (map (change_to (λ l. None)) (own_labels areas e.uuid)))) ≡ cond (bytes_eq e.uuid u || list_any (goes u) es) [] (own_of u areas)
        labels_by u (inl at) =
            let gone : own_of u (all_changed areas (map (change_to (λ l. None)) (own_labels areas e.uuid))) ≡ [] =
            ap (λ (v : List ℕ). own_of v (all_changed areas (map (change_to (λ l. None)) (own_labels areas e.uuid)))) (sym ((bytes_eq-Decides e.uuid u).0 at)) ∙ first.empty in
            ap (λ (xs : List Placed). cond (list_any (goes u) es) [] xs) gone ∙ either (list_any (goes u) es) ∙ sym (ap (λ (b : Bool). cond (b || list_any (goes u) es) [] (own_of u areas)) at)
          where
            either : (b : Bool) → ◌≡◌ {A = List Placed} (cond b [] []) []
            either true = refl
            either false = refl
        labels_by u (inr not_at) =
            ap (λ (xs : List Placed). cond (list_any (goes u) es) [] xs) (others u (λ same. false≢true (sym not_at ∙ (bytes_eq-Decides e.uuid u).1 (sym same))))
            ∙ sym (ap (λ (b : Bool). cond (b || list_any (goes u) es) [] (own_of u areas)) not_at)

        both : GoneAll sets areas (e ∷ es) (map (change_to (λ l. None)) (own_labels areas e.uuid) ++ flat_map (gone_changes areas) es)
        both = record {
          bytes = append_all PutsBytes (map (change_to (λ l. None)) (own_labels areas e.uuid)) (flat_map (gone_changes areas) es) first.bytes next.bytes;
          labels = λ u. ap (own_of u) joined ∙ next.labels u ∙ labels_by u (cases_Bool (bytes_eq e.uuid u)) ∙ sym (ap (λ (b : Bool). cond ((b && bytes_eq e.uuid u) || list_any (goes u) es) [] (own_of u areas)) it);
          free = λ i. ap (λ (left : List (Option Area)). free_in (slots_on left i)) joined ∙ next.free i
              ∙ (let a = first.free i in let w : weight (Some e) i ≡ count_in (entry_modules e) i = ap (λ (b : Bool). cond b (count_in (entry_modules e) i) 0) it in omega (arith, a, w));
        }
