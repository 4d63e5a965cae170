-- The entries of labels, as a map.
use Rattle.std.proofs.Common.{◌≡◌, ℕ, Bool, true, false, cond, List, [], ◌∷◌, Option, Some, None, refl, sym, ap, ◌∙◌, inl, inr, ◌⊎◌, Ordering}
use Rattle.std.specs.Prelude.{map, is_some, slice_get, ◌||◌}
use Rattle.std.specs.Option.{option_map}
use Rattle.std.specs.List.{AllByRecursion, list_any}
use Rattle.std.specs.Str.{bytes_eq}
use Rattle.std.specs.Ordering.{is_lt, is_eq, nat_cmp}
use Rattle.std.specs.Cmp.Lexicographic.{slice_cmp}
use Rattle.std.proofs.lemmas.Bool.{cases_Bool, false≢true, false_from_ne_true}
use Rattle.std.proofs.lemmas.Option.{none-some, same_Some}
use Rattle.std.proofs.lemmas.Slice.Eq.{bytes_eq-Decides}
use Rattle.std.proofs.lemmas.Map.Text.{is_eq-slice_cmp}
use Rattle.nfit_reader.specs.declared.table.Mapping.{Mapping}
use Rattle.label_set.specs.declared.placed.Placed.{Placed}
use Rattle.namespace_map.specs.Namespaces.{NamespaceEntry, entry_at, entry_with, entries_of, labels_with, uuid_of, uuid_lt, put, put_all, lookup}

same_bytes : (a : List ℕ) → bytes_eq a a ≡ true
same_bytes a = (bytes_eq-Decides a a).1 refl

not_less : (o : Ordering) → is_eq o ≡ true → is_lt o ≡ false
not_less Ordering.Less e = absurd (false≢true e)
not_less Ordering.Equal e = refl
not_less Ordering.Greater e = refl

pub lt_irreflexive : (a b : List ℕ) → uuid_lt a b ≡ true → bytes_eq a b ≡ false
lt_irreflexive a b less =
    false_from_ne_true _ (λ same. false≢true (sym (not_less (slice_cmp nat_cmp a b) (is_eq-slice_cmp a b ∙ same)) ∙ less))

-- a lookup after an entry was put
pub lookup_put : (es : List NamespaceEntry) (e : NamespaceEntry) (u : List ℕ) → lookup u (put e es) ≡ cond (bytes_eq e.uuid u) (Some e) (lookup u es)
unfolding put
lookup_put [] e u = refl
lookup_put (f ∷ fs) e u =
    elim (cases_Bool (uuid_lt f.uuid e.uuid)) [
      | inl less ↦ rw less (passed less (lookup_put fs e u) (cases_Bool (bytes_eq f.uuid u)))
      | inr not_less ↦ rw not_less (elim (cases_Bool (bytes_eq f.uuid e.uuid)) [
        | inl same ↦ rw same (replaced same (cases_Bool (bytes_eq e.uuid u)))
        | inr apart ↦ rw apart refl
      ])
    ]
  where
    passed : uuid_lt f.uuid e.uuid ≡ true → lookup u (put e fs) ≡ cond (bytes_eq e.uuid u) (Some e) (lookup u fs) → (bytes_eq f.uuid u ≡ true) ⊎ (bytes_eq f.uuid u ≡ false) → lookup u (f ∷ put e fs) ≡ cond (bytes_eq e.uuid u) (Some e) (lookup u (f ∷ fs))
    passed less ih (inl at_f) =
        let ne : bytes_eq e.uuid u ≡ false = false_from_ne_true _ (λ same. false≢true (sym (lt_irreflexive f.uuid e.uuid less)
        ∙ (bytes_eq-Decides f.uuid e.uuid).1 ((bytes_eq-Decides f.uuid u).0 at_f ∙ sym ((bytes_eq-Decides e.uuid u).0 same)))) in
        rw (at_f, ne) refl
    passed less ih (inr not_f) = rw not_f ih

    replaced : bytes_eq f.uuid e.uuid ≡ true → (bytes_eq e.uuid u ≡ true) ⊎ (bytes_eq e.uuid u ≡ false) → lookup u (e ∷ fs) ≡ cond (bytes_eq e.uuid u) (Some e) (lookup u (f ∷ fs))
    replaced same (inl at_e) = rw at_e refl
    replaced same (inr not_e) =
        let ne : bytes_eq f.uuid u ≡ false = ap (λ (v : List ℕ). bytes_eq v u) ((bytes_eq-Decides f.uuid e.uuid).0 same) ∙ not_e in
        rw (not_e, ne) refl

own_uuids : (labels : List Placed) (u : List ℕ) → AllByRecursion (λ p. p.label.uuid ≡ u) (labels_with u labels)
own_uuids [] u = tt
own_uuids (p ∷ ps) u =
    elim (cases_Bool (bytes_eq p.label.uuid u)) [
      | inl it ↦ rw it ((bytes_eq-Decides p.label.uuid u).0 it, own_uuids ps u)
      | inr not_it ↦ rw not_it (own_uuids ps u)
    ]

-- an entry has the UUID under which it is found
pub entry_uuid : (sets : List (List Mapping)) (labels : List Placed) (u : List ℕ) (e : NamespaceEntry) → entry_at sets labels u ≡ Some e → e.uuid ≡ u
entry_uuid sets labels u e is = by (labels_with u labels) (own_uuids labels u) is
  where
    by : (own : List Placed) → AllByRecursion (λ p. p.label.uuid ≡ u) own → option_map (entry_with sets own) (slice_get own 0) ≡ Some e → e.uuid ≡ u
    by [] all eq = absurd (none-some e eq)
    by (p ∷ ps) (one, rest) eq = ap (λ (f : NamespaceEntry). f.uuid) (sym (same_Some (entry_with sets (p ∷ ps) p) e eq)) ∙ one

-- a UUID that no label has
pub entry_none : (sets : List (List Mapping)) (labels : List Placed) (u : List ℕ) → labels_with u labels ≡ [] → entry_at sets labels u ≡ None
entry_none sets labels u e = ap (λ (own : List Placed). option_map (entry_with sets own) (slice_get own 0)) e

-- a label of a UUID makes an entry
pub entry_there : (sets : List (List Mapping)) (labels : List Placed) (u : List ℕ) → entry_at sets labels u ≡ None → labels_with u labels ≡ []
entry_there sets labels u e = by (labels_with u labels) e
  where
    by : (own : List Placed) → option_map (entry_with sets own) (slice_get own 0) ≡ None → own ≡ []
    by [] eq = refl
    by (p ∷ ps) eq = absurd (none-some (entry_with sets (p ∷ ps) p) (sym eq))

module _ (sets : List (List Mapping)) (labels : List Placed) (u : List ℕ) where
  abbrev from_labels : List Placed → List NamespaceEntry
  from_labels ps = put_all (map (λ p. entry_at sets labels (uuid_of p)) ps)

  lookup_one : (o : Option NamespaceEntry) (p : Placed) (ps : List Placed) → entry_at sets labels (uuid_of p) ≡ o → lookup u (put_all (o ∷ map (λ p. entry_at sets labels (uuid_of p)) ps))
      ≡ cond (bytes_eq (uuid_of p) u) (cond (is_some o) o (lookup u (from_labels ps))) (lookup u (from_labels ps))
  unfolding put_all
  lookup_one None p ps is = both (bytes_eq (uuid_of p) u)
    where
      both : (b : Bool) → lookup u (from_labels ps) ≡ cond b (lookup u (from_labels ps)) (lookup u (from_labels ps))
      both true = refl
      both false = refl
  lookup_one (Some e) p ps is = lookup_put (from_labels ps) e u ∙ ap (λ (v : List ℕ). cond (bytes_eq v u) (Some e) (lookup u (from_labels ps))) (entry_uuid sets labels (uuid_of p) e is)

  -- each lookup finds the entry of that UUID's labels, or nothing if none of these labels has it
  lookup_from : (ps : List Placed) → lookup u (from_labels ps) ≡ cond (list_any (λ p. bytes_eq (uuid_of p) u) ps) (entry_at sets labels u) None
  unfolding put_all
  lookup_from [] = refl
  lookup_from (p ∷ ps) = ap (λ (o : Option NamespaceEntry). lookup u (put_all (o ∷ map (λ p. entry_at sets labels (uuid_of p)) ps))) refl ∙ lookup_one (entry_at sets labels (uuid_of p)) p ps refl ∙ cases (cases_Bool (bytes_eq (uuid_of p) u)) (lookup_from ps)
    where
      cases : (bytes_eq (uuid_of p) u ≡ true) ⊎ (bytes_eq (uuid_of p) u ≡ false) → lookup u (from_labels ps) ≡ cond (list_any (λ p. bytes_eq (uuid_of p) u) ps) (entry_at sets labels u) None
          → cond (bytes_eq (uuid_of p) u) (cond (is_some (entry_at sets labels (uuid_of p))) (entry_at sets labels (uuid_of p)) (lookup u (from_labels ps))) (lookup u (from_labels ps))
          ≡ cond (bytes_eq (uuid_of p) u || list_any (λ p. bytes_eq (uuid_of p) u) ps) (entry_at sets labels u) None
      cases (inr not_it) ih = rw not_it ih
      cases (inl it) ih =
          rw (it, (bytes_eq-Decides (uuid_of p) u).0 it) (here (entry_at sets labels u) refl)
        where
          here : (o : Option NamespaceEntry) → entry_at sets labels u ≡ o → cond (is_some o) o (lookup u (from_labels ps)) ≡ o
          here None e = ih ∙ rw e (none (list_any (λ p. bytes_eq (uuid_of p) u) ps))
            where
              none : (b : Bool) → ◌≡◌ {A = Option NamespaceEntry} (cond b None None) None
              none true = refl
              none false = refl
          here (Some x) e = refl

any_or_none : (ps : List Placed) (u : List ℕ) → list_any (λ p. bytes_eq (uuid_of p) u) ps ≡ false → labels_with u ps ≡ []
any_or_none [] u e = refl
any_or_none (p ∷ ps) u e =
    elim (cases_Bool (bytes_eq (uuid_of p) u)) [
      | inl it ↦ absurd (false≢true (sym e ∙ rw it refl))
      | inr not_it ↦ rw not_it (any_or_none ps u (rw not_it at e))
    ]

-- the map of namespaces: looking up a UUID finds the entry of its labels
pub lookup_entries : (sets : List (List Mapping)) (labels : List Placed) (u : List ℕ) → lookup u (entries_of sets labels) ≡ entry_at sets labels u
lookup_entries sets labels u =
    lookup_from sets labels u labels
    ∙ elim (cases_Bool (list_any (λ p. bytes_eq (uuid_of p) u) labels)) [
      | inl it ↦ rw it refl
      | inr not_it ↦ rw not_it (sym (entry_none sets labels u (any_or_none labels u not_it)))
    ]
