-- Entries that ascend by UUID: a list is determined by its lookups.
use Rattle.std.proofs.Common.{◌≡◌, ℕ, true, false, List, [], ◌∷◌, Option, Some, None, refl, sym, ap, ◌∙◌, subst, inl, inr, ◌⊎◌, Ordering}
use Rattle.std.specs.Prelude.{map}
use Rattle.std.specs.List.{AllByRecursion}
use Rattle.std.specs.Str.{bytes_eq}
use Rattle.std.specs.Ordering.{is_lt, is_eq, nat_cmp, ordering_reverse}
use Rattle.std.specs.Cmp.Lexicographic.{slice_cmp}
use Rattle.std.proofs.lemmas.Bool.{cases_Bool, false≢true, false_from_ne_true}
use Rattle.std.proofs.lemmas.Option.{none-some, same_Some}
use Rattle.std.proofs.lemmas.Cmp.{nat_list_cmp_total}
use Rattle.std.proofs.lemmas.Slice.Eq.{bytes_eq-Decides}
use Rattle.std.proofs.lemmas.Map.Text.{is_eq-slice_cmp}
use Rattle.nfit_reader.specs.declared.table.Mapping.{Mapping}
use Rattle.label_set.specs.declared.placed.Placed.{Placed}
use Rattle.namespace_map.specs.Namespaces.{NamespaceEntry, entry_at, entries_of, uuid_of, uuid_lt, put, put_all, lookup}
use Rattle.namespace_map.specs.Laws.{IsRising}
use Rattle.namespace_map.proofs.Entries.{lt_irreflexive}

is_less : (o : Ordering) → is_lt o ≡ true → o ≡ Ordering.Less
is_less Ordering.Less e = refl
is_less Ordering.Equal e = absurd (false≢true e)
is_less Ordering.Greater e = absurd (false≢true e)

lt_trans : (a b c : List ℕ) → uuid_lt a b ≡ true → uuid_lt b c ≡ true → uuid_lt a c ≡ true
lt_trans a b c e f = ap is_lt (nat_list_cmp_total.trans a b c (is_less (slice_cmp nat_cmp a b) e) (is_less (slice_cmp nat_cmp b c) f))

-- one of two that are neither equal nor in order is before the other
lt_other : (a b : List ℕ) → uuid_lt a b ≡ false → bytes_eq a b ≡ false → uuid_lt b a ≡ true
lt_other a b not_less apart = by (slice_cmp nat_cmp a b) refl (is_eq-slice_cmp a b ∙ apart)
  where
    by : (o : Ordering) → slice_cmp nat_cmp a b ≡ o → is_eq (slice_cmp nat_cmp a b) ≡ false → uuid_lt b a ≡ true
    by Ordering.Less is e = absurd (false≢true (sym not_less ∙ ap is_lt is))
    by Ordering.Equal is e = absurd (false≢true (sym e ∙ ap is_eq is))
    by Ordering.Greater is e = ap is_lt (nat_list_cmp_total.antisymm b a ∙ ap ordering_reverse is)

abbrev Above : List ℕ → List NamespaceEntry → Type 0
Above u es = AllByRecursion (λ (f : NamespaceEntry). uuid_lt u f.uuid ≡ true) es

pub all_pass_to : {X : Type 0} (P Q : X → Type 0) → ((x : X) → P x → Q x) → (xs : List X) → AllByRecursion P xs → AllByRecursion Q xs
all_pass_to P Q step [] all = all
all_pass_to P Q step (x ∷ xs) (one, rest) = (step x one, all_pass_to P Q step xs rest)

above_put : (es : List NamespaceEntry) (e : NamespaceEntry) (u : List ℕ) → uuid_lt u e.uuid ≡ true → Above u es → Above u (put e es)
unfolding put
above_put [] e u less all = (less, tt)
above_put (f ∷ fs) e u less (one, rest) =
    elim (cases_Bool (uuid_lt f.uuid e.uuid)) [
      | inl it ↦ rw it (one, above_put fs e u less rest)
      | inr not_it ↦ rw not_it (elim (cases_Bool (bytes_eq f.uuid e.uuid)) [ inl same ↦ rw same (less, rest) | inr apart ↦ rw apart (less, (one, rest)) ])
    ]

above_more : (es : List NamespaceEntry) (u v : List ℕ) → uuid_lt u v ≡ true → Above v es → Above u es
above_more es u v less all = all_pass_to (λ (f : NamespaceEntry). uuid_lt v f.uuid ≡ true) (λ (f : NamespaceEntry). uuid_lt u f.uuid ≡ true) (λ f e. lt_trans u v f.uuid less e) es all

pub rising_put : (es : List NamespaceEntry) (e : NamespaceEntry) → IsRising es → IsRising (put e es)
unfolding put
rising_put [] e rising = (tt, tt)
rising_put (f ∷ fs) e (one, rest) =
    elim (cases_Bool (uuid_lt f.uuid e.uuid)) [
      | inl it ↦ rw it (above_put fs e f.uuid it one, rising_put fs e rest)
      | inr not_it ↦ rw not_it (elim (cases_Bool (bytes_eq f.uuid e.uuid)) [
        | inl same ↦ rw same (subst (λ (u : List ℕ). Above u fs) ((bytes_eq-Decides f.uuid e.uuid).0 same) one, rest)
        | inr apart ↦
            let before : uuid_lt e.uuid f.uuid ≡ true = lt_other f.uuid e.uuid not_it apart in
            rw apart ((before, above_more fs e.uuid f.uuid before one), (one, rest))
      ])
    ]

pub rising_all : (os : List (Option NamespaceEntry)) → IsRising (put_all os)
unfolding put_all
rising_all [] = tt
rising_all (None ∷ os) = rising_all os
rising_all (Some e ∷ os) = rising_put (put_all os) e (rising_all os)

pub rising_entries : (sets : List (List Mapping)) (labels : List Placed) → IsRising (entries_of sets labels)
rising_entries sets labels = rising_all (map (λ p. entry_at sets labels (uuid_of p)) labels)

-- nothing is found under a UUID that is below all
below_none : (es : List NamespaceEntry) (u : List ℕ) → Above u es → lookup u es ≡ None
below_none [] u all = refl
below_none (e ∷ es) u (one, rest) = rw (apart e.uuid u one) (below_none es u rest)
  where
    apart : (a b : List ℕ) → uuid_lt b a ≡ true → bytes_eq a b ≡ false
    apart a b less = false_from_ne_true _ (λ same. false≢true (sym (lt_irreflexive b a less) ∙ (bytes_eq-Decides b a).1 (sym ((bytes_eq-Decides a b).0 same))))

self : (u : List ℕ) → bytes_eq u u ≡ true
self u = (bytes_eq-Decides u u).1 refl

-- the first of a rising list is found under its UUID alone
later : (e : NamespaceEntry) (es : List NamespaceEntry) (u : List ℕ) → bytes_eq e.uuid u ≡ false → lookup u (e ∷ es) ≡ lookup u es
later e es u apart = rw apart refl

-- an entry that a lookup in an ascending list finds is its first, or after it
found_above : (es : List NamespaceEntry) (u v : List ℕ) (e : NamespaceEntry) → Above v es → lookup u es ≡ Some e → uuid_lt v u ≡ true
found_above [] u v e all is = absurd (none-some e is)
found_above (f ∷ fs) u v e (one, rest) is =
    elim (cases_Bool (bytes_eq f.uuid u)) [
      | inl it ↦ subst (λ (w : List ℕ). uuid_lt v w ≡ true) ((bytes_eq-Decides f.uuid u).0 it) one
      | inr not_it ↦ found_above fs u v e rest (rw not_it at is)
    ]

-- two ascending lists with the same lookups are equal
pub rising_same : (es fs : List NamespaceEntry) → IsRising es → IsRising fs → ((u : List ℕ) → lookup u es ≡ lookup u fs) → es ≡ fs
rising_same [] [] a b same = refl
rising_same [] (f ∷ fs) a b same = absurd (none-some f (same f.uuid ∙ rw (self f.uuid) refl))
rising_same (e ∷ es) [] a b same = absurd (none-some e (sym (same e.uuid) ∙ rw (self e.uuid) refl))
rising_same (e ∷ es) (f ∷ fs) (above_e, rising_e) (above_f, rising_f) same =
    elim (cases_Bool (bytes_eq f.uuid e.uuid)) [
      | inl it ↦
          let at_f : Some e ≡ Some f = sym (rw (self e.uuid) refl) ∙ same e.uuid ∙ rw it refl in
          let first : e ≡ f = same_Some e f at_f in
          let tails : es ≡ fs = rising_same es fs rising_e rising_f (λ u. tail u ((bytes_eq-Decides f.uuid e.uuid).0 it) (cases_Bool (bytes_eq e.uuid u))) in
          ap (λ (x : NamespaceEntry). x ∷ es) first ∙ ap (λ (xs : List NamespaceEntry). f ∷ xs) tails
      | inr not_it ↦
          let e_in_fs : lookup e.uuid fs ≡ Some e = sym (later f fs e.uuid not_it) ∙ sym (same e.uuid) ∙ rw (self e.uuid) refl in
          let less : uuid_lt f.uuid e.uuid ≡ true = found_above fs e.uuid f.uuid e above_f e_in_fs in
          let not_back : bytes_eq e.uuid f.uuid ≡ false = false_from_ne_true _ (λ s. false≢true (sym not_it ∙ (bytes_eq-Decides f.uuid e.uuid).1 (sym ((bytes_eq-Decides e.uuid f.uuid).0 s)))) in
          let f_in_es : lookup f.uuid es ≡ Some f = sym (later e es f.uuid not_back) ∙ same f.uuid ∙ rw (self f.uuid) refl in
          let back : uuid_lt e.uuid f.uuid ≡ true = found_above es f.uuid e.uuid f above_e f_in_es in
          absurd (false≢true (sym (lt_irreflexive f.uuid f.uuid (lt_trans f.uuid e.uuid f.uuid less back)) ∙ self f.uuid))
    ]
  where
    tail : (u : List ℕ) → f.uuid ≡ e.uuid → (bytes_eq e.uuid u ≡ true) ⊎ (bytes_eq e.uuid u ≡ false) → lookup u es ≡ lookup u fs
    tail u at (inl it) =
        let e_is : e.uuid ≡ u = (bytes_eq-Decides e.uuid u).0 it in
        below_none es u (subst (λ (w : List ℕ). Above w es) e_is above_e) ∙ sym (below_none fs u (subst (λ (w : List ℕ). Above w fs) (at ∙ e_is) above_f))
    tail u at (inr not_it) =
        let not_f : bytes_eq f.uuid u ≡ false = ap (λ (w : List ℕ). bytes_eq w u) at ∙ not_it in
        sym (later e es u not_it) ∙ same u ∙ later f fs u not_f
