-- The changes of one entry after another.
use Rattle.std.proofs.Common.{◌≡◌, ◌⊎◌, ℕ, ◌+◌, ◌<◌, ◌≤◌, Bool, true, false, List, [], ◌∷◌, ◌++◌, length, drop, get_or, Some, refl, sym, ap, ◌∙◌, subst, inl, inr, append_assoc}
use Rattle.std.specs.Prelude.{filter, slice_get}
use Rattle.std.specs.List.{flat_map}
use Rattle.std.specs.Str.{bytes_eq}
use Rattle.std.proofs.lemmas.Bool.{cases_Bool}
use Rattle.std.proofs.lemmas.Option.{none-some, same_Some, slice_get_read}
use Rattle.std.proofs.lemmas.List.{drop_all}
use Rattle.std.proofs.lemmas.Slice.Eq.{bytes_eq-Decides}
use Rattle.nfit_reader.specs.declared.table.Mapping.{Mapping}
use Rattle.label_set.specs.declared.placed.Placed.{Placed}
use Rattle.namespace_map.specs.Namespaces.{NamespaceEntry, uuid_of, labels_with, entry_with, entries_of, put_all}
use Rattle.namespace_map.specs.Areas.{Change}
use Rattle.namespace_areas.specs.Groups.{IsNextGroup, IsStart}

pub first_passes : {X : Type 0} (t : X → Bool) (xs : List X) (x : X) → slice_get (filter t xs) 0 ≡ Some x → t x ≡ true
first_passes t [] x e = absurd (none-some x e)
first_passes {X} t (y ∷ ys) x e = by (cases_Bool (t y)) (first_passes t ys x)
  where
    by : (t y ≡ true) ⊎ (t y ≡ false) → (slice_get (filter t ys) 0 ≡ Some x → t x ≡ true) → t x ≡ true
    by (inl it) on = subst (λ (z : X). t z ≡ true) (same_Some y x (rw it at e)) it
    by (inr not_it) on = on (rw not_it at e)

pub first_at : (group : List Placed) (first : Placed) → 0 < length group → first ≡ get_or group 0 first → slice_get group 0 ≡ Some first
first_at group first some is = slice_get_read group (length group) 0 first refl some is

-- a group is all labels of its first one's UUID
pub group_is : (sorted : List Placed) (at : ℕ) (group : List Placed) (first : Placed) → IsNextGroup sorted at group → slice_get group 0 ≡ Some first → labels_with (uuid_of first) sorted ≡ group
group_is sorted at group first next is =
    let uuid : List ℕ = uuid_of (get_or sorted at first) in
    let passes : bytes_eq (uuid_of first) uuid ≡ true =
    first_passes (λ p. bytes_eq (uuid_of p) uuid) sorted first (ap (λ (xs : List Placed). slice_get xs 0) (sym (next.whole first)) ∙ is) in
    ap (λ (u : List ℕ). labels_with u sorted) ((bytes_eq-Decides (uuid_of first) uuid).0 passes) ∙ sym (next.whole first)

-- one entry more
pub planned_more : (sets : List (List Mapping)) (sorted : List Placed) (at : ℕ) (group : List Placed) (first : Placed) (f : NamespaceEntry → List Change) (now then all : List Change)
    → IsNextGroup sorted at group → slice_get group 0 ≡ Some first → then ≡ now ++ f (entry_with sets group first)
    → now ++ flat_map f (entries_of sets (drop at sorted)) ≡ all → then ++ flat_map f (entries_of sets (drop (at + length group) sorted)) ≡ all
planned_more sets sorted at group first f now then all next is more before =
    ap (λ (xs : List Change). xs ++ flat_map f (entries_of sets (drop (at + length group) sorted))) more
    ∙ append_assoc now (f (entry_with sets group first)) (flat_map f (entries_of sets (drop (at + length group) sorted)))
    ∙ ap (λ (es : List NamespaceEntry). now ++ flat_map f es) (sym (next.entries sets first is))
    ∙ before

-- none is left
pub planned_all : (sets : List (List Mapping)) (sorted : List Placed) (at : ℕ) (f : NamespaceEntry → List Change) (now all : List Change) → length sorted ≤ at
    → now ++ flat_map f (entries_of sets (drop at sorted)) ≡ all → now ≡ all
unfolding put_all
planned_all sets sorted at f now all past is =
    sym (append_none now ∙ refl) ∙ ap (λ (xs : List Placed). now ++ flat_map f (entries_of sets xs)) (sym (drop_all at sorted past)) ∙ is
  where
    append_none : (xs : List Change) → xs ++ [] ≡ xs
    append_none [] = refl
    append_none (x ∷ xs) = ap (λ (ys : List Change). x ∷ ys) (append_none xs)

pub start_none : (sorted : List Placed) → IsStart sorted 0
start_none [] = tt
start_none (p ∷ ps) = (refl, start_none ps)
