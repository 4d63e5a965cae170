-- Labels of which no two extents meet make namespaces that are apart.
use Rattle.std.proofs.Common.{◌≡◌, ◌⊎◌, inl, inr, ℕ, zero, suc, ◌<◌, Bool, true, false, not, ◌&&◌, cond, List, [], ◌∷◌, length, get_or, map, filter, find, Option, Some, None, refl, sym, ap, ◌∙◌, subst, arith}
use Rattle.std.specs.Prelude.{slice_get, Contains}
use Rattle.std.specs.Option.{option_map}
use Rattle.std.specs.Str.{bytes_eq}
use Rattle.std.proofs.lemmas.Slice.Eq.{bytes_eq-Decides}
use Rattle.nvd_words.specs.Checks.{first_fault}
use Rattle.nfit_reader.specs.declared.table.Mapping.{Mapping}
use Rattle.label_set.specs.declared.placed.Placed.{Placed}
use Rattle.region_space.specs.declared.extent.Extent.{Extent}
use Rattle.region_space.specs.Space.{clash, extents_meet, overlap_of}
use Rattle.region_space.proofs.Clashes.{clash_back, clash_self}
use Rattle.namespace_map.specs.Namespaces.{NamespaceEntry, Part, entry_at, entry_with, extent_of, labels_with, part_of, uuid_of}
use Rattle.namespace_map.proofs.Entries.{lookup_entries}
use Rattle.namespace_map.specs.Areas.{Area}
use Rattle.namespace_map.specs.Changes.{namespaces_of, placed_in_all}
use Rattle.namespace_laws.specs.Apart.{EntriesApart}

abbrev pub In : {X : Type 0} → X → List X → Type 0
In x [] = ⊥
In x (y ∷ ys) = (y ≡ x) ⊎ In x ys

pub in_map : {X Y : Type 0} (f : X → Y) (x : X) (xs : List X) → In x xs → In (f x) (map f xs)
in_map f x [] i = i
in_map f x (y ∷ ys) (inl e) = inl (ap f e)
in_map f x (y ∷ ys) (inr i) = inr (in_map f x ys i)

in_kept : {X : Type 0} (test : X → Bool) (x : X) (xs : List X) → In x (filter test xs) → In x xs × (test x ≡ true)
in_kept test x [] i = absurd i
in_kept test x (y ∷ ys) i = by (test y) refl i (in_kept test x ys)
  where
    by : (b : Bool) → test y ≡ b → In x (cond b (y ∷ filter test ys) (filter test ys)) → (In x (filter test ys) → In x ys × (test x ≡ true)) → ((y ≡ x) ⊎ In x ys) × (test x ≡ true)
    by true is (inl e) f = (inl e, ap test (sym e) ∙ is)
    by true is (inr j) f = let h = f j in (inr h.0, h.1)
    by false is j f = let h = f j in (inr h.0, h.1)

-- an element of mapped ones
unmapped : {X Y : Type 0} (f : X → Y) (xs : List X) (k : ℕ) (y : Y) → k < length (map f xs) → get_or (map f xs) k y ≡ y → (x : X) × In x xs × (f x ≡ y)
unmapped f [] k y h is = absurd (omega (arith, h))
unmapped f (x ∷ xs) zero y h is = (x, inl refl, is)
unmapped f (x ∷ xs) (suc k) y h is = let r = unmapped f xs k y (omega (arith, h)) is in (r.0, inr r.1, r.2)

-- ---- clashes

parts_of_none : {F : Type 0} (o p : Option F) → first_fault (o ∷ p ∷ []) ≡ None → (o ≡ None) × (p ≡ None)
unfolding first_fault
parts_of_none None None h = (refl, refl)
parts_of_none None (Some f) h = absurd (cc)
parts_of_none (Some f) p h = absurd (cc)

not_found : {X Y : Type 0} (f : X → Y) (test : X → Bool) (xs : List X) (x : X) → option_map f (find test xs) ≡ None → In x xs → test x ≡ false
not_found f test [] x h i = absurd i
not_found f test (y ∷ ys) x h i = by (test y) refl h i (not_found f test ys x)
  where
    by : (b : Bool) → test y ≡ b → option_map f (cond b (Some y) (find test ys)) ≡ None → ((y ≡ x) ⊎ In x ys) → (option_map f (find test ys) ≡ None → In x ys → test x ≡ false) → test x ≡ false
    by true is h i next = absurd (cc)
    by false is h (inl e) next = ap test (sym e) ∙ is
    by false is h (inr j) next = next h j

pub no_clash : (xs : List Extent) (x y : Extent) → overlap_of xs ≡ None → In x xs → In y xs → clash x y ≡ false
unfolding overlap_of
no_clash [] x y none i j = absurd i
no_clash (e ∷ es) x y none (inl a) (inl b) = ap (λ (z : Extent). clash z y) (sym a) ∙ ap (clash e) (sym b) ∙ clash_self e
no_clash (e ∷ es) x y none (inl a) (inr j) = ap (λ (z : Extent). clash z y) (sym a) ∙ not_found _ (clash e) es y (parts_of_none _ (overlap_of es) none).0 j
no_clash (e ∷ es) x y none (inr i) (inl b) = ap (clash x) (sym b) ∙ clash_back x e ∙ not_found _ (clash e) es x (parts_of_none _ (overlap_of es) none).0 i
no_clash (e ∷ es) x y none (inr i) (inr j) = no_clash es x y (parts_of_none _ (overlap_of es) none).1 i j

-- ---- entries

parts_are : (sets : List (List Mapping)) (labels : List Placed) (u : List ℕ) (e : NamespaceEntry) → entry_at sets labels u ≡ Some e → e.parts ≡ map part_of (labels_with u labels)
parts_are sets labels u e is = by (slice_get (labels_with u labels) 0) is
  where
    by : (o : Option Placed) → option_map (entry_with sets (labels_with u labels)) o ≡ Some e → e.parts ≡ map part_of (labels_with u labels)
    by None h = absurd (cc)
    by (Some p) h = let same : entry_with sets (labels_with u labels) p ≡ e = cc in ap (λ (x : NamespaceEntry). x.parts) (sym same)

-- a part is that of a label of the UUID
pub label_of : (sets : List (List Mapping)) (labels : List Placed) (u : List ℕ) (e : NamespaceEntry) (a : Part) → entry_at sets labels u ≡ Some e → Contains e.parts a
    → (p : Placed) × In p labels × (uuid_of p ≡ u) × (part_of p ≡ a)
label_of sets labels u e a is c =
    let parts = parts_are sets labels u e is in
    let c' : Contains (map part_of (labels_with u labels)) a = subst (λ (ps : List Part). Contains ps a) parts c in
    let r = unmapped part_of (labels_with u labels) c'.0 a c'.1 c'.2 in
    let k = in_kept (λ p. bytes_eq (uuid_of p) u) r.0 labels r.1 in
    (r.0, k.0, (bytes_eq-Decides (uuid_of r.0) u).0 k.1, r.2)

-- labels of which no two meet make entries that are apart
pub apart_by : (sets : List (List Mapping)) (areas : List (Option Area)) → ((p r : Placed) → In p (placed_in_all areas) → In r (placed_in_all areas) → clash (extent_of p) (extent_of r) ≡ false) → EntriesApart (namespaces_of sets areas)
apart_by sets areas clear u v e f apart at_u at_v a b in_e in_f =
    let labels = placed_in_all areas in
    let p = label_of sets labels u e a (sym (lookup_entries sets labels u) ∙ at_u) in_e in
    let r = label_of sets labels v f b (sym (lookup_entries sets labels v) ∙ at_v) in_f in
    let differ : bytes_eq (uuid_of p.0) (uuid_of r.0) ≡ false = differs (bytes_eq (uuid_of p.0) (uuid_of r.0)) refl (λ same. apart (sym p.2 ∙ (bytes_eq-Decides (uuid_of p.0) (uuid_of r.0)).0 same ∙ r.2)) in
    ap (λ (x : Part). extents_meet x.extent b.extent) (sym p.3) ∙ ap (λ (x : Part). extents_meet (extent_of p.0) x.extent) (sym r.3) ∙ meets (bytes_eq (uuid_of p.0) (uuid_of r.0)) (extents_meet (extent_of p.0) (extent_of r.0)) differ (clear p.0 r.0 p.1 r.1)
  where
    differs : (b : Bool) → b ≡ b → (b ≡ true → ⊥) → b ≡ false
    differs true e f = absurd (f refl)
    differs false e f = refl

    meets : (same meet : Bool) → same ≡ false → (not same && meet) ≡ false → meet ≡ false
    meets true meet e h = absurd (cc)
    meets false meet e h = h

-- two labels don't meet if no fault of an overlap is found
pub labels_clear : (areas : List (Option Area)) → overlap_of (map extent_of (placed_in_all areas)) ≡ None → (p r : Placed) → In p (placed_in_all areas) → In r (placed_in_all areas) → clash (extent_of p) (extent_of r) ≡ false
labels_clear areas none p r in_p in_r =
    no_clash (map extent_of (placed_in_all areas)) (extent_of p) (extent_of r) none (in_map extent_of p (placed_in_all areas) in_p) (in_map extent_of r (placed_in_all areas) in_r)

pub labels_apart : (sets : List (List Mapping)) (areas : List (Option Area)) → overlap_of (map extent_of (placed_in_all areas)) ≡ None → EntriesApart (namespaces_of sets areas)
labels_apart sets areas none = apart_by sets areas (labels_clear areas none)
