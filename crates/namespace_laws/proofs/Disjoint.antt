-- After a crash, a command's entry has only parts of its own, so entries stay apart.
use Rattle.std.proofs.Common.{◌≡◌, ◌≢◌, ℕ, zero, suc, ◌+◌, Bool, true, false, eqb, List, [], ◌∷◌, ◌++◌, length, Option, Some, None, refl, sym, ap, ◌∙◌, subst, arith, inl, inr, ◌⊎◌}
use Rattle.std.specs.Prelude.{◌==◌, ◌&&◌, not, map, nat_lt}
use Rattle.std.specs.Option.{option_map}
use Rattle.std.specs.List.{AllByRecursion, Contains, filter_map, range_with_len, cons_option}
use Rattle.std.specs.Str.{bytes_eq}
use Rattle.std.proofs.lemmas.Bool.{cases_Bool, false≢true, cases_eq, eq-eqb, ne_eqb, not-true, and_parts}
use Rattle.std.proofs.lemmas.Option.{none-some, same_Some}
use Rattle.std.proofs.lemmas.Slice.Eq.{bytes_eq-Decides}
use Rattle.nfit_reader.specs.declared.table.Mapping.{Mapping}
use Rattle.label_set.specs.Rules.{mapping_of}
use Rattle.region_space.specs.declared.extent.Extent.{Extent}
use Rattle.region_space.specs.Space.{extents_meet, ranges_meet, is_clear}
use Rattle.namespace_map.specs.Namespaces.{NamespaceEntry, Part, lookup, extents_in, extents_of}
use Rattle.namespace_map.proofs.Rising.{all_pass_to}
use Rattle.namespace_map.specs.declared.commands.Make.{Make}
use Rattle.namespace_map.specs.declared.commands.Named.{Named}
use Rattle.namespace_map.specs.Areas.{Area, after_steps}
use Rattle.namespace_map.specs.Commands.{refusal_of, new_part}
use Rattle.namespace_map.specs.Changes.{namespaces_of, changes_of}
use Rattle.namespace_map.proofs.Others.{cut_leaves_others}
use Rattle.namespace_map.specs.Left.{AreRegions}
use Rattle.namespace_laws.specs.Laws.{CutOfCreate}
use Rattle.namespace_laws.specs.Apart.{AreApart, EntriesApart, LeavesOthers}
use Rattle.namespace_laws.proofs.Regions.{found_passes}
use Rattle.namespace_laws.proofs.Allowed.{passes_each}
use Rattle.namespace_laws.proofs.CreateLaw as law
use Rattle.namespace_laws.proofs.CreateLaw.{made_entry, ps}
use Rattle.namespace_laws.proofs.CreateCut.{create_is_cut}
use Rattle.namespace_laws.proofs.Standing.{all_contained}
use Rattle.namespace_laws.proofs.AgreesCreate as creates

-- ---- what lists contain

contains_left : {X : Type 0} (xs ys : List X) (x : X) → Contains xs x → Contains (xs ++ ys) x
contains_left [] ys x (k, below, is) = absurd (omega arith)
contains_left (z ∷ zs) ys x (zero, below, is) = (0, omega arith, is)
contains_left (z ∷ zs) ys x (suc k, below, is) = let c = contains_left zs ys x (k, omega arith, is) in (suc c.0, omega (arith, c.1), c.2)

contains_right : {X : Type 0} (xs ys : List X) (x : X) → Contains ys x → Contains (xs ++ ys) x
contains_right [] ys x c = c
contains_right (z ∷ zs) ys x c = let d = contains_right zs ys x c in (suc d.0, omega (arith, d.1), d.2)

contains_map : {X Y : Type 0} (f : X → Y) (xs : List X) (x : X) → Contains xs x → Contains (map f xs) (f x)
contains_map f [] x (k, below, is) = absurd (omega arith)
contains_map f (z ∷ zs) x (zero, below, is) = (0, omega arith, ap f is)
contains_map f (z ∷ zs) x (suc k, below, is) = let c = contains_map f zs x (k, omega arith, is) in (suc c.0, omega (arith, c.1), c.2)

-- what passed a filter
from_filter : {X Y : Type 0} (f : X → Option Y) (xs : List X) (y : Y) → Contains (filter_map f xs) y → (x : X) × (f x ≡ Some y)
from_filter f [] y (k, below, is) = absurd (omega arith)
from_filter {X = X} {Y = Y} f (x ∷ xs) y c = by (f x) refl c (from_filter f xs y)
  where
    by : (o : Option Y) → f x ≡ o → Contains (cons_option o (filter_map f xs)) y → (Contains (filter_map f xs) y → (x : X) × (f x ≡ Some y)) → (x : X) × (f x ≡ Some y)
    by None e c later = later c
    by (Some z) e (zero, below, is) later = (x, e ∙ ap Some is)
    by (Some z) e (suc k, below, is) later = later (k, omega arith, is)

-- the extents of an entry are among those of all
pub in_extents : (es : List NamespaceEntry) (v : List ℕ) (f : NamespaceEntry) (b : Part) → lookup v es ≡ Some f → Contains f.parts b → Contains (extents_of es) b.extent
in_extents [] v f b is c = absurd (none-some f is)
in_extents (e ∷ es) v f b is c = by (cases_Bool (bytes_eq e.uuid v)) (in_extents es v f b)
  where
    by : (bytes_eq e.uuid v ≡ true) ⊎ (bytes_eq e.uuid v ≡ false) → (lookup v es ≡ Some f → Contains f.parts b → Contains (extents_of es) b.extent) → Contains (extents_of (e ∷ es)) b.extent
    by (inl it) later =
        let same : e ≡ f = same_Some e f (rw it at is) in
        contains_left (extents_in e) (extents_of es) b.extent (contains_map (λ (p : Part). p.extent) e.parts b (subst (λ (x : NamespaceEntry). Contains x.parts b) (sym same) c))
    by (inr not_it) later = contains_right (extents_in e) (extents_of es) b.extent (later (rw not_it at is) c)

eqb_turned : (a b : ℕ) → eqb a b ≡ eqb b a
eqb_turned a b = elim (cases_eq a b) [
  | inl same ↦ rw (eq-eqb a b same, eq-eqb b a (sym same)) refl
  | inr apart ↦ rw (ne_eqb a b apart, ne_eqb b a (λ e. apart (sym e))) refl
]

and_turned : (a b : Bool) → (a && b) ≡ (b && a)
and_turned true true = refl
and_turned true false = refl
and_turned false true = refl
and_turned false false = refl

meet_turned : (x y : Extent) → extents_meet x y ≡ extents_meet y x
meet_turned x y =
    ap (λ (b : Bool). b && ranges_meet x.start x.length y.start y.length) (eqb_turned x.«module» y.«module»)
    ∙ ap (λ (b : Bool). (y.«module» == x.«module») && b) (and_turned (nat_lt x.start (y.start + y.length)) (nat_lt y.start (x.start + x.length)))

pub apart_turned : (e f : NamespaceEntry) → AreApart e f → AreApart f e
apart_turned e f apart a b ca cb = meet_turned a.extent b.extent ∙ apart b a cb ca

itself_from : {X : Type 0} (xs : List X) → AllByRecursion (Contains xs) xs
itself_from [] = tt
itself_from (x ∷ xs) = ((0, omega arith, refl), all_pass_to (Contains xs) (Contains (x ∷ xs)) (λ y c. (suc c.0, omega (arith, c.1), c.2)) xs (itself_from xs))

pub itself : (xs : List Part) → AllByRecursion (Contains xs) xs
itself xs = itself_from xs

-- ---- an entry with some of the parts of one that is apart from all others

pub keeps_apart : (sets : List (List Mapping)) (areas left : List (Option Area)) (uuid : List ℕ) (whole : NamespaceEntry) → EntriesApart (namespaces_of sets areas)
    → ((v : List ℕ) → v ≢ uuid → lookup v (namespaces_of sets left).entries ≡ lookup v (namespaces_of sets areas).entries)
    → ((x : NamespaceEntry) → lookup uuid (namespaces_of sets left).entries ≡ Some x → AllByRecursion (Contains whole.parts) x.parts)
    → ((v : List ℕ) (f : NamespaceEntry) → v ≢ uuid → lookup v (namespaces_of sets areas).entries ≡ Some f → AreApart whole f)
    → EntriesApart (namespaces_of sets left)
keeps_apart sets areas left uuid whole before others parts free u v e f ne is_e is_f = by (cases_Bool (bytes_eq u uuid)) (cases_Bool (bytes_eq v uuid))
  where
    same_of : (w : List ℕ) → bytes_eq w uuid ≡ true → w ≡ uuid
    same_of w it = (bytes_eq-Decides w uuid).0 it

    other_of : (w : List ℕ) → bytes_eq w uuid ≡ false → w ≢ uuid
    other_of w not_it same = false≢true (sym not_it ∙ (bytes_eq-Decides w uuid).1 same)

    mine : (w : List ℕ) (x y : NamespaceEntry) (z : List ℕ) → w ≡ uuid → z ≢ uuid → lookup w (namespaces_of sets left).entries ≡ Some x → lookup z (namespaces_of sets left).entries ≡ Some y → AreApart x y
    mine w x y z same other is_x is_y a b ca cb =
        free z y other (sym (others z other) ∙ is_y) a b
        (all_contained (Contains whole.parts) x.parts a (parts x (subst (λ (k : List ℕ). lookup k (namespaces_of sets left).entries ≡ Some x) same is_x)) ca) cb

    by : (bytes_eq u uuid ≡ true) ⊎ (bytes_eq u uuid ≡ false) → (bytes_eq v uuid ≡ true) ⊎ (bytes_eq v uuid ≡ false) → AreApart e f
    by (inl a) (inl b) = absurd (ne (same_of u a ∙ sym (same_of v b)))
    by (inl a) (inr b) = mine u e f v (same_of u a) (other_of v b) is_e is_f
    by (inr a) (inl b) = apart_turned f e (mine v f e u (same_of v b) (other_of u a) is_f is_e)
    by (inr a) (inr b) = before u v e f ne (sym (others u (other_of u a)) ∙ is_e) (sym (others v (other_of v b)) ∙ is_f)

-- ---- create

module _ (sets : List (List Mapping)) (areas : List (Option Area)) (uuid : List ℕ) (name : Named) (region size : ℕ) (made : Make) (regions : AreRegions sets)
    (good : refusal_of (namespaces_of sets areas) (law.create sets areas uuid name region size made) ≡ None) where
  abbrev new : NamespaceEntry
  new = made_entry sets areas uuid name region size made

  -- the new parts overlap no existing extent
  new_apart : (v : List ℕ) (f : NamespaceEntry) → lookup v (namespaces_of sets areas).entries ≡ Some f → AreApart new f
  new_apart v f is a b ca cb =
      by (from_filter (λ n. option_map (new_part uuid (law.offset sets areas uuid name region size made) (law.raw sets areas uuid name region size made)) (mapping_of (law.set sets areas uuid name region size made) n))
      (range_with_len 0 (length (namespaces_of sets areas).areas)) a ca)
    where
      by : (n : ℕ) × (option_map (new_part uuid (law.offset sets areas uuid name region size made) (law.raw sets areas uuid name region size made)) (mapping_of (law.set sets areas uuid name region size made) n) ≡ Some a) → extents_meet a.extent b.extent ≡ false
      by (n, e) = on (mapping_of (law.set sets areas uuid name region size made) n) refl e
        where
          on : (o : Option Mapping) → mapping_of (law.set sets areas uuid name region size made) n ≡ o
              → option_map (new_part uuid (law.offset sets areas uuid name region size made) (law.raw sets areas uuid name region size made)) o ≡ Some a → extents_meet a.extent b.extent ≡ false
          on None at e = absurd (none-some a e)
          on (Some k) at e =
              let clear = (found_passes (λ (j : Mapping). j.«module» == n)
              (λ (m : Mapping). is_clear (extents_of (namespaces_of sets areas).entries) (law.raw sets areas uuid name region size made) (law.offset sets areas uuid name region size made) m ≡ true)
              (law.set sets areas uuid name region size made) k at (law.has sets areas uuid name region size made regions good).clear).1 in
              let none = all_contained (λ (x : Extent). not ((x.«module» == k.«module») && ranges_meet (k.start + law.offset sets areas uuid name region size made) (law.raw sets areas uuid name region size made) x.start x.length) ≡ true)
              (extents_of (namespaces_of sets areas).entries) b.extent
              (passes_each (λ (x : Extent). not ((x.«module» == k.«module») && ranges_meet (k.start + law.offset sets areas uuid name region size made) (law.raw sets areas uuid name region size made) x.start x.length))
              (extents_of (namespaces_of sets areas).entries) (and_parts _ _ clear).1)
              (in_extents (namespaces_of sets areas).entries v f b is cb) in
              subst (λ (p : Part). extents_meet p.extent b.extent ≡ false) (same_Some (new_part uuid (law.offset sets areas uuid name region size made) (law.raw sets areas uuid name region size made) k) a e)
              (ap (λ (c : Bool). c && ranges_meet (k.start + law.offset sets areas uuid name region size made) (law.raw sets areas uuid name region size made) b.extent.start b.extent.length) (eqb_turned k.«module» b.extent.«module»)
              ∙ not-true ((b.extent.«module» == k.«module») && ranges_meet (k.start + law.offset sets areas uuid name region size made) (law.raw sets areas uuid name region size made) b.extent.start b.extent.length) none)

  -- the entry after a crash has its parts
  left_parts : (x : NamespaceEntry) (left : Option NamespaceEntry) → CutOfCreate new left → left ≡ Some x → AllByRecursion (Contains new.parts) x.parts
  left_parts x left (inl none) is = absurd (none-some x (sym none ∙ is))
  left_parts x left (inr (inl (y, at, part))) is = subst (λ (z : NamespaceEntry). AllByRecursion (Contains new.parts) z.parts) (same_Some y x (sym at ∙ is)) part.parts
  left_parts x left (inr (inr (inl (y, at, pending)))) is =
      subst (λ (z : NamespaceEntry). AllByRecursion (Contains new.parts) z.parts) (same_Some y x (sym at ∙ is)) (subst (λ (ps : List Part). AllByRecursion (Contains new.parts) ps) (ap (λ (z : NamespaceEntry). z.parts) (sym pending)) (itself new.parts))
  left_parts x left (inr (inr (inr at))) is = subst (λ (z : NamespaceEntry). AllByRecursion (Contains new.parts) z.parts) (same_Some new x (sym at ∙ is)) (itself new.parts)

  pub create_apart : EntriesApart (namespaces_of sets areas) → (n : ℕ) (stays : Bool)
      → EntriesApart (namespaces_of sets (after_steps areas (changes_of (namespaces_of sets areas) areas (law.create sets areas uuid name region size made)) n stays))
  create_apart before n stays =
      keeps_apart sets areas (after_steps areas (changes_of (namespaces_of sets areas) areas (law.create sets areas uuid name region size made)) n stays) uuid new before
      (λ v ne. cut_leaves_others sets areas uuid (changes_of (namespaces_of sets areas) areas (law.create sets areas uuid name region size made)) (creates.all_of sets areas uuid name region size made regions good) n stays v ne)
      (λ x is. left_parts x _ (create_is_cut sets areas uuid name region size made regions good n stays) is)
      (λ v f ne is. new_apart v f is)

  pub create_others : LeavesOthers sets areas uuid (law.create sets areas uuid name region size made)
  create_others n stays v ne =
      cut_leaves_others sets areas uuid (changes_of (namespaces_of sets areas) areas (law.create sets areas uuid name region size made)) (creates.all_of sets areas uuid name region size made regions good) n stays v ne
