-- What a complete status says of the first label.
use Rattle.std.proofs.Common.{◌≡◌, ℕ, ◌+◌, ◌%◌, ◌≤◌, leb, ltb, eqb, Bool, true, false, List, [], ◌∷◌, Option, Some, None, refl, sym, ◌∙◌, arith}
use Rattle.std.specs.Prelude.{⊤, unwrap_or, not, ◌==◌, if◌then◌else◌}
use Rattle.std.specs.List.{list_all}
use Rattle.std.specs.Option.{option_map}
use Rattle.std.proofs.lemmas.Bool.{ltb-false, eqb-true, not-false, or_parts}
use Rattle.nvd_words.specs.Checks.{first_fault, fault_if}
use Rattle.nfit_reader.specs.declared.table.Mapping.{Mapping}
use Rattle.interleave.specs.Places.{unit_of}
use Rattle.interleave.specs.Sound.{span_of}
use Rattle.label_set.specs.declared.placed.Placed.{Placed}
use Rattle.label_set.specs.declared.placed.Field.TheVariants as field
use Rattle.label_set.specs.declared.placed.Why.TheVariants.{Missing}
use Rattle.label_set.specs.declared.rules.Rule.{Rule}
use Rattle.label_set.specs.declared.rules.Rule.TheVariants as rule
use Rattle.label_set.specs.declared.placed.SetStatus.{SetStatus}
use Rattle.label_set.specs.declared.placed.SetStatus.TheVariants.{Unfinished, Local, Incomplete}
use Rattle.label_set.specs.Rules.{is_updating, lesser, least_where, module_of, mapping_of, counted_from, relative_of, leaves, is_outside, is_unaligned, breaks_of}
use Rattle.label_set.specs.Status.{local_finding, twice_finding, broken_finding, differing_finding, short_of, missing_finding, naming_of, status_of}
use Rattle.namespace_map.specs.Commands.{is_complete}

-- ---- no finding says that labels are complete

abbrev Broken : Option SetStatus → Type 0
Broken None = ⊤
Broken (Some status) = is_complete status ≡ false

broken_if : (b : Bool) (status : SetStatus) → is_complete status ≡ false → Broken (fault_if b status)
broken_if true status e = e
broken_if false status e = tt

broken_map : {X : Type 0} (f : X → SetStatus) (o : Option X) → ((x : X) → is_complete (f x) ≡ false) → Broken (option_map f o)
broken_map f None e = tt
broken_map f (Some x) e = e x

broken_short : (labels : List Placed) (number : ℕ) → is_complete (short_of labels number) ≡ false
broken_short labels number = by (list_all is_updating labels)
  where
    by : (b : Bool) → is_complete (if b then Unfinished else Incomplete (Missing number)) ≡ false
    by true = refl
    by false = refl

-- a whole that is complete has no first finding
record Misses (naming : SetStatus) (o : Option SetStatus) (fs : List (Option SetStatus)) : Type 0 where
  here : o ≡ None
  behind : is_complete (unwrap_or (first_fault fs) naming) ≡ true

misses : (naming : SetStatus) (o : Option SetStatus) (fs : List (Option SetStatus)) → Broken o → is_complete (unwrap_or (first_fault (o ∷ fs)) naming) ≡ true → Misses naming o fs
unfolding first_fault
misses naming None fs b e = record { here = refl; behind = e }
misses naming (Some status) fs b e = absurd (let f = sym b ∙ e in cc)

-- ---- the first label passes a test of which the least isn't there

lesser_some : {X : Type 0} (key : X → ℕ) (x : X) (later : Option X) → lesser key (Some x) later ≡ None → ⊥
lesser_some key x None e = cc
lesser_some key x (Some y) e = by (leb (key x) (key y)) e
  where
    by : (b : Bool) → (if b then Some x else Some y) ≡ None → ⊥
    by true f = cc
    by false f = cc

first_passes : {X : Type 0} (key : X → ℕ) (test : X → Bool) (x : X) (xs : List X) → least_where key test (x ∷ xs) ≡ None → test x ≡ false
first_passes key test x xs e = by (test x) refl e
  where
    by : (b : Bool) → test x ≡ b → lesser key (if b then Some x else None) (least_where key test xs) ≡ None → test x ≡ false
    by true is f = absurd (lesser_some key x (least_where key test xs) f)
    by false is f = is

mapped_none : {X Y : Type 0} (f : X → Y) (o : Option X) → option_map f o ≡ None → o ≡ None
mapped_none f None e = refl
mapped_none f (Some x) e = absurd (let g = e in cc)

breaks_none : (r : Rule) (set : List Mapping) (p : Placed) (labels : List Placed) → broken_finding r set (p ∷ labels) ≡ None → breaks_of r set p ≡ false
breaks_none r set p labels e = first_passes module_of (breaks_of r set) p labels (mapped_none _ (least_where module_of (breaks_of r set) (p ∷ labels)) e)

-- ---- a complete status

pub record IsPlaced (set : List Mapping) (p : Placed) : Type 0 where
  pub from : relative_of set p % unit_of set ≡ 0
  pub to : p.label.raw % unit_of set ≡ 0
  pub inside : relative_of set p + p.label.raw ≤ span_of set

inside_by : (o : Option Mapping) (span : ℕ) (p : Placed) → leaves span o p ≡ false → counted_from o p.label.dpa + p.label.raw ≤ span
inside_by None span p e = absurd (let f = e in cc)
inside_by (Some m) span p e =
    let parts = or_parts (ltb p.label.dpa m.start) (ltb (m.start + span) (p.label.dpa + p.label.raw)) e in
    omega (arith, ltb-false p.label.dpa m.start parts.0, ltb-false (m.start + span) (p.label.dpa + p.label.raw) parts.1)

pub placed : (set : List Mapping) (p : Placed) (labels : List Placed) → is_complete (status_of set (p ∷ labels)) ≡ true → IsPlaced set p
unfolding status_of
placed set p labels e =
    let all : List Placed = p ∷ labels in
    let naming : SetStatus = naming_of (p ∷ labels) in
    let a = misses (naming_of (p ∷ labels)) (local_finding (p ∷ labels)) _ (broken_if _ Local refl) e in
    let b = misses (naming_of (p ∷ labels)) (twice_finding (p ∷ labels)) _ (broken_map _ _ (λ n. refl)) a.behind in
    let c = misses (naming_of (p ∷ labels)) (broken_finding rule.Inside set (p ∷ labels)) _ (broken_map _ _ (λ q. refl)) b.behind in
    let d = misses (naming_of (p ∷ labels)) (broken_finding rule.Cookie set (p ∷ labels)) _ (broken_map _ _ (λ q. refl)) c.behind in
    let f = misses (naming_of (p ∷ labels)) (differing_finding field.Count set (p ∷ labels)) _ (broken_if _ _ refl) d.behind in
    let g = misses (naming_of (p ∷ labels)) (broken_finding rule.Position set (p ∷ labels)) _ (broken_map _ _ (λ q. refl)) f.behind in
    let h = misses (naming_of (p ∷ labels)) (differing_finding field.Dpa set (p ∷ labels)) _ (broken_if _ _ refl) g.behind in
    let i = misses (naming_of (p ∷ labels)) (differing_finding field.RawSize set (p ∷ labels)) _ (broken_if _ _ refl) h.behind in
    let j = misses (naming_of (p ∷ labels)) (differing_finding field.LbaSize set (p ∷ labels)) _ (broken_if _ _ refl) i.behind in
    let k = misses (naming_of (p ∷ labels)) (differing_finding field.Guids set (p ∷ labels)) _ (broken_if _ _ refl) j.behind in
    let l = misses (naming_of (p ∷ labels)) (broken_finding rule.Aligned set (p ∷ labels)) (missing_finding set (p ∷ labels) ∷ []) (broken_map _ _ (λ q. refl)) k.behind in
    let out : is_outside set p ≡ false = breaks_none rule.Inside set p labels c.here in
    let odd : is_unaligned set p ≡ false = breaks_none rule.Aligned set p labels l.here in
    let parts = or_parts (not (relative_of set p % unit_of set == 0)) (not (p.label.raw % unit_of set == 0)) odd in
    record {
      from = eqb-true (relative_of set p % unit_of set) 0 (not-false (eqb (relative_of set p % unit_of set) 0) parts.0);
      to = eqb-true (p.label.raw % unit_of set) 0 (not-false (eqb (p.label.raw % unit_of set) 0) parts.1);
      inside = inside_by (mapping_of set p.«module») (span_of set) p out;
    }
