-- Of a complete namespace some labels are lost, but not the first one.
use Rattle.std.proofs.Common.{◌≡◌, ℕ, ◌≤◌, Bool, true, false, cond, List, [], ◌∷◌, ◌++◌, Option, Some, None, refl, sym, ap, ◌∙◌, arith}
use Rattle.std.specs.Prelude.{filter, not, ◌==◌, ◌&&◌, unwrap_or, if◌then◌else◌}
use Rattle.std.specs.List.{AllByRecursion, list_any, list_all}
use Rattle.std.specs.Option.{option_map}
use Rattle.std.proofs.lemmas.Bool.{and_parts, ltb-false, le-ltb, or_parts}
use Rattle.std.proofs.lemmas.List.Sums.{sum_by-cons}
use Rattle.nvd_words.specs.Checks.{first_fault, fault_if}
use Rattle.nfit_reader.specs.declared.table.Mapping.{Mapping}
use Rattle.label_set.specs.declared.placed.Placed.{Placed}
use Rattle.label_set.specs.declared.placed.Field.{Field}
use Rattle.label_set.specs.declared.placed.Field.TheVariants as field
use Rattle.label_set.specs.declared.placed.SetStatus.{SetStatus}
use Rattle.label_set.specs.declared.placed.SetStatus.TheVariants.{Complete, Incomplete, Local, Unfinished}
use Rattle.label_set.specs.declared.placed.Why.TheVariants.{Differs, Missing, Twice}
use Rattle.label_set.specs.declared.rules.Rule.{Rule}
use Rattle.label_set.specs.declared.rules.Rule.TheVariants as rule
use Rattle.label_set.specs.Rules.{agreed_name, agrees_of, breaks_of, count_on, differ_in, is_local, is_twice, is_updating, least_missing, least_twice, least_where, module_of, same_name, why_of}
use Rattle.label_set.specs.Status.{broken_finding, differing_finding, half_named, local_finding, missing_finding, named_by, naming_of, short_of, status_of, twice_finding}
use Rattle.label_set.proofs.Twice.{Each, least_none, none_least}
use Rattle.namespace_map.specs.declared.listed.Namespace.{Namespace}
use Rattle.namespace_map.specs.Commands.{is_complete}
use Rattle.namespace_map.specs.Namespaces.{Part, entry_with, part_of, region_of, status_in}
use Rattle.namespace_areas.specs.Finding.{found_at}
use Rattle.label_rescue.specs.Rescue.{is_rescuable, rescued_with}
use Rattle.label_rescue.proofs.Unbroken.{Nothing, earlier, mapped_none, unbroken}
use Rattle.label_rescue.specs.Laws.{LostLabelsLeaveThePlace, left_of}
use Rattle.label_rescue.proofs.Placed.{one_is}
use Rattle.label_rescue.proofs.Whole.{IsFoundBy, found_parts, least_is, outside}

-- ---- some of a list

any_kept : {X : Type 0} (test keep : X → Bool) (xs : List X) → list_any test xs ≡ false → list_any test (filter keep xs) ≡ false
any_kept test keep [] e = refl
any_kept test keep (x ∷ xs) e =
    let parts = or_parts (test x) (list_any test xs) e in
    by (keep x) parts.0 (any_kept test keep xs parts.1)
  where
    by : (b : Bool) → test x ≡ false → list_any test (filter keep xs) ≡ false → list_any test (if b then x ∷ filter keep xs else filter keep xs) ≡ false
    by true here rest = rw here rest
    by false here rest = rest

all_kept : {X : Type 0} (test keep : X → Bool) (xs : List X) → list_all test xs ≡ true → list_all test (filter keep xs) ≡ true
all_kept test keep [] e = refl
all_kept test keep (x ∷ xs) e =
    let parts = and_parts (test x) (list_all test xs) e in
    by (keep x) parts.0 (all_kept test keep xs parts.1)
  where
    by : (b : Bool) → test x ≡ true → list_all test (filter keep xs) ≡ true → list_all test (if b then x ∷ filter keep xs else filter keep xs) ≡ true
    by true here rest = rw here rest
    by false here rest = rest

each_kept : {X : Type 0} (P R : X → Type 0) (keep : X → Bool) (xs : List X) → Each P xs → ((x : X) → P x → R x) → Each R (filter keep xs)
each_kept P R keep [] each so = tt
each_kept P R keep (x ∷ xs) each so = by (keep x) (each_kept P R keep xs each.1 so)
  where
    by : (b : Bool) → Each R (filter keep xs) → Each R (if b then x ∷ filter keep xs else filter keep xs)
    by true rest = (so x each.0, rest)
    by false rest = rest

fewer : (keep : Placed → Bool) (labels : List Placed) (number : ℕ) → count_on (filter keep labels) number ≤ count_on labels number
fewer keep [] number = omega arith
fewer keep (p ∷ labels) number = by (keep p) (fewer keep labels number)
  where
    test : Placed → ℕ
    test q = cond (q.«module» == number) 1 0

    by : (b : Bool) → count_on (filter keep labels) number ≤ count_on labels number → count_on (if b then p ∷ filter keep labels else filter keep labels) number ≤ count_on (p ∷ labels) number
    by true le = omega (arith, le, sum_by-cons test p (filter keep labels), sum_by-cons test p labels)
    by false le = omega (arith, le, sum_by-cons test p labels)

-- ---- no rule is broken

if_none : (b : Bool) (s : SetStatus) → fault_if b s ≡ None → b ≡ false
if_none true s e = absurd (let f = e in cc)
if_none false s e = refl

skipped : (fs rest : List (Option SetStatus)) → AllByRecursion Nothing fs → first_fault (fs ++ rest) ≡ first_fault rest
unfolding first_fault
skipped [] rest all = refl
skipped (None ∷ fs) rest (one, all) = skipped fs rest all
skipped (Some s ∷ fs) rest (one, all) = absurd (let f = one in cc)

module _ (set : List Mapping) (first : Placed) (rest : List Placed) (keep : Placed → Bool) where
  abbrev labels : List Placed
  labels = first ∷ rest

  abbrev pub kept : List Placed
  kept = first ∷ filter keep rest

  no_local : Nothing (local_finding labels) → Nothing (local_finding kept)
  no_local e =
      let parts = or_parts (is_local first) (list_any is_local rest) (if_none (list_any is_local labels) Local e) in
      ap (λ (b : Bool). fault_if b Local) (let z : list_any is_local kept ≡ false = rw parts.0 (any_kept is_local keep rest parts.1) in z)

  fewer_first : (number : ℕ) → count_on kept number ≤ count_on labels number
  fewer_first number =
      let test : Placed → ℕ = λ q. cond (q.«module» == number) 1 0 in
      omega (arith, fewer keep rest number, sum_by-cons test first (filter keep rest), sum_by-cons test first rest)

  one_each : (p : Placed) → is_twice labels p ≡ false → is_twice kept p ≡ false
  one_each p e = le-ltb 1 (count_on kept p.«module») (omega (arith, fewer_first p.«module», ltb-false 1 (count_on labels p.«module») e))

  no_twice : Nothing (twice_finding labels) → Nothing (twice_finding kept)
  no_twice e =
      let each = least_none module_of (is_twice labels) labels (mapped_none _ (least_where module_of (is_twice labels) labels) (mapped_none _ (least_twice labels) e)) in
      ap (λ (o : Option Placed). option_map (λ number. Incomplete (Twice number)) (option_map module_of o))
      (none_least module_of (is_twice kept) kept (one_each first each.0, each_kept _ _ keep rest each.1 one_each))

  no_broken : (r : Rule) → Nothing (broken_finding r set labels) → Nothing (broken_finding r set kept)
  no_broken r e =
      let each = least_none module_of (breaks_of r set) labels (mapped_none _ (least_where module_of (breaks_of r set) labels) e) in
      ap (λ (o : Option Placed). option_map (λ p. Incomplete (why_of r p)) o)
      (none_least module_of (breaks_of r set) kept (each.0, each_kept _ _ keep rest each.1 (λ p same. same)))

  no_differing : (f : Field) → Nothing (differing_finding f set labels) → Nothing (differing_finding f set kept)
  no_differing f e =
      let test : Placed → Bool = λ q. not (agrees_of f set first q) in
      let parts = or_parts (test first) (list_any test rest) (if_none (differ_in f set labels) (Incomplete (Differs f)) e) in
      ap (λ (b : Bool). fault_if b (Incomplete (Differs f))) (let z : differ_in f set kept ≡ false = rw parts.0 (any_kept test keep rest parts.1) in z)

  none_broken : AllByRecursion Nothing (earlier set labels) → AllByRecursion Nothing (earlier set kept)
  none_broken (a, (b, (c, (d, (e, (f, (g, (h, (i, (j, (k, l))))))))))) = (
    no_local a,
    (
      no_twice b,
      (
        no_broken rule.Inside c,
        (
          no_broken rule.Cookie d,
          (
            no_differing field.Count e,
            (
              no_broken rule.Position f,
              (no_differing field.Dpa g, (no_differing field.RawSize h, (no_differing field.LbaSize i, (no_differing field.Guids j, (no_broken rule.Aligned k, tt))))),
            ),
          ),
        ),
      ),
    ),
  )

  -- ---- names, and UPDATING

  record Named : Type 0 where
    quiet : is_updating first ≡ false
    alike : list_all (same_name first) labels ≡ true

  not_half : (name : List ℕ) (a b : Option (List ℕ)) → half_named a b ≡ Complete name false → ⊥
  not_half name (Some old) (Some new) e = let f = e in cc
  not_half name (Some old) None e = let f = e in cc
  not_half name None b e = let f = e in cc

  agreed : (n : List ℕ) (b : Bool) → (if b then Some first.label.name else None) ≡ Some n → b ≡ true
  agreed n true e = refl
  agreed n false e = absurd (let f = e in cc)

  named : (name : List ℕ) → naming_of labels ≡ Complete name false → Named
  named name e = by (agreed_name labels) refl e
    where
      by : (o : Option (List ℕ)) → agreed_name labels ≡ o → named_by labels o ≡ Complete name false → Named
      by None here f = absurd (not_half name _ _ f)
      by (Some n) here f =
          let none : list_any is_updating labels ≡ false = (let g = f in cc) in
          record { quiet = (or_parts (is_updating first) (list_any is_updating rest) none).0; alike = agreed n (list_all (same_name first) labels) here }

  -- all that is left agrees on the name; and the first label isn't being changed
  names_kept : Named → is_rescuable (naming_of kept) ≡ true
  names_kept n =
      let parts = and_parts (same_name first first) (list_all (same_name first) rest) n.alike in
      let all : list_all (same_name first) kept ≡ true = rw parts.0 (all_kept (same_name first) keep rest parts.1) in
      ap (λ (b : Bool). is_rescuable (named_by kept (if b then Some first.label.name else None))) all

  short_kept : Named → (number : ℕ) → is_rescuable (short_of kept number) ≡ true
  short_kept n number = ap (λ (b : Bool). is_rescuable (if b && list_all is_updating (filter keep rest) then Unfinished else Incomplete (Missing number))) n.quiet

  pub status_kept : (name : List ℕ) → status_of set labels ≡ Complete name false → is_rescuable (status_of set kept) ≡ true
  unfolding status_of first_fault
  status_kept name e =
      let u = unbroken set labels (ap is_rescuable e) in
      let none : least_missing labels set ≡ None = least_is set labels (ap is_complete e) in
      let naming : naming_of labels ≡ Complete name false =
      sym (ap (λ (o : Option SetStatus). unwrap_or o (naming_of labels)) (u.behind ∙ ap (λ (o : Option ℕ). first_fault (option_map (short_of labels) o ∷ [])) none)) ∙ e in
      ap (λ (o : Option SetStatus). is_rescuable (unwrap_or o (naming_of kept))) (skipped (earlier set kept) (missing_finding set kept ∷ []) (none_broken u.all))
      ∙ by (named name naming) (least_missing kept set)
    where
      by : Named → (o : Option ℕ) → is_rescuable (unwrap_or (first_fault (option_map (short_of kept) o ∷ [])) (naming_of kept)) ≡ true
      by n None = names_kept n
      by n (Some number) = short_kept n number

-- in the region of the first label
region_kept : (first : Placed) (rest : List Placed) (keep : Placed → Bool) (name : List ℕ) (o : Option (ℕ × List Mapping)) → status_in o (first ∷ rest) first ≡ Complete name false
    → is_rescuable (status_in o (first ∷ filter keep rest) first) ≡ true
region_kept first rest keep name None e = absurd (let f = sym (outside (first ∷ rest) first) ∙ ap is_complete e in cc)
region_kept first rest keep name (Some r) e = status_kept r.1 first rest keep name e

pub place_kept : LostLabelsLeaveThePlace
place_kept sets namespaces first rest keep claims name found is status free =
    let n : Namespace = left_of sets first rest keep claims in
    let f : IsFoundBy sets (entry_with sets (first ∷ rest) first) found = found_parts sets (entry_with sets (first ∷ rest) first) found is in
    let first_is : part_of first ≡ f.first = (let z = f.parts in cc) in
    let found_is : found_at sets n.mode f.region (part_of first).extent ≡ found = ap (λ (p : Part). found_at sets n.mode f.region p.extent) first_is ∙ f.is in
    one_is sets namespaces n f.region (part_of first).extent (sym (region_kept first rest keep name (region_of sets first) status)) (sym f.sector) f.at refl
    ∙ ap (rescued_with sets namespaces n) found_is
    ∙ rw free refl
