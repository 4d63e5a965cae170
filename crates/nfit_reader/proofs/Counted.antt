-- A table of fewer than 2^32 bytes has fewer than 2^32 of everything.
use Rattle.std.proofs.Common.{◌≡◌, ℕ, zero, suc, ◌+◌, ◌*◌, ◌^◌, ◌<◌, ◌≤◌, Bool, true, not, eqb, List, [], ◌∷◌, length, map, get_or, Option, Some, None, Result, Ok, Err, refl, sym, ap, ◌∙◌, subst, arith, inl, inr}
use Rattle.std.specs.Prelude.{IfOk}
use Rattle.std.specs.Int.{w16, w32}
use Rattle.std.specs.Option.{option_map}
use Rattle.std.specs.List.{All, find, filter, filter_map, cons_option, list_any}
use Rattle.std.proofs.lemmas.Bool.{cases_Bool, eqb-true, and_parts}
use Rattle.std.proofs.lemmas.List.{length-map}
use Rattle.std.proofs.lemmas.List.FromFn.{length-map-range_with_len}
use Rattle.std.proofs.lemmas.List.Elements.{All-nil, All-cons, All-head, All-tail, All-map}
use Rattle.nvd_words.specs.Bytes.{number_at}
use Rattle.nvd_words.specs.Checks.{Answers, first_fault, value_unless}
use Rattle.nfit_reader.specs.declared.table.Nfit.{Nfit}
use Rattle.nfit_reader.specs.declared.table.Lines.{Lines}
use Rattle.nfit_reader.specs.declared.table.NfitFault.{NfitFault}
use Rattle.nfit_reader.specs.declared.table.NfitFault.TheVariants.{OutOfMemory}
use Rattle.nfit_reader.specs.declared.structures.Structure.{Structure}
use Rattle.nfit_reader.specs.declared.structures.Range.{Range}
use Rattle.nfit_reader.specs.declared.structures.Link.{Link}
use Rattle.nfit_reader.specs.declared.structures.Interleave.{Interleave}
use Rattle.nfit_reader.specs.Structures.{structure_of, range_structure, interleave_structure, control_structure, lines_of, IsWhole}
use Rattle.nfit_reader.specs.Table.{as_range, as_link, as_interleave, ranges_of, links_of, links_into, is_region, region_of, regions_of, mapping_of, nfit_of, table_faults, table_reading}
use Rattle.nfit_reader.specs.Counted.{HasFewLines, IsCounted, AreCounted, IsShort}
use Rattle.nfit_reader.proofs.Groups.{list_any-filter}
use Rattle.nfit_reader.proofs.Lengths.{few_selected}

-- ---- the lines of one structure

no_range : (span : List ℕ) (i : Interleave) → as_interleave (range_structure span) ≡ Some i → ⊥
unfolding range_structure
no_range span i e =
    elim (cases_Bool (eqb (number_at w16 span 4) 0)) [
      | inl zero_index ↦ let e' = rw zero_index at e in cc
      | inr some_index ↦ let e' = rw some_index at e in cc
    ]

no_control : (span : List ℕ) (i : Interleave) → as_interleave (control_structure span) ≡ Some i → ⊥
unfolding control_structure
no_control span i e =
    elim (cases_Bool (eqb (number_at w16 span 4) 0)) [
      | inl zero_index ↦ let e' = rw zero_index at e in cc
      | inr some_index ↦ let e' = rw some_index at e in cc
    ]

lines_there : (span : List ℕ) (i : Interleave) → as_interleave (interleave_structure span) ≡ Some i → i.lines ≡ lines_of span
unfolding interleave_structure
lines_there span i e =
    elim (cases_Bool (eqb (number_at w16 span 4) 0)) [
      | inl zero_index ↦ absurd (let e' = rw zero_index at e in cc)
      | inr some_index ↦
          let e' = rw some_index at e in
          let same : record { index = number_at w16 span 4; lines = lines_of span } ≡ i = cc in
          ap (λ (x : Interleave). x.lines) (sym same)
    ]

lines_long : (span : List ℕ) → length (lines_of span).offsets ≡ number_at w32 span 8
unfolding lines_of
lines_long span = length-map-range_with_len (λ i. number_at w32 span (16 + 4 * i)) 0 (number_at w32 span 8)

kind_two : (span : List ℕ) (i : Interleave) → as_interleave (structure_of span) ≡ Some i → (number_at w16 span 0 ≡ 2) × (i.lines ≡ lines_of span)
unfolding structure_of
kind_two span i e =
    let kind = number_at w16 span 0 in
    elim (cases_Bool (eqb kind 0)) [
      | inl is_0 ↦ absurd (no_range span i (rw is_0 at e))
      | inr not_0 ↦
          elim (cases_Bool (eqb kind 1)) [
            | inl is_1 ↦ absurd (let e' = rw (not_0, is_1) at e in cc)
            | inr not_1 ↦
                elim (cases_Bool (eqb kind 2)) [
                  | inl is_2 ↦ (eqb-true kind 2 is_2, lines_there span i (rw (not_0, not_1, is_2) at e))
                  | inr not_2 ↦
                      elim (cases_Bool (eqb kind 4)) [
                        | inl is_4 ↦ absurd (no_control span i (rw (not_0, not_1, not_2, is_4) at e))
                        | inr not_4 ↦ absurd (let e' = rw (not_0, not_1, not_2, not_4) at e in cc)
                      ]
                ]
          ]
    ]

pub short_structure : (span : List ℕ) (s : Structure) → s ≡ structure_of span → IsWhole span → length span < 2 ^ 32 → IsShort s
short_structure span s is whole small = λ i e.
    let at : (number_at w16 span 0 ≡ 2) × (i.lines ≡ lines_of span) = kind_two span i (ap as_interleave (sym is) ∙ e) in
    omega (arith, whole.lines at.0, ap (λ (l : Lines). length l.offsets) at.1, lines_long span, small)

-- ---- the lines of a mapping

abbrev IsShortInterleave : Interleave → Type 0
IsShortInterleave i = length i.lines.offsets < 2 ^ 32

cons_all : (o : Option Interleave) (xs : List Interleave) → ((i : Interleave) → o ≡ Some i → IsShortInterleave i) → All IsShortInterleave xs → All IsShortInterleave (cons_option o xs)
cons_all None xs f h = h
cons_all (Some i) xs f h = All-cons IsShortInterleave i xs (f i refl) h

all_short : (structures : List Structure) → All IsShort structures → All IsShortInterleave (filter_map as_interleave structures)
all_short [] h = All-nil IsShortInterleave
all_short (s ∷ ss) h = cons_all (as_interleave s) (filter_map as_interleave ss) (All-head IsShort s ss h) (all_short ss (All-tail IsShort s ss h))

found_all : {X : Type 0} (p : X → Bool) (P : X → Type 0) (xs : List X) (x : X) → All P xs → find p xs ≡ Some x → P x
found_all p P [] x h e = absurd (cc)
found_all p P (y ∷ ys) x h e =
    elim (cases_Bool (p y)) [
      | inl hit ↦ (let e' = rw hit at e in let same : y ≡ x = cc in subst P same (All-head P y ys h))
      | inr miss ↦ found_all p P ys x (All-tail P y ys h) (rw miss at e)
    ]

mapped_lines : (o : Option Interleave) (lines : Lines) → ((i : Interleave) → o ≡ Some i → IsShortInterleave i) → option_map (λ i. i.lines) o ≡ Some lines → length lines.offsets < 2 ^ 32
mapped_lines None lines f e = absurd (cc)
mapped_lines (Some i) lines f e = let same : i.lines ≡ lines = cc in subst (λ (l : Lines). length l.offsets < 2 ^ 32) same (f i refl)

few_lines : (structures : List Structure) (m : Link) → All IsShort structures → HasFewLines (mapping_of structures m)
unfolding mapping_of
few_lines structures m short = λ lines e.
    mapped_lines (find (λ i. eqb i.index m.interleave) (filter_map as_interleave structures)) lines
    (λ i found. found_all (λ i. eqb i.index m.interleave) IsShortInterleave (filter_map as_interleave structures) i (all_short structures short) found) e

-- ---- regions

kept : {X : Type 0} (p : X → Bool) (P : X → Type 0) (xs : List X) → ((x : X) → p x ≡ true → P x) → All P (filter p xs)
kept p P [] f = All-nil P
kept p P (x ∷ xs) f =
    elim (cases_Bool (p x)) [
      | inl hit ↦ rw hit (All-cons P x (filter p xs) (f x hit) (kept p P xs f))
      | inr miss ↦ rw miss (kept p P xs f)
    ]

filter_few : {X : Type 0} (p : X → Bool) (xs : List X) → length (filter p xs) ≤ length xs
filter_few p [] = omega arith
filter_few p (x ∷ xs) =
    elim (cases_Bool (p x)) [
      | inl hit ↦ rw hit (omega (arith, filter_few p xs))
      | inr miss ↦ rw miss (omega (arith, filter_few p xs))
    ]

some_from : (n : ℕ) → not (eqb n 0) ≡ true → 0 < n
some_from zero e = absurd (cc)
some_from (suc n) e = omega arith

counted_region : (structures : List Structure) (r : Range) → is_region structures r ≡ true → 4 * length structures < 4294967296 → All IsShort structures → IsCounted (region_of structures r)
unfolding region_of
counted_region structures r is few short =
    let links : List Link = links_of structures in
    let into : List Link = links_into structures r.index in
    let any : list_any (λ m. eqb m.range r.index) links ≡ true = (and_parts r.persistent (list_any (λ m. eqb m.range r.index) links) is).1 in
    let long : length (map (mapping_of structures) into) ≡ length into = length-map into (mapping_of structures) in
    let more : 0 < length into = some_from (length into) (list_any-filter (λ m. eqb m.range r.index) links ∙ any) in
    let fewer : length into ≤ length links = filter_few (λ m. eqb m.range r.index) links in
    record {
      some = omega (arith, long, more);
      few = omega (arith, long, fewer, few_selected as_link structures links refl few);
      lines = All-map HasFewLines (mapping_of structures) into (λ i d lt. few_lines structures (get_or into i d) short);
    }

counted_regions : (structures : List Structure) → 4 * length structures < 4294967296 → All IsShort structures → All IsCounted (regions_of structures)
unfolding regions_of
counted_regions structures few short =
    All-map IsCounted (region_of structures) (filter (is_region structures) (ranges_of structures))
    (kept (is_region structures) (λ r. IsCounted (region_of structures r)) (ranges_of structures) (λ r is. counted_region structures r is few short))

counted_from : (structures : List Structure) (o : Option NfitFault) (r : Result Nfit NfitFault) → Answers OutOfMemory r (value_unless (nfit_of structures) o) → 4 * length structures < 4294967296
    → All IsShort structures → IfOk r AreCounted
counted_from structures o (Err f) a few short = tt
counted_from structures None (Ok n) a few short =
    let e : ◌≡◌ {A = Result Nfit NfitFault} (Ok n) (Ok (nfit_of structures)) = a (λ e. cc) in
    let same : nfit_of structures ≡ n = cc in
    subst AreCounted same (counted_regions structures few short)
counted_from structures (Some f) (Ok n) a few short = absurd (let e : ◌≡◌ {A = Result Nfit NfitFault} (Ok n) (Err f) = a (λ e. cc) in cc)

-- a table that is read is within the bounds
pub counted_table : (structures : List Structure) (r : Result Nfit NfitFault) → Answers OutOfMemory r (table_reading structures) → 4 * length structures < 4294967296
    → All IsShort structures → IfOk r AreCounted
unfolding table_reading
counted_table structures r a few short = counted_from structures (first_fault (table_faults structures)) r a few short

-- ---- how many regions

few_regions : (structures : List Structure) → 4 * length structures < 4294967296 → length (regions_of structures) < 4294967296
unfolding regions_of
few_regions structures few =
    let ranges : List Range = ranges_of structures in
    let long : length (map (region_of structures) (filter (is_region structures) ranges)) ≡ length (filter (is_region structures) ranges) = length-map (filter (is_region structures) ranges) (region_of structures) in
    omega (arith, long, filter_few (is_region structures) ranges, few_selected as_range structures ranges refl few)

few_from : (structures : List Structure) (o : Option NfitFault) (r : Result Nfit NfitFault) → Answers OutOfMemory r (value_unless (nfit_of structures) o) → 4 * length structures < 4294967296
    → IfOk r (λ nfit. length nfit.regions < 2 ^ 32)
few_from structures o (Err f) a few = tt
few_from structures None (Ok n) a few =
    let e : ◌≡◌ {A = Result Nfit NfitFault} (Ok n) (Ok (nfit_of structures)) = a (λ e. cc) in
    let same : nfit_of structures ≡ n = cc in
    subst (λ (nfit : Nfit). length nfit.regions < 2 ^ 32) same (few_regions structures few)
few_from structures (Some f) (Ok n) a few = absurd (let e : ◌≡◌ {A = Result Nfit NfitFault} (Ok n) (Err f) = a (λ e. cc) in cc)

-- few structures make few regions
pub few_table : (structures : List Structure) (r : Result Nfit NfitFault) → Answers OutOfMemory r (table_reading structures) → 4 * length structures < 4294967296
    → IfOk r (λ nfit. length nfit.regions < 2 ^ 32)
unfolding table_reading
few_table structures r a few = few_from structures (first_fault (table_faults structures)) r a few
