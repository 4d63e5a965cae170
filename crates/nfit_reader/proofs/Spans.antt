-- The spans from any offset on.
use Rattle.std.proofs.Common.{◌≡◌, ℕ, zero, suc, ◌+◌, ◌-◌, ◌*◌, ◌<◌, ◌≤◌, true, false, not, ◌&&◌, ◌||◌, eqb, leb, List, [], ◌∷◌, ◌++◌, length, take, drop, get_or, Result, Ok, Err, refl, sym, ap, ◌∙◌, subst, arith, length-drop, append_assoc}
use Rattle.std.proofs.lemmas.List.{take-take, drop-take, drop-drop, get_or-take, get_or-drop, length-take-le, drop_all, length_push, append-nil}
use Rattle.std.proofs.lemmas.Bool.{and_parts, leb-true, not_from_true, eq-eqb, cases_Bool}
use Rattle.std.proofs.Common.{inl, inr}
use Rattle.std.specs.Int.{Width, w16, w32, byte_len, from_le_bytes}
use Rattle.nvd_words.specs.Bytes.{number_at}
use Rattle.byteorder.specs.Endian.{little_number}
use Rattle.nfit_reader.specs.declared.table.NfitFault.{NfitFault}
use Rattle.nfit_reader.specs.declared.table.NfitFault.TheVariants as fault
use Rattle.nfit_reader.specs.declared.structures.Structure.{Structure}
use Rattle.nfit_reader.specs.Structures.{least_length, has_lines, is_structure, with_first, spans_from, structure_of, structures_of, IsWhole}
use Rattle.nfit_reader.specs.Table.{said_of}
use Rattle.nfit_reader.specs.Counted.{IsShort}
use Rattle.std.specs.List.{All}
use Rattle.std.proofs.lemmas.List.Elements.{All-push}

-- ---- numbers

pub little_said : (bytes : List ℕ) → little_number 4 (get_or bytes 4 0 ∷ get_or bytes 5 0 ∷ get_or bytes 6 0 ∷ get_or bytes 7 0 ∷ []) ≡ said_of bytes
unfolding said_of number_at
little_said bytes = omega (
  arith,
  get_or-take 4 (drop 4 bytes) 0 0 (omega arith),
  get_or-take 4 (drop 4 bytes) 1 0 (omega arith),
  get_or-take 4 (drop 4 bytes) 2 0 (omega arith),
  get_or-take 4 (drop 4 bytes) 3 0 (omega arith),
  get_or-drop 4 bytes 0 0,
  get_or-drop 4 bytes 1 0,
  get_or-drop 4 bytes 2 0,
  get_or-drop 4 bytes 3 0,
)

-- a number in a prefix of the bytes
pub number_at-take : (w : Width) (n : ℕ) (xs : List ℕ) (at : ℕ) → at + byte_len w ≤ n → number_at w (take n xs) at ≡ number_at w xs at
unfolding number_at
number_at-take w n xs at h =
    let e : n ≡ at + (n - at) = omega arith in
    let f : drop at (take n xs) ≡ take (n - at) (drop at xs) = ap (λ k. drop at (take k xs)) e ∙ drop-take at (n - at) xs in
    ap (λ ys. from_le_bytes w (take (byte_len w) ys)) f ∙ ap (from_le_bytes w) (take-take (byte_len w) (n - at) (drop at xs) (omega arith))

-- ---- one structure

pub least_two : (kind : ℕ) → kind ≡ 2 → least_length kind ≡ 16
unfolding least_length
least_two kind e = rw e refl

pub least_four : (kind : ℕ) → 4 ≤ least_length kind
unfolding least_length
least_four kind = grind arith

pub ruleset least = (least_two, least_four)

-- a complete structure, as its test says
record Fits (rest : List ℕ) : Type 0 where
  pub header : 4 ≤ length rest
  pub least : least_length (number_at w16 rest 0) ≤ number_at w16 rest 2
  pub inside : number_at w16 rest 2 ≤ length rest
  pub lines : number_at w16 rest 0 ≡ 2 → 16 + 4 * number_at w32 rest 8 ≤ number_at w16 rest 2

fits : (rest : List ℕ) → is_structure rest ≡ true → Fits rest
unfolding is_structure has_lines
fits rest e =
    let front = leb 4 (length rest) in
    let least = leb (least_length (number_at w16 rest 0)) (number_at w16 rest 2) in
    let inside = leb (number_at w16 rest 2) (length rest) in
    let some = leb 1 (number_at w32 rest 8) in
    let room = leb (16 + 4 * number_at w32 rest 8) (number_at w16 rest 2) in
    let other = not (eqb (number_at w16 rest 0) 2) in
    let a = and_parts (front && least && inside) (other || (some && room)) e in
    let b = and_parts (front && least) inside a.0 in
    let d = and_parts front least b.0 in
    record {
      header = leb-true _ _ d.0;
      least = leb-true _ _ d.1;
      inside = leb-true _ _ b.1;
      lines = λ two.
          let no : other ≡ false = not_from_true _ (eq-eqb _ _ two) in
          leb-true _ _ (and_parts some room (rw no at a.1)).1;
    }

-- a structure takes at least four bytes
pub takes_four : (rest : List ℕ) → is_structure rest ≡ true → 4 ≤ number_at w16 rest 2
takes_four rest e = let f = fits rest e in omega (arith, f.least, least_four (number_at w16 rest 0))

pub takes_inside : (rest : List ℕ) → is_structure rest ≡ true → number_at w16 rest 2 ≤ length rest
takes_inside rest e = (fits rest e).inside

-- the span of a structure has the bytes that its type needs
pub span_is_whole : (rest : List ℕ) → is_structure rest ≡ true → IsWhole (take (number_at w16 rest 2) rest)
span_is_whole rest e =
    let f = fits rest e in
    let len = number_at w16 rest 2 in
    let four : 4 ≤ len = takes_four rest e in
    let long : length (take len rest) ≡ len = length-take-le len rest f.inside in
    let kind : number_at w16 (take len rest) 0 ≡ number_at w16 rest 0 = number_at-take w16 len rest 0 (omega arith) in
    record {
      header = omega arith;
      fields = rw (kind, long) f.least;
      lines = λ two.
          let two' : number_at w16 rest 0 ≡ 2 = sym kind ∙ two in
          let wide : 16 + 4 * number_at w32 rest 8 ≤ len = f.lines two' in
          let count : number_at w32 (take len rest) 8 ≡ number_at w32 rest 8 = number_at-take w32 len rest 8 (omega arith) in
          omega arith;
    }

pub whole_range : (span : List ℕ) → IsWhole span → number_at w16 span 0 ≡ 0 → 56 ≤ length span
unfolding least_length
whole_range span w e = rw e at w.fields

pub whole_mapping : (span : List ℕ) → IsWhole span → number_at w16 span 0 ≡ 1 → 48 ≤ length span
unfolding least_length
whole_mapping span w e = rw e at w.fields

pub whole_interleave : (span : List ℕ) → IsWhole span → number_at w16 span 0 ≡ 2 → 16 ≤ length span
unfolding least_length
whole_interleave span w e = rw e at w.fields

pub whole_lines : (span : List ℕ) → IsWhole span → number_at w16 span 0 ≡ 2 → 16 + 4 * number_at w32 span 8 ≤ length span
whole_lines span w e = w.lines e

pub whole_control : (span : List ℕ) → IsWhole span → number_at w16 span 0 ≡ 4 → 32 ≤ length span
unfolding least_length
whole_control span w e = rw e at w.fields

pub ruleset whole = (whole_range, whole_mapping, whole_interleave, whole_lines, whole_control)

-- ---- from structure to structure

-- a larger bound on the number of structures changes nothing
fuel : (m n at : ℕ) (rest : List ℕ) → length rest ≤ m → length rest ≤ n → spans_from m at rest ≡ spans_from n at rest
unfolding spans_from
fuel m n at [] h k = refl
fuel zero n at (b ∷ rest) h k = absurd (omega arith)
fuel (suc m) zero at (b ∷ rest) h k = absurd (omega arith)
fuel (suc m) (suc n) at (b ∷ rest) h k =
    let len = number_at w16 (b ∷ rest) 2 in
    elim (cases_Bool (is_structure (b ∷ rest))) [
      | inl good ↦
          let four : 4 ≤ len = takes_four (b ∷ rest) good in
          let short : length (drop len (b ∷ rest)) ≤ length rest = rw length-drop (omega arith) in
          let same : spans_from m (at + len) (drop len (b ∷ rest)) ≡ spans_from n (at + len) (drop len (b ∷ rest)) = fuel m n (at + len) (drop len (b ∷ rest)) (omega arith) (omega arith) in
          rw (good, same) refl
      | inr bad ↦ rw bad refl
    ]

-- the structures from an offset on
abbrev pub rest_at : List ℕ → ℕ → Result (List Structure) NfitFault
rest_at table at = structures_of (spans_from (length table) at (drop at table))

pub rest_at-end : (table : List ℕ) (at : ℕ) → length table ≤ at → rest_at table at ≡ Ok []
unfolding spans_from
rest_at-end table at h = rw (drop_all at table h) refl

rest_bad : (n at : ℕ) (rest : List ℕ) → 0 < length rest → is_structure rest ≡ false → spans_from n at rest ≡ Err (fault.Structure at)
unfolding spans_from
rest_bad n at [] h e = absurd (omega arith)
rest_bad zero at (b ∷ rest) h e = refl
rest_bad (suc n) at (b ∷ rest) h e = rw e refl

pub rest_at-bad : (table : List ℕ) (at : ℕ) → at < length table → is_structure (drop at table) ≡ false → rest_at table at ≡ Err (fault.Structure at)
rest_at-bad table at h e = ap structures_of (rest_bad (length table) at (drop at table) (rw length-drop (omega arith)) e)

rest_good : (n at : ℕ) (rest : List ℕ) → length rest ≤ n → 0 < length rest → is_structure rest ≡ true
    → spans_from n at rest ≡ with_first (take (number_at w16 rest 2) rest) (spans_from n (at + number_at w16 rest 2) (drop (number_at w16 rest 2) rest))
unfolding spans_from
rest_good n at [] k h e = absurd (omega arith)
rest_good zero at (b ∷ rest) k h e = absurd (omega arith)
rest_good (suc n) at (b ∷ rest) k h e =
    let len = number_at w16 (b ∷ rest) 2 in
    let four : 4 ≤ len = takes_four (b ∷ rest) e in
    let short : length (drop len (b ∷ rest)) ≤ length rest = rw length-drop (omega arith) in
    rw e (ap (with_first (take len (b ∷ rest))) (fuel n (suc n) (at + len) (drop len (b ∷ rest)) (omega arith) (omega arith)))

structures_of-with_first : (span : List ℕ) (r : Result (List (List ℕ)) NfitFault) → structures_of (with_first span r) ≡ with_first (structure_of span) (structures_of r)
structures_of-with_first span (Ok spans) = refl
structures_of-with_first span (Err f) = refl

pub rest_at-good : (table : List ℕ) (at : ℕ) → at < length table → is_structure (drop at table) ≡ true
    → rest_at table at ≡ with_first (structure_of (take (number_at w16 (drop at table) 2) (drop at table))) (rest_at table (at + number_at w16 (drop at table) 2))
rest_at-good table at h e =
    let rest = drop at table in
    let len = number_at w16 rest 2 in
    let n = length table in
    let short : length rest ≤ n = rw length-drop (omega arith) in
    let some : 0 < length rest = rw length-drop (omega arith) in
    ap structures_of (rest_good n at rest short some e)
    ∙ structures_of-with_first (take len rest) (spans_from n (at + len) (drop len rest))
    ∙ ap (λ ys. with_first (structure_of (take len rest)) (structures_of (spans_from n (at + len) ys))) (drop-drop len at table)

-- ---- the structures read so far

abbrev pub with_front : List Structure → Result (List Structure) NfitFault → Result (List Structure) NfitFault
with_front front (Ok structures) = Ok (front ++ structures)
with_front front (Err f) = Err f

pub with_front-with_first : (front : List Structure) (s : Structure) (r : Result (List Structure) NfitFault) → with_front (front ++ s ∷ []) r ≡ with_front front (with_first s r)
with_front-with_first front s (Ok structures) = ap (λ xs. Ok xs) (append_assoc front (s ∷ []) structures)
with_front-with_first front s (Err f) = refl

pub with_front-nil : (r : Result (List Structure) NfitFault) → with_front [] r ≡ r
with_front-nil (Ok structures) = refl
with_front-nil (Err f) = refl

-- the structures before an offset are read
pub record IsReadTo (table : List ℕ) (at : ℕ) (structures : List Structure) : Type 0 where
  pub inside : at ≤ length table
  pub few : 4 * length structures ≤ at
  pub short : All IsShort structures
  pub reading : with_front structures (rest_at table at) ≡ rest_at table 40

pub read_more : (table rest : List ℕ) (at len : ℕ) (structures : List Structure) (s : Structure) → IsReadTo table at structures → at < length table
    → rest ≡ drop at table → is_structure rest ≡ true → len ≡ number_at w16 rest 2 → s ≡ structure_of (take len rest) → IsShort s
    → IsReadTo table (at + len) (structures ++ s ∷ [])
read_more table rest at len structures s r h is good long read short =
    let four : 4 ≤ len = rw long (takes_four rest good) in
    let fit : len ≤ length rest = rw long (takes_inside rest good) in
    let left : length rest ≡ length table - at = ap length is ∙ length-drop at table in
    let more : length (structures ++ s ∷ []) ≡ length structures + 1 = length_push structures s in
    let few = r.few in
    let step : rest_at table at ≡ with_first s (rest_at table (at + len)) =
    rest_at-good table at h (subst (λ xs. is_structure xs ≡ true) is good)
    ∙ sym (ap (λ xs. with_first (structure_of (take (number_at w16 xs 2) xs)) (rest_at table (at + number_at w16 xs 2))) is)
    ∙ sym (ap (λ n. with_first (structure_of (take n rest)) (rest_at table (at + n))) long)
    ∙ sym (ap (λ x. with_first x (rest_at table (at + len))) read) in
    record {
      inside = omega arith;
      few = rw more (omega arith);
      short = All-push IsShort structures s r.short short;
      reading = with_front-with_first structures s (rest_at table (at + len)) ∙ ap (with_front structures) (sym step) ∙ r.reading;
    }

pub read_bad : (table rest : List ℕ) (at : ℕ) (structures : List Structure) → IsReadTo table at structures → at < length table → rest ≡ drop at table → is_structure rest ≡ false
    → Err (fault.Structure at) ≡ rest_at table 40
read_bad table rest at structures r h is e = sym (ap (with_front structures) (rest_at-bad table at h (subst (λ xs. is_structure xs ≡ false) is e))) ∙ r.reading

pub read_all : (table : List ℕ) (at : ℕ) (structures : List Structure) → IsReadTo table at structures → length table ≤ at → Ok structures ≡ rest_at table 40
read_all table at structures r h =
    ap (λ xs. Ok xs) (sym (append-nil structures)) ∙ sym (ap (with_front structures) (rest_at-end table at h)) ∙ r.reading
