-- The contents of modules with the new bytes of a namespace put into them.
use Rattle.std.proofs.Common.{◌≡◌, ◌⊎◌, ℕ, ◌+◌, ◌-◌, ◌*◌, ◌/◌, ◌%◌, ◌^◌, ◌<◌, ◌≤◌, Bool, true, false, cond, List, [], ◌++◌, length, length-append, append-nil, append_assoc, take, drop, get_or, Option, Some, None, refl, sym, ap, ◌∙◌, subst, arith, inl, inr}
use Rattle.std.specs.Prelude.{Contains, ◌==◌, ◌&&◌, if◌then◌else◌, nat_le, nat_lt, find, position, slice_get}
use Rattle.std.specs.Option.{option_map}
use Rattle.std.proofs.Math.Seq.{take-add}
use Rattle.std.proofs.lemmas.Bool.{cases_Bool, cases_lt, eqb-true}
use Rattle.std.proofs.lemmas.Bool.Decides.{nat_tests}
use Rattle.std.proofs.lemmas.List.{drop-drop, drop_all, ext_get_or, get_or-drop, get_or-take, length-drop, length-take-le, take_all}
use borrow.Rule.Slice.PartMut.{put_mid}
use lib.Seq.{drop-append_seam, take-append_seam}
use Rattle.std.proofs.lemmas.List.{take-append-drop}
use Rattle.std.proofs.lemmas.List.Folds.{find_at}
use Rattle.std.proofs.lemmas.Option.{slice_get_cases, slice_get_past}
use Rattle.std.specs.List.{position_or_len}
use Rattle.std.proofs.lemmas.Nat.{div-add-mod'}
use Rattle.std.proofs.Math.Nat.{mul-le-mul_left, mul-mod_left}
use Rattle.nfit_reader.specs.declared.table.Mapping.{Mapping}
use Rattle.interleave.specs.Places.{LiesAt, region_byte, unit_of}
use Rattle.interleave.specs.Sound.{HasAddress, span_of}
use Rattle.power_cut.specs.Namespace.{IsLaid, over}
use Rattle.power_cut.proofs.Spread.{at_range, length_range}
use Rattle.image_set.specs.Patches.{patched_row}
use Rattle.power_cut.proofs.Places.{find_has, find_true}
use Rattle.namespace_bytes.specs.Changed.{IsFree, changed_from}
use Rattle.namespace_bytes.specs.Patching.{AreBytesAt, BytePatch, IsBytePatch, byte_number, byte_patched, is_within, mapping_of, new_of, patched_by, start_in}

-- ---- rows

pub length_row : (f : ℕ → ℕ → ℕ → ℕ) (m at : ℕ) (row : List ℕ) → length (patched_row f m at row) ≡ length row
length_row f m at row = length_range (λ k. f m (at + k) (get_or row k 0)) (length row)

pub at_row : (f : ℕ → ℕ → ℕ → ℕ) (m at : ℕ) (row : List ℕ) (k : ℕ) → k < length row → get_or (patched_row f m at row) k 0 ≡ f m (at + k) (get_or row k 0)
at_row f m at row k lt = at_range (λ k. f m (at + k) (get_or row k 0)) (length row) k 0 lt

pub drop_row : (f : ℕ → ℕ → ℕ → ℕ) (m at : ℕ) (row : List ℕ) (d : ℕ) → patched_row f m (at + d) (drop d row) ≡ drop d (patched_row f m at row)
drop_row f m at row d =
    let long : length (patched_row f m (at + d) (drop d row)) ≡ length row - d = length_row f m (at + d) (drop d row) ∙ length-drop d row in
    let long' : length (drop d (patched_row f m at row)) ≡ length row - d = length-drop d (patched_row f m at row) ∙ ap (λ (n : ℕ). n - d) (length_row f m at row) in
    ext_get_or 0 (patched_row f m (at + d) (drop d row)) (drop d (patched_row f m at row)) (long ∙ sym long') (λ j lt.
    let less : j < length (drop d row) = omega (arith, lt, long, length-drop d row) in
    at_row f m (at + d) (drop d row) j less
    ∙ ap (λ (x : ℕ). f m (at + d + j) x) (get_or-drop d row j 0)
    ∙ ap (λ (a : ℕ). f m a (get_or row (d + j) 0)) (omega arith)
    ∙ sym (get_or-drop d (patched_row f m at row) j 0 ∙ at_row f m at row (d + j) (omega (arith, less, length-drop d row))))

-- more bytes behind those that are done
pub row_more : (f : ℕ → ℕ → ℕ → ℕ) (m at : ℕ) (row : List ℕ) (done more : ℕ)
    → take done (patched_row f m at row) ++ (take more (patched_row f m (at + done) (drop done row)) ++ drop more (drop done row))
    ≡ take (done + more) (patched_row f m at row) ++ drop (done + more) row
row_more f m at row done more =
    ap (λ (r : List ℕ). take done (patched_row f m at row) ++ (take more r ++ drop more (drop done row))) (drop_row f m at row done)
    ∙ sym (append_assoc (take done (patched_row f m at row)) (take more (drop done (patched_row f m at row))) (drop more (drop done row)))
    ∙ ap (λ (r : List ℕ). r ++ drop more (drop done row)) (sym (take-add done more (patched_row f m at row)))
    ∙ ap (λ (r : List ℕ). take (done + more) (patched_row f m at row) ++ r) (drop-drop more done row)

-- ---- the mapping of a module

is_same : (a b : ℕ) → a ≡ b → (a == b) ≡ true
is_same a b e = grind (arith, nat_tests)

tests : (c d e : ℕ) → c ≤ d → d < e → (nat_le c d && nat_lt d e) ≡ true
tests c d e le lt = grind (arith, nat_tests)

fails : (c d e : ℕ) → (d < c) ⊎ (e ≤ d) → (nat_le c d && nat_lt d e) ≡ false
fails c d e (inl before) = grind (arith, nat_tests)
fails c d e (inr after) = grind (arith, nat_tests)

some_is : {A : Type 0} (x y : A) → Some x ≡ Some y → x ≡ y
some_is x y e = cc

-- the end of the namespace in a mapping is a multiple of the unit
both_units : (p : BytePatch) → IsBytePatch p → (p.offset + p.raw) % unit_of p.set ≡ 0
both_units p is =
    let laid = is.laid [] in
    let u : ℕ = unit_of p.set in
    let offset_is : p.offset ≡ p.offset / u * u = omega (arith, div-add-mod' p.offset u, laid.from) in
    let raw_is : p.raw ≡ p.raw / u * u = omega (arith, div-add-mod' p.raw u, laid.to) in
    let sum : p.offset + p.raw ≡ (p.offset / u + p.raw / u) * u = omega (arith, offset_is, raw_is) in
    ap (λ (n : ℕ). n % u) sum ∙ mul-mod_left (p.offset / u + p.raw / u) u

-- its size
pub size_fits : (p : BytePatch) → IsBytePatch p → length p.set * p.raw < 2 ^ 64
size_fits p is =
    let laid = is.laid [] in
    let le : length p.set * p.raw ≤ length p.set * span_of p.set = mul-le-mul_left (length p.set) (let short : p.raw ≤ span_of p.set = omega (arith, laid.inside) in short) in
    omega (arith, le, laid.fits)

-- where its extent in a module begins
pub start_is : (p : BytePatch) (which start : ℕ) → start_in p which ≡ Some start → (m : Mapping) × (mapping_of p.set which ≡ Some m) × (start ≡ m.start + p.offset)
start_is p which start there = by (mapping_of p.set which) refl there
  where
    by : (o : Option Mapping) → mapping_of p.set which ≡ o → option_map (λ (m : Mapping). m.start + p.offset) o ≡ Some start
        → (m : Mapping) × (mapping_of p.set which ≡ Some m) × (start ≡ m.start + p.offset)
    by None found e = absurd cc
    by (Some m) found e = (m, found, sym (some_is (m.start + p.offset) start e))

-- a module without an extent, or a byte outside of it
pub byte_none : (p : BytePatch) (which address old : ℕ) → start_in p which ≡ None → byte_patched p which address old ≡ old
unfolding byte_patched
byte_none p which address old there = by (mapping_of p.set which) there
  where
    by : (o : Option Mapping) → option_map (λ (m : Mapping). m.start + p.offset) o ≡ None → patched_by p address old o ≡ old
    by None e = refl
    by (Some m) e = absurd cc

pub byte_kept : (p : BytePatch) (which start address old : ℕ) → start_in p which ≡ Some start → (address < start) ⊎ (start + p.raw ≤ address) → byte_patched p which address old ≡ old
unfolding byte_patched
byte_kept p which start address old there outside =
    let own = start_is p which start there in
    let m = own.0 in
    let without : is_within p m address ≡ false = elim outside [
      | inl before ↦ fails (m.start + p.offset) address (m.start + p.offset + p.raw) (inl (omega (arith, before, own.2)))
      | inr after ↦ fails (m.start + p.offset) address (m.start + p.offset + p.raw) (inr (omega (arith, after, own.2)))
    ] in
    ap (patched_by p address old) own.1 ∙ ap (λ (b : Bool). if b then new_of p.bytes (byte_number p m address) old else old) without

module _ (p : BytePatch) (is : IsBytePatch p) where
  abbrev laid : IsLaid (over p.set p.offset p.raw [])
  laid = is.laid []

  pub mapping_is : (m : Mapping) (which : ℕ) → Contains p.set m → m.«module» ≡ which → mapping_of p.set which ≡ Some m
  mapping_is m which among named =
      let found = find_has (λ (k : Mapping). k.«module» == which) p.set m among.0 among.1 among.2 (is_same m.«module» which named) in
      let good = find_true (λ (k : Mapping). k.«module» == which) p.set found.0 found.1 in
      let same : found.0 ≡ m = laid.apart found.0 m good.1 among (eqb-true found.0.«module» which good.0 ∙ sym named) in
      found.1 ∙ ap Some same

  -- the mapping that is found
  pub found_is : (m : Mapping) (which : ℕ) → mapping_of p.set which ≡ Some m → (m.«module» ≡ which) × Contains p.set m
  found_is m which found =
      let good = find_true (λ (k : Mapping). k.«module» == which) p.set m found in
      (eqb-true m.«module» which good.0, good.1)

  -- a byte of the namespace, at its place
  pub byte_put : (y which address old : ℕ) → LiesAt p.set y which address → length p.set * p.offset ≤ y → y < length p.set * (p.offset + p.raw)
      → byte_patched p which address old ≡ new_of p.bytes (y - length p.set * p.offset) old
  unfolding byte_patched
  byte_put y which address old lies from to =
      let m = lies.0 in
      let by = lies.2 in
      let x : ℕ = by.byte.0 in
      let first = laid.parts m y which address p.offset lies.1 by laid.from in
      let last = laid.parts m y which address (p.offset + p.raw) lies.1 by (both_units p is) in
      let low : m.start + p.offset ≤ address = elim (cases_lt address (m.start + p.offset)) [
        | inl before ↦ absurd (let h = first.0 before in omega (arith, h, from))
        | inr after ↦ after
      ] in
      let high : address < m.start + p.offset + p.raw = elim (cases_lt address (m.start + p.offset + p.raw)) [
        | inl before ↦ before
        | inr after ↦ absurd (let h = last.1 (omega (arith, after)) in omega (arith, h, to))
      ] in
      let within : is_within p m address ≡ true = tests (m.start + p.offset) address (m.start + p.offset + p.raw) low high in
      let own : address - m.start ≡ x = omega (arith, by.byte.1) in
      ap (patched_by p address old) (mapping_is m which lies.1 by.of)
      ∙ ap (λ (b : Bool). if b then new_of p.bytes (byte_number p m address) old else old) within
      ∙ ap (λ (a : ℕ). new_of p.bytes (region_byte (length p.set) m a - length p.set * p.offset) old) own
      ∙ ap (λ (b : ℕ). new_of p.bytes (b - length p.set * p.offset) old) by.byte.2

  -- the namespace's byte at an address of its extent
  pub byte_range : (which start address y : ℕ) → start_in p which ≡ Some start → start ≤ address → address < start + p.raw → LiesAt p.set y which address
      → (length p.set * p.offset ≤ y) × (y < length p.set * (p.offset + p.raw))
  byte_range which start address y there from to lies =
      let own = start_is p which start there in
      let same : lies.0 ≡ own.0 = laid.apart lies.0 own.0 lies.1 (found_is own.0 which own.1).1 (lies.2.of ∙ sym (found_is own.0 which own.1).0) in
      let begins : lies.0.start ≡ own.0.start = ap (λ (m : Mapping). m.start) same in
      let first = laid.parts lies.0 y which address p.offset lies.1 lies.2 laid.from in
      let last = laid.parts lies.0 y which address (p.offset + p.raw) lies.1 lies.2 (both_units p is) in
      (first.1 (omega (arith, from, own.2, begins)), last.0 (omega (arith, to, own.2, begins)))

-- ---- a piece

-- the first bytes keep their values
pub row_kept : (f : ℕ → ℕ → ℕ → ℕ) (m at : ℕ) (row : List ℕ) (n : ℕ) → n ≤ length row → ((k : ℕ) → k < n → f m (at + k) (get_or row k 0) ≡ get_or row k 0)
    → row ≡ take n (patched_row f m at row) ++ drop n row
row_kept f m at row n le same =
    let long : length (take n (patched_row f m at row)) ≡ n = length-take-le n (patched_row f m at row) (omega (arith, le, length_row f m at row)) in
    let front : take n (patched_row f m at row) ≡ take n row =
    ext_get_or 0 (take n (patched_row f m at row)) (take n row) (long ∙ sym (length-take-le n row le)) (λ j lt.
    let less : j < n = omega (arith, lt, long) in
    get_or-take n (patched_row f m at row) j 0 less ∙ at_row f m at row j (omega (arith, less, le)) ∙ same j less ∙ sym (get_or-take n row j 0 less)) in
    sym (ap (λ (r : List ℕ). r ++ drop n row) front ∙ take-append-drop n row)

module _ (p : BytePatch) (is : IsBytePatch p) (which start at byte run size : ℕ) (there : start_in p which ≡ Some start) (from : start ≤ at)
    (lies : (j : ℕ) → j < run → LiesAt p.set (byte + j) which (at + j)) (some : 0 < size) (short : size ≤ run) (to : at + size ≤ start + p.raw) where
  abbrev first : ℕ
  first = length p.set * p.offset

  in_range : (j : ℕ) → j < size → (length p.set * p.offset ≤ byte + j) × (byte + j < length p.set * (p.offset + p.raw))
  in_range j lt = byte_range p is which start (at + j) (byte + j) there (omega (arith, from)) (omega (arith, lt, to)) (lies j (omega (arith, lt, short)))

  -- the bytes of the line are the namespace's
  pub line_from : length p.set * p.offset ≤ byte
  line_from = omega (arith, (in_range 0 some).0)

  pub line_inside : byte - length p.set * p.offset + size ≤ length p.set * p.raw
  line_inside =
      let last = in_range (size - 1) (omega (arith, some)) in
      let sum : length p.set * (p.offset + p.raw) ≡ length p.set * p.offset + length p.set * p.raw = omega arith in
      omega (arith, last.1, sum, some, line_from)

  pub line_at : AreBytesAt p which at (byte - length p.set * p.offset) size
  line_at j lt = subst (λ (y : ℕ). LiesAt p.set y which (at + j)) (omega (arith, line_from)) (lies j (omega (arith, lt, short)))

module _ (p : BytePatch) (is : IsBytePatch p) (which at from size : ℕ) (inside : from + size ≤ length p.set * p.raw) (lies : AreBytesAt p which at from size) where
  pub byte_new : (j old : ℕ) → j < size → byte_patched p which (at + j) old ≡ new_of p.bytes (from + j) old
  byte_new j old lt =
      let sum : length p.set * (p.offset + p.raw) ≡ length p.set * p.offset + length p.set * p.raw = omega arith in
      byte_put p is (length p.set * p.offset + (from + j)) which (at + j) old (lies j lt) (omega arith) (omega (arith, sum, inside, lt))
      ∙ ap (λ (k : ℕ). new_of p.bytes k old) (omega arith)

  pub line_put : (row : List ℕ) → size ≤ length row → changed_from (new_of p.bytes) from (take size row) ≡ take size (patched_row (byte_patched p) which at row)
  line_put row le =
      let short : length (take size row) ≡ size = length-take-le size row le in
      let long : length (changed_from (new_of p.bytes) from (take size row)) ≡ size = length_row (λ m. new_of p.bytes) which from (take size row) ∙ short in
      let long' : length (take size (patched_row (byte_patched p) which at row)) ≡ size =
      length-take-le size (patched_row (byte_patched p) which at row) (omega (arith, le, length_row (byte_patched p) which at row)) in
      ext_get_or 0 (changed_from (new_of p.bytes) from (take size row)) (take size (patched_row (byte_patched p) which at row)) (long ∙ sym long') (λ j lt.
      let less : j < size = omega (arith, lt, long) in
      at_row (λ m. new_of p.bytes) which from (take size row) j (omega (arith, less, short))
      ∙ ap (new_of p.bytes (from + j)) (get_or-take size row j 0 less)
      ∙ sym (byte_new j (get_or row j 0) less)
      ∙ sym (get_or-take size (patched_row (byte_patched p) which at row) j 0 less ∙ at_row (byte_patched p) which at row j (omega (arith, less, le))))

  -- if the new values don't depend on the old ones, neither do those of the bytes at their places
  pub line_free : IsFree (new_of p.bytes) from size → (k old old' : ℕ) → k < size → byte_patched p which (at + k) old ≡ byte_patched p which (at + k) old'
  line_free free k old old' lt = byte_new k old lt ∙ free k old old' lt ∙ sym (byte_new k old' lt)

-- the address lies in the mapping
pub has_address : (p : BytePatch) → IsBytePatch p → (which start address : ℕ) → start_in p which ≡ Some start → start ≤ address → address < start + p.raw → HasAddress p.set which address
has_address p is which start address there from to =
    let own = start_is p which start there in
    let m = own.0 in
    let good = found_is p is m which own.1 in
    record {
      mapping = m;
      among = good.1;
      of = good.0;
      from = omega (arith, from, own.2);
      to = omega (arith, to, own.2, (is.laid []).each m good.1, (is.laid []).inside);
    }

-- ---- the mapping by its position

at_position : (t : Mapping → Bool) (xs : List Mapping) (k : ℕ) → position t xs ≡ Some k → (m : Mapping) × (find t xs ≡ Some m) × (get_or xs k m ≡ m)
at_position t xs k is = elim (cases_Bool (nat_lt (position_or_len t xs) (length xs))) [
  | inl inside ↦
      let at : position_or_len t xs ≡ k = some_is (position_or_len t xs) k (sym (ap (λ (b : Bool). cond b (Some (position_or_len t xs)) None) inside) ∙ is) in
      let found : find t xs ≡ slice_get xs k = find_at t xs ∙ ap (slice_get xs) at in
      elim ((slice_get_cases xs k).1) [
        | inl here ↦ (here.0, found ∙ here.2, here.3)
        | inr past ↦ absurd (below (position_or_len t xs) (length xs) k inside at past.0)
      ]
  | inr outside ↦ absurd (no_some k (sym (ap (λ (b : Bool). cond b (Some (position_or_len t xs)) None) outside) ∙ is))
]
  where
    below : (a b k : ℕ) → nat_lt a b ≡ true → a ≡ k → b ≤ k → ⊥
    below a b k lt at past = grind (arith, nat_tests)

    no_some : (k : ℕ) → None ≡ Some k → ⊥
    no_some k e = cc

no_position : (t : Mapping → Bool) (xs : List Mapping) → position t xs ≡ None → find t xs ≡ None
no_position t xs is = elim (cases_Bool (nat_lt (position_or_len t xs) (length xs))) [
  | inl inside ↦ absurd (no_none (position_or_len t xs) (sym (ap (λ (b : Bool). cond b (Some (position_or_len t xs)) None) inside) ∙ is))
  | inr outside ↦ find_at t xs ∙ slice_get_past xs (position_or_len t xs) (past (position_or_len t xs) (length xs) outside)
]
  where
    past : (a b : ℕ) → nat_lt a b ≡ false → b ≤ a
    past a b not = grind (arith, nat_tests)

    no_none : (k : ℕ) → Some k ≡ None → ⊥
    no_none k e = cc

pub start_at : (p : BytePatch) (which k start : ℕ) → position (λ (m : Mapping). m.«module» == which) p.set ≡ Some k → ((blank : Mapping) → start ≡ (get_or p.set k blank).start)
    → Some (start + p.offset) ≡ start_in p which
start_at p which k start at is =
    let own = at_position (λ (m : Mapping). m.«module» == which) p.set k at in
    ap (λ (s : ℕ). Some (s + p.offset)) (is own.0 ∙ ap (λ (m : Mapping). m.start) own.2) ∙ sym (ap (option_map (λ (m : Mapping). m.start + p.offset)) own.1)

pub start_none : (p : BytePatch) (which : ℕ) → position (λ (m : Mapping). m.«module» == which) p.set ≡ None → None ≡ start_in p which
start_none p which at = sym (ap (option_map (λ (m : Mapping). m.start + p.offset)) (no_position (λ (m : Mapping). m.«module» == which) p.set at))

-- ---- the whole piece

drop_front : (xs ys : List ℕ) (n : ℕ) → length xs ≡ n → drop n (xs ++ ys) ≡ ys
drop_front xs ys n e = ap (λ (k : ℕ). drop k (xs ++ ys)) (sym e) ∙ drop-append_seam xs ys

take_front : (xs ys : List ℕ) (n : ℕ) → length xs ≡ n → take n (xs ++ ys) ≡ xs
take_front xs ys n e = ap (λ (k : ℕ). take k (xs ++ ys)) (sym e) ∙ take-append_seam xs ys

pub patch_more : (f : ℕ → ℕ → ℕ → ℕ) (m at done more : ℕ) (row piece part new : List ℕ) → done ≤ length row → piece ≡ take done (patched_row f m at row) ++ drop done row
    → part ≡ take (length piece - done) (drop done piece) → more ≤ length part → new ≡ take more (patched_row f m (at + done) part) ++ drop more part
    → (done + more ≤ length row) × (put_mid done (length piece - done) piece new ≡ take (done + more) (patched_row f m at row) ++ drop (done + more) row)
patch_more f m at done more row piece part new le is is_part fits put =
    let front : length (take done (patched_row f m at row)) ≡ done = length-take-le done (patched_row f m at row) (omega (arith, le, length_row f m at row)) in
    let long : length piece ≡ length row = ap (λ (xs : List ℕ). length xs) is ∙ length-append (take done (patched_row f m at row)) (drop done row) ∙ omega (arith, front, le, length-drop done row) in
    let rest : drop done piece ≡ drop done row = ap (drop done) is ∙ drop_front (take done (patched_row f m at row)) (drop done row) done front in
    let part_is : part ≡ drop done row = is_part ∙ take_all (length piece - done) (drop done piece) (omega (arith, length-drop done piece)) ∙ rest in
    let begin : take done piece ≡ take done (patched_row f m at row) = ap (take done) is ∙ take_front (take done (patched_row f m at row)) (drop done row) done front in
    let new_is : new ≡ take more (patched_row f m (at + done) (drop done row)) ++ drop more (drop done row) =
    put ∙ ap (λ (xs : List ℕ). take more (patched_row f m (at + done) xs) ++ drop more xs) part_is in
    let none : drop (length piece - done) (drop done piece) ≡ [] = drop_all (length piece - done) (drop done piece) (omega (arith, length-drop done piece)) in
    let mid : put_mid done (length piece - done) piece new ≡ take done (patched_row f m at row) ++ (take more (patched_row f m (at + done) (drop done row)) ++ drop more (drop done row)) =
    ap (λ (xs : List ℕ). take done piece ++ (new ++ xs)) none ∙ ap (λ (xs : List ℕ). take done piece ++ xs) (append-nil new)
    ∙ ap (λ (xs : List ℕ). xs ++ new) begin ∙ ap (λ (xs : List ℕ). take done (patched_row f m at row) ++ xs) new_is in
    (omega (arith, fits, ap (λ (xs : List ℕ). length xs) part_is, length-drop done row, le), mid ∙ row_more f m at row done more)

pub all_put : (f : ℕ → ℕ → ℕ → ℕ) (m at done : ℕ) (row piece : List ℕ) → done ≤ length row → piece ≡ take done (patched_row f m at row) ++ drop done row → length row ≤ done
    → piece ≡ patched_row f m at row
all_put f m at done row piece le is all =
    is ∙ ap (λ (xs : List ℕ). take done (patched_row f m at row) ++ xs) (drop_all done row all) ∙ append-nil (take done (patched_row f m at row))
    ∙ take_all done (patched_row f m at row) (omega (arith, all, length_row f m at row))

pub all_kept : (p : BytePatch) (which at : ℕ) (row : List ℕ) → start_in p which ≡ None → row ≡ patched_row (byte_patched p) which at row
all_kept p which at row there =
    ext_get_or 0 row (patched_row (byte_patched p) which at row) (sym (length_row (byte_patched p) which at row)) (λ j lt.
    sym (at_row (byte_patched p) which at row j lt ∙ byte_none p which (at + j) (get_or row j 0) there))
