-- The words of a namespace are the words of the modules in its extents.
use Rattle.std.proofs.Common.{◌≡◌, ℕ, zero, suc, ◌+◌, ◌-◌, ◌*◌, ◌/◌, ◌%◌, ◌<◌, ◌≤◌, Bool, true, List, [], ◌∷◌, length, refl, sym, ap, ◌∙◌, subst, inl, inr, arith}
use Rattle.std.specs.Prelude.{Contains, ◌==◌, ◌&&◌, nat_le, nat_lt}
use Rattle.std.specs.List.{list_any}
use Rattle.std.proofs.Math.Nat.{mul-mod_left}
use Rattle.std.proofs.lemmas.Bool.{cases_Bool, cases_lt, false≢true}
use Rattle.std.proofs.lemmas.Bool.Decides.{nat_tests}
use Rattle.std.proofs.lemmas.Nat.{div-add-mod', mul-le}
use Rattle.nfit_reader.specs.declared.table.Mapping.{Mapping}
use Rattle.interleave.specs.Places.{LiesAt, unit_of}
use Rattle.interleave.specs.Sound.{HasPlace, IsWord, span_of}
use Rattle.power_cut.specs.Namespace.{IsLaid, Namespace, byte_at, count_of, is_inside}

-- ---- mappings that pass a test

pub passing : (test : Mapping → Bool) (ms : List Mapping) → list_any test ms ≡ true → (m : Mapping) × Contains ms m × (test m ≡ true)
passing test [] e = absurd (false≢true e)
passing test (m ∷ ms) e = elim (cases_Bool (test m)) [
  | inl it ↦ (m, (0, omega arith, refl), it)
  | inr not_it ↦ let r = passing test ms (rw not_it at e) in (r.0, (suc r.1.0, omega (arith, r.1.1), r.1.2), r.2)
]

passes : (test : Mapping → Bool) (ms : List Mapping) (m : Mapping) → Contains ms m → test m ≡ true → list_any test ms ≡ true
passes test [] m (k, below, is) it = absurd (omega arith)
passes test (n ∷ ms) m (zero, below, is) it = rw (subst (λ (x : Mapping). test x ≡ true) (sym is) it) refl
passes test (n ∷ ms) m (suc k, below, is) it = elim (cases_Bool (test n)) [
  | inl here ↦ rw here refl
  | inr other ↦ rw other (passes test ms m (k, omega arith, is) it)
]

-- ---- multiples of 8

whole_of : (a u : ℕ) → a % u ≡ 0 → u % 8 ≡ 0 → a % 8 ≡ 0
whole_of a u whole eights =
    let parts : a ≡ a / u * u = omega (arith, div-add-mod' a u, whole) in
    let u_is : u ≡ u / 8 * 8 = omega (arith, eights) in
    let product : a / u * u ≡ a / u * (u / 8) * 8 = ap (λ (m : ℕ). a / u * m) u_is ∙ omega arith in
    omega (arith, parts, product)

times_whole : (m a : ℕ) → a % 8 ≡ 0 → m * a % 8 ≡ 0
times_whole m a whole =
    let a_is : a ≡ a / 8 * 8 = omega (arith, whole) in
    let product : m * a ≡ m * (a / 8) * 8 = ap (λ (b : ℕ). m * b) a_is ∙ omega arith in
    omega (arith, product)

sum_whole : (a b u : ℕ) → a % u ≡ 0 → b % u ≡ 0 → (a + b) % u ≡ 0
sum_whole a b u p q =
    let a_is : a ≡ a / u * u = omega (arith, div-add-mod' a u, p) in
    let b_is : b ≡ b / u * u = omega (arith, div-add-mod' b u, q) in
    let sum : a + b ≡ (a / u + b / u) * u = omega (arith, a_is, b_is) in
    ap (λ (n : ℕ). n % u) sum ∙ mul-mod_left (a / u + b / u) u

-- ---- a namespace

module _ (n : Namespace) (laid : IsLaid n) where
  abbrev ways : ℕ
  ways = length n.set

  both : ways * (n.offset + n.raw) ≡ ways * n.offset + ways * n.raw
  both = omega arith

  fits : ways * (n.offset + n.raw) ≤ ways * span_of n.set
  fits = mul-le (length n.set) (n.offset + n.raw) (length n.set) (span_of n.set) (omega arith) laid.inside

  first_whole : ways * n.offset % 8 ≡ 0
  first_whole = times_whole (length n.set) n.offset (whole_of n.offset (unit_of n.set) laid.from laid.eights)

  size_whole : ways * n.raw % 8 ≡ 0
  size_whole = times_whole (length n.set) n.raw (whole_of n.raw (unit_of n.set) laid.to laid.eights)

  byte_before : (i : ℕ) → i < count_of n → byte_at n i < ways * (n.offset + n.raw)
  byte_before i lt = omega (arith, both, lt)

  -- each word has a place
  pub has_place : (i : ℕ) → i < count_of n → HasPlace n.set (byte_at n i)
  has_place i lt = laid.places.has (byte_at n i) (omega (arith, byte_before i lt, fits))

  pub place_whole : (i which address : ℕ) → LiesAt n.set (byte_at n i) which address → address % 8 ≡ 0
  place_whole i which address lies = (laid.words (byte_at n i) which address (omega (arith, first_whole)) lies).aligned

  -- in its extents
  pub place_inside : (i which address : ℕ) → i < count_of n → LiesAt n.set (byte_at n i) which address → is_inside n which address ≡ true
  place_inside i which address lt lies =
      let m = lies.0 in
      let first = laid.parts m (byte_at n i) which address n.offset lies.1 lies.2 laid.from in
      let last = laid.parts m (byte_at n i) which address (n.offset + n.raw) lies.1 lies.2 (sum_whole n.offset n.raw (unit_of n.set) laid.from laid.to) in
      let from : m.start + n.offset ≤ address = elim (cases_lt address (m.start + n.offset)) [ inl less ↦ absurd (let h = first.0 less in omega (arith, h)) | inr more ↦ more ] in
      let to : address < m.start + n.offset + n.raw = elim (cases_lt address (m.start + n.offset + n.raw)) [
        | inl less ↦ less
        | inr more ↦ absurd (let h = last.1 (omega (arith, more)) in omega (arith, h, byte_before i lt))
      ] in
      passes (λ m. (m.«module» == which) && nat_le (m.start + n.offset) address && nat_lt address (m.start + n.offset + n.raw)) n.set m lies.1
      (tests m.«module» which (m.start + n.offset) address (m.start + n.offset + n.raw) lies.2.of from to)
    where
      tests : (a b c d e : ℕ) → a ≡ b → c ≤ d → d < e → ((a == b) && nat_le c d && nat_lt d e) ≡ true
      tests a b c d e same le lt = grind (arith, nat_tests)

  -- a byte at the address of a word begins one
  begins_word : (y which address : ℕ) → address % 8 ≡ 0 → LiesAt n.set y which address → y % 8 ≡ 0
  begins_word y which address eights lies =
      let place : HasPlace n.set (y - y % 8) = laid.places.has (y - y % 8) (omega (arith, laid.places.inside y which address lies)) in
      let word : IsWord n.set (y - y % 8) place.which place.address = laid.words (y - y % 8) place.which place.address (omega arith) place.lies in
      let back : y - y % 8 + y % 8 ≡ y = omega arith in
      let here : LiesAt n.set y place.which (place.address + y % 8) = subst (λ (v : ℕ). LiesAt n.set v place.which (place.address + y % 8)) back (word.bytes (y % 8) (omega arith)) in
      let one = laid.places.one y place.which (place.address + y % 8) which address here lies in
      omega (arith, word.aligned, one.1, eights)

  -- a word of a module in its extents is one of its words
  pub record HasWord (which address : ℕ) : Type 0 where
    pub word : ℕ
    pub below : word < count_of n
    pub lies : LiesAt n.set (byte_at n word) which address

  pub word_inside : (which address : ℕ) → address % 8 ≡ 0 → is_inside n which address ≡ true → HasWord which address
  word_inside which address eights inside =
      let found = passing (λ m. (m.«module» == which) && nat_le (m.start + n.offset) address && nat_lt address (m.start + n.offset + n.raw)) n.set inside in
      let m = found.0 in
      let t = tests_of m.«module» which (m.start + n.offset) address (m.start + n.offset + n.raw) found.2 in
      let size : m.size ≡ span_of n.set = laid.each m found.1 in
      let byte = laid.places.all m address found.1 (omega (arith, t.1)) (omega (arith, t.2, size, laid.inside)) in
      let y : ℕ = byte.0 in
      let lies : LiesAt n.set y which address = subst (λ (w : ℕ). LiesAt n.set y w address) t.0 byte.1 in
      let same : lies.0 ≡ m = laid.apart lies.0 m lies.1 found.1 (lies.2.of ∙ sym t.0) in
      let start : lies.0.start ≡ m.start = ap (λ (k : Mapping). k.start) same in
      let first = laid.parts lies.0 y which address n.offset lies.1 lies.2 laid.from in
      let last = laid.parts lies.0 y which address (n.offset + n.raw) lies.1 lies.2 (sum_whole n.offset n.raw (unit_of n.set) laid.from laid.to) in
      let from : ways * n.offset ≤ y = first.1 (omega (arith, t.1, start)) in
      let to : y < ways * (n.offset + n.raw) = last.0 (omega (arith, t.2, start)) in
      let whole : y % 8 ≡ 0 = begins_word y which address eights lies in
      let is : y ≡ ways * n.offset + 8 * ((y - ways * n.offset) / 8) = omega (arith, from, whole, first_whole) in
      record {
        word = (y - ways * n.offset) / 8;
        below = omega (arith, from, to, both, whole, first_whole, size_whole);
        lies = subst (λ (v : ℕ). LiesAt n.set v which address) is lies;
      }
    where
      tests_of : (a b c d e : ℕ) → ((a == b) && nat_le c d && nat_lt d e) ≡ true → (a ≡ b) × (c ≤ d) × (d < e)
      tests_of a b c d e h = (grind (arith, nat_tests), grind (arith, nat_tests), grind (arith, nat_tests))
