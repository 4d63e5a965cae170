-- The places of a namespace's words.
use Rattle.std.proofs.Common.{◌≡◌, ℕ, zero, suc, ◌+◌, ◌-◌, ◌*◌, ◌/◌, ◌%◌, ◌<◌, ◌≤◌, Bool, true, List, [], ◌∷◌, length, get_or, Option, Some, None, refl, sym, ap, ◌∙◌, subst, arith, inl, inr}
use Rattle.std.specs.Prelude.{Contains, ◌==◌, ◌&&◌, nat_le, nat_lt, find}
use Rattle.std.specs.List.{list_any, range_with_len}
use Rattle.std.proofs.lemmas.Bool.{cases_Bool, cases_lt, eqb-true}
use Rattle.std.proofs.lemmas.Bool.Decides.{nat_tests}
use Rattle.std.proofs.lemmas.List.FromFn.{get_or-range_with_len, length-range_with_len}
use Rattle.std.proofs.lemmas.Nat.{div-add-mod', mul-le}
use Rattle.std.proofs.Math.Nat.{mul-mod_left}
use Rattle.nfit_reader.specs.declared.table.Mapping.{Mapping}
use Rattle.interleave.specs.Places.{LiesAt, LiesBy, region_byte, unit_of}
use Rattle.interleave.specs.Sound.{HasPlace, span_of}
use Rattle.power_cut.specs.Namespace.{Namespace, AreApart, IsLaid, byte_at, byte_of, count_of, is_inside, or_place, place_by, place_of, raw_byte, raw_bytes}

-- ---- finding the first

contains_more : {X : Type 0} (xs : List X) (x y : X) → Contains xs x → Contains (y ∷ xs) x
contains_more xs x y among = (suc among.0, omega (arith, among.1), among.2)

pub find_true : {X : Type 0} (p : X → Bool) (xs : List X) (x : X) → find p xs ≡ Some x → (p x ≡ true) × Contains xs x
find_true p [] x is = absurd cc
find_true p (y ∷ xs) x is = elim (cases_Bool (p y)) [
  | inl passes ↦
      let same : y ≡ x = (let e = rw passes at is in cc) in
      (subst (λ z. p z ≡ true) same passes, (0, omega arith, same))
  | inr fails ↦
      let rest = find_true p xs x (rw fails at is) in
      (rest.0, contains_more xs x y rest.1)
]

pub find_has : {X : Type 0} (p : X → Bool) (xs : List X) (x : X) (k : ℕ) → k < length xs → get_or xs k x ≡ x → p x ≡ true → (y : X) × (find p xs ≡ Some y)
find_has p [] x k lt is passes = absurd (omega arith)
find_has p (y ∷ xs) x zero lt is passes = (y, rw (subst (λ z. p z ≡ true) (sym is) passes) refl)
find_has p (y ∷ xs) x (suc k) lt is passes = elim (cases_Bool (p y)) [
  | inl here ↦ (y, rw here refl)
  | inr other ↦
      let rest = find_has p xs x k (omega arith) is passes in
      (rest.0, rw other rest.1)
]

range_has : (n x : ℕ) → x < n → Contains (range_with_len 0 n) x
range_has n x lt = (x, omega (arith, length-range_with_len 0 n), get_or-range_with_len 0 n x x lt ∙ omega arith)

range_lt : (n x : ℕ) → Contains (range_with_len 0 n) x → x < n
range_lt n x among =
    let lt : among.0 < n = omega (arith, among.1, length-range_with_len 0 n) in
    let is : 0 + among.0 ≡ x = sym (get_or-range_with_len 0 n among.0 x lt) ∙ among.2 in
    omega (arith, lt, is)

-- ---- the place of a byte

-- a mapping has the byte
pub record ByMapping (ways y : ℕ) (ms : List Mapping) (which address : ℕ) : Type 0 where
  pub mapping : Mapping
  pub among : Contains ms mapping
  pub lies : LiesBy ways mapping y which address

by_more : (ways y : ℕ) (ms : List Mapping) (m : Mapping) (which address : ℕ) → ByMapping ways y ms which address → ByMapping ways y (m ∷ ms) which address
by_more ways y ms m which address by = record { mapping = by.mapping; among = contains_more ms by.mapping m by.among; lies = by.lies }

byte_lies : (ways y : ℕ) (m : Mapping) (x : ℕ) → byte_of ways m y ≡ Some x → LiesBy ways m y m.«module» (m.start + x)
byte_lies ways y m x is =
    let found = find_true (λ x. region_byte ways m x == y) (range_with_len 0 m.size) x is in
    let below : x < m.size = range_lt m.size x found.1 in
    record { of = refl; inside = omega (arith, below); byte = (x, refl, eqb-true (region_byte ways m x) y found.0) }

place_or : (ways y : ℕ) (m : Mapping) (ms : List Mapping) (which address : ℕ) (o : Option ℕ) (other : Option (ℕ × ℕ)) → o ≡ byte_of ways m y
    → (other ≡ Some (which, address) → ByMapping ways y ms which address) → or_place m o other ≡ Some (which, address) → ByMapping ways y (m ∷ ms) which address
place_or ways y m ms which address (Some x) other from rest is =
    let same : (m.«module», m.start + x) ≡ (which, address) = cc in
    let w : m.«module» ≡ which = ap (λ (p : ℕ × ℕ). p.0) same in
    let a : m.start + x ≡ address = ap (λ (p : ℕ × ℕ). p.1) same in
    record {
      mapping = m;
      among = (0, omega arith, refl);
      lies = subst (λ v. LiesBy ways m y v address) w (subst (λ v. LiesBy ways m y m.«module» v) a (byte_lies ways y m x (sym from)));
    }
place_or ways y m ms which address None other from rest is = by_more ways y ms m which address (rest is)

place_lies : (ways y : ℕ) (ms : List Mapping) (which address : ℕ) → place_by ways y ms ≡ Some (which, address) → ByMapping ways y ms which address
place_lies ways y [] which address is = absurd cc
place_lies ways y (m ∷ ms) which address is = place_or ways y m ms which address (byte_of ways m y) (place_by ways y ms) refl (place_lies ways y ms which address) is

or_found : (m : Mapping) (o : Option ℕ) (other : Option (ℕ × ℕ)) → (p : ℕ × ℕ) × (other ≡ Some p) → (p : ℕ × ℕ) × (or_place m o other ≡ Some p)
or_found m (Some x) other found = ((m.«module», m.start + x), refl)
or_found m None other found = found

or_here : (m : Mapping) (o : Option ℕ) (other : Option (ℕ × ℕ)) (x : ℕ) → o ≡ Some x → (p : ℕ × ℕ) × (or_place m o other ≡ Some p)
or_here m (Some y) other x is = ((m.«module», m.start + y), refl)
or_here m None other x is = absurd cc

byte_found : (ways y : ℕ) (m : Mapping) (which address : ℕ) → LiesBy ways m y which address → (x : ℕ) × (byte_of ways m y ≡ Some x)
byte_found ways y m which address lies =
    let among = range_has m.size lies.byte.0 (omega (arith, lies.inside, lies.byte.1)) in
    find_has (λ x. region_byte ways m x == y) (range_with_len 0 m.size) lies.byte.0 among.0 among.1 among.2 (is_same (region_byte ways m lies.byte.0) y lies.byte.2)
  where
    is_same : (a b : ℕ) → a ≡ b → (a == b) ≡ true
    is_same a b e = grind (arith, nat_tests)

place_found : (ways y : ℕ) (ms : List Mapping) (m : Mapping) (which address k : ℕ) → k < length ms → get_or ms k m ≡ m → LiesBy ways m y which address
    → (p : ℕ × ℕ) × (place_by ways y ms ≡ Some p)
place_found ways y [] m which address k lt is lies = absurd (omega arith)
place_found ways y (n ∷ ms) m which address zero lt is lies =
    let found = byte_found ways y n which address (subst (λ l. LiesBy ways l y which address) (sym is) lies) in
    or_here n (byte_of ways n y) (place_by ways y ms) found.0 found.1
place_found ways y (n ∷ ms) m which address (suc k) lt is lies = or_found n (byte_of ways n y) (place_by ways y ms) (place_found ways y ms m which address k (omega arith) is lies)

pub place_is : (n : Namespace) (y which address : ℕ) → IsLaid n → LiesAt n.set y which address → place_of n.set y ≡ Some (which, address)
place_is n y which address laid lies =
    let found = place_found (length n.set) y n.set lies.0 which address lies.1.0 lies.1.1 lies.1.2 lies.2 in
    let by = place_lies (length n.set) y n.set found.0.0 found.0.1 found.1 in
    let one = laid.places.one y found.0.0 found.0.1 which address (by.mapping, by.among, by.lies) lies in
    pair_is found.0.0 found.0.1 which address one.0 one.1 (place_of n.set y) found.1
  where
    pair_is : (a b c d : ℕ) → a ≡ c → b ≡ d → (o : Option (ℕ × ℕ)) → o ≡ Some (a, b) → o ≡ Some (c, d)
    pair_is a b c d e f o is = subst (λ x. o ≡ Some (x, d)) e (subst (λ x. o ≡ Some (a, x)) f is)

-- ---- the bytes of a namespace

multiple : (a u : ℕ) → a % u ≡ 0 → u % 8 ≡ 0 → a % 8 ≡ 0
multiple a u whole eights =
    let parts : a ≡ a / u * u = omega (arith, div-add-mod' a u, whole) in
    let u_is : u ≡ u / 8 * 8 = omega (arith, eights) in
    let product : a / u * u ≡ a / u * (u / 8) * 8 = ap (λ (m : ℕ). a / u * m) u_is ∙ omega arith in
    omega (arith, parts, product)

times_eights : (m a : ℕ) → a % 8 ≡ 0 → m * a % 8 ≡ 0
times_eights m a whole =
    let a_is : a ≡ a / 8 * 8 = omega (arith, whole) in
    let product : m * a ≡ m * (a / 8) * 8 = ap (λ (b : ℕ). m * b) a_is ∙ omega arith in
    omega (arith, product)

sum_unit : (a b u : ℕ) → a % u ≡ 0 → b % u ≡ 0 → (a + b) % u ≡ 0
sum_unit a b u p q =
    let a_is : a ≡ a / u * u = omega (arith, div-add-mod' a u, p) in
    let b_is : b ≡ b / u * u = omega (arith, div-add-mod' b u, q) in
    let sum : a + b ≡ (a / u + b / u) * u = omega (arith, a_is, b_is) in
    ap (λ (n : ℕ). n % u) sum ∙ mul-mod_left (a / u + b / u) u

-- a byte of the namespace is one of the region
pub raw_in_region : (n : Namespace) (byte : ℕ) → IsLaid n → byte < raw_bytes n → raw_byte n byte < length n.set * span_of n.set
raw_in_region n byte laid lt =
    let m : ℕ = length n.set in
    let sum : m * (n.offset + n.raw) ≡ m * n.offset + m * n.raw = omega arith in
    let within : m * (n.offset + n.raw) ≤ m * span_of n.set = mul-le m (n.offset + n.raw) m (span_of n.set) (omega arith) laid.inside in
    omega (arith, sum, lt, within)

-- the place of a word's first byte
pub record IsByte (n : Namespace) (y : ℕ) : Type 0 where
  pub whole : y % 8 ≡ 0
  pub from : length n.set * n.offset ≤ y
  pub to : y < length n.set * (n.offset + n.raw)
  pub in_region : y < length n.set * span_of n.set

pub byte_is : (n : Namespace) (i : ℕ) → IsLaid n → i < count_of n → IsByte n (byte_at n i)
byte_is n i laid lt =
    let m : ℕ = length n.set in
    let first : m * n.offset % 8 ≡ 0 = times_eights m n.offset (multiple n.offset (unit_of n.set) laid.from laid.eights) in
    let size : m * n.raw % 8 ≡ 0 = times_eights m n.raw (multiple n.raw (unit_of n.set) laid.to laid.eights) in
    let sum : m * (n.offset + n.raw) ≡ m * n.offset + m * n.raw = omega arith in
    let within : m * (n.offset + n.raw) ≤ m * span_of n.set = mul-le m (n.offset + n.raw) m (span_of n.set) (omega arith) laid.inside in
    record {
      whole = omega (arith, first);
      from = omega arith;
      to = omega (arith, sum, size, lt);
      in_region = omega (arith, sum, size, lt, within);
    }

-- ---- the words of a namespace

-- a word of the namespace begins at an address
pub record IsWordAt (n : Namespace) (i which address : ℕ) : Type 0 where
  pub below : i < count_of n
  pub lies : LiesAt n.set (byte_at n i) which address

pub aligned : (n : Namespace) (i which address : ℕ) → IsLaid n → IsWordAt n i which address → address % 8 ≡ 0
aligned n i which address laid at = (laid.words (byte_at n i) which address (byte_is n i laid at.below).whole at.lies).aligned

-- every word has an address
pub has_address : (n : Namespace) (i : ℕ) → IsLaid n → i < count_of n → HasPlace n.set (byte_at n i)
has_address n i laid lt = laid.places.has (byte_at n i) (byte_is n i laid lt).in_region

-- no two words have the same address
pub one_index : (n : Namespace) (i j which address : ℕ) → IsLaid n → LiesAt n.set (byte_at n i) which address → LiesAt n.set (byte_at n j) which address → i ≡ j
one_index n i j which address laid lies lies' =
    let same = laid.places.back (byte_at n i) (byte_at n j) which address lies lies' in
    omega (arith, same)

pub are_apart : (n : Namespace) → IsLaid n → AreApart n
are_apart n laid i j which address address' lt lt' lies lies' same =
    let a = aligned n i which address laid (record { below = lt; lies = lies }) in
    let a' = aligned n j which address' laid (record { below = lt'; lies = lies' }) in
    let e : address' ≡ address = omega (arith, a, a', same) in
    one_index n i j which address laid lies (subst (λ x. LiesAt n.set (byte_at n j) which x) e lies')

-- a byte at an aligned address begins a word
byte_whole : (n : Namespace) (y which address : ℕ) → IsLaid n → address % 8 ≡ 0 → LiesAt n.set y which address → y % 8 ≡ 0
byte_whole n y which address laid eights lies =
    let first : ℕ = y - y % 8 in
    let below : first < length n.set * span_of n.set = omega (arith, laid.places.inside y which address lies) in
    let place = laid.places.has first below in
    let word = laid.words first place.which place.address (omega arith) place.lies in
    let there : LiesAt n.set (first + y % 8) place.which (place.address + y % 8) = word.bytes (y % 8) (omega arith) in
    let back : first + y % 8 ≡ y = omega arith in
    let one = laid.places.one y place.which (place.address + y % 8) which address (subst (λ v. LiesAt n.set v place.which (place.address + y % 8)) back there) lies in
    omega (arith, word.aligned, one.1, eights)

-- ---- the extents of a namespace

any_here : (p : Mapping → Bool) (ms : List Mapping) (m : Mapping) (k : ℕ) → k < length ms → get_or ms k m ≡ m → p m ≡ true → list_any p ms ≡ true
any_here p [] m k lt is passes = absurd (omega arith)
any_here p (n ∷ ms) m zero lt is passes = rw (subst (λ l. p l ≡ true) (sym is) passes) refl
any_here p (n ∷ ms) m (suc k) lt is passes = elim (cases_Bool (p n)) [
  | inl here ↦ rw here refl
  | inr other ↦ rw other (any_here p ms m k (omega arith) is passes)
]

any_there : (p : Mapping → Bool) (ms : List Mapping) → list_any p ms ≡ true → (m : Mapping) × Contains ms m × (p m ≡ true)
any_there p [] is = absurd cc
any_there p (n ∷ ms) is = elim (cases_Bool (p n)) [
  | inl here ↦ (n, (0, omega arith, refl), here)
  | inr other ↦
      let rest = any_there p ms (rw other at is) in
      (rest.0, contains_more ms rest.0 n rest.1, rest.2)
]

-- each word lies inside them
pub lies_inside : (n : Namespace) (i which address : ℕ) → IsLaid n → IsWordAt n i which address → is_inside n which address ≡ true
lies_inside n i which address laid at =
    let m = at.lies.0 in
    let by = at.lies.2 in
    let byte = byte_is n i laid at.below in
    let first = laid.parts m (byte_at n i) which address n.offset at.lies.1 by laid.from in
    let last = laid.parts m (byte_at n i) which address (n.offset + n.raw) at.lies.1 by (sum_unit n.offset n.raw (unit_of n.set) laid.from laid.to) in
    let from : m.start + n.offset ≤ address = elim (cases_lt address (m.start + n.offset)) [
      | inl before ↦ absurd (let h = first.0 before in omega (arith, h, byte.from))
      | inr after ↦ after
    ] in
    let to : address < m.start + n.offset + n.raw = elim (cases_lt address (m.start + n.offset + n.raw)) [
      | inl before ↦ before
      | inr after ↦ absurd (let h = last.1 (omega (arith, after)) in omega (arith, h, byte.to))
    ] in
    any_here (λ m. (m.«module» == which) && nat_le (m.start + n.offset) address && nat_lt address (m.start + n.offset + n.raw)) n.set m at.lies.1.0 at.lies.1.1 at.lies.1.2
    (tests m.«module» which (m.start + n.offset) address (m.start + n.offset + n.raw) by.of from to)
  where
    tests : (a b c d e : ℕ) → a ≡ b → c ≤ d → d < e → ((a == b) && nat_le c d && nat_lt d e) ≡ true
    tests a b c d e same le lt = grind (arith, nat_tests)

-- every word of a module inside them is a word of the namespace
pub inside_word : (n : Namespace) (which address : ℕ) → IsLaid n → address % 8 ≡ 0 → is_inside n which address ≡ true → (i : ℕ) × IsWordAt n i which address
inside_word n which address laid eights inside =
    let found = any_there (λ m. (m.«module» == which) && nat_le (m.start + n.offset) address && nat_lt address (m.start + n.offset + n.raw)) n.set inside in
    let m = found.0 in
    let is = tests_of m.«module» which (m.start + n.offset) address (m.start + n.offset + n.raw) found.2 in
    let size : m.size ≡ span_of n.set = laid.each m found.1 in
    let byte = laid.places.all m address found.1 (omega (arith, is)) (omega (arith, is, size, laid.inside)) in
    let y : ℕ = byte.0 in
    let lies : LiesAt n.set y m.«module» address = byte.1 in
    let same : lies.0 ≡ m = laid.apart lies.0 m lies.1 found.1 lies.2.of in
    let start : lies.0.start ≡ m.start = ap (λ (k : Mapping). k.start) same in
    let first = laid.parts lies.0 y m.«module» address n.offset lies.1 lies.2 laid.from in
    let last = laid.parts lies.0 y m.«module» address (n.offset + n.raw) lies.1 lies.2 (sum_unit n.offset n.raw (unit_of n.set) laid.from laid.to) in
    let from : length n.set * n.offset ≤ y = first.1 (omega (arith, is, start)) in
    let to : y < length n.set * (n.offset + n.raw) = last.0 (omega (arith, is, start)) in
    let whole : y % 8 ≡ 0 = byte_whole n y m.«module» address laid eights lies in
    let offset : length n.set * n.offset % 8 ≡ 0 = times_eights (length n.set) n.offset (multiple n.offset (unit_of n.set) laid.from laid.eights) in
    let sum : length n.set * (n.offset + n.raw) ≡ length n.set * n.offset + length n.set * n.raw = omega arith in
    let raw : length n.set * n.raw % 8 ≡ 0 = times_eights (length n.set) n.raw (multiple n.raw (unit_of n.set) laid.to laid.eights) in
    let i : ℕ = (y - length n.set * n.offset) / 8 in
    let is_y : y ≡ byte_at n i = omega (arith, from, whole, offset) in (
      i,
      record {
        below = omega (arith, from, to, whole, offset, sum, raw);
        lies = subst (λ v. LiesAt n.set v which address) is_y (subst (λ w. LiesAt n.set y w address) is.0 lies);
      },
    )
  where
    tests_of : (a b c d e : ℕ) → ((a == b) && nat_le c d && nat_lt d e) ≡ true → (a ≡ b) × (c ≤ d) × (d < e)
    tests_of a b c d e is = (grind (arith, nat_tests), grind (arith, nat_tests), grind (arith, nat_tests))
