-- Offsets that fit, and extents in the way.
use Rattle.std.proofs.Common.{◌≡◌, ℕ, suc, ◌+◌, ◌<◌, ◌≤◌, Bool, true, false, not, ◌&&◌, ◌||◌, List, [], ◌∷◌, get_or, length, Contains, refl, sym, ◌∙◌, arith}
use Rattle.std.specs.Prelude.{nat_lt, nat_le, ◌==◌}
use Rattle.std.specs.List.{list_any, list_all}
use Rattle.std.proofs.lemmas.Bool.{or_parts, and_parts, lt-ltb, ltb-true, le-leb, lt-leb, false≢true}
use Rattle.std.proofs.lemmas.List.Folds.{list_any_at}
use Rattle.nfit_reader.specs.declared.table.Mapping.{Mapping}
use Rattle.interleave.specs.Places.{unit_of}
use Rattle.interleave.specs.Sound.{span_of}
use Rattle.region_space.specs.declared.extent.Extent.{Extent}
use Rattle.region_space.specs.Space.{ranges_meet, is_clear, fits}
use Rattle.region_space.specs.Reach.{passes, starts_before, end_of}
use Rattle.region_space.specs.Fitting.{is_met}
use Rattle.region_space.proofs.Filters.{any_same}

-- units are positive
pub some_unit : (ms : List Mapping) → 0 < unit_of ms
some_unit [] = omega arith
some_unit (m ∷ ms) = omega arith

-- none passes if each fails
all_not_any : {X : Type 0} (p : X → Bool) (xs : List X) → list_all (λ x. not (p x)) xs ≡ not (list_any p xs)
all_not_any p [] = refl
all_not_any p (x ∷ xs) = all_by (p x) (list_any p xs) (list_all (λ y. not (p y)) xs) (all_not_any p xs)
  where
    all_by : (b c d : Bool) → d ≡ not c → (not b && d) ≡ not (b || c)
    all_by true c d e = refl
    all_by false c d e = e

-- an extent is in the way of a mapping
met_not_clear : (extents : List Extent) (raw k : ℕ) (m : Mapping) → is_met extents raw k m ≡ true → is_clear extents raw k m ≡ false
met_not_clear extents raw k m met =
    rw (all_not_any (λ e. (e.«module» == m.«module») && ranges_meet (m.start + k) raw e.start e.length) extents, met) (never (nat_le (k + raw) m.size))
  where
    never : (b : Bool) → (b && false) ≡ false
    never true = refl
    never false = refl

-- an offset with an extent in the way doesn't fit
pub met_not_fits : (set : List Mapping) (extents : List Extent) (raw k : ℕ) → list_any (is_met extents raw k) set ≡ true → fits set extents raw k ≡ false
met_not_fits [] extents raw k met = absurd (false≢true met)
met_not_fits (m ∷ ms) extents raw k met = by_first (is_met extents raw k m) refl met (λ on. met_not_fits ms extents raw k on)
  where
    never : (b : Bool) → (b && false) ≡ false
    never true = refl
    never false = refl

    by_first : (b : Bool) → is_met extents raw k m ≡ b → (b || list_any (is_met extents raw k) ms) ≡ true → (list_any (is_met extents raw k) ms ≡ true → fits ms extents raw k ≡ false)
        → (is_clear extents raw k m && fits ms extents raw k) ≡ false
    by_first true e met on = rw (met_not_clear extents raw k m e) refl
    by_first false e met on = rw (on met) (never (is_clear extents raw k m))

-- past the end of the first mapping no offset fits
pub past_not_fits : (set : List Mapping) (extents : List Extent) (raw k : ℕ) → 0 < span_of set → span_of set < k + raw → fits set extents raw k ≡ false
past_not_fits [] extents raw k some past = absurd (omega arith)
past_not_fits (m ∷ ms) extents raw k some past = rw (lt-leb (k + raw) m.size past) refl

-- inside all mappings an offset fits if nothing is in the way
pub fits_free : (set : List Mapping) (extents : List Extent) (raw k span : ℕ) → ((m : Mapping) → Contains set m → m.size ≡ span) → k + raw ≤ span
    → list_any (is_met extents raw k) set ≡ false → fits set extents raw k ≡ true
fits_free [] extents raw k span each inside free = refl
fits_free (m ∷ ms) extents raw k span each inside free =
    let parts = or_parts (is_met extents raw k m) (list_any (is_met extents raw k) ms) free in
    let here : m.size ≡ span = each m (0, omega arith, refl) in
    let fit : nat_le (k + raw) m.size ≡ true = le-leb (k + raw) m.size (omega (arith, here, inside)) in
    let rest : fits ms extents raw k ≡ true = fits_free ms extents raw k span (λ n among. each n (suc among.0, omega (arith, among.1), among.2)) inside parts.1 in
    rw (all_not_any (λ e. (e.«module» == m.«module») && ranges_meet (m.start + k) raw e.start e.length) extents, parts.0, fit, rest) refl

-- ---- the reach of the extents that start before the end of a range

-- an element that passes a test also passes a weaker one
any_weaker : {X : Type 0} (p q : X → Bool) (xs : List X) → ((x : X) → p x ≡ true → q x ≡ true) → list_any p xs ≡ true → list_any q xs ≡ true
any_weaker p q [] weaker some = some
any_weaker p q (x ∷ xs) weaker some = by_one (p x) (q x) (list_any q xs) (weaker x) some (λ on. any_weaker p q xs weaker on)
  where
    by_one : (b c d : Bool) → (b ≡ true → c ≡ true) → (b || list_any p xs) ≡ true → (list_any p xs ≡ true → d ≡ true) → (c || d) ≡ true
    by_one true c d w some on = rw (w refl) refl
    by_one false c true w some on = always c
      where
        always : (c : Bool) → (c || true) ≡ true
        always true = refl
        always false = refl
    by_one false c false w some on = absurd (false≢true (on some))

-- the reach over a mapping
abbrev pub Reaches : List Extent → ℕ → ℕ → ℕ → Type 0
Reaches extents which before end = (past : ℕ) → list_any (λ e. starts_before which before e && passes past e) extents ≡ nat_lt past end

swap_tests : (m s t : Bool) → ((m && s) && t) ≡ (m && (t && s))
swap_tests false s t = refl
swap_tests true true true = refl
swap_tests true true false = refl
swap_tests true false true = refl
swap_tests true false false = refl

-- an extent is in the way exactly if the reach passes the first byte
pub met_where : (extents : List Extent) (raw offset end : ℕ) (m : Mapping) → Reaches extents m.«module» (m.start + offset + raw) end → is_met extents raw offset m ≡ nat_lt (m.start + offset) end
met_where extents raw offset end m reaches =
    sym (any_same (λ e. starts_before m.«module» (m.start + offset + raw) e && passes (m.start + offset) e) (λ e. (e.«module» == m.«module») && ranges_meet (m.start + offset) raw e.start e.length) extents
    (λ e. swap_tests (e.«module» == m.«module») (nat_lt e.start (m.start + offset + raw)) (nat_lt (m.start + offset) (end_of e))))
    ∙ reaches (m.start + offset)

later_bytes : (s start offset raw k : ℕ) → offset ≤ k → nat_lt s (start + offset + raw) ≡ true → nat_lt s (start + k + raw) ≡ true
later_bytes s start offset raw k le h = lt-ltb s (start + k + raw) (omega (arith, ltb-true s (start + offset + raw) h))

-- and stays so up to the end of the reach
pub met_up_to : (extents : List Extent) (raw offset end k : ℕ) (m : Mapping) → Reaches extents m.«module» (m.start + offset + raw) end → offset ≤ k → m.start + k < end
    → is_met extents raw k m ≡ true
met_up_to extents raw offset end k m reaches le lt =
    any_weaker (λ e. starts_before m.«module» (m.start + offset + raw) e && passes (m.start + k) e) (λ e. (e.«module» == m.«module») && ranges_meet (m.start + k) raw e.start e.length) extents
    (λ e h.
    let parts = and_parts (starts_before m.«module» (m.start + offset + raw) e) (passes (m.start + k) e) h in
    let starts = and_parts (e.«module» == m.«module») (nat_lt e.start (m.start + offset + raw)) parts.0 in
    rw (starts.0, parts.1, later_bytes e.start m.start offset raw k le starts.1) refl)
    (reaches (m.start + k) ∙ lt-ltb (m.start + k) end lt)

-- an element of the list passes, for any default
pub any_at_each : {X : Type 0} (p : X → Bool) (xs : List X) (i : ℕ) → i < length xs → ((d : X) → p (get_or xs i d) ≡ true) → list_any p xs ≡ true
any_at_each p [] i lt h = absurd (omega arith)
any_at_each p (x ∷ xs) i lt h = list_any_at p (x ∷ xs) i x lt (h x)

-- no element passes
pub any_none_at : {X : Type 0} (p : X → Bool) (xs : List X) → ((k : ℕ) (d : X) → k < length xs → p (get_or xs k d) ≡ false) → list_any p xs ≡ false
any_none_at p [] none = refl
any_none_at p (x ∷ xs) none = rw (none 0 x (omega arith)) (any_none_at p xs (λ k d lt. none (suc k) d (omega arith)))
