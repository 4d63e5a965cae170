-- No two places of an arena share a word, and all lie inside it.
use Rattle.std.proofs.Common.{◌≡◌, ℕ, ◌+◌, ◌*◌, ◌/◌, ◌%◌, ◌<◌, ◌≤◌, sym, ap, ◌∙◌, inl, inr, arith}
use Rattle.std.proofs.Math.Nat.{mul-le-mul_left}
use Rattle.std.proofs.lemmas.Bool.{cases_order}
use Rattle.arena_layout.specs.declared.layout.Layout.{Layout}
use Rattle.arena_layout.specs.Layout.{IsLayout}
use Rattle.arena_open.specs.Places.{Place, info_word, block_word, map_word, log_word, backup_word, IsAt, PlacesApart, PlacesInside}

-- ---- the offsets of the areas, in words

pub record AreOrdered (l : Layout) : Type 0 where
  pub after_info : 512 ≤ l.data_off / 8
  pub after_data : l.data_off / 8 + l.internal * (l.inner / 8) ≤ l.map_off / 8
  pub after_map : 2 * (l.map_off / 8) + l.external ≤ 2 * (l.flog_off / 8)
  pub after_log : l.flog_off / 8 + 8 * l.lanes ≤ l.info_off / 8
  pub size_is : l.info_off / 8 + 512 ≡ l.size / 8

eighths : (n m d e : ℕ) → m ≡ 8 * (m / 8) → d + n * m ≤ e → d % 8 ≡ 0 → e % 8 ≡ 0 → d / 8 + n * (m / 8) ≤ e / 8
eighths n m d e whole le dw ew =
    let prod : n * m ≡ 8 * (n * (m / 8)) = ap (λ (x : ℕ). n * x) whole ∙ omega arith in
    omega (arith, prod)

pub ordered : (l : Layout) → IsLayout l → AreOrdered l
ordered l ok = record {
  after_info = omega (arith, ok.after_info);
  after_data = eighths l.internal l.inner l.data_off l.map_off (omega (arith, ok.inner_whole)) ok.after_data (omega (arith, ok.data_whole)) (omega (arith, ok.map_whole));
  after_map = omega (arith, ok.after_map, ok.map_whole, ok.flog_whole);
  after_log = omega (arith, ok.after_flog, ok.flog_whole, ok.info_whole);
  size_is = omega (arith, ok.size_is, ok.info_whole);
}

-- ---- the area of a place

in_info : (l : Layout) → IsLayout l → (k i : ℕ) → IsAt l (info_word k) i → i < 512
in_info l ok k i a = omega (arith, a.there, a.is)

more_blocks : (n m b k : ℕ) → b < n → k < m → b * m + k < n * m
more_blocks n m b k lt inside =
    let up : m * (b + 1) ≤ m * n = mul-le-mul_left m (let le : b + 1 ≤ n = omega arith in le) in
    omega (arith, up)

in_block : (l : Layout) → IsLayout l → (b k i : ℕ) → IsAt l (block_word b k) i → (l.data_off / 8 ≤ i) × (i < l.map_off / 8)
in_block l ok b k i a =
    let more : b * (l.inner / 8) + k < l.internal * (l.inner / 8) = more_blocks l.internal (l.inner / 8) b k a.there.0 a.there.1 in
    (omega (arith, a.is), omega (arith, a.is, more, (ordered l ok).after_data))

in_map : (l : Layout) → IsLayout l → (w i : ℕ) → IsAt l (map_word w) i → (l.map_off / 8 ≤ i) × (i < l.flog_off / 8)
in_map l ok w i a = (omega (arith, a.is), omega (arith, a.is, a.there, (ordered l ok).after_map))

in_log : (l : Layout) → IsLayout l → (lane k i : ℕ) → IsAt l (log_word lane k) i → (l.flog_off / 8 ≤ i) × (i < l.info_off / 8)
in_log l ok lane k i a = (omega (arith, a.is), omega (arith, a.is, a.there.0, a.there.1, (ordered l ok).after_log))

in_backup : (l : Layout) → IsLayout l → (k i : ℕ) → IsAt l (backup_word k) i → (l.info_off / 8 ≤ i) × (i < l.size / 8)
in_backup l ok k i a = (omega (arith, a.is), omega (arith, a.is, a.there, (ordered l ok).size_is))

-- ---- apart

-- a number has one quotient and one remainder
pub one_of : (m b k b' k' : ℕ) → k < m → k' < m → b * m + k ≡ b' * m + k' → (b ≡ b') × (k ≡ k')
one_of m b k b' k' in' in'' same = elim (cases_order b b') [
  | inl e ↦ (e, omega (arith, ap (λ (x : ℕ). x * m) e, same))
  | inr (inl lt) ↦ absurd (let up : m * (b + 1) ≤ m * b' = mul-le-mul_left m (let le : b + 1 ≤ b' = omega arith in le) in omega (arith, up, same, in', in''))
  | inr (inr gt) ↦ absurd (let up : m * (b' + 1) ≤ m * b = mul-le-mul_left m (let le : b' + 1 ≤ b = omega arith in le) in omega (arith, up, same, in', in''))
]

both : (f : ℕ → ℕ → Place) → {a b c d : ℕ} → a ≡ c → b ≡ d → f a b ≡ f c d
both f p q = λ i. f (p i) (q i)

pub places_apart : PlacesApart
places_apart l ok (info_word k) (info_word k') i a c = ap info_word (a.is ∙ sym c.is)
places_apart l ok (info_word k) (block_word b' k') i a c = absurd (omega (arith, ordered l ok, in_info l ok k i a, in_block l ok b' k' i c))
places_apart l ok (info_word k) (map_word w') i a c = absurd (omega (arith, ordered l ok, in_info l ok k i a, in_map l ok w' i c))
places_apart l ok (info_word k) (log_word lane' k') i a c = absurd (omega (arith, ordered l ok, in_info l ok k i a, in_log l ok lane' k' i c))
places_apart l ok (info_word k) (backup_word k') i a c = absurd (omega (arith, ordered l ok, in_info l ok k i a, in_backup l ok k' i c))
places_apart l ok (block_word b k) (info_word k') i a c = absurd (omega (arith, ordered l ok, in_block l ok b k i a, in_info l ok k' i c))
places_apart l ok (block_word b k) (block_word b' k') i a c = both block_word (let p = one_of (l.inner / 8) b k b' k' a.there.1 c.there.1 (omega (arith, a.is, c.is)) in p.0) (let p = one_of (l.inner / 8) b k b' k' a.there.1 c.there.1 (omega (arith, a.is, c.is)) in p.1)
places_apart l ok (block_word b k) (map_word w') i a c = absurd (omega (arith, ordered l ok, in_block l ok b k i a, in_map l ok w' i c))
places_apart l ok (block_word b k) (log_word lane' k') i a c = absurd (omega (arith, ordered l ok, in_block l ok b k i a, in_log l ok lane' k' i c))
places_apart l ok (block_word b k) (backup_word k') i a c = absurd (omega (arith, ordered l ok, in_block l ok b k i a, in_backup l ok k' i c))
places_apart l ok (map_word w) (info_word k') i a c = absurd (omega (arith, ordered l ok, in_map l ok w i a, in_info l ok k' i c))
places_apart l ok (map_word w) (block_word b' k') i a c = absurd (omega (arith, ordered l ok, in_map l ok w i a, in_block l ok b' k' i c))
places_apart l ok (map_word w) (map_word w') i a c = ap map_word (omega (arith, a.is, c.is))
places_apart l ok (map_word w) (log_word lane' k') i a c = absurd (omega (arith, ordered l ok, in_map l ok w i a, in_log l ok lane' k' i c))
places_apart l ok (map_word w) (backup_word k') i a c = absurd (omega (arith, ordered l ok, in_map l ok w i a, in_backup l ok k' i c))
places_apart l ok (log_word lane k) (info_word k') i a c = absurd (omega (arith, ordered l ok, in_log l ok lane k i a, in_info l ok k' i c))
places_apart l ok (log_word lane k) (block_word b' k') i a c = absurd (omega (arith, ordered l ok, in_log l ok lane k i a, in_block l ok b' k' i c))
places_apart l ok (log_word lane k) (map_word w') i a c = absurd (omega (arith, ordered l ok, in_log l ok lane k i a, in_map l ok w' i c))
places_apart l ok (log_word lane k) (log_word lane' k') i a c = both log_word (let p = one_of 8 lane k lane' k' a.there.1 c.there.1 (omega (arith, a.is, c.is)) in p.0) (let p = one_of 8 lane k lane' k' a.there.1 c.there.1 (omega (arith, a.is, c.is)) in p.1)
places_apart l ok (log_word lane k) (backup_word k') i a c = absurd (omega (arith, ordered l ok, in_log l ok lane k i a, in_backup l ok k' i c))
places_apart l ok (backup_word k) (info_word k') i a c = absurd (omega (arith, ordered l ok, in_backup l ok k i a, in_info l ok k' i c))
places_apart l ok (backup_word k) (block_word b' k') i a c = absurd (omega (arith, ordered l ok, in_backup l ok k i a, in_block l ok b' k' i c))
places_apart l ok (backup_word k) (map_word w') i a c = absurd (omega (arith, ordered l ok, in_backup l ok k i a, in_map l ok w' i c))
places_apart l ok (backup_word k) (log_word lane' k') i a c = absurd (omega (arith, ordered l ok, in_backup l ok k i a, in_log l ok lane' k' i c))
places_apart l ok (backup_word k) (backup_word k') i a c = ap backup_word (omega (arith, a.is, c.is))

pub places_inside : PlacesInside
places_inside l ok (info_word k) i a = omega (arith, in_info l ok k i a, ordered l ok)
places_inside l ok (block_word b k) i a = omega (arith, in_block l ok b k i a, ordered l ok)
places_inside l ok (map_word w) i a = omega (arith, in_map l ok w i a, ordered l ok)
places_inside l ok (log_word lane k) i a = omega (arith, in_log l ok lane k i a, ordered l ok)
places_inside l ok (backup_word k) i a = omega (arith, in_backup l ok k i a, ordered l ok)
