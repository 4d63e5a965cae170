-- Numbers below n that are told apart name each number below n.
use Rattle.std.proofs.Common.{◌≡◌, ℕ, ◌+◌, ◌-◌, ◌<◌, ◌≤◌, ◌≢◌, ◌==◌, ◌⊎◌, inl, inr, zero, suc, sym, ◌∙◌, subst, arith, if◌then◌else◌, nat_lt}
use Rattle.lane_core.specs.Areas.{Geometry}
use Rattle.lane_core.specs.Cut.{EachOnce}
use Rattle.lane_core.proofs.Put.{same_or_not}

-- f, but k if f is m
turned : ℕ → ℕ → (ℕ → ℕ) → ℕ → ℕ
turned m k f i = if f i == m then k else f i

turned-hit : (m k : ℕ) (f : ℕ → ℕ) (i : ℕ) → f i ≡ m → turned m k f i ≡ k
unfolding turned
turned-hit m k f i e = grind arith

turned-miss : (m k : ℕ) (f : ℕ → ℕ) (i : ℕ) → f i ≢ m → turned m k f i ≡ f i
unfolding turned
turned-miss m k f i e = grind arith

pub reached : (n : ℕ) (f : ℕ → ℕ) → ((i : ℕ) → i < n → f i < n) → ((i j : ℕ) → i < n → j < n → f i ≡ f j → i ≡ j) → (y : ℕ) → y < n → (x : ℕ) × (x < n) × (f x ≡ y)
reached zero f inside once y ly = absurd (omega arith)
reached (suc m) f inside once y ly =
    elim (same_or_not (f m) m) [
      | inl e ↦ elim (same_or_not y m) [
        | inl q ↦ (m, omega arith, e ∙ sym q)
        | inr ne ↦ let r = reached m f (λ i li. below i li (λ q. apart i li (q ∙ sym e))) (λ i j li lj. once i j (omega arith) (omega arith)) y (omega arith) in (r.0, omega (arith, r.1), r.2)
      ]
      | inr nm ↦
          let back : (z : ℕ) → z < m → (x : ℕ) × (x < m) × (turned m (f m) f x ≡ z) = reached m (turned m (f m) f) (t_in nm) t_once in
          elim (same_or_not y (f m)) [
            | inl q ↦ (m, omega arith, sym q)
            | inr nk ↦ elim (same_or_not y m) [
              | inl q ↦ let r = back (f m) (low nm) in elim (same_or_not (f r.0) m) [
                | inl h ↦ (r.0, omega (arith, r.1), h ∙ sym q)
                | inr h ↦ absurd (apart r.0 r.1 (sym (turned-miss m (f m) f r.0 h) ∙ r.2))
              ]
              | inr ne ↦ let r = back y (omega arith) in elim (same_or_not (f r.0) m) [
                | inl h ↦ absurd (nk (sym r.2 ∙ turned-hit m (f m) f r.0 h))
                | inr h ↦ (r.0, omega (arith, r.1), sym (turned-miss m (f m) f r.0 h) ∙ r.2)
              ]
            ]
          ]
    ]
  where
    apart : (i : ℕ) → i < m → f i ≡ f m → ⊥
    apart i li q = let z : i ≡ m = once i m (omega arith) (omega arith) q in omega arith

    below : (i : ℕ) → i < m → f i ≢ m → f i < m
    below i li ne = let b = inside i (omega arith) in omega arith

    low : f m ≢ m → f m < m
    low ne = let b = inside m (omega arith) in omega arith

    t_in : f m ≢ m → (i : ℕ) → i < m → turned m (f m) f i < m
    t_in ne i li = elim (same_or_not (f i) m) [
      | inl h ↦ subst (λ x. x < m) (sym (turned-hit m (f m) f i h)) (low ne)
      | inr h ↦ subst (λ x. x < m) (sym (turned-miss m (f m) f i h)) (below i li h)
    ]

    t_once : (i j : ℕ) → i < m → j < m → turned m (f m) f i ≡ turned m (f m) f j → i ≡ j
    t_once i j li lj q = elim (same_or_not (f i) m) [
      | inl h ↦ elim (same_or_not (f j) m) [
        | inl k ↦ once i j (omega arith) (omega arith) (h ∙ sym k)
        | inr k ↦ absurd (apart j lj (sym (turned-miss m (f m) f j k) ∙ sym q ∙ turned-hit m (f m) f i h))
      ]
      | inr h ↦ elim (same_or_not (f j) m) [
        | inl k ↦ absurd (apart i li (sym (turned-miss m (f m) f i h) ∙ q ∙ turned-hit m (f m) f j k))
        | inr k ↦ once i j (omega arith) (omega arith) (sym (turned-miss m (f m) f i h) ∙ q ∙ turned-miss m (f m) f j k)
      ]
    ]

-- the block of a place: the sectors' first, then the lanes'
block_at : Geometry → (ℕ → ℕ) → (ℕ → ℕ) → ℕ → ℕ
block_at g f h i = if nat_lt i g.sectors then f i else h (i - g.sectors)

at_sector : (g : Geometry) (f h : ℕ → ℕ) (i : ℕ) → i < g.sectors → block_at g f h i ≡ f i
unfolding block_at
at_sector g f h i lt = grind arith

at_lane : (g : Geometry) (f h : ℕ → ℕ) (i : ℕ) → g.sectors ≤ i → block_at g f h i ≡ h (i - g.sectors)
unfolding block_at
at_lane g f h i le = grind arith

split : (a b : ℕ) → (a < b) ⊎ (b ≤ a)
split a b = grind arith

-- each block is named, by a sector or a lane
pub each_named : (g : Geometry) (f h : ℕ → ℕ) → EachOnce g f h → (b : ℕ) → b < g.sectors + g.lanes → ((s : ℕ) × (s < g.sectors) × (f s ≡ b)) ⊎ ((l : ℕ) × (l < g.lanes) × (h l ≡ b))
each_named g f h e b lb =
    let r = reached (g.sectors + g.lanes) (block_at g f h) inside once b lb in
    elim (split r.0 g.sectors) [
      | inl lt ↦ inl (r.0, lt, sym (at_sector g f h r.0 lt) ∙ r.2)
      | inr le ↦ inr (r.0 - g.sectors, omega (arith, r.1, le), sym (at_lane g f h r.0 le) ∙ r.2)
    ]
  where
    inside : (i : ℕ) → i < g.sectors + g.lanes → block_at g f h i < g.sectors + g.lanes
    inside i li = elim (split i g.sectors) [
      | inl lt ↦ subst (λ x. x < g.sectors + g.lanes) (sym (at_sector g f h i lt)) (e.sector_in i lt)
      | inr le ↦ subst (λ x. x < g.sectors + g.lanes) (sym (at_lane g f h i le)) (e.lane_in (i - g.sectors) (omega arith))
    ]

    once : (i j : ℕ) → i < g.sectors + g.lanes → j < g.sectors + g.lanes → block_at g f h i ≡ block_at g f h j → i ≡ j
    once i j li lj q = elim (split i g.sectors) [
      | inl a ↦ elim (split j g.sectors) [
        | inl c ↦ e.sector_once i j a c (sym (at_sector g f h i a) ∙ q ∙ at_sector g f h j c)
        | inr c ↦ absurd (e.apart i (j - g.sectors) a (omega arith) (sym (at_sector g f h i a) ∙ q ∙ at_lane g f h j c))
      ]
      | inr a ↦ elim (split j g.sectors) [
        | inl c ↦ absurd (e.apart j (i - g.sectors) c (omega arith) (sym (at_sector g f h j c) ∙ sym q ∙ at_lane g f h i a))
        | inr c ↦ let z : i - g.sectors ≡ j - g.sectors = e.lane_once (i - g.sectors) (j - g.sectors) (omega arith) (omega arith) (sym (at_lane g f h i a) ∙ q ∙ at_lane g f h j c) in omega arith
      ]
    ]
