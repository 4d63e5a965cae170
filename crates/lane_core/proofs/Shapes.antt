-- The shape of a layout.
use Rattle.std.proofs.Common.{◌≡◌, ℕ, ◌+◌, ◌*◌, ◌/◌, ◌<◌, ◌≤◌, ap, ◌∙◌, subst, arith}
use Rattle.std.specs.Prelude.{IsTrue}
use Rattle.arena_layout.specs.declared.layout.Layout.{Layout}
use Rattle.arena_layout.specs.Layout.{IsLayout, is_sector}
use Rattle.lane_core.specs.Places.{IsShape, shape_of}

eights : (n i : ℕ) → n * (8 * i) ≡ 8 * (n * i)
eights n i = grind arith

short_sector : (bytes : ℕ) → IsTrue (is_sector bytes) → bytes ≤ 4224
unfolding is_sector
short_sector bytes h = grind arith

pub long_sector : (bytes : ℕ) → IsTrue (is_sector bytes) → 0 < bytes / 8
unfolding is_sector
long_sector bytes h = grind arith

pub shape_is : (l : Layout) → IsLayout l → IsShape (shape_of l)
shape_is l h =
    let inner : l.inner ≡ 8 * (l.inner / 8) = omega (arith, h.inner_whole) in
    let blocks : l.data_off + 8 * ((l.external + l.lanes) * (l.inner / 8)) ≤ l.map_off = subst (λ p. l.data_off + p ≤ l.map_off) (ap (λ i. l.internal * i) inner ∙ ap (λ n. n * (8 * (l.inner / 8))) h.internal_is ∙ eights (l.external + l.lanes) (l.inner / 8)) h.after_data in
    record {
      wide = omega (arith, h.inner_enough);
      blocks = omega (arith, blocks, h.data_whole, h.map_whole);
      map = omega (arith, h.after_map, h.map_whole, h.flog_whole);
      log = omega (arith, h.after_flog, h.flog_whole, h.size_is);
      few = omega (arith, h.internal_is, h.internal_few);
      short = omega (arith, short_sector l.sector h.sector);
      small = omega (arith, h.size_high);
    }
