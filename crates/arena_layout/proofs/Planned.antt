-- A plan is a layout.
use Rattle.std.proofs.Common.{◌≡◌, ℕ, ◌+◌, ◌-◌, ◌*◌, ◌%◌, ◌^◌, ◌≤◌, Bool, true, false, not, leb, ltb, [], ◌∷◌, Result, Ok, Err, refl, sym, subst, arith}
use Rattle.std.specs.Prelude.{IfOk}
use Rattle.std.proofs.lemmas.Bool.{and_parts, leb-true, ltb-false}
use Rattle.nvd_words.specs.Checks.{checked}
use Rattle.arena_layout.specs.declared.layout.Layout.{Layout}
use Rattle.arena_layout.specs.declared.layout.LayoutFault.{LayoutFault}
use Rattle.arena_layout.specs.declared.layout.LayoutFault.TheVariants.{Sector, Free, TooSmall, TooLarge}
use Rattle.arena_layout.specs.Layout.{is_sector, least_size, greatest_size, IsLayout}
use Rattle.arena_layout.specs.Plan.{whole_size, log_size, available_of, inner_of, internal_of, map_size, plan_of, is_lane_count, planned}
use Rattle.arena_layout.proofs.Sectors.{blocks}

-- ---- the sizes

record Sizes (size lanes : ℕ) : Type 0 where
  available_whole : available_of size lanes % 4096 ≡ 0
  available_low : 16752640 ≤ available_of size lanes
  available_high : available_of size lanes ≤ greatest_size
  log_whole : log_size lanes % 4096 ≡ 0
  log_enough : 64 * lanes ≤ log_size lanes
  all : available_of size lanes + log_size lanes + 8192 ≡ whole_size size
  whole_low : least_size ≤ whole_size size
  whole_high : whole_size size ≤ greatest_size

sizes : (size lanes : ℕ) → lanes ≤ 256 → least_size ≤ size → size ≤ greatest_size → Sizes size lanes
unfolding available_of log_size whole_size
sizes size lanes few low high = record {
  available_whole = omega arith;
  available_low = omega arith;
  available_high = omega arith;
  log_whole = omega arith;
  log_enough = omega arith;
  all = omega arith;
  whole_low = omega arith;
  whole_high = omega arith;
}

record MapSize (external : ℕ) : Type 0 where
  whole : map_size external % 4096 ≡ 0
  enough : 4 * external ≤ map_size external
  tight : map_size external ≤ 4 * external + 4095

map_is : (external : ℕ) → MapSize external
unfolding map_size
map_is external = record { whole = omega arith; enough = omega arith; tight = omega arith }

pub plan_is : (size sector lanes : ℕ) → is_sector sector ≡ true → 1 ≤ lanes → lanes ≤ 256 → least_size ≤ size → size ≤ greatest_size → IsLayout (plan_of size sector lanes)
unfolding plan_of
plan_is size sector lanes is some few low high =
    let available : ℕ = available_of size lanes in
    let internal : ℕ = internal_of available sector in
    let external : ℕ = internal - lanes in
    let s = sizes size lanes few low high in
    let b = blocks sector is in
    let m = map_is external in
    let b-some : 257 ≤ internal = b.some available s.available_low in
    let b-few : internal ≤ 2 ^ 30 = b.few available s.available_high in
    let fits : internal * inner_of sector + 4 * internal + 4096 ≤ available = b.fits available s.available_low in
    let tight : map_size external ≤ 4 * external + 4095 = m.tight in
    let enough : 4 * external ≤ map_size external = m.enough in
    let whole : map_size external % 4096 ≡ 0 = m.whole in
    let all : available + log_size lanes + 8192 ≡ whole_size size = s.all in
    let inside : map_size external ≤ 4096 + available = omega (arith, fits, tight) in
    record {
      sector = is;
      inner_whole = b.inner_whole;
      inner_enough = b.inner_enough;
      lanes_some = some;
      lanes_few = few;
      external_some = omega (arith, b-some, few);
      internal_is = omega (arith, b-some, few);
      internal_few = b-few;
      data_whole = refl;
      map_whole = omega (arith, whole, s.available_whole, inside);
      flog_whole = omega (arith, whole, s.available_whole, inside);
      info_whole = omega (arith, whole, s.available_whole, s.log_whole, inside);
      after_info = omega arith;
      after_data = omega (arith, fits, tight, inside);
      after_map = omega (arith, enough);
      after_flog = omega (arith, s.log_enough);
      size_is = refl;
      size_low = omega (arith, all, inside, s.whole_low);
      size_high = omega (arith, all, inside, s.whole_high);
    }

-- ---- the planned layout

four : {A F : Type 0} (v w : A) (a b c d : F) (p q r s : Bool) → checked v ((a, p) ∷ (b, q) ∷ (c, r) ∷ (d, s) ∷ []) ≡ Ok w
    → (p ≡ false) × (q ≡ false) × (r ≡ false) × (s ≡ false) × (v ≡ w)
unfolding checked
four v w a b c d true q r s e = cc
four v w a b c d false true r s e = cc
four v w a b c d false false true s e = cc
four v w a b c d false false false true e = cc
four v w a b c d false false false false e = (refl, refl, refl, refl, cc)

not_false : (b : Bool) → not b ≡ false → b ≡ true
not_false true e = refl
not_false false e = cc

lanes_are : (lanes : ℕ) → is_lane_count lanes ≡ true → (1 ≤ lanes) × (lanes ≤ 256)
unfolding is_lane_count
lanes_are lanes e = let p = and_parts (leb 1 lanes) (leb lanes 256) e in (leb-true 1 lanes p.0, leb-true lanes 256 p.1)

pub planned_is : (size sector lanes : ℕ) (r : Result Layout LayoutFault) → r ≡ planned size sector lanes → IfOk r IsLayout
planned_is size sector lanes (Ok l) e =
    let t = four (plan_of size sector lanes) l (Sector sector) (Free lanes) (TooSmall size) (TooLarge size)
    (not (is_sector sector)) (not (is_lane_count lanes)) (ltb size least_size) (ltb greatest_size size) (sym e) in
    let lanes' = lanes_are lanes (not_false (is_lane_count lanes) t.1) in
    subst IsLayout t.4 (plan_is size sector lanes (not_false (is_sector sector) t.0) lanes'.0 lanes'.1 (ltb-false size least_size t.2) (ltb-false greatest_size size t.3))
planned_is size sector lanes (Err f) e = tt
