-- A layout passes each test, and what passes each test is a layout.
use Rattle.std.proofs.Common.{◌≡◌, ℕ, ◌+◌, ◌*◌, ◌%◌, ◌^◌, ◌<◌, ◌≤◌, Bool, true, false, eqb, leb, ltb, refl}
use Rattle.std.specs.Prelude.{◌&&◌, ◌||◌}
use Rattle.std.proofs.lemmas.Bool.{eq-eqb, le-leb, lt-ltb, and_from, and_parts, leb-true, eqb-true}
use Rattle.arena_layout.specs.declared.layout.Layout.{Layout}
use Rattle.arena_layout.specs.Layout.{least_size, greatest_size, IsLayout, has_sector, has_inner, has_lanes, has_blocks, has_pages, has_order, has_size, has_next}

pub record Passes (l : Layout) : Type 0 where
  pub sector : has_sector l ≡ true
  pub inner : has_inner l ≡ true
  pub lanes : has_lanes l ≡ true
  pub blocks : has_blocks l ≡ true
  pub pages : has_pages l ≡ true
  pub order : has_order l ≡ true

pub tests : (l : Layout) → IsLayout l → Passes l
unfolding has_sector has_inner has_lanes has_blocks has_pages has_order
tests l ok = record {
  sector = ok.sector;
  inner = and_from (eqb (l.inner % 64) 0) (leb l.sector l.inner) (eq-eqb (l.inner % 64) 0 ok.inner_whole) (le-leb l.sector l.inner ok.inner_enough);
  lanes = and_from (leb 1 l.lanes) (leb l.lanes 256) (le-leb 1 l.lanes ok.lanes_some) (le-leb l.lanes 256 ok.lanes_few);
  blocks = and_from (leb 1 l.external && eqb l.internal (l.external + l.lanes)) (leb l.internal (2 ^ 30))
      (and_from (leb 1 l.external) (eqb l.internal (l.external + l.lanes)) (le-leb 1 l.external ok.external_some) (eq-eqb l.internal (l.external + l.lanes) ok.internal_is))
      (le-leb l.internal (2 ^ 30) ok.internal_few);
  pages = and_from (eqb (l.data_off % 4096) 0 && eqb (l.map_off % 4096) 0 && eqb (l.flog_off % 4096) 0) (eqb (l.info_off % 4096) 0)
      (and_from (eqb (l.data_off % 4096) 0 && eqb (l.map_off % 4096) 0) (eqb (l.flog_off % 4096) 0)
      (and_from (eqb (l.data_off % 4096) 0) (eqb (l.map_off % 4096) 0) (eq-eqb (l.data_off % 4096) 0 ok.data_whole) (eq-eqb (l.map_off % 4096) 0 ok.map_whole))
      (eq-eqb (l.flog_off % 4096) 0 ok.flog_whole))
      (eq-eqb (l.info_off % 4096) 0 ok.info_whole);
  order = and_from (leb 4096 l.data_off && leb (l.data_off + l.internal * l.inner) l.map_off && leb (l.map_off + 4 * l.external) l.flog_off) (leb (l.flog_off + 64 * l.lanes) l.info_off)
      (and_from (leb 4096 l.data_off && leb (l.data_off + l.internal * l.inner) l.map_off) (leb (l.map_off + 4 * l.external) l.flog_off)
      (and_from (leb 4096 l.data_off) (leb (l.data_off + l.internal * l.inner) l.map_off) (le-leb 4096 l.data_off ok.after_info) (le-leb (l.data_off + l.internal * l.inner) l.map_off ok.after_data))
      (le-leb (l.map_off + 4 * l.external) l.flog_off ok.after_map))
      (le-leb (l.flog_off + 64 * l.lanes) l.info_off ok.after_flog);
}

pub size_passes : (l : Layout) (rest : ℕ) → IsLayout l → l.size ≤ rest → has_size l rest ≡ true
unfolding has_size
size_passes l rest ok inside =
    and_from (leb least_size l.size && leb l.size greatest_size) (leb l.size rest)
    (and_from (leb least_size l.size) (leb l.size greatest_size) (le-leb least_size l.size ok.size_low) (le-leb l.size greatest_size ok.size_high))
    (le-leb l.size rest inside)

next_by : (zero' same : Bool) (next size rest : ℕ) → next < rest → (zero' || same) ≡ true → (zero' || (same && ltb next rest)) ≡ true
next_by true same next size rest lt e = refl
next_by false true next size rest lt e = lt-ltb next rest lt
next_by false false next size rest lt e = e

pub next_passes : (l : Layout) (next rest : ℕ) → ((eqb next 0) || (eqb next l.size)) ≡ true → next < rest → has_next l next rest ≡ true
unfolding has_next
next_passes l next rest e lt = next_by (eqb next 0) (eqb next l.size) next l.size rest lt e

-- ---- the other way

layout_by : (l : Layout) (rest : ℕ) → Passes l → has_size l rest ≡ true → l.size ≡ l.info_off + 4096 → IsLayout l
unfolding has_sector has_inner has_lanes has_blocks has_pages has_order has_size
layout_by l rest ok size is =
    let inner = and_parts (eqb (l.inner % 64) 0) (leb l.sector l.inner) ok.inner in
    let lanes = and_parts (leb 1 l.lanes) (leb l.lanes 256) ok.lanes in
    let blocks = and_parts (leb 1 l.external && eqb l.internal (l.external + l.lanes)) (leb l.internal (2 ^ 30)) ok.blocks in
    let counts = and_parts (leb 1 l.external) (eqb l.internal (l.external + l.lanes)) blocks.0 in
    let pages = and_parts (eqb (l.data_off % 4096) 0 && eqb (l.map_off % 4096) 0 && eqb (l.flog_off % 4096) 0) (eqb (l.info_off % 4096) 0) ok.pages in
    let pages' = and_parts (eqb (l.data_off % 4096) 0 && eqb (l.map_off % 4096) 0) (eqb (l.flog_off % 4096) 0) pages.0 in
    let pages'' = and_parts (eqb (l.data_off % 4096) 0) (eqb (l.map_off % 4096) 0) pages'.0 in
    let order = and_parts (leb 4096 l.data_off && leb (l.data_off + l.internal * l.inner) l.map_off && leb (l.map_off + 4 * l.external) l.flog_off) (leb (l.flog_off + 64 * l.lanes) l.info_off) ok.order in
    let order' = and_parts (leb 4096 l.data_off && leb (l.data_off + l.internal * l.inner) l.map_off) (leb (l.map_off + 4 * l.external) l.flog_off) order.0 in
    let order'' = and_parts (leb 4096 l.data_off) (leb (l.data_off + l.internal * l.inner) l.map_off) order'.0 in
    let sizes = and_parts (leb least_size l.size && leb l.size greatest_size) (leb l.size rest) size in
    let sizes' = and_parts (leb least_size l.size) (leb l.size greatest_size) sizes.0 in
    record {
      sector = ok.sector;
      inner_whole = eqb-true (l.inner % 64) 0 inner.0;
      inner_enough = leb-true l.sector l.inner inner.1;
      lanes_some = leb-true 1 l.lanes lanes.0;
      lanes_few = leb-true l.lanes 256 lanes.1;
      external_some = leb-true 1 l.external counts.0;
      internal_is = eqb-true l.internal (l.external + l.lanes) counts.1;
      internal_few = leb-true l.internal (2 ^ 30) blocks.1;
      data_whole = eqb-true (l.data_off % 4096) 0 pages''.0;
      map_whole = eqb-true (l.map_off % 4096) 0 pages''.1;
      flog_whole = eqb-true (l.flog_off % 4096) 0 pages'.1;
      info_whole = eqb-true (l.info_off % 4096) 0 pages.1;
      after_info = leb-true 4096 l.data_off order''.0;
      after_data = leb-true (l.data_off + l.internal * l.inner) l.map_off order''.1;
      after_map = leb-true (l.map_off + 4 * l.external) l.flog_off order'.1;
      after_flog = leb-true (l.flog_off + 64 * l.lanes) l.info_off order.1;
      size_is = is;
      size_low = leb-true least_size l.size sizes'.0;
      size_high = leb-true l.size greatest_size sizes'.1;
    }

pub passed_is : (l : Layout) (rest : ℕ) → Passes l → has_size l rest ≡ true → l.size ≡ l.info_off + 4096 → IsLayout l
passed_is l rest ok size is = layout_by l rest ok size is

pub size_inside : (l : Layout) (rest : ℕ) → has_size l rest ≡ true → l.size ≤ rest
unfolding has_size
size_inside l rest e = leb-true l.size rest (and_parts (leb least_size l.size && leb l.size greatest_size) (leb l.size rest) e).1
