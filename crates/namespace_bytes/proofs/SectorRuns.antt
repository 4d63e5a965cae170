-- Runs of bytes of a namespace that sectors' bytes are put into.
use Rattle.std.proofs.Common.{◌≡◌, ◌≢◌, ℕ, ◌+◌, ◌-◌, ◌*◌, ◌/◌, ◌<◌, ◌≤◌, List, [], ◌∷◌, length, map, take, drop, get_or, None, sym, ap, ◌∙◌, subst, arith}
use Rattle.std.specs.Prelude.{nat_lt, sum_by}
use Rattle.std.proofs.lemmas.List.{drop-map, drop_all, drop_more, length-drop, length-map, length-take-le}
use Rattle.std.proofs.lemmas.List.Sums.{sum_by-cons}
use Rattle.arena_layout.specs.Layout.{IsLayout}
use Rattle.arena_open.specs.declared.opened.Opened.{Opened}
use Rattle.arena_open.specs.Chain.{Link}
use Rattle.namespace_bytes.specs.declared.block_owners.ArenaOwners.{ArenaOwners}
use Rattle.namespace_bytes.specs.Putting.{link_bytes}
use Rattle.namespace_bytes.specs.SectorBytes.{arena_byte, data_byte, map_byte, owner_of, sector_byte}
use Rattle.namespace_bytes.specs.Changed.{IsFree, changed_front}
use Rattle.namespace_bytes.specs.SectorPut.{link_of}
use Rattle.namespace_bytes.proofs.SectorPuts.{front_as, front_kept, if_false, if_true, less, not_less, owned_byte}

-- ---- an arena

module _ (o : Opened) (ok : IsLayout o.info.layout) (bytes : List ℕ) where
  ends_in_order : (o.info.layout.data_off ≤ o.info.layout.map_off) × (o.info.layout.map_off ≤ o.info.layout.flog_off)
  ends_in_order = (omega (arith, ok.after_data), omega (arith, ok.after_map))

  in_info : (i old : ℕ) → i < o.info.layout.data_off → arena_byte o bytes i old ≡ old
  in_info i old lt = if_true (nat_lt i o.info.layout.data_off) old _ (less i o.info.layout.data_off lt)

  in_data : (i old : ℕ) → o.info.layout.data_off ≤ i → i < o.info.layout.map_off → arena_byte o bytes i old ≡ data_byte o bytes (i - o.info.layout.data_off) old
  in_data i old from to =
      if_false (nat_lt i o.info.layout.data_off) old _ (not_less i o.info.layout.data_off from)
      ∙ if_true (nat_lt i o.info.layout.map_off) (data_byte o bytes (i - o.info.layout.data_off) old) _ (less i o.info.layout.map_off to)

  in_map : (i old : ℕ) → o.info.layout.map_off ≤ i → i < o.info.layout.flog_off → arena_byte o bytes i old ≡ map_byte o (i - o.info.layout.map_off) old
  in_map i old from to =
      if_false (nat_lt i o.info.layout.data_off) old _ (not_less i o.info.layout.data_off (omega (arith, from, ends_in_order.0)))
      ∙ if_false (nat_lt i o.info.layout.map_off) (data_byte o bytes (i - o.info.layout.data_off) old) _ (not_less i o.info.layout.map_off from)
      ∙ if_true (nat_lt i o.info.layout.flog_off) (map_byte o (i - o.info.layout.map_off) old) old (less i o.info.layout.flog_off to)

  in_log : (i old : ℕ) → o.info.layout.flog_off ≤ i → arena_byte o bytes i old ≡ old
  in_log i old from =
      if_false (nat_lt i o.info.layout.data_off) old _ (not_less i o.info.layout.data_off (omega (arith, from, ends_in_order.0, ends_in_order.1)))
      ∙ if_false (nat_lt i o.info.layout.map_off) (data_byte o bytes (i - o.info.layout.data_off) old) _ (not_less i o.info.layout.map_off (omega (arith, from, ends_in_order.1)))
      ∙ if_false (nat_lt i o.info.layout.flog_off) (map_byte o (i - o.info.layout.map_off) old) old (not_less i o.info.layout.flog_off from)

  pub info_kept : (at size : ℕ) (row : List ℕ) → at + size ≤ o.info.layout.data_off → size ≤ length row → row ≡ changed_front (arena_byte o bytes) at size row
  info_kept at size row inside le = front_kept (arena_byte o bytes) at size row le (λ k old small. in_info (at + k) old (omega (arith, small, inside)))

  pub data_run : (at size : ℕ) (row : List ℕ) → o.info.layout.data_off ≤ at → at + size ≤ o.info.layout.map_off → size ≤ length row
      → changed_front (data_byte o bytes) (at - o.info.layout.data_off) size row ≡ changed_front (arena_byte o bytes) at size row
  data_run at size row from to le =
      front_as (arena_byte o bytes) (data_byte o bytes) at (at - o.info.layout.data_off) size row le
      (λ k old small. ap (λ (i : ℕ). data_byte o bytes i old) (let e : at - o.info.layout.data_off + k ≡ at + k - o.info.layout.data_off = omega (arith, from) in e)
      ∙ sym (in_data (at + k) old (omega (arith, from)) (omega (arith, small, to))))

  pub map_run : (at size : ℕ) (row : List ℕ) → o.info.layout.map_off ≤ at → at + size ≤ o.info.layout.flog_off → size ≤ length row
      → changed_front (map_byte o) (at - o.info.layout.map_off) size row ≡ changed_front (arena_byte o bytes) at size row
  map_run at size row from to le =
      front_as (arena_byte o bytes) (map_byte o) at (at - o.info.layout.map_off) size row le
      (λ k old small. ap (λ (i : ℕ). map_byte o i old) (let e : at - o.info.layout.map_off + k ≡ at + k - o.info.layout.map_off = omega (arith, from) in e)
      ∙ sym (in_map (at + k) old (omega (arith, from)) (omega (arith, small, to))))

  pub log_kept : (at size : ℕ) (row : List ℕ) → o.info.layout.flog_off ≤ at → size ≤ length row → row ≡ changed_front (arena_byte o bytes) at size row
  log_kept at size row from le = front_kept (arena_byte o bytes) at size row le (λ k old small. in_log (at + k) old (omega (arith, from)))

  -- sectors that fill their blocks
  pub data_covered : (at count : ℕ) → o.info.layout.sector ≡ o.info.layout.inner → o.info.layout.data_off ≤ at → at + count ≤ o.info.layout.map_off
      → ((k : ℕ) → k < count → owner_of o ((at - o.info.layout.data_off + k) / o.info.layout.inner) ≢ None) → IsFree (arena_byte o bytes) at count
  data_covered at count full from to owned k old old' small =
      let place : at + k - o.info.layout.data_off ≡ at - o.info.layout.data_off + k = omega (arith, from) in
      in_data (at + k) old (omega (arith, from)) (omega (arith, small, to))
      ∙ ap (λ (i : ℕ). data_byte o bytes i old) place
      ∙ owned_byte o ok bytes (at - o.info.layout.data_off + k) old old' full (owned k small)
      ∙ sym (in_data (at + k) old' (omega (arith, from)) (omega (arith, small, to)) ∙ ap (λ (i : ℕ). data_byte o bytes i old') place)

-- ---- the arenas, one after another

pub links_more : (arenas : List ArenaOwners) (links : List Link) (k : ℕ) (a : ArenaOwners) → map link_of arenas ≡ links → a ≡ get_or arenas k a → k < length arenas
    → drop k links ≡ link_of a ∷ drop (k + 1) links
links_more arenas links k a are is lt =
    subst (λ (ls : List Link). drop k ls ≡ link_of a ∷ drop (k + 1) ls) are
    (drop-map link_of k arenas ∙ ap (map link_of) (drop_more arenas k a lt)
    ∙ ap (λ (x : ArenaOwners). link_of x ∷ map link_of (drop (k + 1) arenas)) (sym is)
    ∙ ap (λ (ls : List Link). link_of a ∷ ls) (sym (drop-map link_of (k + 1) arenas)))

pub links_end : (arenas : List ArenaOwners) (links : List Link) (k : ℕ) → map link_of arenas ≡ links → length arenas ≤ k → drop k links ≡ []
links_end arenas links k are past = drop_all k links (omega (arith, past, length-map arenas link_of, ap length are))

-- the bytes of the next arena's sectors
module _ (links rest : List Link) (bytes : List ℕ) (first k : ℕ) (link : Link) (is : drop k links ≡ link ∷ rest) (left : first + sum_by link_bytes (drop k links) ≡ length bytes) where
  sum_is : sum_by link_bytes (drop k links) ≡ link_bytes link + sum_by link_bytes rest
  sum_is = ap (sum_by link_bytes) is ∙ sum_by-cons link_bytes link rest

  pub room : first + link_bytes link ≤ length bytes
  room = omega (arith, left, sum_is)

  pub part_long : length (take (link_bytes link) (drop first bytes)) ≡ link_bytes link
  part_long = length-take-le (link_bytes link) (drop first bytes) (omega (arith, length-drop first bytes, room))

  pub next_left : first + link_bytes link + sum_by link_bytes rest ≡ length bytes
  next_left = omega (arith, left, sum_is)

-- the arenas that are left, and the bytes of their sectors, say what the bytes from `from` on become
module _ (links rest : List Link) (bytes others : List ℕ) (from k : ℕ) (link : Link) (is : drop k links ≡ link ∷ rest)
    (same : (i old : ℕ) → from ≤ i → sector_byte (drop k links) others i old ≡ sector_byte links bytes i old) where
  here : (i old : ℕ) → from ≤ i → sector_byte links bytes i old ≡ sector_byte (link ∷ rest) others i old
  here i old le = sym (same i old le) ∙ ap (λ (ls : List Link). sector_byte ls others i old) is

  -- before the arena
  pub gap_kept : (size : ℕ) (row : List ℕ) → from + size ≤ 8 * link.at → size ≤ length row → row ≡ changed_front (sector_byte links bytes) from size row
  gap_kept size row before le =
      front_kept (sector_byte links bytes) from size row le (λ j old small.
      here (from + j) old (omega arith)
      ∙ if_true (nat_lt (from + j) (8 * link.at + link.opened.info.layout.size)) _ (sector_byte rest (drop (link_bytes link) others) (from + j) old)
      (less (from + j) (8 * link.at + link.opened.info.layout.size) (omega (arith, small, before)))
      ∙ if_true (nat_lt (from + j) (8 * link.at)) old _ (less (from + j) (8 * link.at) (omega (arith, small, before))))

  -- inside of it
  inside : (j old : ℕ) → 8 * link.at ≤ from → from - 8 * link.at + j < link.opened.info.layout.size
      → sector_byte links bytes (from + j) old ≡ arena_byte link.opened (take (link_bytes link) others) (from - 8 * link.at + j) old
  inside j old start end =
      here (from + j) old (omega arith)
      ∙ if_true (nat_lt (from + j) (8 * link.at + link.opened.info.layout.size)) _ (sector_byte rest (drop (link_bytes link) others) (from + j) old)
      (less (from + j) (8 * link.at + link.opened.info.layout.size) (omega (arith, start, end)))
      ∙ if_false (nat_lt (from + j) (8 * link.at)) old _ (not_less (from + j) (8 * link.at) (omega (arith, start)))
      ∙ ap (λ (i : ℕ). arena_byte link.opened (take (link_bytes link) others) i old) (let e : from + j - 8 * link.at ≡ from - 8 * link.at + j = omega (arith, start) in e)

  pub arena_run : (size : ℕ) (row : List ℕ) → 8 * link.at ≤ from → from - 8 * link.at + size ≤ link.opened.info.layout.size → size ≤ length row
      → changed_front (arena_byte link.opened (take (link_bytes link) others)) (from - 8 * link.at) size row ≡ changed_front (sector_byte links bytes) from size row
  arena_run size row start end le =
      front_as (sector_byte links bytes) (arena_byte link.opened (take (link_bytes link) others)) from (from - 8 * link.at) size row le
      (λ j old small. sym (inside j old start (omega (arith, small, end))))

  pub arena_covered : (count : ℕ) → 8 * link.at ≤ from → from - 8 * link.at + count ≤ link.opened.info.layout.size
      → IsFree (arena_byte link.opened (take (link_bytes link) others)) (from - 8 * link.at) count → IsFree (sector_byte links bytes) from count
  arena_covered count start end covered j old old' small =
      inside j old start (omega (arith, small, end)) ∙ covered j old old' small ∙ sym (inside j old' start (omega (arith, small, end)))

  -- behind it
  pub next_same : 8 * link.at + link.opened.info.layout.size ≤ from → (i old : ℕ) → from ≤ i → sector_byte rest (drop (link_bytes link) others) i old ≡ sector_byte links bytes i old
  next_same past i old le =
      sym (here i old le ∙ if_false (nat_lt i (8 * link.at + link.opened.info.layout.size)) _ (sector_byte rest (drop (link_bytes link) others) i old)
      (not_less i (8 * link.at + link.opened.info.layout.size) (omega (arith, past, le))))

-- behind all arenas
pub end_kept : (links : List Link) (bytes others : List ℕ) (from k size : ℕ) (row : List ℕ) → drop k links ≡ []
    → ((i old : ℕ) → from ≤ i → sector_byte (drop k links) others i old ≡ sector_byte links bytes i old) → size ≤ length row → row ≡ changed_front (sector_byte links bytes) from size row
end_kept links bytes others from k size row none same le =
    front_kept (sector_byte links bytes) from size row le (λ j old small.
    sym (same (from + j) old (omega arith)) ∙ ap (λ (ls : List Link). sector_byte ls others (from + j) old) none)
