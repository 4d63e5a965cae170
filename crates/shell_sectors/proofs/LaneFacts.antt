-- What an arena that was read says of lane 0.
use Rattle.std.proofs.Common.{◌≡◌, ℕ, ◌-◌, ◌*◌, ◌<◌, length, ap, arith}
use Rattle.flog.specs.declared.half.Half.{Half}
use Rattle.flog.specs.Group.{other_side, place_of}
use Rattle.arena_layout.specs.declared.layout.Layout.{Layout}
use Rattle.arena_open.specs.Chain.{Link}
use Rattle.lane_core.proofs.Groups.{LaneRead, groups_each, lane_read}
use Rattle.namespace_bytes.specs.SectorPut.{HasBlocks}
use Rattle.shell_sectors.specs.LoneRuns.{CanWrite, lane_group}

module _ (link : Link) (h : HasBlocks link) where
  abbrev l : Layout
  l = link.opened.info.layout

  some : 0 < link.opened.info.layout.lanes
  some = let low = h.layout.lanes_some in omega (arith, low)

  pub some_group : 0 < length link.opened.groups
  some_group = let n = (groups_each l h.lanes.0 link.opened.groups h.lanes.1).0 in omega (arith, n, some)

  read : LaneRead l h.lanes.0 0 (lane_group link)
  read = lane_read l h.lanes.0 0 (lane_group link) h.layout.internal_is ((groups_each l h.lanes.0 link.opened.groups h.lanes.1).1 0 some)

  pub can_write : CanWrite link.opened.info.layout.internal (lane_group link)
  can_write =
      let seq = ap (λ (f : Half). f.seq) read.half in
      let low = read.current.newer.0 in
      let high = read.current.newer.1 in
      let old = read.sized.old in
      let all = h.layout.internal_is in
      record { side = read.current.two; low = omega (arith, seq, low); high = omega (arith, seq, high); free = omega (arith, old, all) }

pub place_other : (side : ℕ) → side < 2 → 8 * place_of (other_side side) ≡ 16 * (1 - side)
unfolding place_of
place_other side two = grind arith
