-- The bytes of all sectors of a namespace, as they are kept to be put into the namespace's bytes piece by piece: this project's rules over
-- UEFI 2.10, section 6.2 (BTT data structures).
use Rattle.std.specs.Prelude.{◌≡◌, ℕ, ◌+◌, ◌-◌, ◌/◌, ◌^◌, ◌<◌, ◌≤◌, List, length, map, slice_index, sum_by, Option, Some, None, Ok}
use Rattle.std.specs.List.{All}
use Rattle.arena_layout.specs.Layout.{IsLayout}
use Rattle.arena_open.specs.Chain.{Link}
use Rattle.arena_open.specs.Halves.{AreMoves}
use Rattle.arena_open.specs.Reading.{groups_in}
use Rattle.namespace_bytes.specs.declared.block_owners.ArenaOwners.{ArenaOwners}
use Rattle.namespace_bytes.specs.Putting.{block_at, link_bytes}
use Rattle.namespace_bytes.specs.SectorBytes.{owner_of}

-- the arenas of a namespace, and the bytes of all their sectors, one after another
pub record SectorPut : Type 0 where
  pub links : List Link
  pub bytes : List ℕ

-- ---- the sector of each block

-- the number that stands for a block's sector, or for none
abbrev pub owner_number : Option ℕ → ℕ
owner_number None = 2 ^ 32 - 1
owner_number (Some own) = own

-- an arena that opened
pub record HasBlocks (link : Link) : Type 0 where
  pub layout : IsLayout link.opened.info.layout
  pub entries : length link.opened.entries ≡ link.opened.info.layout.external
  pub below : (own : ℕ) → own < link.opened.info.layout.external → block_at link.opened.entries own < link.opened.info.layout.internal
  pub small : link.at + link.opened.info.layout.size / 8 ≤ 2 ^ 52
  -- its lanes are those of a log
  pub lanes : (words : List ℕ) × (groups_in link.opened.info.layout words ≡ Ok link.opened.groups)
  pub moves : AreMoves link.opened.info.layout.external link.opened.moves

-- an arena as it was read
abbrev pub link_of : ArenaOwners → Link
link_of a = record { at = a.at; opened = a.opened }

-- the table has the sector of each block
pub record IsOwned (a : ArenaOwners) : Type 0 where
  pub blocks : HasBlocks (link_of a)
  pub long : length a.owners ≡ a.opened.info.layout.internal
  pub each : (block : ℕ) → block < a.opened.info.layout.internal → slice_index a.owners block ≡ owner_number (owner_of a.opened block)

-- all arenas have their tables, and there are as many bytes as their sectors have
pub record AreOwned (arenas : List ArenaOwners) (bytes : List ℕ) : Type 0 where
  pub each : All IsOwned arenas
  pub long : length bytes ≡ sum_by link_bytes (map link_of arenas)

-- the arenas of a namespace, as they were read
pub record AreSized (links : List Link) : Type 0 where
  pub each : All HasBlocks links
  pub small : sum_by link_bytes links ≤ 2 ^ 55
