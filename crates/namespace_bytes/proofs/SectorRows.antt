-- Worked examples of the bytes of sectors, computed on the definitions.
use Rattle.std.proofs.Common.{◌≡◌, ℕ, List, [], ◌∷◌, replicate, Some, None, refl}
use Rattle.arena_layout.specs.declared.layout.Layout.{Layout}
use Rattle.map_table.specs.Entry.{entry_of, normal_of, zero_of}
use Rattle.arena_open.specs.declared.opened.Opened.{Opened}
use Rattle.arena_open.specs.Chain.{Link}
use Rattle.namespace_bytes.proofs.ByteWords.{changed}
use Rattle.namespace_bytes.specs.SectorBytes.{arena_byte, owner_of, sector_byte}

-- two bytes, three blocks of three bytes, of which a sector has the first two, the map with room for two entries, and two bytes of log
abbrev tiny : ℕ → Layout
tiny external = record {
  size = 21;
  sector = 2;
  inner = 3;
  external = external;
  internal = 3;
  lanes = 1;
  data_off = 2;
  map_off = 11;
  flog_off = 19;
  info_off = 21;
}

abbrev arena : ℕ → List ℕ → Opened
arena external entries = record {
  info = record { uuid = []; parent = []; flags = 0; major = 2; minor = 0; next = 0; layout = tiny external };
  groups = [];
  entries = entries;
  moves = [];
}

-- sector 0 has block 2, sector 1 has block 0 and reads as zeros; block 1 is free
abbrev two : Opened
two = arena 2 (normal_of 2 ∷ zero_of 0 ∷ [])

-- one sector, which has block 1; the other half of the map word isn't an entry
abbrev one : Opened
one = arena 1 (normal_of 1 ∷ [])

owners : (owner_of two 0 ≡ Some 1) × (owner_of two 1 ≡ None) × (owner_of two 2 ≡ Some 0)
unfolding entry_of
owners = (refl, refl, refl)

bytes_of_two : changed (arena_byte two (50 ∷ 51 ∷ 60 ∷ 61 ∷ [])) (replicate 21 9)
    ≡ 9 ∷ 9 ∷ 60 ∷ 61 ∷ 9 ∷ 9 ∷ 9 ∷ 9 ∷ 50 ∷ 51 ∷ 9 ∷ 2 ∷ 0 ∷ 0 ∷ 192 ∷ 0 ∷ 0 ∷ 0 ∷ 192 ∷ 9 ∷ 9 ∷ []
unfolding entry_of
bytes_of_two = refl

bytes_of_one : changed (arena_byte one (50 ∷ 51 ∷ [])) (replicate 21 9)
    ≡ 9 ∷ 9 ∷ 9 ∷ 9 ∷ 9 ∷ 50 ∷ 51 ∷ 9 ∷ 9 ∷ 9 ∷ 9 ∷ 1 ∷ 0 ∷ 0 ∷ 192 ∷ 9 ∷ 9 ∷ 9 ∷ 9 ∷ 9 ∷ 9 ∷ []
unfolding entry_of
bytes_of_one = refl

-- two arenas, at bytes 0 and 24: the second one gets the bytes behind those of the first
abbrev both : List Link
both = record { at = 0; opened = two } ∷ record { at = 3; opened = one } ∷ []

abbrev bytes : List ℕ
bytes = 50 ∷ 51 ∷ 60 ∷ 61 ∷ 70 ∷ 71 ∷ []

bytes_of_both : (sector_byte both bytes 3 9 ≡ 61) × (sector_byte both bytes 29 9 ≡ 70) × (sector_byte both bytes 30 9 ≡ 71) × (sector_byte both bytes 35 9 ≡ 1)
unfolding entry_of
bytes_of_both = (refl, refl, refl, refl)

-- between the arenas, behind them, and in the log
bytes_beside : (sector_byte both bytes 22 9 ≡ 9) × (sector_byte both bytes 45 9 ≡ 9) × (sector_byte both bytes 20 9 ≡ 9) × (sector_byte both bytes 31 9 ≡ 9)
unfolding entry_of
bytes_beside = (refl, refl, refl, refl)
