-- The words of a namespace after bytes were put into its sectors, one sector after another: this project's rule over UEFI 2.10, section 6.2
-- (BTT data structures). Contents.antt says what they come to, and SectorBytes.antt puts the same bytes each by itself.
use Rattle.std.specs.Prelude.{◌≡◌, ◌≢◌, ◌⊎◌, ℕ, ◌+◌, ◌*◌, ◌/◌, ◌≤◌, List, [], ◌∷◌, length, take, drop, slice_index, map, Ok}
use Rattle.std.specs.List.{range_with_len}
use Rattle.cut_words.specs.WordBytes.{put_at, words_in}
use Rattle.arena_layout.specs.declared.layout.Layout.{Layout}
use Rattle.map_table.specs.Entry.{entry_of, normal_of, with_entry}
use Rattle.arena_open.specs.declared.opened.Opened.{Opened}
use Rattle.arena_open.specs.Chain.{Link, state_at}
use Rattle.arena_open.specs.Reading.{opening}
use Rattle.sector_namespaces.specs.View.{opened_view}

-- ---- one sector

-- the map entry of a sector becomes the normal one of this block
abbrev pub put_entry : ℕ → Layout → ℕ → ℕ → List ℕ → List ℕ
put_entry at l own block words =
    put_at words (at + l.map_off / 8 + own / 2) (with_entry (slice_index words (at + l.map_off / 8 + own / 2)) own (normal_of block) ∷ [])

-- a sector's words are put into this block, and the map names it
abbrev pub put_sector : ℕ → Layout → ℕ → ℕ → List ℕ → List ℕ → List ℕ
put_sector at l own block value words = put_entry at l own block (put_at words (at + l.data_off / 8 + block * (l.inner / 8)) value)

-- ---- one arena

-- the block of a sector
abbrev pub block_at : List ℕ → ℕ → ℕ
block_at entries own = (entry_of (slice_index entries own) own).block

-- the bytes of sector `own`, of `size` bytes
abbrev pub piece : ℕ → ℕ → List ℕ → List ℕ
piece size own bytes = take size (drop (own * size) bytes)

-- these sectors, one after another
abbrev pub put_sectors : ℕ → Opened → List ℕ → List ℕ → List ℕ → List ℕ
put_sectors at o bytes [] words = words
put_sectors at o bytes (own ∷ owns) words =
    put_sectors at o bytes owns (put_sector at o.info.layout own (block_at o.entries own) (words_in (piece o.info.layout.sector own bytes)) words)

abbrev pub put_arena : ℕ → Opened → List ℕ → List ℕ → List ℕ
put_arena at o bytes words = put_sectors at o bytes (range_with_len 0 o.info.layout.external) words

-- how many bytes its sectors have together
abbrev pub arena_bytes : Opened → ℕ
arena_bytes o = o.info.layout.external * o.info.layout.sector

-- ---- all arenas

abbrev pub link_bytes : Link → ℕ
link_bytes link = arena_bytes link.opened

abbrev pub put_links : List Link → List ℕ → List ℕ → List ℕ
put_links [] bytes words = words
put_links (link ∷ links) bytes words = put_links links (drop (link_bytes link) bytes) (put_arena link.at link.opened (take (link_bytes link) bytes) words)

-- the arenas from a word on, each of which opens there and names the next
abbrev pub Linked : List ℕ → List ℕ → ℕ → List Link → Type 0
Linked words parent at [] = Unit {0}
Linked words parent at (link ∷ links) =
    (link.at ≡ at) × (at ≤ length words) × (opening (drop at words) parent ≡ Ok link.opened)
    × (((link.opened.info.next ≡ 0) × (links ≡ [])) ⊎ ((link.opened.info.next ≢ 0) × Linked words parent (at + link.opened.info.next / 8) links))

-- these are all arenas in a namespace's words
pub record AreAll (words uuid : List ℕ) (links : List Link) : Type 0 where
  pub read : opened_view words uuid ≡ Ok (map (state_at words) links)
  pub linked : Linked words uuid 0 links
