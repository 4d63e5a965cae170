-- A sector of arenas that were read from a source.
use Rattle.std.proofs.Common.{◌≡◌, ℕ, zero, suc, ◌+◌, ◌*◌, ◌/◌, ◌^◌, ◌<◌, ◌≤◌, List, [], ◌∷◌, ◌++◌, length, map, take, drop, get_or, Ok, refl, sym, ap, ◌∙◌, subst, inl, inr, arith}
use Rattle.std.specs.Prelude.{IsTrue, sum_by}
use Rattle.std.specs.List.{All}
use Rattle.std.specs.Int.{w64}
use Rattle.std.proofs.Math.Nat.{mul-le-mul}
use Rattle.std.proofs.lemmas.Grind.{take_at_read}
use Rattle.std.proofs.lemmas.List.Elements.{All-head, All-tail}
use Rattle.std.proofs.lemmas.List.Sums.{sum_by-cons}
use Rattle.nvd_words.specs.Bytes.{number_at}
use Rattle.cut_words.specs.WordBytes.{words_in}
use Rattle.arena_layout.specs.declared.layout.Layout.{Layout}
use Rattle.arena_layout.specs.Layout.{IsLayout, is_sector}
use Rattle.map_table.specs.Entry.{entry_of}
use Rattle.arena_open.specs.declared.cell.Cell.TheVariants as cell
use Rattle.arena_open.specs.Chain.{Link, state_at}
use Rattle.arena_open.specs.ChainCells.{contents_of}
use Rattle.arena_open.specs.InPlace.{LiesInLink, external_in}
use Rattle.arena_open.specs.Places.{block_words}
use Rattle.arena_open.specs.Reading.{cell_with, opening}
use Rattle.arena_open.proofs.Bytes.{length_words, word_index}
use Rattle.arena_open.proofs.ChainInPlace.{cell_is, lies_in}
use Rattle.arena_open.proofs.InPlace.{cell_same, loaded_block}
use Rattle.namespace_bytes.specs.Putting.{AreAll, Linked, link_bytes}
use Rattle.namespace_bytes.specs.SectorPut.{AreSized, HasBlocks}
use Rattle.namespace_words.specs.Source.{AreBytesOf}

-- ---- the block of a sector

-- the bytes of a sector in its block lie in its arena
pub block_bytes : (l : Layout) (block : ℕ) → IsLayout l → block < l.internal → l.data_off + block * l.inner + l.sector ≤ l.size
block_bytes l block ok lt =
    let up : (block + 1) * l.inner ≤ l.internal * l.inner = mul-le-mul (let a : block + 1 ≤ l.internal = omega (arith, lt) in a) (let b : l.inner ≤ l.inner = omega arith in b) in
    let one : (block + 1) * l.inner ≡ block * l.inner + l.inner = omega arith in
    omega (arith, up, one, ok.after_data, ok.after_map, ok.after_flog, ok.size_is, ok.inner_enough)

-- its first word
pub block_first : (at : ℕ) (l : Layout) (block : ℕ) → IsLayout l → 8 * at + l.data_off + block * l.inner ≡ 8 * (at + (l.data_off / 8 + block * (l.inner / 8)))
block_first at l block ok =
    let start : l.data_off ≡ 8 * (l.data_off / 8) = omega (arith, ok.data_whole) in
    let inner : l.inner ≡ 8 * (l.inner / 8) = omega (arith, ok.inner_whole) in
    let product : block * l.inner ≡ 8 * (block * (l.inner / 8)) = ap (λ (n : ℕ). block * n) inner ∙ omega arith in
    omega (arith, start, product)

-- bytes from there on are the words of the block
pub block_read : (words bytes : List ℕ) (at first : ℕ) (l : Layout) (block : ℕ) → IsLayout l → first ≡ 8 * at + l.data_off + block * l.inner → length bytes ≡ l.sector → AreBytesOf words (first / 8) bytes
    → words_in bytes ≡ block_words l (drop at words) block (l.sector / 8)
block_read words bytes at first l block ok is long are =
    let from : ℕ = l.data_off / 8 + block * (l.inner / 8) in
    let here : first / 8 ≡ at + (l.data_off / 8 + block * (l.inner / 8)) = omega (arith, is, block_first at l block ok) in
    let count : length bytes / 8 ≡ l.sector / 8 = ap (λ (n : ℕ). n / 8) long in
    loaded_block words (words_in bytes) at (l.data_off / 8 + block * (l.inner / 8)) l block (l.sector / 8) refl (length_words bytes ∙ count)
    (are ∙ (λ i. take (count i) (drop (here i) words)))

-- ---- the arena of a sector

-- it opens
opens_there : (links : List Link) (words parent : List ℕ) (at k : ℕ) (d : Link) → Linked words parent at links → k < length links → opening (drop (get_or links k d).at words) parent ≡ Ok (get_or links k d).opened
opens_there [] words parent at k d l lt = absurd (omega (arith, lt))
opens_there (first ∷ links) words parent at zero d l lt = subst (λ (p : ℕ). opening (drop p words) parent ≡ Ok first.opened) (sym l.0) l.2
opens_there (first ∷ links) words parent at (suc k) d l lt = elim l.3 [
  | inl last ↦ absurd (omega (arith, lt, ap length last.1))
  | inr more ↦ opens_there links words parent (at + first.opened.info.next / 8) k d more.1 (omega (arith, lt))
]

-- the cell of a sector is that of its entry there
pub cell_found : (words uuid : List ℕ) (links : List Link) (sector k own : ℕ) (link : Link) → AreAll words uuid links → LiesInLink links sector k own → ((d : Link) → link ≡ get_or links k d)
    → get_or (contents_of (map (state_at words) links)) sector cell.Bad ≡ cell_with link.opened.info.layout (drop link.at words) (entry_of (get_or link.opened.entries own 0) own)
cell_found words uuid links sector k own link all l is =
    let opens : opening (drop link.at words) uuid ≡ Ok link.opened =
    subst (λ (it : Link). opening (drop it.at words) uuid ≡ Ok it.opened) (sym (is link)) (opens_there links words uuid 0 k link all.linked l.there) in
    let inside : own < link.opened.info.layout.external = subst (λ (it : Link). own < external_in it) (sym (is link)) (l.inside link) in
    cell_is words links (map (state_at words) links) k link.at link.opened refl l.there (is link) sector own (lies_in words links sector k own l) cell.Bad
    ∙ cell_same (drop link.at words) uuid link.opened opens own inside

-- ---- how many sectors there are

sector_some : (bytes : ℕ) → IsTrue (is_sector bytes) → 1 ≤ bytes
unfolding is_sector
sector_some bytes is = grind arith

-- an arena has as many bytes as sectors, or more
sectors_below : (link : Link) → HasBlocks link → external_in link ≤ link_bytes link
sectors_below link b =
    let up : link.opened.info.layout.external * 1 ≤ link.opened.info.layout.external * link.opened.info.layout.sector =
    mul-le-mul (let e : link.opened.info.layout.external ≤ link.opened.info.layout.external = omega arith in e) (sector_some link.opened.info.layout.sector b.layout.sector) in
    omega (arith, up)

all_below : (links : List Link) → All HasBlocks links → sum_by external_in links ≤ sum_by link_bytes links
all_below [] each = omega arith
all_below (link ∷ links) each =
    omega (
      arith,
      sectors_below link (All-head HasBlocks link links each),
      all_below links (All-tail HasBlocks link links each),
      sum_by-cons external_in link links,
      sum_by-cons link_bytes link links,
    )

pub few_sectors : (links : List Link) → AreSized links → sum_by external_in links ≤ 2 ^ 55
few_sectors links sized = omega (arith, all_below links sized.each, sized.small)

-- ---- the words of bytes

pub words_more : (bytes : List ℕ) (k word : ℕ) → 8 * k + 8 ≤ length bytes → word ≡ number_at w64 bytes (8 * k) → take k (words_in bytes) ++ word ∷ [] ≡ take (k + 1) (words_in bytes)
words_more bytes k word fits is =
    let lt : k < length (words_in bytes) = omega (arith, fits, length_words bytes) in
    ap (λ (n : ℕ). take k (words_in bytes) ++ n ∷ []) (is ∙ sym (word_index bytes k lt)) ∙ sym (take_at_read (words_in bytes) k 0 lt).1
