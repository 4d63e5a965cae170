-- The bytes of a sector.
use Rattle.std.proofs.Common.{◌≡◌, ℕ, zero, suc, ◌+◌, ◌*◌, ◌/◌, ◌%◌, ◌≤◌, List, ◌++◌, length, take, drop, replicate, map, get_or, Result, Ok, Err, refl, sym, ap, ◌∙◌, arith}
use Rattle.std.specs.Prelude.{IsTrue, OnErr, OnOk}
use Rattle.std.specs.Int.{w64, to_le_bytes}
use Rattle.std.proofs.lemmas.List.{replicate-append-replicate}
use Rattle.arena_layout.specs.declared.layout.Layout.{Layout}
use Rattle.arena_layout.specs.Layout.{IsLayout, is_sector}
use Rattle.map_table.specs.Entry.{entry_of}
use Rattle.arena_open.specs.declared.cell.Cell.TheVariants as cell
use Rattle.arena_open.specs.Chain.{Link, state_at}
use Rattle.arena_open.specs.ChainCells.{contents_of, sizes_of}
use Rattle.arena_open.specs.InPlace.{LiesInLink}
use Rattle.arena_open.specs.Places.{block_words}
use Rattle.arena_open.specs.Reading.{cell_with}
use Rattle.arena_open.proofs.ChainInPlace.{lies_in, size_is}
use Rattle.namespace_bytes.specs.Putting.{AreAll}
use Rattle.nvd_words.specs.Bytes.{AreBytes}
use Rattle.cut_words.proofs.Put.{bytes_of-words_in}
use Rattle.namespace_words.specs.Source.{AreBytesOf}
use Rattle.namespace_words.proofs.HeldCells.{block_read, cell_found}
use Rattle.cut_words.specs.WordBytes.{bytes_of}
use Rattle.shell_export.specs.Export.{cell_words, sector_bytes}

-- the bytes of zero words
pub zero_bytes : (count : ℕ) → bytes_of (replicate count 0) ≡ replicate (8 * count) 0
zero_bytes zero = refl
zero_bytes (suc count) =
    let eight : to_le_bytes w64 0 ≡ replicate 8 0 = refl in
    ap (λ (xs : List ℕ). to_le_bytes w64 0 ++ xs) (zero_bytes count)
    ∙ ap (λ (xs : List ℕ). xs ++ replicate (8 * count) 0) eight
    ∙ replicate-append-replicate 8 (8 * count) 0
    ∙ ap (λ (k : ℕ). replicate k 0) (let e : 8 + 8 * count ≡ 8 * suc count = omega arith in e)

-- a sector is whole words, and fits into a piece
pub sector_whole : (bytes : ℕ) → IsTrue (is_sector bytes) → bytes ≡ 8 * (bytes / 8)
unfolding is_sector
sector_whole bytes is = grind arith

pub sector_fits : (bytes : ℕ) → IsTrue (is_sector bytes) → bytes ≤ 262144
unfolding is_sector
sector_fits bytes is = grind arith

-- zeros for a sector
pub no_sector : (into : List ℕ) (l : Layout) → IsLayout l → length into ≡ l.sector → replicate (length into) 0 ≡ bytes_of (replicate (l.sector / 8) 0)
no_sector into l ok long = ap (λ (n : ℕ). replicate n 0) (long ∙ sector_whole l.sector ok.sector) ∙ sym (zero_bytes (l.sector / 8))

-- ---- what a call returned

pub on_more : {T E : Type 0} (r : Result T E) (P Q : Type 0) → (P → Q) → OnOk r P → OnOk r Q
on_more (Ok x) P Q more holds = more holds
on_more (Err e) P Q more holds = tt

pub on_both : {T E : Type 0} (r : Result T E) (P Q R : Type 0) → (P → Q → R) → OnOk r P → OnOk r Q → OnOk r R
on_both (Ok x) P Q R both p q = both p q
on_both (Err e) P Q R both p q = tt

pub on_err_more : {T E : Type 0} (r : Result T E) (P Q : Type 0) → (P → Q) → OnErr r P → OnErr r Q
on_err_more (Ok x) P Q more holds = tt
on_err_more (Err e) P Q more holds = more holds

-- ---- what is read

-- bytes of words, which were read
pub piece_is : (words bytes : List ℕ) (at : ℕ) → AreBytes bytes → length bytes % 8 ≡ 0 → AreBytesOf words at bytes → bytes_of (take (length bytes / 8) (drop at words)) ≡ bytes
piece_is words bytes at fit whole are = ap bytes_of (sym are) ∙ bytes_of-words_in bytes whole fit

-- bytes of a block, which were read
pub block_is : (words bytes : List ℕ) (at first : ℕ) (l : Layout) (block : ℕ) → IsLayout l → first ≡ 8 * at + l.data_off + block * l.inner → length bytes ≡ l.sector
    → AreBytes bytes → AreBytesOf words (first / 8) bytes → bytes ≡ bytes_of (block_words l (drop at words) block (l.sector / 8))
block_is words bytes at first l block ok is long fit are =
    let whole : length bytes % 8 ≡ 0 = omega (arith, long, sector_whole l.sector ok.sector) in
    sym (bytes_of-words_in bytes whole fit) ∙ ap bytes_of (block_read words bytes at first l block ok is long are)

-- ---- a sector of the arenas

pub sector_is : (words uuid : List ℕ) (links : List Link) (sector k own : ℕ) (link : Link) → AreAll words uuid links → LiesInLink links sector k own → ((d : Link) → link ≡ get_or links k d)
    → sector_bytes (map (state_at words) links) sector ≡ bytes_of (cell_words (link.opened.info.layout.sector / 8) (cell_with link.opened.info.layout (drop link.at words) (entry_of (get_or link.opened.entries own 0) own)))
sector_is words uuid links sector k own link all l is =
    let size : get_or (sizes_of (map (state_at words) links)) sector 0 ≡ link.opened.info.layout.sector =
    size_is words links (map (state_at words) links) k link.at link.opened refl l.there (is link) sector own (lies_in words links sector k own l) in
    let found : get_or (contents_of (map (state_at words) links)) sector cell.Bad ≡ cell_with link.opened.info.layout (drop link.at words) (entry_of (get_or link.opened.entries own 0) own) =
    cell_found words uuid links sector k own link all l is in
    λ i. bytes_of (cell_words (size i / 8) (found i))
