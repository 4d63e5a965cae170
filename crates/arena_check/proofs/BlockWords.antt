-- The words of blocks.
use Rattle.std.proofs.Common.{◌≡◌, ℕ, zero, suc, ◌+◌, ◌*◌, ◌/◌, ◌^◌, ◌<◌, ◌≤◌, Bool, true, false, cond, List, [], ◌∷◌, length, get_or, refl, ap, ◌∙◌, arith}
use Rattle.std.specs.Prelude.{All}
use Rattle.std.specs.List.{range_with_len, list_any}
use Rattle.std.proofs.Math.Nat.{mul-le-mul_left}
use Rattle.std.proofs.lemmas.List.{get_or_append_left, length-append}
use Rattle.arena_layout.specs.declared.layout.Layout.{Layout}
use Rattle.arena_layout.specs.Layout.{IsLayout}
use Rattle.map_table.specs.Entry.{entry_of}
use Rattle.map_table.specs.Blocks.{blocks_from, blocks_of}
use Rattle.map_table.proofs.Checked.{length_from}
use Rattle.arena_open.proofs.Apart.{ordered}
use Rattle.arena_check.specs.declared.finding.Finding.{Finding}
use Rattle.arena_check.specs.declared.finding.Finding.TheVariants as found
use Rattle.arena_check.specs.Check.{has_bytes, has_bad_word, is_bad_data, data_findings, block_findings, in_arena}
use Rattle.arena_check.proofs.Clean.{none_found}
use Rattle.arena_check.proofs.Picked.{none_picked, any_shifted, none_in, none_any}

-- ---- the words of a block

-- a block's words are inside the data area
inside : (l : Layout) → IsLayout l → (block : ℕ) → block < l.internal → block * (l.inner / 8) + l.sector / 8 ≤ l.internal * (l.inner / 8)
inside l ok block lt =
    let up : (l.inner / 8) * (block + 1) ≤ (l.inner / 8) * l.internal = mul-le-mul_left (l.inner / 8) (let le : block + 1 ≤ l.internal = omega arith in le) in
    omega (arith, up, ok.inner_enough)

pub block_fits : (l : Layout) → IsLayout l → (at block : ℕ) → at + l.size / 8 ≤ 2 ^ 61 → block < l.internal
    → at + (l.data_off / 8 + block * (l.inner / 8)) + l.sector / 8 ≤ 2 ^ 61
block_fits l ok at block le lt =
    let o = ordered l ok in
    omega (arith, le, inside l ok block lt, o.after_data, o.after_map, o.after_log, o.size_is)

pub area_fits : (l : Layout) → IsLayout l → (at : ℕ) → at + l.size / 8 ≤ 2 ^ 61 → at + l.data_off / 8 + l.internal * (l.inner / 8) ≤ 2 ^ 61
area_fits l ok at le =
    let o = ordered l ok in
    omega (arith, le, o.after_data, o.after_map, o.after_log, o.size_is)

pub word_run : (l : Layout) (bad : ℕ → Bool) (at block first count : ℕ) → first ≡ at + (l.data_off / 8 + block * (l.inner / 8)) → count ≡ l.sector / 8
    → list_any bad (range_with_len first count) ≡ has_bad_word l (in_arena at bad) block
word_run l bad at block first count e f =
    ap (λ (n : ℕ). list_any bad (range_with_len first n)) f
    ∙ any_shifted bad (λ k. bad (at + (l.data_off / 8 + (block * (l.inner / 8) + k)))) first 0 (l.sector / 8) (λ k lt. ap bad (omega (arith, e)))

-- ---- blocks of entries

blocks_at : (k : ℕ) (xs : List ℕ) (i j d : ℕ) → k + i ≡ j → i < length xs → get_or (blocks_from k xs) i d ≡ (entry_of (get_or xs i 0) j).block
blocks_at k [] i j d e lt = absurd (omega (arith, lt))
blocks_at k (x ∷ xs) zero j d e lt = ap (λ (n : ℕ). (entry_of x n).block) (let same : k ≡ j = omega (arith, e) in same)
blocks_at k (x ∷ xs) (suc i) j d e lt = blocks_at (k + 1) xs i j d (omega (arith, e)) (omega (arith, lt))

pub entry_below : (n : ℕ) (xs : List ℕ) (i : ℕ) → All (λ b. b < n) (blocks_from 0 xs) → i < length xs → (entry_of (get_or xs i 0) i).block < n
entry_below n xs i all lt =
    let is : get_or (blocks_from 0 xs) i 0 ≡ (entry_of (get_or xs i 0) i).block = blocks_at 0 xs i i 0 (omega arith) lt in
    let here : get_or (blocks_from 0 xs) i 0 < n = all i 0 (omega (arith, lt, length_from 0 xs)) in
    omega (arith, is, here)

-- without a finding of blocks, all exist
pub all_exist : (n : ℕ) (xs free : List ℕ) → block_findings n (blocks_of xs free) ≡ [] → All (λ b. b < n) (blocks_from 0 xs)
all_exist n xs free e k d lt =
    let here : get_or (blocks_of xs free) k d < n = (none_found n (blocks_of xs free) e).below k d (omega (arith, lt, length-append (blocks_from 0 xs) free)) in
    let same : get_or (blocks_of xs free) k d ≡ get_or (blocks_from 0 xs) k d = get_or_append_left (blocks_from 0 xs) free d k lt in
    omega (arith, here, same)

-- ---- no word of the data area is bad

fine_by : (b c : Bool) → c ≡ false → cond b c false ≡ false
fine_by true c e = e
fine_by false c e = refl

block_fine : (l : Layout) → IsLayout l → (bad : ℕ → Bool) (at block : ℕ) → block < l.internal
    → list_any bad (range_with_len (at + l.data_off / 8) (l.internal * (l.inner / 8))) ≡ false → has_bad_word l (in_arena at bad) block ≡ false
block_fine l ok bad at block lt none =
    let fits : block * (l.inner / 8) + l.sector / 8 ≤ l.internal * (l.inner / 8) = inside l ok block lt in
    none_any (λ k. bad (at + (l.data_off / 8 + (block * (l.inner / 8) + k)))) 0 (l.sector / 8)
    (λ k low high. none_in bad (at + l.data_off / 8) (l.internal * (l.inner / 8)) (at + (l.data_off / 8 + (block * (l.inner / 8) + k))) none (omega arith) (omega (arith, fits, high)))

pub data_fine : (l : Layout) → IsLayout l → (bad : ℕ → Bool) (at : ℕ) (entries : List ℕ) → length entries ≡ l.external → All (λ b. b < l.internal) (blocks_from 0 entries)
    → list_any bad (range_with_len (at + l.data_off / 8) (l.internal * (l.inner / 8))) ≡ false → data_findings l (in_arena at bad) entries ≡ []
data_fine l ok bad at entries len all none =
    none_picked found.BadData (λ s. is_bad_data l (in_arena at bad) (entry_of (get_or entries s 0) s)) (range_with_len 0 l.external)
    (none_any (λ s. is_bad_data l (in_arena at bad) (entry_of (get_or entries s 0) s)) 0 l.external
    (λ s low high. fine_by (has_bytes (entry_of (get_or entries s 0) s).kind) (has_bad_word l (in_arena at bad) (entry_of (get_or entries s 0) s).block)
    (block_fine l ok bad at (entry_of (get_or entries s 0) s).block (entry_below l.internal entries s all (omega (arith, high, len))) none)))

pub none_there : (findings : List Finding) → length findings ≤ 0 → findings ≡ []
none_there [] le = refl
none_there (f ∷ fs) le = absurd (omega (arith, le))
